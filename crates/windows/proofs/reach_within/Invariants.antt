-- `windows::reach_within` meets its contract. The invariant: the registers hold what they do for 2 ^ j bits. Assumes nothing.
use Prim.Native.Nat.{ℕ, ◌≤◌}
use mathlib.Core.Bool.{Bool}
use Rattle.windows.specs.Laws.{Binary}
use Rattle.windows.specs.Code.Steps.{Within}
use Rattle.windows.proofs.reach_within.Given as goal

abbrev pub invariant-loop-j : goal.invariant-loop-j
invariant-loop-j g l =
    ((W : ℕ → ℕ → ℕ → (ℕ → Bool) → (ℕ → Bool) → ℕ → Bool) (Q : ℕ → (ℕ → Bool) → ℕ → Bool) → Binary W Q g.R.Reaching.step g.R.Joining.join → Within W Q l.d l.j l.initial.s l.s) × (l.j ≤ l.k)
