-- `windows::reach_parts` meets its contract. The invariant: the windows are widened by the parts so far. Assumes nothing.
use Prim.Native.Nat.{ℕ}
use mathlib.Core.Bool.{Bool}
use mathlib.Core.Path.{◌≡◌}
use Rattle.windows.specs.Laws.{Binary}
use Rattle.windows.specs.Code.Steps.{by_parts}
use Rattle.windows.proofs.reach_parts.Given as goal

abbrev pub invariant-loop-k : goal.invariant-loop-k
invariant-loop-k g l =
    (W : ℕ → ℕ → ℕ → (ℕ → Bool) → (ℕ → Bool) → ℕ → Bool) (Q : ℕ → (ℕ → Bool) → ℕ → Bool) → Binary W Q g.R.Reaching.step g.R.Joining.join → l.s ≡ by_parts W Q l.d l.e l.k-index l.ks l.initial.s
