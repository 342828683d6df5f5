-- `windows::within` meets its contract. The invariant: the windows are of 2 ^ j bits. Assumes nothing.
use mathlib.Core.Bool.{Bool}
use Prim.Native.Nat.{ℕ, ◌-◌, ◌^◌, ◌≤◌}
use Rattle.lists.specs.Bits.{bit_at}
use Rattle.column.specs.Column.{Turned}
use Rattle.windows.specs.Laws.{Unary}
use Rattle.windows.specs.Windows.{span}
use Rattle.windows.proofs.within.Given as goal

abbrev pub invariant-loop-j : goal.invariant-loop-j
invariant-loop-j g l =
    ((W : ℕ → ℕ → ℕ → (ℕ → Bool) → ℕ → Bool) → Unary W g.J.Joining.join → Turned (W (span l.initial.s) 0 (2 ^ l.j - 1) (bit_at l.initial.s)) l.initial.s l.s) × (l.j ≤ l.k)
