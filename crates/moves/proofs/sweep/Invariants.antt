-- `moves::sweep` meets its contract. The invariant: the first w words are written. Assumes nothing.
use Prim.Native.Nat.{◌+◌, ◌-◌, ◌/◌, ◌≤◌}
use mathlib.Core.Bool.{Bool}
use lib.ListN.{length}
use Rattle.column.specs.Column.{Swept, register}
use Rattle.moves.specs.Moves.{with_moved, BitwiseThree}
use Rattle.moves.proofs.sweep.Given as goal

abbrev pub invariant-loop-w : goal.invariant-loop-w
invariant-loop-w g l =
    ((op : Bool → Bool → Bool → Bool) → BitwiseThree (λ u v x z. goal.F-post g l.f u v x z) op
    → Swept 0 (with_moved op l.by (register 0 l.words l.fn.s) (register l.d l.words l.fn.s)) l.w l.fn.s l.s) × (l.words ≤ l.w + l.by / 64) × (l.w ≤ l.words)
    × (l.words ≤ length l.fn.s - l.d)
