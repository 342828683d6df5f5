-- `moves::join_words` meets its contract. The invariant: the first w words are joined. Assumes nothing.
use Prim.Native.Nat.{◌-◌, ◌≤◌}
use Rattle.column.specs.Column.{Swept, register}
use Rattle.moves.specs.Moves.{joined}
use Rattle.moves.proofs.join_words.Given as goal

abbrev pub invariant-loop-w : goal.invariant-loop-w
invariant-loop-w l = Swept 0 (joined l.by (register 0 l.words l.initial.s)) l.w l.initial.s l.s × (l.w ≤ l.left)

abbrev pub decreases-loop-w : goal.decreases-loop-w
decreases-loop-w l = l.left - l.w
