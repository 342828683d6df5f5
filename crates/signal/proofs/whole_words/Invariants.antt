-- `signal::whole_words` meets its contract. The invariant: the first w of the words are put. Assumes nothing.
use Prim.Native.Nat.{◌+◌, ◌-◌, ◌≤◌}
use Rattle.column.specs.Column.{Swept}
use Rattle.signal.specs.Signal.{signal_column}
use Rattle.signal.proofs.whole_words.Given as goal

abbrev pub invariant-loop-w : goal.invariant-loop-w
invariant-loop-w l = Swept l.at (λ t. signal_column l.i l.states (l.from + t)) l.w l.initial.s l.s × (l.w ≤ l.count)

abbrev pub decreases-loop-w : goal.decreases-loop-w
decreases-loop-w l = l.count - l.w
