use Rattle.std.proofs.Common.{◌-◌, ◌≤◌, length}
use Rattle.watch.proofs.fill.Given as goal

abbrev pub invariant-loop-at : goal.invariant-loop-at
invariant-loop-at g l = l.at ≤ length l.book

abbrev pub decreases-loop-at : goal.decreases-loop-at
decreases-loop-at g l = length l.book - l.at
