-- The loop along the chain: its invariant is `Going`, and its measure the number of records that are not passed. Assumes nothing.
use Rattle.book.proofs.Going.{Going, unseen}
use Rattle.book.proofs.read.Given as goal

abbrev pub invariant-loop-at : goal.invariant-loop-at
invariant-loop-at l = Going l.book l.w l.at

abbrev pub decreases-loop-at : goal.decreases-loop-at
decreases-loop-at l = unseen l.w.seen
