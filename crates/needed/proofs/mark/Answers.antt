-- `needed::mark` meets its contract. Assumes nothing.
use borrow.Author.Rules.{rules}
use Rattle.needed.proofs.Bits.{mark_is, mark_past}
use Rattle.needed.proofs.mark.Goals as goal

pub returns-then-at-lt-MAX_NODES : goal.returns-then-at-lt-MAX_NODES
returns-then-at-lt-MAX_NODES c = let a = c.args in mark_is a.marks a.at (search rules)

pub returns : goal.returns
returns c = let a = c.args in mark_past a.marks a.at (search rules) c.if-at-lt-MAX_NODES.false
