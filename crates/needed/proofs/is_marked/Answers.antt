-- `needed::is_marked` meets its contract. Assumes nothing.
use borrow.Author.Rules.{rules}
use mathlib.Core.Path.{sym}
use Rattle.lists.proofs.Bits.{bit_high}
use Rattle.needed.proofs.Bits.{bit_is}
use Rattle.needed.proofs.is_marked.Goals as goal

pub returns-then-at-lt-MAX_NODES : goal.returns-then-at-lt-MAX_NODES
returns-then-at-lt-MAX_NODES c = let a = c.args in bit_is a.marks a.at

pub returns : goal.returns
returns c = let a = c.args in sym (bit_high 64 a.marks a.at (search rules) c.if-at-lt-MAX_NODES.false)
