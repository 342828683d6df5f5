-- `interval::moves_for` meets its contract. Assumes nothing.
use borrow.Author.Rules.{rules}
use borrow.Author.Tests.{eq-eqb, ne_eqb}
use Rattle.interval.specs.Doubling.{moves_for}
use Rattle.interval.proofs.moves_for.Goals as goal

pub returns-then-leftover-eq0 : goal.returns-then-leftover-eq0
unfolding moves_for
returns-then-leftover-eq0 c = (rw (eq-eqb _ 0 c.if-leftover-eq0.true), search rules)

pub returns : goal.returns
unfolding moves_for
returns c = (rw (ne_eqb _ 0 c.if-leftover-eq0.false), search rules)
