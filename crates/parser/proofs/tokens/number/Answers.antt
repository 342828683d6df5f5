-- What the tests and the callees tell, put together. Assumes nothing.
use Rattle.parser.proofs.Leaves.{number_bad, number_nought, number_some}
use Rattle.parser.proofs.tokens.number.Goals as goal

pub returns-then-not-digit_at : goal.returns-then-not-digit_at
returns-then-not-digit_at c = rw (c.syntax.ensures.number, c.syntax.ensures.place) (number_bad _ (c.digit_at.ensures.other c.if-not-digit_at.true))

pub returns-then-first-eq0 : goal.returns-then-first-eq0
returns-then-first-eq0 c = number_nought _ (c.digit_at.ensures.inside c.if-not-digit_at.false) (c.digit_at.ensures.digit c.if-not-digit_at.false) c.if-first-eq0.true

pub returns : goal.returns
returns c =
    number_some _ (c.digit_at.ensures.inside c.if-not-digit_at.false) (c.digit_at.ensures.digit c.if-not-digit_at.false) c.if-first-eq0.false (rw c.from.ensures at c.digits.ensures)
