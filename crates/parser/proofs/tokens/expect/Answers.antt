-- What the test and the callees tell, put together. Assumes nothing.
use Rattle.parser.proofs.Leaves.{expect_yes, expect_no}
use Rattle.parser.proofs.tokens.expect.Goals as goal

pub returns-then-not-is_at : goal.returns-then-not-is_at
returns-then-not-is_at c = rw (c.syntax.ensures.number, c.syntax.ensures.place) (expect_no _ c.skip-i.ensures (c.is_at.ensures.other c.if-not-is_at.true))

pub returns : goal.returns
returns c = expect_yes _ c.skip-i.ensures (c.is_at.ensures.inside c.if-not-is_at.false) (c.is_at.ensures.byte c.if-not-is_at.false)
