-- What the tests and the callees tell, put together. Assumes nothing.
use Rattle.parser.specs.Code.{until, release, neither}
use Rattle.parser.proofs.tokens.between.Goals as goal

pub returns-then-is_at : goal.returns-then-is_at
returns-then-is_at c = until (c.is_at.ensures.inside c.if-is_at.true) (c.is_at.ensures.byte c.if-is_at.true)

pub returns-then-is_at-2 : goal.returns-then-is_at-2
returns-then-is_at-2 c = release (c.is_at-2.ensures.inside c.if-is_at-2.true) (c.is_at-2.ensures.byte c.if-is_at-2.true)

pub returns : goal.returns
returns c = neither (c.is_at.ensures.other c.if-is_at.false) (c.is_at-2.ensures.other c.if-is_at-2.false)
