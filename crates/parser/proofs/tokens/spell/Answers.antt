-- A loop over the letters of a word. Assumes nothing.
use Rattle.parser.proofs.Leaves.{spells_more, spells_bad}
use Rattle.parser.proofs.tokens.spell.Goals as goal

pub returns-then-not-is_at : goal.returns-then-not-is_at
returns-then-not-is_at c =
    rw (c.syntax.ensures.number, c.syntax.ensures.place)
    (spells_bad _ c.loop-letter.invariant c.loop-letter-test.true (c.is_at.ensures.other c.if-not-is_at.true))

pub loop-letter-preserved : goal.loop-letter-preserved
loop-letter-preserved c =
    let e = c.if-not-is_at.false in
    spells_more _ c.loop-letter.invariant c.loop-letter-test.true (c.is_at.ensures.inside e) (c.is_at.ensures.byte e)
