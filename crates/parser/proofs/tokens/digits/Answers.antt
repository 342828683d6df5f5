-- A loop over digits. Assumes nothing.
use Rattle.parser.proofs.Leaves.{grows_more, grows_done}
use Rattle.parser.proofs.tokens.digits.Goals as goal

pub loop-v-preserved : goal.loop-v-preserved
loop-v-preserved c =
    let d = c.digit_at.ensures in
    let e = c.loop-v-test.true in
    let l = c.loop-v in
    grows_more _ l.invariant (d.inside e) (d.digit e) c.grow-v.ensures

pub returns : goal.returns
returns c = grows_done _ c.loop-v.invariant (c.digit_at.ensures.other c.loop-v-test.false)
