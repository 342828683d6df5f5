-- The verdicts that the block settles, and history renewed. Assumes nothing.
use Rattle.session.proofs.Answers.{lent_part, feed_writes, feed_is}
use Rattle.session.proofs.advance.Goals as goal

pub write_verdicts-requires : goal.write_verdicts-requires
write_verdicts-requires c =
    feed_writes c.requires c.held-h.ensures c.settled.ensures c.settled-2.ensures (lent_part c.held-h.result c.args.history.now)

pub returns : goal.returns
returns c =
    feed_is c.requires c.held-h.ensures c.settled.ensures c.settled-2.ensures c.held.ensures (lent_part c.held-h.result c.args.history.now)
    c.write_verdicts.ensures c.keep.ensures
