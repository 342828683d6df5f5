-- The count is small. Assumes nothing.
use native.Mathlib.Omega.{arith}
use Rattle.shell.proofs.Laws.{count_within, feed_count_lem}
use Rattle.shell.proofs.feed_noted.Goals as goal

pub put_given-requires : goal.put_given-requires
put_given-requires c =
    let a = c.args in
    let l = count_within 1024 c.in-Ok.ensures.0 (feed_count_lem c.read_session-s.result a.block.now a.history.now a.scratch.now a.out.now) in
    omega arith
