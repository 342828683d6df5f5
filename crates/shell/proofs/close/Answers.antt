-- The count is small. Assumes nothing.
use Rattle.shell.proofs.Laws.{count_within, close_count}
use Rattle.shell.proofs.close.Goals as goal

pub put_given-requires : goal.put_given-requires
put_given-requires c =
    let a = c.args in
    let l = count_within 4095 c.in-Ok.ensures (close_count a.old c.read_session-s.result a.history.now a.scratch.now a.out.now) in l
