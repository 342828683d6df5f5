-- The bytes are read, and written anew. Assumes nothing.
use Rattle.registers.proofs.Answers.{noted_accepted, noted_refused}
use Rattle.registers.proofs.note.Goals as goal

pub returns-then-o-eq0 : goal.returns-then-o-eq0
returns-then-o-eq0 c =
    let a = c.args in
    noted_accepted a.b.now c.load-r.ensures c.bytes.ensures a.o c.if-o-eq0.true c.accepted_by.ensures

pub returns-else-o-eq0 : goal.returns-else-o-eq0
returns-else-o-eq0 c =
    let a = c.args in
    noted_refused a.b.now c.load-r.ensures c.bytes-else-o-eq0.ensures a.o c.if-o-eq0.false c.refused_by.ensures
