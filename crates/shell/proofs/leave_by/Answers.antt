-- The work with the table that the bytes hold. Assumes nothing.
use mathlib.Core.Path.{refl}
use Rattle.shell.proofs.Scheduler.{left_in}
use Rattle.shell.proofs.leave_by.Goals as goal

pub returns-in-Ok : goal.returns-in-Ok
returns-in-Ok c =
    let a = c.args in
    left_in a.s a.place a.block.now a.waiting.now c.read_table-t.ensures c.in-Ok.ensures refl refl

pub returns-in-Err : goal.returns-in-Err
returns-in-Err c =
    let a = c.args in
    left_in a.s a.place a.block.now a.waiting.now c.read_table-t.ensures c.in-Err.ensures c.number.ensures c.unchanged.ensures
