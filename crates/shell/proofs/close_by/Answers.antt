-- The work with the table that the bytes hold; the count is small. Assumes nothing.
use native.Mathlib.Omega.{arith}
use mathlib.Core.Path.{refl}
use Rattle.shell.proofs.Laws.{answers_number}
use Rattle.shell.proofs.Scheduler.{small_of, closed_in_lem}
use Rattle.shell.proofs.close_by.Goals as goal

pub overflow_mul-result : goal.overflow_mul-result
overflow_mul-result c =
    let a = c.args in
    let l = small_of c.read_table-t.result a.s a.place a.history.now a.scratch.now a.out.now c.in-Ok.ensures in
    omega arith

pub returns-in-Ok : goal.returns-in-Ok
returns-in-Ok c =
    let a = c.args in
    closed_in_lem a.s a.place a.history.now a.scratch.now a.out.now c.read_table-t.ensures c.in-Ok.ensures (omega arith) refl

pub returns-in-Err : goal.returns-in-Err
returns-in-Err c =
    let a = c.args in
    closed_in_lem a.s a.place a.history.now a.scratch.now a.out.now c.read_table-t.ensures c.in-Err.ensures
    (answers_number c.in-Err.e c.number.ensures) c.unchanged.ensures
