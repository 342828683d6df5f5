-- The work with the table that the bytes hold; the place and the count are small. Assumes nothing.
use native.Mathlib.Omega.{arith}
use mathlib.Core.Path.{refl}
use Rattle.shell.proofs.Scheduler.{told_of_lem, turned_in}
use Rattle.shell.proofs.turn_by.Goals as goal

pub turn_code-requires : goal.turn_code-requires
turn_code-requires c =
    let a = c.args in
    let e = rw c.in-Ok-Some.field-0-is at c.in-Ok-Some.ensures in
    let k = told_of_lem c.read_table-t.result a.s a.place a.history.now a.waiting.now a.scratch.now a.out.now e in
    (k.place refl, omega (arith, k.count))

pub returns-in-Ok-Some : goal.returns-in-Ok-Some
returns-in-Ok-Some c =
    let a = c.args in
    let e = rw c.in-Ok-Some.field-0-is at c.in-Ok-Some.ensures in
    turned_in a.s a.place a.history.now a.waiting.now a.scratch.now a.out.now c.read_table-t.ensures e c.turn_code.ensures refl

pub returns-in-Ok-None : goal.returns-in-Ok-None
returns-in-Ok-None c =
    let a = c.args in
    let e = rw c.in-Ok-None.field-0-is at c.in-Ok-None.ensures in
    turned_in a.s a.place a.history.now a.waiting.now a.scratch.now a.out.now c.read_table-t.ensures e refl c.unchanged.ensures

pub returns-in-Err : goal.returns-in-Err
returns-in-Err c =
    let a = c.args in
    turned_in a.s a.place a.history.now a.waiting.now a.scratch.now a.out.now c.read_table-t.ensures c.in-Err.ensures
    (omega (arith, c.number.ensures)) c.unchanged-in-Err.ensures
