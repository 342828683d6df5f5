-- A write to status, to enable, and to any other place. Assumes nothing.
use borrow.Author.Rules.{rules}
use Rattle.registers.proofs.Answers.{written_status, written_enable, written_other}
use Rattle.registers.proofs.write.Goals as goal

pub returns-in-0 : goal.returns-in-0
returns-in-0 c =
    let a = c.args in
    written_status a.b.now c.load.ensures c.bytes.ensures a.place a.value c.from_byte.ensures c.in-0.is c.cleared_by.ensures

pub returns-in-1 : goal.returns-in-1
returns-in-1 c =
    let a = c.args in
    written_enable a.b.now c.load-in-1.ensures c.bytes-in-1.ensures a.place a.value c.from_byte-in-1.ensures c.in-1.is c.enabled_by.ensures

pub returns-in_default : goal.returns-in_default
returns-in_default c =
    let a = c.args in
    (c.check_place.ensures, written_other a.place a.value a.b.now (search rules) (search rules))
