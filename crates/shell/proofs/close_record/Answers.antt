-- The work on the list is what the call does to it. Assumes nothing.
use Rattle.flat.specs.Flat.{table_from}
use Rattle.shell.proofs.Scheduler.{closed_called}
use Rattle.shell.proofs.close_record.Goals as goal

pub returns : goal.returns
returns c =
    let a = c.args in
    let k = c.close_by-k in
    closed_called (table_from a.table.now) a.list.now c.scan-s.ensures a.place a.history.now a.scratch.now a.out.now k.result
    k.ensures c.apply.ensures
