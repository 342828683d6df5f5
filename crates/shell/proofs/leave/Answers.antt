-- The work on the list is what the call does to it. Assumes nothing.
use Rattle.flat.specs.Flat.{table_from}
use Rattle.shell.proofs.Scheduler.{left_called}
use Rattle.shell.proofs.leave.Goals as goal

pub returns : goal.returns
returns c =
    let a = c.args in
    let k = c.leave_by-k in
    left_called (table_from a.table.now) a.list.now c.scan-s.ensures a.place a.block.now a.waiting.now k.result k.ensures c.apply.ensures
