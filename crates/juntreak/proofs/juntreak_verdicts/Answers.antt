-- The table is what its bytes hold. Assumes nothing.
use Rattle.juntreak.proofs.Laws.{answered_by}
use Rattle.juntreak.proofs.juntreak_verdicts.Goals as goal

pub returns : goal.returns
returns c = rw c.code.ensures (answered_by c.read_table-t.ensures c.verdicts.ensures)
