-- The table is what its bytes hold. Assumes nothing.
use Rattle.juntreak.proofs.Laws.{told_by_lem}
use Rattle.juntreak.proofs.juntreak_early.Goals as goal

pub returns : goal.returns
returns c = told_by_lem c.read_table-t.ensures c.decide.ensures c.early_code.ensures
