-- The table is what its bytes hold. Assumes nothing.
use Rattle.juntreak.proofs.Laws.{reached_by_lem}
use Rattle.juntreak.proofs.juntreak_reach.Goals as goal

pub returns : goal.returns
returns c =
    let a = c.args in
    reached_by_lem a.rule a.length a.tick c.reach-r.result a.range.now c.read_table-t.ensures c.reach-r.ensures c.put_range.ensures c.range_code.ensures
