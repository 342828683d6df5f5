-- A loop over the records. Assumes nothing.
use native.Mathlib.Omega.{arith}
use Rattle.book.proofs.Writes.{put_none, put_more, all_put}
use Rattle.book.proofs.writer.put_records.Goals as goal

pub overflow_add-n : goal.overflow_add-n
overflow_add-n c = omega (arith, c.requires.0.few_nodes)

pub overflow_add-n-2 : goal.overflow_add-n-2
overflow_add-n-2 c = omega (arith, c.requires.0.few_nodes, c.requires.0.few_rules)

pub loop-k-init : goal.loop-k-init
loop-k-init c = (omega arith, put_none _ _)

pub entry_for-e-requires : goal.entry_for-e-requires
entry_for-e-requires c =
    (c.requires.0, omega arith)

pub overflow_mul-k : goal.overflow_mul-k
overflow_mul-k c =
    let z = c.requires.0 in
    omega (arith, z.few_nodes, z.few_rules)

pub put_entry-requires : goal.put_entry-requires
put_entry-requires c =
    omega (arith, c.loop-k.invariant.1.long, c.requires.1)

pub loop-k-preserved : goal.loop-k-preserved
loop-k-preserved c =
    (omega arith, put_more _ _ c.loop-k.k (omega (arith, c.requires.1)) c.entry_for-e.ensures c.put_entry.ensures c.loop-k.invariant.1)

pub shape_of-out : goal.shape_of-out
shape_of-out c = c.loop-k.invariant.1.long

pub returns : goal.returns
returns c =
    let l = c.loop-k in
    let a = c.args in
    all_put a.t a.out.now l.k (omega arith) l.invariant.1
