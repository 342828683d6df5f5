-- A loop that takes one node after another. Assumes nothing.
use native.Mathlib.Omega.{arith}
use Rattle.simplify.proofs.Arrays.{counted}
use Rattle.simplify.proofs.sweep.Goals as goal

pub push-requires : goal.push-requires
push-requires c =
    let l = c.loop-n in
    let a = c.args in
    let k = counted a.marks a.nodes.now l.n-index (omega arith) l.invariant in
    omega (arith, k.done)
