-- `interval::largest` meets its contract: `count_leading_zeros 32` and the top of a number make 31 (`Laws.antt`). Assumes nothing.
use native.Mathlib.Omega.{arith}
use Rattle.interval.proofs.Laws.{top_is, top_12}
use Rattle.interval.proofs.largest.Goals as goal

pub overflow_sub-result : goal.overflow_sub-result
overflow_sub-result c = omega (arith, (top_is 32 c.args.rest (omega arith)).0)

pub returns : goal.returns
returns c =
    let e = (top_is 32 c.args.rest (omega arith)).0 in
    omega (arith, top_12 c.args.rest c.requires)
