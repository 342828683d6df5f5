-- `interval::without` meets its contract. Assumes nothing.
use native.Mathlib.Omega.{arith}
use lib.Pow.{pow_pos}
use Rattle.interval.specs.Parts.{top, left}
use Rattle.interval.proofs.Laws.{top_largest, top_12, shifted}
use Rattle.interval.proofs.without.Goals as goal

pub overflow_shl-result : goal.overflow_shl-result
overflow_shl-result c = omega (arith, top_12 c.args.rest c.requires.0)

pub overflow_sub-result : goal.overflow_sub-result
overflow_sub-result c = omega (arith, shifted c.args.rest c.args.k c.requires.0 c.requires.1, pow_pos (top c.args.rest))

pub overflow_sub-result-2 : goal.overflow_sub-result-2
overflow_sub-result-2 c = omega (arith, shifted c.args.rest c.args.k c.requires.0 c.requires.1, (top_largest c.args.rest).low)

pub returns : goal.returns
unfolding left
returns c = omega (arith, shifted c.args.rest c.args.k c.requires.0 c.requires.1)
