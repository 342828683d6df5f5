-- All digits but the last, and the last. Assumes nothing.
use native.Mathlib.Omega.{arith}
use Rattle.rows.proofs.Laws.{put_then, sum_is}
use Rattle.rows.proofs.put_sum.Goals as goal

pub returns : goal.returns
returns c = record {
  put = rw (← sum_is c.args.a c.args.b c.ranges.a.fits c.ranges.b.fits) (put_then c.put_positive-c.ensures.put c.put_byte.ensures);
  upper_bound = omega (arith, c.put_positive-c.ensures.upper_bound, c.put_byte.ensures.place);
}
