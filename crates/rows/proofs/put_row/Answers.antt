-- `rows::put_row` meets its contract. Assumes nothing.
use native.Mathlib.Omega.{arith}
use Rattle.rows.proofs.Laws.{put_then}
use Rattle.rows.proofs.put_row.Goals as goal

pub returns : goal.returns
returns c = record {
  put = put_then c.put-a.ensures (put_then c.put_byte-b.ensures (put_then c.put_byte-c.ensures (put_then c.put_byte-d.ensures c.put_byte.ensures)));
  upper_bound = omega (arith, c.put-a.ensures.place, c.put_byte-b.ensures.place, c.put_byte-c.ensures.place, c.put_byte-d.ensures.place, c.put_byte.ensures.place);
}
