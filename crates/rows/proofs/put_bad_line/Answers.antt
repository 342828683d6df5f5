-- The words, the number and the line's end. Assumes nothing.
use Rattle.rows.proofs.Laws.{put_then}
use Rattle.rows.proofs.put_bad_line.Goals as goal

pub returns : goal.returns
returns c = put_then c.put-a.ensures (put_then c.put_sum-b.ensures.put c.put_byte.ensures)
