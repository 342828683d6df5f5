-- `rows::put_feed` meets its contract. Assumes nothing.
use Rattle.rows.proofs.Laws.{put_then}
use Rattle.rows.proofs.put_feed.Goals as goal

pub returns : goal.returns
returns c = put_then c.put-a.ensures (put_then c.put_number-b.ensures.put c.put_byte.ensures)
