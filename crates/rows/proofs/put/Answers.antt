-- The bytes over a part of the buffer. Assumes nothing.
use Rattle.rows.proofs.Laws.{put_part}
use Rattle.rows.proofs.put.Goals as goal

pub returns : goal.returns
returns c = put_part _ c.args.at c.copy_from_slice.ensures.after c.requires
