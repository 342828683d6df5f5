-- The bytes of the entry over a part of the output. Assumes nothing.
use mathlib.Core.Path.{◌∙◌}
use Rattle.book.proofs.Writes.{entry_put}
use Rattle.book.proofs.writer.put_entry.Goals as goal

pub returns : goal.returns
returns c = entry_put _ c.args.at c.args.e (c.copy_from_slice.ensures.after ∙ c.bytes_of.ensures)
