-- What stands before a place, or a line. Assumes nothing.
use mathlib.Core.Path.{sym, ◌∙◌}
use Rattle.message.proofs.Laws.{fit_piece}
use Rattle.message.proofs.put_between.Goals as goal

pub returns-then-placed : goal.returns-then-placed
returns-then-placed c = rw (sym c.placed.ensures ∙ c.if-placed.true) (fit_piece c.put_text.ensures)

pub returns : goal.returns
returns c = rw (sym c.placed.ensures ∙ c.if-placed.false) (fit_piece c.put_text-2.ensures)
