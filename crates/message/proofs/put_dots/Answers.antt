-- Three dots, or nothing. Assumes nothing.
use Rattle.message.proofs.Laws.{fit_piece, fit_none}
use Rattle.message.proofs.put_dots.Goals as goal

pub returns-then-cut : goal.returns-then-cut
returns-then-cut c = rw c.if-cut.true (fit_piece c.put_text.ensures)

pub returns : goal.returns
returns c = rw c.if-cut.false fit_none
