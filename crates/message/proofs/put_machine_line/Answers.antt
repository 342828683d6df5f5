-- The pieces one after the other. Assumes nothing.
use Rattle.message.proofs.Laws.{fit_piece, fit_then, fit_more}
use Rattle.message.proofs.put_machine_line.Goals as goal

pub returns : goal.returns
returns c =
    fit_more (fit_more (fit_then (fit_more (fit_piece c.put_text-a.ensures) c.put_decimal-b.ensures) c.put_between-c.ensures) c.put_decimal-d.ensures) c.put_text.ensures
