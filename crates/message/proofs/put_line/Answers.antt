-- The pieces one after the other. Assumes nothing.
use Rattle.message.proofs.Laws.{fit_then, fit_more}
use Rattle.message.proofs.put_line.Goals as goal

pub returns : goal.returns
returns c =
    rw (← c.shown_from-from.ensures.0, ← c.shown_to-to.ensures.0)
    (fit_more (fit_then (fit_then c.put_dots-a.ensures c.put_bytes-b.ensures) c.put_dots-c.ensures) c.put_text.ensures)
