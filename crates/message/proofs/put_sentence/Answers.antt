-- The sentence. Assumes nothing.
use Rattle.message.proofs.Laws.{fit_piece}
use Rattle.message.proofs.put_sentence.Goals as goal

pub returns : goal.returns
returns c = rw (← c.sentence.ensures) (fit_piece c.put_text.ensures)
