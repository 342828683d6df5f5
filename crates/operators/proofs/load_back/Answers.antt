-- `operators::load_back` meets its contract. Assumes nothing.
use Rattle.lists.specs.Bits.{bit_at}
use Rattle.operators.proofs.Laws.{lent_back}
use Rattle.operators.proofs.load_back.Goals as goal

pub returns : goal.returns
returns c = lent_back (λ x y. bit_at y) c.copy_back.new.s c.requires c.copy_back.ensures
