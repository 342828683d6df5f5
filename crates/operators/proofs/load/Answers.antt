-- `operators::load` meets its contract. Assumes nothing.
use Rattle.lists.specs.Bits.{bit_at}
use Rattle.operators.proofs.Laws.{lent}
use Rattle.operators.proofs.load.Goals as goal

pub returns : goal.returns
returns c = lent (λ x y. bit_at y) c.copy_into.new.s c.requires c.copy_into.ensures
