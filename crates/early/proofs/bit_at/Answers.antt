-- `early::bit_at` meets its contract. Assumes nothing.
use mathlib.Core.Path.{refl}
use Rattle.lists.specs.Bits.{bit}
use Rattle.early.proofs.bit_at.Goals as goal

pub returns : goal.returns
unfolding bit
returns c = refl
