-- `rows::verdict_at` meets its contract. Assumes nothing.
use native.Mathlib.Omega.{arith}
use Rattle.lists.specs.Bits.{bit, bit_at}
use Rattle.rows.proofs.Laws.{digit_is}
use Rattle.rows.proofs.verdict_at.Goals as goal

pub returns : goal.returns
unfolding bit_at bit
returns c = digit_is _ (omega arith)
