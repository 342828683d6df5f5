-- `pair::and_into` meets its contract. Assumes nothing.
use mathlib.Core.Bool.{◌&&◌}
use borrow.Author.Rules.{rules}
use Rattle.column.proofs.Words.{bit_and_by}
use Rattle.pair.proofs.and_into.Goals as goal

pub returns : goal.returns
returns c = c.into_second.ensures ◌&&◌ (λ x y z a b k i h. bit_and_by x y (search rules) i)
