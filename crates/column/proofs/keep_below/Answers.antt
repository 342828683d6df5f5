-- `column::keep_below` meets its contract. Assumes nothing.
use mathlib.Core.Bool.{◌&&◌}
use borrow.Author.Rules.{rules}
use Rattle.column.proofs.Words.{bit_and_by}
use Rattle.column.proofs.keep_below.Goals as goal

pub returns : goal.returns
returns c = c.mask.ensures ◌&&◌ (λ x y z a b k i h. bit_and_by x y (search rules) i)
