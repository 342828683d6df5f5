-- `column::complement` meets its contract. Assumes nothing.
use mathlib.Core.Bool.{◌&&◌, not}
use borrow.Author.Rules.{rules}
use Rattle.column.proofs.Words.{bit_and_not_by}
use Rattle.column.proofs.complement.Goals as goal

pub returns : goal.returns
returns c = c.mask.ensures (λ a b. a && not b) (λ x y z a b k. bit_and_not_by x y b (search rules))
