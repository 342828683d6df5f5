-- `column::fill` meets its contract. Assumes nothing.
use mathlib.Core.Path.{ap}
use Prim.Native.Nat.{ℕ}
use borrow.Author.Rules.{rules}
use Rattle.lists.specs.Bits.{bit}
use Rattle.column.proofs.fill.Goals as goal

pub returns : goal.returns
returns c = c.mask.ensures (λ a b. a) (λ x y z a b k i h. ap (λ (v : ℕ). bit v i) (search rules))
