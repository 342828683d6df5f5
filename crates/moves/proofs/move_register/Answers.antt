-- `moves::move_register` meets its contract. Assumes nothing.
use mathlib.Core.Path.{refl, ap}
use Prim.Native.Nat.{ℕ}
use native.Mathlib.Omega.{arith}
use borrow.Author.Rules.{rules}
use Rattle.lists.specs.Bits.{bit}
use Rattle.column.proofs.Sweeps.{swept_whole}
use Rattle.moves.specs.Moves.{moved}
use Rattle.moves.proofs.move_register.Goals as goal

pub returns : goal.returns
returns c = swept_whole (moved c.args.by) refl (c.sweep.ensures (λ o p m. m) (λ u v x z f g h k i l. ap (λ (y : ℕ). bit y i) (search rules))) (omega arith) (omega arith)
