-- `moves::join_register` meets its contract. Assumes nothing.
use mathlib.Core.Path.{refl}
use mathlib.Core.Bool.{◌||◌}
use native.Mathlib.Omega.{arith}
use borrow.Author.Rules.{rules}
use Rattle.column.proofs.Words.{bit_or_by}
use Rattle.column.proofs.Sweeps.{swept_whole}
use Rattle.moves.specs.Moves.{joined}
use Rattle.moves.proofs.join_register.Goals as goal

pub returns : goal.returns
returns c = swept_whole (joined c.args.by) refl (c.sweep.ensures (λ o p m. o || m) (λ u v x z f g h k i l. bit_or_by u x (search rules) i)) (omega arith) (omega arith)
