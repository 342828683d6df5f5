-- `moves::meet_moved` meets its contract. Assumes nothing.
use mathlib.Core.Path.{refl}
use mathlib.Core.Bool.{◌&&◌}
use native.Mathlib.Omega.{arith}
use borrow.Author.Rules.{rules}
use Rattle.column.proofs.Words.{bit_and_by}
use Rattle.column.proofs.Sweeps.{swept_whole}
use Rattle.moves.specs.Moves.{met}
use Rattle.moves.proofs.meet_moved.Goals as goal

pub returns : goal.returns
returns c = swept_whole (met c.args.by) refl (c.sweep.ensures (λ o p m. o && m) (λ u v x z f g h k i l. bit_and_by u x (search rules) i)) (omega arith) (omega arith)
