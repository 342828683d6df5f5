-- `windows::two_down` meets its contract. Assumes nothing.
use Rattle.moves.specs.Moves.{moved}
use Rattle.windows.proofs.Threes.{pair_parts}
use Rattle.windows.proofs.two_down.Goals as goal

pub returns : goal.returns
returns c = pair_parts (moved c.args.by) c.args.d c.args.e c.args.s.now c.requires c.move_down.ensures c.move_down-2.ensures
