-- `windows::two_flipped` meets its contract. Assumes nothing.
use Rattle.column.specs.Column.{flipped}
use Rattle.windows.proofs.Threes.{pair_parts}
use Rattle.windows.proofs.two_flipped.Goals as goal

pub returns : goal.returns
returns c = pair_parts (flipped c.args.n) c.args.d c.args.e c.args.s.now c.requires c.complement.ensures c.complement-2.ensures
