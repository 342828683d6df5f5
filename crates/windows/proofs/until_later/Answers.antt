-- `windows::until_later` meets its contract. Assumes nothing.
use Rattle.windows.specs.Windows.{until_later}
use Rattle.windows.proofs.Laws.{until_laws}
use Rattle.windows.proofs.until_later.Goals as goal

pub returns : goal.returns
unfolding until_later
returns c = c.reach_later.ensures _ _ until_laws
