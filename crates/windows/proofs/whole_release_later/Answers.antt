-- `windows::whole_release_later` meets its contract. Assumes nothing.
use Rattle.windows.specs.Windows.{whole_release_later}
use Rattle.windows.proofs.Laws.{whole_release_laws}
use Rattle.windows.proofs.whole_release_later.Goals as goal

pub returns : goal.returns
unfolding whole_release_later
returns c = c.reach_later.ensures _ _ whole_release_laws
