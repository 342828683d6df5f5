-- `windows::whole_later` meets its contract. Assumes nothing.
use Rattle.windows.specs.Windows.{whole_later}
use Rattle.windows.proofs.Laws.{whole_laws}
use Rattle.windows.proofs.whole_later.Goals as goal

pub returns : goal.returns
unfolding whole_later
returns c = c.later.ensures _ whole_laws
