-- `windows::some_later` meets its contract. Assumes nothing.
use Rattle.windows.specs.Windows.{some_later}
use Rattle.windows.proofs.Laws.{eventually_laws}
use Rattle.windows.proofs.some_later.Goals as goal

pub returns : goal.returns
unfolding some_later
returns c = c.later.ensures _ eventually_laws
