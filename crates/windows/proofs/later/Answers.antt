-- `windows::later` meets its contract. Assumes nothing.
use Rattle.interval.proofs.Doublings.{double_refused, double_taken}
use Rattle.windows.proofs.Results.{stays, turns}
use Rattle.windows.proofs.Windows.{exponent_small, with_leftover, without_leftover}
use Rattle.windows.proofs.later.Goals as goal

pub returns-in_default : goal.returns-in_default
returns-in_default g c = λ W k. let a = c.args in stays _ _ (double_refused a.lo a.hi c.in_default.field-0 c.in_default.ensures)

pub within-requires : goal.within-requires
within-requires g c = let a = c.args in exponent_small a.lo a.hi (double_taken a.lo a.hi c.in-Ok.ensures) c.in-Ok.ensures

-- with a leftover, and without
pub returns-then-by-gt0 : goal.returns-then-by-gt0
returns-then-by-gt0 g c = λ W k.
    let a = c.args in
    let fit = double_taken a.lo a.hi c.in-Ok.ensures in
    turns _ _ fit (with_leftover k a.lo a.hi fit c.in-Ok.ensures c.move_down.ensures (c.within.ensures W k) c.join_moved.ensures).is

pub returns-else-by-gt0 : goal.returns-else-by-gt0
returns-else-by-gt0 g c = λ W k.
    let a = c.args in
    let fit = double_taken a.lo a.hi c.in-Ok.ensures in
    turns _ _ fit (without_leftover k a.lo a.hi fit c.in-Ok.ensures c.move_down.ensures (c.within.ensures W k) c.if-by-gt0.false).is
