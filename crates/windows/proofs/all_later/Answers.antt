-- `windows::all_later` meets its contract. Assumes nothing.
use mathlib.Core.Path.{sym, ◌∙◌}
use Rattle.windows.proofs.Results.{interval_is, some_turned, stays, turns}
use Rattle.windows.proofs.Windows.{all_is}
use Rattle.windows.specs.Windows.{all_later}
use Rattle.windows.proofs.all_later.Goals as goal

pub returns-then-bad_interval : goal.returns-then-bad_interval
returns-then-bad_interval c = let a = c.args in stays a.s.now (all_later a.lo a.hi a.n a.s.now) (sym c.bad_interval.ensures ∙ c.if-bad_interval.true)

pub returns : goal.returns
returns c =
    let a = c.args in
    let fits = sym c.bad_interval.ensures ∙ c.if-bad_interval.false in
    let i = interval_is fits in
    turns a.s.now (all_later a.lo a.hi a.n a.s.now) fits
    (all_is a.lo a.hi a.n c.complement.ensures (some_turned i.0 i.1 c.some_later.ensures) c.complement-2.ensures)
