-- `operators::put_window` meets its contract. Assumes nothing.
use mathlib.Core.Bool.{true, not, ◌&&◌}
use mathlib.Core.Path.{ap, ap₂, refl, sym, ◌≡◌, ◌∙◌}
use lib.ListN.{length}
use Rattle.lists.specs.Bits.{bit_at}
use Rattle.interval.specs.Parts.{bad_interval}
use Rattle.column.specs.Column.{lay, register}
use Rattle.operators.specs.Operators.{one_fits}
use Rattle.operators.proofs.Fits.{not_refused, one_is, places_fit, turns}
use Rattle.operators.proofs.Laws.{loaded}
use Rattle.operators.proofs.put_window.Goals as goal

pub returns : goal.returns
returns g c = λ op k.
    let a = c.args in
    let t = one_fits a.a a.b a.m (length a.s.now) in
    let fit : (t && not (bad_interval a.lo a.hi)) ≡ true = sym (ap₂ ◌&&◌ c.one_fits.ensures (ap not c.bad_interval.ensures)) ∙ c.if-not-fit.false in
    turns a.s.now (lay a.b a.m (op a.m (bit_at (register a.a a.m a.s.now))) a.s.now) fit
    (loaded op c.run.new.arg2 (one_is (places_fit t a.lo a.hi fit)) c.load.ensures
    (k (not_refused t a.lo a.hi fit) _ _ (record { shown = _; shows = refl; left = _; leaves = refl; met = c.run.ensures }))).is
