-- `operators::put_not` meets its contract. Assumes nothing.
use mathlib.Core.Bool.{not, true, ◌&&◌}
use mathlib.Core.Path.{sym, ◌≡◌, ◌∙◌}
use lib.Dec.{ltb}
use lib.ListN.{length}
use Rattle.operators.specs.Operators.{not_laid, one_fits}
use Rattle.operators.proofs.Fits.{one_is, turns}
use Rattle.operators.proofs.Laws.{loaded}
use Rattle.operators.proofs.put_not.Goals as goal

pub returns : goal.returns
returns c =
    let u = c.complement in
    let a = c.args in
    let fit : one_fits a.a a.b a.m (length a.s.now) ≡ true = sym c.one_fits.ensures ∙ c.if-not-one_fits.false in
    turns a.s.now (not_laid a.a a.b a.m a.n a.s.now) fit (loaded (λ k f t. ltb t a.n && not (f t)) u.new.s (one_is fit) c.load.ensures u.ensures).is
