-- `operators::put_pair` meets its contract. Assumes nothing.
use mathlib.Core.Bool.{true}
use mathlib.Core.Path.{sym, ◌≡◌, ◌∙◌}
use lib.ListN.{length}
use Rattle.column.specs.Column.{lay, register}
use Rattle.pair.specs.Pair.{both}
use Rattle.operators.specs.Operators.{two_fit}
use Rattle.operators.proofs.Fits.{turns, two_is}
use Rattle.operators.proofs.Laws.{lent, operand_after, paired}
use Rattle.operators.proofs.put_pair.Goals as goal

pub returns : goal.returns
returns g c = λ op joins.
    let a = c.args in
    let fit : two_fit a.a a.c a.b a.m (length a.s.now) ≡ true = sym c.two_fit.ensures ∙ c.if-not-two_fit.false in
    let h = two_is fit in
    turns a.s.now (lay a.b a.m (both op (register a.a a.m a.s.now) (register a.c a.m a.s.now)) a.s.now) fit
    (paired op h.0 h.1 c.load.ensures (lent (both op) c.join.new.arg2 (operand_after h.1 c.load.ensures) (joins _ _ _ c.join.ensures))).is
