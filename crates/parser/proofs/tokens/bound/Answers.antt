-- The callees' answers, put together. Assumes nothing.
use mathlib.Core.Path.{refl}
use Rattle.std.proofs.lemmas.Result.{err_from_is_err_and}
use Rattle.parser.proofs.Leaves.{faulty, bound_bad, bound_on, bound_nought}
use Rattle.parser.proofs.tokens.bound.Goals as goal

pub returns-in_err-value : goal.returns-in_err-value
returns-in_err-value c =
    let p = err_from_is_err_and c.from_residual.result c.from_residual.ensures.1 in
    rw (p.1, p.2) (bound_bad _ c.skip.ensures c.in_err-value.ensures (faulty c.in_err-value.field-0.0))

pub returns-in_err-end : goal.returns-in_err-end
returns-in_err-end c =
    let p = err_from_is_err_and c.from_residual-in_err-end.result c.from_residual-in_err-end.ensures.1 in
    rw (p.1, p.2) (bound_nought _ (bound_on _ c.skip.ensures c.in_ok-value.ensures refl c.in_err-end.ensures) (faulty c.in_err-end.field-0.0))

pub returns : goal.returns
returns c = bound_on _ c.skip.ensures c.in_ok-value.ensures refl c.in_ok-end.ensures
