-- An unfit session is refused; the rows decide of any other. Assumes nothing.
use mathlib.Core.Path.{◌≡◌, sym, ◌∙◌}
use lib.ListN.{length}
use borrow.Author.Rules.{rules}
use Rattle.std.specs.Prelude.{Err}
use Rattle.refusals.specs.declared.Refusal.TheVariants
use Rattle.table.specs.Nodes.{wait_of}
use Rattle.session.specs.Session.{unfit_by}
use Rattle.session.proofs.Answers.{unfit_told, fit_told, delay_is, fit_is, close_fits, close_number_is, closed_refused, closed_accepted}
use Rattle.session.proofs.close_under.Goals as goal

pub returns-in_default : goal.returns-in_default
returns-in_default c =
    let a = c.args in
    closed_refused a.old a.s a.history.now a.scratch.now a.out.now TheVariants.Unsound
    (rw (unfit_told a.old a.s c.in_default.field-0 c.in_default.ensures))

pub returns-in_err-check_close : goal.returns-in_err-check_close
returns-in_err-check_close c =
    let a = c.args in
    let e = c.in_err-check_close.field-0.0 in
    let r : c.from_residual.result ≡ Err e = search rules in
    rw r
    (closed_refused a.old a.s a.history.now a.scratch.now a.out.now e
    (close_number_is a.old a.s a.history.now a.scratch.now a.out.now (fit_told a.old a.s c.in-Ok.ensures) c.in_err-check_close.ensures))

pub finish-requires : goal.finish-requires
finish-requires c =
    let a = c.args in
    let u = fit_told a.old a.s c.in-Ok.ensures in
    let f = close_fits (unfit_by (wait_of a.old) a.s) (length a.history.now) (length a.scratch.now) (length a.out.now)
    (sym (close_number_is a.old a.s a.history.now a.scratch.now a.out.now u c.in_ok-check_close.ensures)) in
    record { fit = fit_is a.old a.s c.in-Ok.ensures u f.history f.scratch; out_fits = f.out }

pub returns : goal.returns
returns c =
    let a = c.args in
    let u = fit_told a.old a.s c.in-Ok.ensures in
    closed_accepted a.old a.s a.history.now a.scratch.now a.out.now
    (close_number_is a.old a.s a.history.now a.scratch.now a.out.now u c.in_ok-check_close.ensures)
    (delay_is a.old a.s c.in-Ok.ensures u) c.finish.ensures
