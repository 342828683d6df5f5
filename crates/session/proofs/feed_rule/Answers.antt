-- An unfit session is refused; the rows decide of any other. Assumes nothing.
use mathlib.Core.Path.{◌≡◌, sym, ap}
use mathlib.Core.Bool.{false}
use borrow.Author.Rules.{rules}
use lib.ListN.{length}
use Rattle.limits.specs.Limits.{max_seen}
use Rattle.std.specs.Prelude.{Err}
use Rattle.refusals.specs.declared.Refusal.TheVariants
use Rattle.session.specs.Session.{session_with, step_effect, unfit}
use Rattle.session.proofs.Answers.{unfit_told, fit_told, delay_is, fit_is, feed_fits, feed_number_is, fed_refused, fed_accepted}
use Rattle.session.proofs.feed_rule.Goals as goal

pub returns-in_default : goal.returns-in_default
returns-in_default c =
    let a = c.args in
    let s = session_with a.t a.rule a.seen in
    ap step_effect
    (fed_refused s a.block.now a.history.now a.scratch.now a.out.now TheVariants.Unsound (rw (unfit_told false s c.in_default.field-0 c.in_default.ensures)))

pub returns-in_err-check_feed : goal.returns-in_err-check_feed
returns-in_err-check_feed c =
    let a = c.args in
    let s = session_with a.t a.rule a.seen in
    let e = c.in_err-check_feed.field-0.0 in
    let r : c.from_residual.result ≡ Err e = search rules in
    rw r
    (ap step_effect
    (fed_refused s a.block.now a.history.now a.scratch.now a.out.now e
    (feed_number_is s a.block.now a.history.now a.scratch.now a.out.now (fit_told false s c.in-Ok.ensures) c.in_err-check_feed.ensures)))

pub advance-requires : goal.advance-requires
advance-requires c =
    let a = c.args in
    let s = session_with a.t a.rule a.seen in
    let u = fit_told false s c.in-Ok.ensures in
    let n = feed_number_is s a.block.now a.history.now a.scratch.now a.out.now u c.in_ok-check_feed.ensures in
    let f = feed_fits max_seen (unfit s) s.seen (length a.block.now) (length a.history.now) (length a.scratch.now) (length a.out.now) (sym n) in
    record { fit = fit_is false s c.in-Ok.ensures u f.history f.scratch; few = f.few; seen = f.count; out_fits = f.out }

pub returns : goal.returns
returns c =
    let a = c.args in
    let s = session_with a.t a.rule a.seen in
    let u = fit_told false s c.in-Ok.ensures in
    let n = feed_number_is s a.block.now a.history.now a.scratch.now a.out.now u c.in_ok-check_feed.ensures in
    ap step_effect (fed_accepted s a.block.now a.history.now a.scratch.now a.out.now n (delay_is false s c.in-Ok.ensures u) c.advance.ensures)
