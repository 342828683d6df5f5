-- What a feed answers without the session, and the session beside it. Assumes nothing.
use native.Mathlib.Omega.{arith}
use mathlib.Core.Path.{◌≡◌, refl}
use borrow.Author.Rules.{rules}
use Rattle.std.specs.Prelude.{Err}
use Rattle.refusals.proofs.Positive.{refusal_above}
use Rattle.session.proofs.Handed.{step_refused, step_accepted, step_fits}
use Rattle.session.proofs.Session.feed.Goals as goal

pub returns-in_err-count : goal.returns-in_err-count
returns-in_err-count c =
    let a = c.args in
    let e = c.in_err-count.field-0.0 in
    let r : c.from_residual.result ≡ Err e = search rules in
    rw r (step_refused a.self a.block.now a.history.now a.scratch.now a.out.now c.in_err-count.ensures (refusal_above e))

pub overflow_add-seen : goal.overflow_add-seen
overflow_add-seen c =
    let a = c.args in
    let l = step_fits a.self a.block.now a.history.now a.scratch.now a.out.now c.in_ok-count.ensures refl in
    omega arith

pub returns : goal.returns
returns c =
    let a = c.args in
    step_accepted a.self a.block.now a.history.now a.scratch.now a.out.now c.in_ok-count.ensures refl refl
