-- A table that is not sound is refused; the rows decide of any other. Assumes nothing.
use native.Mathlib.Omega.{arith}
use mathlib.Core.Path.{◌≡◌}
use borrow.Author.Rules.{rules}
use Rattle.std.specs.Prelude.{Err}
use Rattle.scheduler.proofs.Answers.{unsound_told, sound_told, LeaveTried, pasted_in, left_no, left_yes}
use Rattle.scheduler.proofs.leave.Goals.{After-misfit-bad}
use Rattle.scheduler.proofs.leave.Goals as goal

tried : (k : After-misfit-bad) → let a = k.args in LeaveTried a.t a.s a.i a.block.now a.waiting.now k.record_at-r.result k.misfit-bad.result
tried k = record { found = k.record_at-r.ensures; bad = k.misfit-bad.ensures }

pub returns-in_err-check_sound : goal.returns-in_err-check_sound
returns-in_err-check_sound c =
    let e = c.in_err-check_sound.field-0.0 in
    let r : c.from_residual.result ≡ Err e = search rules in
    rw r (left_no (tried (goal.at.returns-in_err-check_sound c).After-misfit-bad) e (unsound_told c.args.t e _ c.in_err-check_sound.ensures))

pub returns-in_err-check_leave : goal.returns-in_err-check_leave
returns-in_err-check_leave c =
    let e = c.in_err-check_leave.field-0.0 in
    let r : c.from_residual-in_err-check_leave.result ≡ Err e = search rules in
    rw r
    (left_no (tried (goal.at.returns-in_err-check_leave c).After-misfit-bad) e
    (sound_told c.args.t c.in_ok-check_sound.ensures c.in_err-check_leave.ensures))

pub returns : goal.returns
returns c =
    left_yes (tried (goal.at.returns c).After-misfit-bad) (sound_told c.args.t c.in_ok-check_sound.ensures c.in_ok-check_leave.ensures)
    (pasted_in _ _ _ c.copy_from_slice.ensures.after (omega arith))
