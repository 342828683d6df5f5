-- By the rows, and then by whether a record waits. Assumes nothing.
use Prim.Native.Nat.{ℕ}
use mathlib.Core.Path.{◌≡◌, refl}
use borrow.Author.Rules.{rules}
use lib.ListN.{length}
use Rattle.std.specs.Prelude.{Err}
use Rattle.refusals.proofs.Positive.{refuses, refusal_above}
use Rattle.lists.specs.Choice.{first}
use Rattle.scheduler.specs.Scheduler.{turn_rows}
use Rattle.scheduler.proofs.Answers.{TurnTried, turned_no, turned_idle, turned_served}
use Rattle.scheduler.proofs.turn.Goals.{After-misfit-bad}
use Rattle.scheduler.proofs.turn.Goals as goal

module _ (k : After-misfit-bad) where
  tried : {n : ℕ} → n ≡ first (turn_rows k.misfit-bad.result k.args.s.count k.record_at-r.result (length k.args.history.now) (length k.args.waiting.now) (length k.args.scratch.now) (length k.args.out.now))
      → TurnTried k.args.t k.args.s k.args.from k.args.history.now k.args.waiting.now k.args.scratch.now k.args.out.now k.next_place-p.result
      k.record_at-r.result k.misfit-bad.result n
  tried e = record { place = k.next_place-p.ensures; found = k.record_at-r.ensures; bad = k.misfit-bad.ensures; number = e }

pub returns-in-Err : goal.returns-in-Err
returns-in-Err c = turned_no (tried (goal.at.returns-in-Err c).After-misfit-bad c.in-Err.ensures) (refusal_above c.in-Err.e) c.told.ensures refl

pub returns-in_err-pass_by : goal.returns-in_err-pass_by
returns-in_err-pass_by c =
    let e = c.in_err-pass_by.field-0.0 in
    let r : c.from_residual.result ≡ Err e = search rules in
    rw r (turned_idle (tried (goal.at.returns-in_err-pass_by c).After-misfit-bad c.in_default.ensures) refl c.if-n-p.true c.in_err-pass_by.ensures)

pub returns-then-n-p : goal.returns-then-n-p
returns-then-n-p c = turned_idle (tried (goal.at.returns-then-n-p c).After-misfit-bad c.in_default.ensures) refl c.if-n-p.true c.in_ok-pass_by.ensures

pub returns-in_err-count : goal.returns-in_err-count
returns-in_err-count c =
    let e = c.in_err-count.field-0.0 in
    let r : c.from_residual-in_err-count.result ≡ Err e = search rules in
    rw r
    (turned_served (tried (goal.at.returns-in_err-count c).After-misfit-bad c.in_default.ensures) refl c.if-n-p.false c.in_err-count.ensures
    (rw (refuses e)))

pub returns : goal.returns
returns c = turned_served (tried (goal.at.returns c).After-misfit-bad c.in_default.ensures) refl c.if-n-p.false c.in_ok-count.ensures refl
