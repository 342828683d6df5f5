-- By the rows, and then by what the session answers. Assumes nothing.
use Prim.Native.Nat.{ℕ}
use mathlib.Core.Path.{◌≡◌, refl}
use borrow.Author.Rules.{rules}
use lib.ListN.{length}
use Rattle.std.specs.Prelude.{Err}
use Rattle.refusals.proofs.Positive.{refuses, refusal_above}
use Rattle.lists.specs.Choice.{first}
use Rattle.scheduler.specs.Scheduler.{close_rows}
use Rattle.scheduler.proofs.Answers.{CloseTried, ended_no, ended_yes}
use Rattle.scheduler.proofs.close.Goals.{After-misfit-bad}
use Rattle.scheduler.proofs.close.Goals as goal

module _ (k : After-misfit-bad) where
  tried : {n : ℕ} → n ≡ first (close_rows k.misfit-bad.result k.args.s.count k.record_at-r.result k.args.i (length k.args.history.now) (length k.args.scratch.now) (length k.args.out.now))
      → CloseTried k.args.t k.args.s k.args.i k.args.history.now k.args.scratch.now k.args.out.now k.record_at-r.result k.misfit-bad.result n
  tried e = record { found = k.record_at-r.ensures; bad = k.misfit-bad.ensures; number = e }

pub returns-in-Err : goal.returns-in-Err
returns-in-Err c = ended_no (tried (goal.at.returns-in-Err c).After-misfit-bad c.in-Err.ensures) (refusal_above c.in-Err.e) c.told.ensures refl

pub returns-in_err-given : goal.returns-in_err-given
returns-in_err-given c =
    let e = c.in_err-given.field-0.0 in
    let r : c.from_residual.result ≡ Err e = search rules in
    rw r (ended_yes (tried (goal.at.returns-in_err-given c).After-misfit-bad c.in_default.ensures) refl c.in_err-given.ensures (rw (refuses e)))

pub returns : goal.returns
returns c = ended_yes (tried (goal.at.returns c).After-misfit-bad c.in_default.ensures) refl c.in_ok-given.ensures refl
