-- Each answer is that of its case. Assumes nothing.
use mathlib.Core.Path.{◌≡◌}
use borrow.Author.Rules.{rules}
use Rattle.std.specs.Prelude.{Err}
use Rattle.session.proofs.Answers.{open_refused, open_accepted}
use Rattle.session.proofs.Session.open.Goals as goal

pub returns-in_err-delay : goal.returns-in_err-delay
returns-in_err-delay c =
    let e = c.in_err-delay.field-0.0 in
    let r : c.from_residual.result ≡ Err e = search rules in
    rw r (open_refused c.args.table c.args.rule e c.in_err-delay.ensures)

pub returns : goal.returns
returns c = rw c.with.ensures (open_accepted c.args.table c.args.rule c.in_ok-delay.ensures)
