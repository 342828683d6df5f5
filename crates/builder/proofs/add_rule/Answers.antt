-- The first row that fits decides. Assumes nothing.
use mathlib.Core.Path.{◌≡◌}
use borrow.Author.Rules.{rules}
use Rattle.std.specs.Prelude.{Err}
use Rattle.builder.specs.Adding.{with_rule, adding_rule}
use Rattle.builder.proofs.Answers.{refused_is, accepted_is}
use Rattle.builder.proofs.add_rule.Goals as goal

pub returns-in_err-check_rule : goal.returns-in_err-check_rule
unfolding adding_rule
returns-in_err-check_rule c =
    let a = c.args in
    let e = c.in_err-check_rule.field-0.0 in
    let r : c.from_residual.result ≡ Err e = search rules in
    rw r (refused_is a.t (with_rule a.t a.r) e c.in_err-check_rule.ensures)

pub returns : goal.returns
unfolding adding_rule
returns c = let a = c.args in accepted_is a.t (with_rule a.t a.r) c.in_ok-check_rule.ensures
