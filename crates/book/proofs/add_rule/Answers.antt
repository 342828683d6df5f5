-- The builder's answer decides. Assumes nothing.
use mathlib.Core.Path.{◌≡◌, refl}
use borrow.Author.Rules.{rules}
use Rattle.std.specs.Prelude.{Err}
use Rattle.refusals.proofs.Positive.{refusal_above}
use Rattle.book.proofs.Steps.{rule_refused, rule_step_lem}
use Rattle.book.proofs.add_rule.Goals as goal

pub returns-in_err-table : goal.returns-in_err-table
returns-in_err-table c =
    let a = c.args in
    let f = c.in_err-table.field-0.0 in
    let r : c.from_residual.result ≡ Err f = search rules in
    rw r (rule_refused a.w a.e c.rule_by.ensures c.in_err-table.ensures (refusal_above f))

pub returns : goal.returns
returns c = let a = c.args in rule_step_lem a.w a.e c.rule_by.ensures c.in_ok-table.ensures refl
