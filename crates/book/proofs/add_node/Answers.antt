-- The builder's answer decides; an accepted node has a free place. Assumes nothing.
use mathlib.Core.Path.{◌≡◌, refl}
use native.Mathlib.Omega.{arith}
use borrow.Author.Rules.{rules}
use Rattle.std.specs.Prelude.{Err}
use Rattle.refusals.proofs.Positive.{refusal_above}
use Rattle.book.proofs.Steps.{node_refused, node_free, node_step_lem}
use Rattle.book.proofs.add_node.Goals as goal

pub returns-in_err-table : goal.returns-in_err-table
returns-in_err-table c =
    let a = c.args in
    let f = c.in_err-table.field-0.0 in
    let r : c.from_residual.result ≡ Err f = search rules in
    rw r (node_refused a.w a.r a.e c.node_by.ensures c.in_err-table.ensures (refusal_above f))

pub overflow_add-v : goal.overflow_add-v
overflow_add-v c = let a = c.args in omega (arith, node_free a.w a.r a.e c.node_by.ensures c.in_ok-table.ensures refl)

pub overflow_cast-v : goal.overflow_cast-v
overflow_cast-v c = let a = c.args in omega (arith, node_free a.w a.r a.e c.node_by.ensures c.in_ok-table.ensures refl)

pub returns : goal.returns
returns c = let a = c.args in node_step_lem a.w a.r a.e c.node_by.ensures c.in_ok-table.ensures refl
