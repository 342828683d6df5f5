-- The first number above 0 decides; otherwise the kind does. Assumes nothing.
use mathlib.Core.Path.{◌≡◌}
use borrow.Author.Rules.{rules}
use Rattle.std.specs.Prelude.{Err}
use Rattle.book.proofs.Steps.{record_refused, node_tried, rule_tried}
use Rattle.book.proofs.try_record.Goals as goal

pub returns-in_err-check_record : goal.returns-in_err-check_record
returns-in_err-check_record c =
    let a = c.args in
    let f = c.in_err-check_record.field-0.0 in
    let r : c.from_residual.result ≡ Err f = search rules in
    rw r (record_refused a.n a.w a.r a.e f c.in_err-check_record.ensures)

pub returns-then-is_node : goal.returns-then-is_node
returns-then-is_node c =
    let a = c.args in
    node_tried a.n a.w a.r a.e c.in_ok-check_record.ensures c.is_node.ensures c.if-is_node.true c.add_node.ensures

pub returns-else-is_node : goal.returns-else-is_node
returns-else-is_node c =
    let a = c.args in
    rule_tried a.n a.w a.r a.e c.in_ok-check_record.ensures c.is_node.ensures c.if-is_node.false c.add_rule.ensures
