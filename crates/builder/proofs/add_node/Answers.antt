-- A capped delay has the rows of the delay; the first row that fits decides. Assumes nothing.
use mathlib.Core.Path.{◌≡◌}
use borrow.Author.Rules.{rules}
use Rattle.std.specs.Prelude.{Err}
use Rattle.table.specs.Nodes.{delay_over, delays}
use Rattle.builder.specs.Adding.{with_node, adding_node}
use Rattle.builder.proofs.Answers.{rows_capped, refused_is, accepted_is}
use Rattle.builder.proofs.add_node.Goals as goal

pub returns-in_err-check_node : goal.returns-in_err-check_node
unfolding adding_node
returns-in_err-check_node c =
    let a = c.args in
    let e = c.in_err-check_node.field-0.0 in
    let r : c.from_residual.result ≡ Err e = search rules in
    rw r
    (refused_is a.t (with_node a.t a.n) e
    (rows_capped a.t.node_count a.n (delay_over (delays a.t.nodes) a.n) c.in_err-check_node.ensures c.delay_over.ensures))

pub returns : goal.returns
unfolding adding_node
returns c =
    let a = c.args in
    accepted_is a.t (with_node a.t a.n)
    (rows_capped a.t.node_count a.n (delay_over (delays a.t.nodes) a.n) c.in_ok-check_node.ensures c.delay_over.ensures)
