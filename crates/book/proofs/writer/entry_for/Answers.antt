-- Each answer is that of its case; soundness gives what the fields need. Assumes nothing.
use Prim.Native.Nat.{◌-◌}
use mathlib.Core.Path.{sym, ap, ◌∙◌}
use native.Mathlib.Omega.{arith}
use Rattle.table.specs.Nodes.{node_at, rule_at}
use Rattle.book.specs.Writing.{head_entry, node_entry, rule_entry}
use Rattle.book.proofs.Writes.{head_for, node_for, rule_for, operands_small, watched_small}
use Rattle.book.proofs.writer.entry_for.Goals as goal

pub returns-then-k-eq0 : goal.returns-then-k-eq0
returns-then-k-eq0 c =
    let a = c.args in
    c.plain_entry.ensures ∙ ap head_entry c.link_after-next.ensures ∙ sym (head_for a.t a.k (omega arith))

pub node_entry-requires : goal.node_entry-requires
node_entry-requires c =
    operands_small c.args.t c.requires.0 _ (omega arith)

pub returns-then-k-t : goal.returns-then-k-t
returns-then-k-t c =
    let a = c.args in
    c.node_entry.ensures ∙ ap (node_entry (node_at a.t (a.k - 1))) c.link_after-next.ensures ∙ sym (node_for a.t a.k (omega arith) (omega arith))

pub rule_entry-requires : goal.rule_entry-requires
rule_entry-requires c =
    watched_small c.args.t c.requires.0 _ (omega arith)

pub returns : goal.returns
returns c =
    let a = c.args in
    c.rule_entry.ensures ∙ ap (rule_entry (rule_at a.t (a.k - 1 - a.t.node_count))) c.link_after-next.ensures
    ∙ sym (rule_for a.t a.k (omega arith))
