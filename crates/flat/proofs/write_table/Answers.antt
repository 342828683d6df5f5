-- The counts, then the nodes, then the rules, each over what was written before. Assumes nothing.
use mathlib.Core.Path.{sym, ap, ◌∙◌}
use mathlib.Core.List.{◌++◌}
use borrow.Author.Rules.{rules}
use borrow.Author.Tests.{lt-leb}
use lib.ListN.{drop}
use Rattle.flat.specs.Flat.{written}
use Rattle.flat.proofs.Laws.{over_take, nodes_put, written_is}
use Rattle.flat.proofs.write_table.Goals as goal

pub returns-in_default : goal.returns-in_default
unfolding written
returns-in_default c = simp (lt-leb 546 _ c.in_default.ensures.cases)

pub put_rules-requires : goal.put_rules-requires
put_rules-requires c = over_take _ _ 514 (nodes_put c.args.t c.in-Some.out.now (search rules) c.put_nodes.ensures)

pub returns : goal.returns
returns c =
    let a = c.args in
    ap (λ l. l ++ drop 546 a.out.now) c.put_rules.ensures ∙ sym (written_is a.t a.out.now c.in-Some.ensures.cases.enough)
