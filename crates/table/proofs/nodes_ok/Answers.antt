-- `all` asks the test of each element at its place. Assumes nothing.
use Rattle.std.proofs.Common.{rules, tests, ◌∙◌}
use Rattle.std.proofs.lemmas.Iterator.{YieldsList-from_slice}
use Rattle.std.proofs.lemmas.Iterator.Consumers.{YieldsList-from_enumerate}
use Rattle.std.proofs.lemmas.Iterator.Search.{all_from_yields_List}
use Rattle.lists.proofs.Chains.{every_enumerate}
use Rattle.table.specs.Sound.{node_ok}
use Rattle.table.proofs.nodes_ok.Goals as goal

pub returns : goal.returns
returns c =
    let t = c.args.t.now in
    all_from_yields_List (λ p. node_ok t.node_count p.0 p.1) _ _ _ c.all.ensures.ran
    (YieldsList-from_enumerate (YieldsList-from_slice t.nodes cc) cc) (λ x b q k. search (rules, tests))
    ∙ every_enumerate (node_ok t.node_count) 0 t.nodes
