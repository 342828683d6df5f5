-- A function of the place makes the array. Assumes nothing.
use Rattle.std.proofs.Common.{rules, tests}
use Rattle.table.specs.Nodes.{no_node}
use Rattle.flat.specs.Flat.{node_from}
use Rattle.flat.proofs.Laws.{made_ticks}
use Rattle.flat.proofs.nodes_from.Goals as goal

pub returns : goal.returns
returns c = made_ticks _ (node_from c.args.b.now) _ c.from_fn.result no_node (λ i y q k. search (rules, tests)) 64 c.from_fn.ensures.items
