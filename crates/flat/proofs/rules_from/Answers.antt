-- A function of the place makes the array. Assumes nothing.
use Rattle.std.proofs.Common.{rules, tests}
use Rattle.table.specs.Nodes.{no_rule}
use Rattle.flat.specs.Flat.{rule_from}
use Rattle.flat.proofs.Laws.{made_ticks}
use Rattle.flat.proofs.rules_from.Goals as goal

pub returns : goal.returns
returns c = made_ticks _ (rule_from c.args.b.now) _ c.from_fn.result no_rule (λ i y q k. search (rules, tests)) 8 c.from_fn.ensures.items
