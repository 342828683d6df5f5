-- `simplify::Build::renamed_rules` meets its contract. Assumes nothing.
use Rattle.std.proofs.Common.{rules}
use Rattle.lists.proofs.Sequences.{length_mapped}
use Rattle.table.specs.Nodes.{no_rule}
use Rattle.simplify.specs.Code.Passes.{renamed_rule, places_of}
use Rattle.simplify.proofs.Maps.{map_same}
use Rattle.simplify.proofs.Build.renamed_rules.Goals as goal

pub returns : goal.returns
returns c =
    let a = c.args in
    map_same _ _ (renamed_rule (places_of a.self.now)) (λ x y q k. search rules) a.rules _ no_rule no_rule (search (rules, length_mapped)) c.map.ensures.items
