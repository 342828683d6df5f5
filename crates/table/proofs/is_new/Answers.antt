-- `all` asks the test of each element before the place. Assumes nothing.
use Rattle.std.proofs.Common.{rules, tests, ◌∙◌, not, ◌==◌}
use Rattle.std.proofs.lemmas.Iterator.{YieldsList-from_slice, YieldsList-from_take}
use Rattle.std.proofs.lemmas.Iterator.Search.{all_from_yields_List}
use Rattle.lists.proofs.Chains.{none_before}
use Rattle.table.specs.declared.Rule.{Rule}
use Rattle.table.proofs.is_new.Goals as goal

pub returns : goal.returns
returns c =
    let a = c.args in
    all_from_yields_List (λ (r : Rule). not (r.name == a.name)) _ _ _ c.all.ensures.ran
    (YieldsList-from_take a.count (YieldsList-from_slice a.rules cc) cc) (λ x b q k. search (rules, tests))
    ∙ none_before (λ (r : Rule). r.name == a.name) a.count a.rules
