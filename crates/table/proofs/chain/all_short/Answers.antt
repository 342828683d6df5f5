-- `all` asks the test of each element. Assumes nothing.
use Rattle.std.proofs.Common.{rules, tests, ◌∙◌, ltb}
use Rattle.std.proofs.lemmas.Iterator.{YieldsList-from_slice}
use Rattle.std.proofs.lemmas.Iterator.Search.{all_from_yields_List}
use Rattle.lists.proofs.Chains.{every_all}
use Rattle.table.proofs.chain.all_short.Goals as goal

pub returns : goal.returns
returns c =
    let ms = c.args.ms.now in
    all_from_yields_List (λ m. ltb m 4096) _ _ _ c.all.ensures.ran (YieldsList-from_slice ms cc) (λ x b q k. search (rules, tests))
    ∙ every_all (λ m. ltb m 4096) 0 ms
