-- `simplify::find` meets its contract. Assumes nothing.
use Rattle.std.proofs.Common.{rules, tests}
use Rattle.std.proofs.lemmas.Iterator.{YieldsList-from_slice}
use Rattle.std.proofs.lemmas.Iterator.Search.{position_from_yields_List}
use Rattle.simplify.specs.Code.Law.{same_node}
use Rattle.simplify.proofs.Found.{found_by}
use Rattle.simplify.proofs.find.Goals as goal

pub returns : goal.returns
returns c =
    let a = c.args in
    found_by a.nodes.now a.n
    (position_from_yields_List (λ x. same_node x a.n) _ _ _ c.position.ensures.ran (YieldsList-from_slice a.nodes.now cc) (λ x b q k. search (rules, tests)))
