-- What a node that is not there comes to. Assumes nothing.
use native.Mathlib.Omega.{arith}
use mathlib.Core.Path.{◌∙◌, ◌≡◌, ap, sym}
use borrow.Author.Tests.{le-ltb}
use lib.Dec.{ltb}
use lib.ListN.{length}
use mathlib.Core.Bool.{cond}
use Rattle.std.specs.Prelude.{Some, None}
use Rattle.table.specs.declared.Node.{Node}
use Rattle.simplify.specs.Code.Built.{Built}
use Rattle.simplify.specs.Code.Passes.{enter, enter_at, find, nodes_of, push_node, push_place}
use Rattle.simplify.proofs.Found.{not_found}

pub enter_new : (b : Built) (n : Node) → length (nodes_of b) ≡ b.count
    → None ≡ cond (ltb (find (nodes_of b) n) (length (nodes_of b))) (Some (find (nodes_of b) n)) None → push_place (push_node b n) b.count ≡ enter b n
enter_new b n h d =
    let e : b.count ≡ find (nodes_of b) n = sym h ∙ not_found (nodes_of b) n d in
    let s : enter_at b n b.count ≡ push_place (push_node b n) b.count = rw (le-ltb b.count b.count (omega arith)) in
    sym s ∙ ap (enter_at b n) e
