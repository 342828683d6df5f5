-- The byte behind each rule. Assumes nothing.
use Prim.Native.Nat.{ℕ, ◌+◌, ◌*◌}
use native.Mathlib.Omega.{arith}
use mathlib.Core.Path.{◌∙◌}
use lib.Dec.{eqb}
use lib.ListN.{get_or}
use Rattle.std.proofs.Common.{rules, tests}
use Rattle.std.proofs.lemmas.Iterator.{YieldsList-from_range}
use Rattle.std.proofs.lemmas.Iterator.Search.{all_from_yields_List}
use Rattle.flat.proofs.Laws.{unpadded_all}
use Rattle.flat.proofs.is_unpadded.Goals as goal

pub returns : goal.returns
returns c =
    let b = c.args.b.now in
    all_from_yields_List (λ (i : ℕ). eqb (get_or b (517 + 4 * i) 0) 0) _ _ c.all.result c.all.ensures.ran
    (YieldsList-from_range 0 8 8 (cc) (omega arith)) (λ x b q k. search (rules, tests)) ∙ unpadded_all b
