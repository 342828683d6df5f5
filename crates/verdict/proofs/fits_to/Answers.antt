-- `verdict::fits_to` meets its contract. Assumes nothing.
use Prim.Native.Nat.{◌+◌}
use mathlib.Core.Path.{◌∙◌}
use lib.ListN.{take}
use Rattle.std.proofs.Common.{rules, tests}
use Rattle.std.proofs.lemmas.Iterator.{YieldsList-from_slice}
use Rattle.std.proofs.lemmas.Iterator.Consumers.{YieldsList-from_enumerate}
use Rattle.std.proofs.lemmas.Iterator.Search.{all_from_yields_List}
use Rattle.table.specs.Sound.{fits}
use Rattle.verdict.proofs.Answers.{near}
use Rattle.lists.proofs.Chains.{every_enumerate}
use Rattle.verdict.proofs.fits_to.Goals as goal

pub returns : goal.returns
returns c =
    let a = c.args in
    near a.t a.k c.if-k-ge-MAX_NODES.false
    (all_from_yields_List (λ p. fits p.0 p.1) _ _ _ c.all.ensures.ran
    (YieldsList-from_enumerate (YieldsList-from_slice (take (a.k + 1) a.t.nodes) cc) cc) (λ x b q k. search (rules, tests))
    ∙ every_enumerate fits 0 (take (a.k + 1) a.t.nodes))
