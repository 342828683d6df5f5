-- The range on a simplified table is one for the rule as it was read. Assumes nothing.
use Prim.Native.Nat.{◌<◌}
use native.Mathlib.Omega.{arith}
use mathlib.Core.Path.{sym, ◌∙◌}
use mathlib.Core.Bool.{false}
use lib.ListN.{length}
use Rattle.reach.proofs.Promise.{relied}
use Rattle.mission.specs.Reach.{ReachVerdict}
use Rattle.mission.proofs.ThirdDemand.{better, watched}

pub reach_verdict : ReachVerdict
reach_verdict m n s e xs ys l d i h k =
    let x : i < length xs = omega (arith, l) in
    let y : i < length ys = omega (arith, d.lengths) in
    sym ((better false m).verdicts m.rule (watched false m) xs i x) ∙ (relied m.simplified.table m.rule n s).same e xs ys l d i h k
    ∙ (better false m).verdicts m.rule (watched false m) ys i y
