-- An early answer is the verdict of the rule as it stood in the book or in the text. Assumes nothing.
use Prim.Native.Nat.{◌<◌}
use native.Mathlib.Omega.{arith}
use mathlib.Core.Path.{sym, ◌∙◌}
use mathlib.Core.Bool.{false}
use mathlib.Core.List.{◌++◌}
use lib.ListN.{length, length-append}
use Rattle.early.proofs.Promise.{relied}
use Rattle.mission.specs.Early.{EarlyVerdict}
use Rattle.mission.proofs.ThirdDemand.{better, watched}

pub early_verdict : EarlyVerdict
early_verdict m states tick scratch b e later =
    let c = relied m.simplified.table m.rule states tick scratch in
    let h : tick < length states = c.seen b e in
    sym ((better false m).verdicts m.rule (watched false m) (states ++ later) tick (omega (arith, length-append states later))) ∙ c.verdict b e later
