-- A loop over spaces. Assumes nothing.
use Prim.Native.Nat.{◌≤◌, ◌-◌, max}
use lib.ListN.{length, drop}
use Rattle.grammar.specs.Grammar.{Spaces}
use Rattle.parser.proofs.tokens.skip.Given as goal

abbrev pub invariant-loop-i : goal.invariant-loop-i
invariant-loop-i l = (l.at ≤ l.i) × (l.i ≤ max l.at (length l.text)) × Spaces (drop l.at l.text) (drop l.i l.text)

abbrev pub decreases-loop-i : goal.decreases-loop-i
decreases-loop-i l = length l.text - l.i
