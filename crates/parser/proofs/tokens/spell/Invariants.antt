-- A loop over the letters of a word. Assumes nothing.
use Rattle.parser.proofs.Leaves.{Spells}
use Rattle.parser.proofs.tokens.spell.Given as goal

abbrev pub invariant-loop-letter : goal.invariant-loop-letter
invariant-loop-letter l = Spells l.text l.at l.w l.i l.letter-index
