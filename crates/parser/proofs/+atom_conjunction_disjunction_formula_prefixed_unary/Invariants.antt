-- The measure is eight times the bytes left, and a rank: each reader calls one of a lower rank at a place that is not earlier, and atom
-- calls formula past a bracket. Assumes nothing.
use Prim.Native.Nat.{◌+◌, ◌*◌, ◌-◌}
use mathlib.Core.Path.{◌≡◌}
use lib.ListN.{length}
use Rattle.grammar.specs.Tape.{tape}
use Rattle.parser.proofs.Readers.{Prefs, Conjs, Disjs}
use Rattle.parser.proofs.+atom_conjunction_disjunction_formula_prefixed_unary.Given as goal

abbrev pub decreases-atom : goal.decreases-atom
decreases-atom l = 8 * (length l.text.now - l.at)

abbrev pub decreases-conjunction : goal.decreases-conjunction
decreases-conjunction l = 8 * (length l.text.now - l.at) + 3

abbrev pub decreases-disjunction : goal.decreases-disjunction
decreases-disjunction l = 8 * (length l.text.now - l.at) + 4

abbrev pub decreases-formula : goal.decreases-formula
decreases-formula l = 8 * (length l.text.now - l.at) + 5

abbrev pub decreases-prefixed : goal.decreases-prefixed
decreases-prefixed l = 8 * (length l.text.now - l.at) + 1

abbrev pub decreases-unary : goal.decreases-unary
decreases-unary l = 8 * (length l.text.now - l.at) + 2

abbrev pub invariant-conjunction-loop-at : goal.invariant-conjunction-loop-at
invariant-conjunction-loop-at l = Conjs l.text l.depth l.at (tape l.initial.cells l.count) l.i (tape l.cells l.n)

abbrev pub decreases-conjunction-loop-at : goal.decreases-conjunction-loop-at
decreases-conjunction-loop-at l = length l.text - l.i

abbrev pub invariant-disjunction-loop-more : goal.invariant-disjunction-loop-more
invariant-disjunction-loop-more l = Disjs l.text l.depth l.at (tape l.initial.cells l.count) l.i (tape l.cells l.n) l.left

abbrev pub decreases-disjunction-loop-more : goal.decreases-disjunction-loop-more
decreases-disjunction-loop-more l = length l.text - l.i

abbrev pub invariant-prefixed-loop-item : goal.invariant-prefixed-loop-item
invariant-prefixed-loop-item l = (l.cells ≡ l.initial.cells) × Prefs l.text l.at l.i l.ring l.n

abbrev pub decreases-prefixed-loop-item : goal.decreases-prefixed-loop-item
decreases-prefixed-loop-item l = length l.text - l.i
