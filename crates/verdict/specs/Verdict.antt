-- The verdicts of a formula on a whole trace, as words: bit t is the verdict of tick t, and the unused bits of the last word are clear.
use Rattle.std.specs.Prelude.{ℕ, ◌+◌, ◌≡◌, Bool, ◌&&◌, ◌||◌, List, [], ◌∷◌, ◌++◌, ltb, leb, eqb, length, take, drop, replicate}
use Rattle.limits.specs.Limits.{max_nodes, max_trace, scratch_words}
use Rattle.refusals.specs.Numbers.{STATES, BUFFER}
use Rattle.lists.specs.Bits.{words, packed}
use Rattle.lists.specs.Choice.{Row, pick, ◌if◌, first}
use Rattle.lists.specs.Sequence.{every}
use Rattle.mltl.specs.Mltl.{Formula, holds}
use Rattle.table.specs.Nodes.{formula_at, watched_formula}
use Rattle.table.specs.Sound.{fits, is_sound, rule_rows}
use Rattle.table.specs.declared.Table.{Table}

-- ---- the buffers after an accepted call
-- the verdicts of the first `count` ticks, and then the later words of out
abbrev pub with_verdicts : Formula → List ℕ → ℕ → List ℕ → List ℕ
with_verdicts f trace count out = packed count (holds f trace) ++ drop (words count) out

-- the words of all registers zero, and then the rest of the scratch
abbrev pub cleared : List ℕ → List ℕ
cleared scratch = replicate scratch_words 0 ++ drop scratch_words scratch

-- ---- the formula of the node at place k
-- every node up to place k keeps the limits at its place
abbrev pub fits_to : Table → ℕ → Bool
fits_to t k = ltb k max_nodes && every fits 0 (take (k + 1) t.nodes)

-- not too many states, no more verdicts than states, and lent buffers of enough words
abbrev pub enough : ℕ → ℕ → ℕ → ℕ → Bool
enough states count scratch out = leb states max_trace && leb count states && leb scratch_words scratch && leb (words count) out

unfoldable pub ready : Table → ℕ → List ℕ → ℕ → List ℕ → List ℕ → Bool
ready t k trace count scratch out = fits_to t k && enough (length trace) count (length scratch) (length out)

-- the answer tells whether it was ready; where not, both buffers are as they were
pub record Judged (t : Table) (k : ℕ) (trace : List ℕ) (count : ℕ) (scratch out : List ℕ) (answer : Bool) (scratch' out' : List ℕ) : Type 0 where
  pub answers : answer ≡ ready t k trace count scratch out
  pub tells : out' ≡ pick (ready t k trace count scratch out) (with_verdicts (formula_at t.nodes k) trace count out) out
  pub clears : scratch' ≡ pick (ready t k trace count scratch out) (cleared scratch) scratch

-- ---- the formula that a rule watches
-- its rows of refusals: those of a call for a rule, too many states, too few words lent
abbrev pub whole_rows : Bool → ℕ → ℕ → ℕ → ℕ → ℕ → List Row
whole_rows sound count rule states scratch out =
    rule_rows sound count rule ++ ((STATES if ltb max_trace states) ∷ (BUFFER if (ltb scratch scratch_words || ltb out (words states))) ∷ [])

unfoldable pub whole_number : Table → ℕ → ℕ → ℕ → ℕ → ℕ
whole_number t rule states scratch out = first (whole_rows (is_sound t) t.rule_count rule states scratch out)

abbrev pub whole_number_for : Table → ℕ → List ℕ → List ℕ → List ℕ → ℕ
whole_number_for t rule states scratch out = whole_number t rule (length states) (length scratch) (length out)

-- the number; where it is not 0, both buffers are as they were
pub record Answered (t : Table) (rule : ℕ) (states scratch out : List ℕ) (number : ℕ) (scratch' out' : List ℕ) : Type 0 where
  pub answers : number ≡ whole_number_for t rule states scratch out
  pub tells : out' ≡ pick (eqb (whole_number_for t rule states scratch out) 0) (with_verdicts (watched_formula t rule) states (length states) out) out
  pub clears : scratch' ≡ pick (eqb (whole_number_for t rule states scratch out) 0) (cleared scratch) scratch
