-- What is known of the formula that a rule watches when some states of its trace were seen (document 02, A1).
use Rattle.std.specs.Prelude.{ℕ, ◌≡◌, Bool, List, [], ◌∷◌, ◌++◌, ltb, leb, eqb, length, drop, replicate, Result, Ok, Err}
use Rattle.limits.specs.Limits.{max_trace, early_scratch_words}
use Rattle.refusals.specs.Numbers.{STATES, BUFFER, TICK}
use Rattle.refusals.specs.Refusals.{number_of}
use Rattle.refusals.specs.declared.Refusal.{Refusal}
use Rattle.lists.specs.Choice.{Row, pick, ◌if◌, first}
use Rattle.mltl.specs.Known.{Value, no, undecided, yes, known}
use Rattle.table.specs.Nodes.{watched_formula}
use Rattle.table.specs.Sound.{is_sound, rule_rows}
use Rattle.table.specs.declared.Table.{Table}
use Rattle.early.specs.declared.Decision.{Decision}
use Rattle.early.specs.declared.Decision.TheVariants.{No, Yes, Open}

-- ---- answers
-- what an answer tells: the number of a refusal, or a value
pub data Told : Type 0 where
  refused : ℕ → Told
  value : Value → Told

-- the value of each decision
abbrev pub decided : Decision → Value
decided No = no
decided Yes = yes
decided Open = undecided

-- the number or the value of each case
abbrev pub told_by : Result Decision Refusal → Told
told_by (Err e) = refused (number_of e)
told_by (Ok d) = value (decided d)

-- ---- calls
-- the rows of refusals: those of a call for a rule, too many states, too few words lent, a tick that is not below the states given
abbrev pub early_rows : Bool → ℕ → ℕ → ℕ → ℕ → ℕ → List Row
early_rows sound count rule states tick scratch =
    rule_rows sound count rule ++ ((STATES if ltb max_trace states) ∷ (BUFFER if ltb scratch early_scratch_words) ∷ (TICK if leb states tick) ∷ [])

unfoldable pub early_number : Table → ℕ → ℕ → ℕ → ℕ → ℕ
early_number t rule states tick scratch = first (early_rows (is_sound t) t.rule_count rule states tick scratch)

abbrev pub early_number_for : Table → ℕ → List ℕ → ℕ → List ℕ → ℕ
early_number_for t rule states tick scratch = early_number t rule (length states) tick (length scratch)

-- the words of all registers in both halves zero, and then the rest of the scratch
abbrev pub both_cleared : List ℕ → List ℕ
both_cleared scratch = replicate early_scratch_words 0 ++ drop early_scratch_words scratch

-- what a call tells: what is known at the tick, or the number of the refusal
abbrev pub early_told : Table → ℕ → List ℕ → ℕ → List ℕ → Told
early_told t rule states tick scratch =
    pick (eqb (early_number_for t rule states tick scratch) 0) (value (known (watched_formula t rule) states tick)) (refused (early_number_for t rule states tick scratch))

-- the scratch after it: where the call is refused, as it was
abbrev pub early_scratch : Table → ℕ → List ℕ → ℕ → List ℕ → List ℕ
early_scratch t rule states tick scratch = pick (eqb (early_number_for t rule states tick scratch) 0) (both_cleared scratch) scratch

pub record Decides (t : Table) (rule : ℕ) (states : List ℕ) (tick : ℕ) (scratch : List ℕ) (answer : Result Decision Refusal) (scratch' : List ℕ) : Type 0 where
  pub tells : told_by answer ≡ early_told t rule states tick scratch
  pub clears : scratch' ≡ early_scratch t rule states tick scratch
