-- What is promised of a simplified table (document 01, Simplifying). The table is free but for this.
use Rattle.std.specs.Prelude.{ℕ, ◌≤◌, ◌<◌, ◌≡◌, true, false, List, map, length, Result, Ok, Err}
use Rattle.refusals.specs.Numbers.{UNSOUND}
use Rattle.refusals.specs.Refusals.{number_of}
use Rattle.refusals.specs.declared.Refusal.{Refusal}
use Rattle.mltl.specs.Mltl.{Formula, holds, delay}
use Rattle.table.specs.Nodes.{watched_formula}
use Rattle.table.specs.Sound.{is_sound_by}
use Rattle.table.specs.declared.Rule.{Rule}
use Rattle.table.specs.declared.Table.{Table}
use Rattle.simplify.specs.Fits.{Fits}

-- an answer: the number of the refusal and the table as it came, or 0 and the simplified table
pub record Simplified : Type 0 where
  pub number : ℕ
  pub table : Table

-- what an answer of the code says about the table t
abbrev pub simplified_told : Table → Result Table Refusal → Simplified
simplified_told t (Ok u) = record { number = 0; table = u }
simplified_told t (Err e) = record { number = number_of e; table = t }

-- u is a simplification of t, by a measure of how many states a verdict waits for
pub record SimplerBy (wait : Formula → ℕ) (t u : Table) : Type 0 where
  pub sound : is_sound_by wait u ≡ true
  -- as many rules, with the same names in the same order
  pub rule_count : u.rule_count ≡ t.rule_count
  pub names : map (λ (r : Rule). r.name) u.rules ≡ map (λ (r : Rule). r.name) t.rules
  -- every verdict of every rule on every trace stays, and no delay grows
  pub verdicts : (r : ℕ) → r < t.rule_count → (xs : List ℕ) (i : ℕ) → i < length xs
      → holds (watched_formula u r) xs i ≡ holds (watched_formula t r) xs i
  pub delays : (r : ℕ) → r < t.rule_count → wait (watched_formula u r) ≤ wait (watched_formula t r)
  -- the node count does not grow
  pub node_count : u.node_count ≤ t.node_count
  -- no law fits u, and where none fits t, u is t
  pub none_fits : Fits u → ⊥
  pub unchanged : (Fits t → ⊥) → u ≡ t

-- refused with the table as it came where it is not sound, and otherwise number 0 and a simplification
pub record PromisedBy (wait : Formula → ℕ) (t : Table) (r : Simplified) : Type 0 where
  pub refused : is_sound_by wait t ≡ false → r ≡ record { number = UNSOUND; table = t }
  pub accepted : is_sound_by wait t ≡ true → (r.number ≡ 0) × SimplerBy wait t r.table

-- ---- by the delay
abbrev pub Simpler : Table → Table → Type 0
Simpler t u = SimplerBy delay t u

abbrev pub Promised : Table → Simplified → Type 0
Promised t r = PromisedBy delay t r
