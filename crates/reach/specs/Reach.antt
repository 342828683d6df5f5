-- How far one bad reading reaches (document 02, A8): the ticks of a mission at which a rule's verdict may depend on the state of tick s.
use Rattle.std.specs.Prelude.{ℕ, ◌-◌, ◌≤◌, ◌<◌, Bool, List, [], ◌∷◌, ◌++◌, ltb, leb, eqb, Option, None, Some, Result, Ok, Err}
use Rattle.refusals.specs.Numbers.{BEYOND}
use Rattle.refusals.specs.Refusals.{number_of}
use Rattle.refusals.specs.declared.Refusal.{Refusal}
use Rattle.lists.specs.Choice.{Row, pick, ◌if◌, first}
use Rattle.mltl.specs.Mltl.{delay, near}
use Rattle.table.specs.Nodes.{watched_formula}
use Rattle.table.specs.Sound.{is_sound, rule_rows}
use Rattle.table.specs.declared.Table.{Table}
use Rattle.reach.specs.declared.Ticks.{Ticks}

-- ---- answers
-- the number of a refusal, no tick, or the ticks from a first to a last one
pub data Reached : Type 0 where
  refused : ℕ → Reached
  empty : Reached
  ticks : ℕ → ℕ → Reached

-- what a range of the code says: no tick, or those from the first to the last
abbrev pub range_told : Option Ticks → Reached
range_told None = empty
range_told (Some t) = ticks t.first t.last

-- what each case of an answer says
abbrev pub reached_by : Result (Option Ticks) Refusal → Reached
reached_by (Err e) = refused (number_of e)
reached_by (Ok r) = range_told r

-- t is one of the ticks
abbrev pub Among : Reached → ℕ → Type 0
Among (refused number) t = ⊥
Among empty t = ⊥
Among (ticks first last) t = (first ≤ t) × (t ≤ last)

-- the first and the last tick are ticks of a mission of n states, in this order
abbrev pub Inside : ℕ → Reached → Type 0
Inside n (refused number) = Unit {0}
Inside n empty = Unit {0}
Inside n (ticks first last) = (first ≤ last) × (last < n)

-- ---- calls
-- the rows of refusals: those of a call for a rule, and a tick s that is not below the mission's length n
abbrev pub reach_rows : Bool → ℕ → ℕ → ℕ → ℕ → List Row
reach_rows sound count rule n s = rule_rows sound count rule ++ ((BEYOND if leb n s) ∷ [])

unfoldable pub reach_number : Table → ℕ → ℕ → ℕ → ℕ
reach_number t rule n s = first (reach_rows (is_sound t) t.rule_count rule n s)

-- from s - d to s - c, cut to the ticks from 0 on; as s is a tick of the mission, nothing is cut at its end
abbrev pub ticks_within : ℕ → ℕ → ℕ → Reached
ticks_within c d s = pick (ltb s c) empty (ticks (s - d) (s - c))

-- what a call answers: the ticks from s - D to s - near, or the number of the refusal
abbrev pub reached : Table → ℕ → ℕ → ℕ → Reached
reached t rule n s =
    pick (eqb (reach_number t rule n s) 0) (ticks_within (near (watched_formula t rule)) (delay (watched_formula t rule)) s) (refused (reach_number t rule n s))
