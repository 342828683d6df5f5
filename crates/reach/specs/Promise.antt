-- What a caller relies on: of two missions that differ in the state of one tick alone, the verdicts are the same at every tick outside the range.
use Rattle.std.specs.Prelude.{ℕ, ◌≤◌, ◌<◌, ◌≡◌, ◌↔◌, true, List, length}
use Rattle.lists.specs.Choice.{some_fits}
use Rattle.mltl.specs.Mltl.{holds, delay, near, DifferAt, InReach}
use Rattle.table.specs.Nodes.{watched_formula}
use Rattle.table.specs.Sound.{is_sound}
use Rattle.table.specs.declared.Table.{Table}
use Rattle.reach.specs.Reach.{Among, Inside, reach_rows, reach_number, reached}

-- of a mission of n states, and its tick s
pub record Relied (t : Table) (rule n s : ℕ) : Type 0 where
  -- two missions that differ at s alone have the same verdict at every tick outside the range
  pub same : reach_number t rule n s ≡ 0 → (xs ys : List ℕ) → length xs ≡ n → DifferAt s xs ys → (i : ℕ) → i < n → ¬ (Among (reached t rule n s) i)
      → holds (watched_formula t rule) xs i ≡ holds (watched_formula t rule) ys i
  -- the range: the mission's ticks from s - D to s - near
  pub exactly : reach_number t rule n s ≡ 0 → (i : ℕ)
      → Among (reached t rule n s) i ↔ ((i < n) × InReach (near (watched_formula t rule)) (delay (watched_formula t rule)) s i)
  -- where there is a first and a last tick, there is a tick from the one to the other
  pub inside : Inside n (reached t rule n s)
  -- the near distance of a rule of a sound table is at most its delay
  pub near_first : is_sound t ≡ true → near (watched_formula t rule) ≤ delay (watched_formula t rule)
  -- a call is refused exactly where a row fits it
  pub refused_exactly : (¬ (reach_number t rule n s ≡ 0)) ↔ (some_fits (reach_rows (is_sound t) t.rule_count rule n s) ≡ true)
