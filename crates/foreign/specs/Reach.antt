-- What C programs rely on of `juntreak_reach`, whose answer is one number: of two missions that differ in the state of one tick alone, the verdicts are the
-- same at every tick but those from range[0] to range[1].
use Rattle.std.specs.Prelude.{ℕ, ◌%◌, ◌≤◌, ◌<◌, ◌≡◌, List, length, get_or}
use Rattle.mltl.specs.Mltl.{holds, DifferAt}
use Rattle.table.specs.Nodes.{watched_formula}
use Rattle.flat.specs.Flat.{table_from}
use Rattle.reach.specs.Reach.{reached}
use Rattle.shell.specs.Answers.{reach_answer, range_after}

-- what a call answers on the bytes of a table, and the words of `range` after it
abbrev pub reach_for : List ℕ → ℕ → ℕ → ℕ → ℕ
reach_for table rule n s = reach_answer (reached (table_from table) rule n s)

abbrev pub range_for : List ℕ → ℕ → ℕ → ℕ → List ℕ → List ℕ
range_for table rule n s range = range_after (reached (table_from table) rule n s) range

-- there is a range, and i lies in it
pub record InRange (table : List ℕ) (rule n s : ℕ) (range : List ℕ) (i : ℕ) : Type 0 where
  pub answered : reach_for table rule n s ≡ 256
  pub from : get_or (range_for table rule n s range) 0 0 ≤ i
  pub to : i ≤ get_or (range_for table rule n s range) 1 0

pub record ForeignReach : Type 0 where
  -- of a call that is accepted, which its number 0 tells
  pub same : (table : List ℕ) (rule n s : ℕ) (range : List ℕ) → reach_for table rule n s % 256 ≡ 0 → (xs ys : List ℕ) → length xs ≡ n → DifferAt s xs ys
      → (i : ℕ) → i < n → ¬ (InRange table rule n s range i)
      → holds (watched_formula (table_from table) rule) xs i ≡ holds (watched_formula (table_from table) rule) ys i
  -- where there is no range, nothing is written
  pub untouched : (table : List ℕ) (rule n s : ℕ) (range : List ℕ) → ¬ (reach_for table rule n s ≡ 256) → range_for table rule n s range ≡ range
