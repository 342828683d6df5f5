-- What C programs rely on of `juntreak_early`, whose answer is one number: an answer of yes or no is never changed by more states, and it is the verdict of
-- the trace that they complete.
use Rattle.std.specs.Prelude.{ℕ, ◌*◌, ◌%◌, ◌≡◌, Bool, List, ◌++◌}
use Rattle.mltl.specs.Mltl.{holds}
use Rattle.mltl.specs.Known.{decided}
use Rattle.table.specs.Nodes.{watched_formula}
use Rattle.flat.specs.Flat.{table_from}
use Rattle.early.specs.Early.{early_told}
use Rattle.shell.specs.Answers.{value_number, early_answer}

-- what a call answers on the bytes of a table
abbrev pub early_for : List ℕ → ℕ → List ℕ → ℕ → List ℕ → ℕ
early_for table rule states tick scratch = early_answer (early_told (table_from table) rule states tick scratch)

-- yes, or no
abbrev pub decided_answer : Bool → ℕ
decided_answer b = 256 * value_number (decided b)

pub record ForeignEarly : Type 0 where
  -- a later call that is accepted, which its number 0 tells, answers the same
  pub stays : (table : List ℕ) (rule : ℕ) (states : List ℕ) (tick : ℕ) (scratch : List ℕ) (b : Bool) → early_for table rule states tick scratch ≡ decided_answer b
      → (later scratch₂ : List ℕ) → early_for table rule (states ++ later) tick scratch₂ % 256 ≡ 0 → early_for table rule (states ++ later) tick scratch₂ ≡ decided_answer b
  -- on every trace that begins with these states, these states alone included
  pub verdict : (table : List ℕ) (rule : ℕ) (states : List ℕ) (tick : ℕ) (scratch : List ℕ) (b : Bool) → early_for table rule states tick scratch ≡ decided_answer b
      → (later : List ℕ) → holds (watched_formula (table_from table) rule) (states ++ later) tick ≡ b
