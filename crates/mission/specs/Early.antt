-- What is known while a session runs: an answer of yes or no on the table that it watches is the verdict of the rule as it stood in the book
-- or in the text.
use Rattle.std.specs.Prelude.{ℕ, ◌≡◌, Bool, List, ◌++◌}
use Rattle.mltl.specs.Known.{decided}
use Rattle.early.specs.Early.{value, early_told}
use Rattle.mission.specs.Mission.{Start, verdict_of}

-- on every trace that begins with the states seen, these states alone included
abbrev pub EarlyVerdict : Type 0
EarlyVerdict =
    (m : Start) (states : List ℕ) (tick : ℕ) (scratch : List ℕ) (b : Bool) → early_told m.simplified.table m.rule states tick scratch ≡ value (decided b)
    → (later : List ℕ) → verdict_of m (states ++ later) tick ≡ b
