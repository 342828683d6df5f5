-- One bad reading: the range on the table that a session watches is one for the rule as it stood in the book or in the text.
use Rattle.std.specs.Prelude.{ℕ, ◌<◌, ◌≡◌, List, length}
use Rattle.mltl.specs.Mltl.{DifferAt}
use Rattle.reach.specs.Reach.{Among, reach_number, reached}
use Rattle.mission.specs.Mission.{Start, verdict_of}

-- two missions of n states that differ at tick s alone have the same verdict at every tick outside it
abbrev pub ReachVerdict : Type 0
ReachVerdict =
    (m : Start) (n s : ℕ) → reach_number m.simplified.table m.rule n s ≡ 0 → (xs ys : List ℕ) → length xs ≡ n → DifferAt s xs ys → (i : ℕ) → i < n
    → ¬ (Among (reached m.simplified.table m.rule n s) i) → verdict_of m xs i ≡ verdict_of m ys i
