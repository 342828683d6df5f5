-- The mission's promises from typed lines: the rule that a session watches is the formula of its line.
use Rattle.std.specs.Prelude.{ℕ, ◌<◌, ◌≡◌, false, List, [], length, get_or}
use Rattle.mltl.specs.Mltl.{Formula, const, holds}
use Rattle.text.specs.Accepted.{Lines}
use Rattle.mission.specs.Mission.{Start, text, verdict_of}

-- the verdicts of which the third demand speaks are those of the line's formula, on every trace
abbrev pub TypedVerdict : Type 0
TypedVerdict =
    (m : Start) (x : List ℕ) → m.source ≡ text x → (names : List ℕ) (fs : List Formula) → Lines x names fs [] → m.rule < length fs
    → (states : List ℕ) (t : ℕ) → verdict_of m states t ≡ holds (get_or fs m.rule (const false)) states t
