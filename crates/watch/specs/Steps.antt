-- What the steps of the program do: they keep what is shown right for what was read (`Running` and `Stopped` of crate transcript).
use Rattle.std.specs.Prelude.{ℕ, ◌-◌, ◌≤◌, ◌<◌, ◌≡◌, Bool, true, false, not, List, [], ◌∷◌, ◌++◌, eqb, length, take, drop}
use Rattle.limits.specs.Limits.{max_block}
use Rattle.table.specs.declared.Table.{Table}
use Rattle.book.specs.Entries.{Bytes}
use Rattle.book.specs.Reading.{reading}
use Rattle.mission.specs.Mission.{Start}
use Rattle.mission.specs.Mission as mission
use Rattle.lines.specs.Lines.{empty}
use Rattle.transcript.specs.Printed.{rule_name, printed, Running, Stopped}
use Rattle.watch.specs.declared.Progress.{Progress}
use Rattle.watch.specs.declared.StepAnswer.{StepAnswer}

-- the program at work, with the states that wait in the block's first places
abbrev pub Runs : Start → Bool → List ℕ → List ℕ → Progress → List ℕ → List ℕ → Type 0
Runs m last read shown p h block = Running m last read shown p.session h p.line (take p.count block) p.tick × (p.name ≡ rule_name m)

-- it goes on, or it has ended
pub record Follows (m : Start) (last : Bool) (read shown : List ℕ) (p : Progress) (h block : List ℕ) : Type 0 where
  pub onward : p.going ≡ true → Runs m last read shown p h block
  pub ended : p.going ≡ false → Stopped m read shown

-- the program at its start, on the first rule of a book that was read, and whatever history and block hold
pub record Begun (book h : List ℕ) (p : Progress) : Type 0 where
  pub start : Start
  pub its_book : start.source ≡ mission.book book
  pub first_rule : start.rule ≡ 0
  pub its_history : start.history ≡ h
  pub goes : p.going ≡ true
  pub runs : (block : List ℕ) → Runs start false [] [] p h block

abbrev pub Begins : Table → Progress → Type 0
Begins t p = (book : List ℕ) → Bytes book → (reading book).number ≡ 0 → (reading book).table ≡ t → (h : List ℕ) → Begun book h p

-- where a step may begin
pub record Ready (p : Progress) : Type 0 where
  pub room : p.count < max_block
  pub ticks : p.tick ≤ p.session.seen

-- a feed of the states that wait: h and block are what history and block held, h' and text what history and text hold then
pub record Fed (p : Progress) (at : ℕ) (h block h' text : List ℕ) (r : StepAnswer) : Type 0 where
  pub place : r.at ≡ at
  pub line : r.progress.line ≡ p.line
  pub ready : r.progress.going ≡ true → (r.progress.count ≡ 0) × Ready r.progress
  pub right : (m : Start) (read shown : List ℕ) → Runs m false read shown p h block
      → Follows m (not (eqb p.count max_block)) read (shown ++ take r.used text) r.progress h' block

-- a step over bytes of a part, from a place on
pub record Steps (p : Progress) (part : List ℕ) (at : ℕ) (h block h' block' text : List ℕ) (r : StepAnswer) : Type 0 where
  pub further : at < length part → (at < r.at) × (r.at ≤ length part)
  -- after a line end alone there is no line so far
  pub newline : part ≡ 10 ∷ [] → at ≡ 0 → r.progress.line ≡ empty
  pub ready : r.progress.going ≡ true → Ready r.progress
  pub right : (m : Start) (read shown : List ℕ) → Runs m false read shown p h block
      → Follows m false (read ++ take (r.at - at) (drop at part)) (shown ++ take r.used text) r.progress h' block'

-- the close, after which all is printed
abbrev pub Closes : Progress → List ℕ → List ℕ → ℕ → Type 0
Closes p h text used =
    (m : Start) (last : Bool) (read shown block : List ℕ) → Runs m last read shown p h block → p.line.digits ≡ 0 → p.count ≡ 0
    → printed m read ≡ shown ++ take used text

-- ---- a run of the program: it begins, and makes a step as long as it goes on; the parts are whatever the reads of the input gave.
-- `read` are the bytes that its steps have read, joined, and `shown` their texts, joined. What is printed then is in proofs/Printing:
-- `ended-printed`, `last_line`, `refused-printed`, `all-printed`.
pub data Run (m : Start) : List ℕ → List ℕ → Progress → List ℕ → List ℕ → Type 0 where
  begun : {p : Progress} {h block : List ℕ} → p.going ≡ true → Runs m false [] [] p h block → Run m [] [] p h block
  stepped : {read shown : List ℕ} {p : Progress} {h block : List ℕ} (part : List ℕ) (at : ℕ) (h' block' text : List ℕ) (o : StepAnswer)
      → Run m read shown p h block → p.going ≡ true → Steps p part at h block h' block' text o
      → Run m (read ++ take (o.at - at) (drop at part)) (shown ++ take o.used text) o.progress h' block'

-- ---- parts of the input
-- the program at work after `read`, whatever it has shown
pub record Passed (m : Start) (read : List ℕ) (p : Progress) (h block : List ℕ) : Type 0 where
  pub shown : List ℕ
  pub runs : Runs m false read shown p h block

-- a whole part was read, unless the program has ended
pub record Consumed (p : Progress) (part h block h' block' : List ℕ) (r : Progress) : Type 0 where
  pub ready : r.going ≡ true → Ready r
  pub right : (m : Start) (read : List ℕ) → Passed m read p h block → r.going ≡ true → Passed m (read ++ part) r h' block'

-- the same for an input for which as much is printed
pub record Last (m : Start) (read : List ℕ) (p : Progress) (h block : List ℕ) : Type 0 where
  pub input : List ℕ
  pub same : printed m read ≡ printed m input
  pub passed : Passed m input p h block

-- the line end that the last line may lack was read, unless the program has ended: no line is left, and as much is printed
pub record Completed (p : Progress) (h block h' block' : List ℕ) (r : Progress) : Type 0 where
  pub ready : r.going ≡ true → Ready r
  pub whole : r.line.digits ≡ 0
  pub right : (m : Start) (read : List ℕ) → Passed m read p h block → r.going ≡ true → Last m read r h' block'

abbrev pub ReadyIfGoing : Progress → Type 0
ReadyIfGoing p = p.going ≡ true → Ready p
