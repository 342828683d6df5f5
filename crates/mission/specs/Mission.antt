-- The third demand: every list of calls on a session over a book or a text that was read, and simplified, narrow lists included. docs/ARCHITECTURE.md, 'Reading
-- the third demand', leads from document 01's sentences to these lines, and from each excluded program to the line that excludes it.
use Rattle.std.specs.Prelude.{ℕ, ◌+◌, ◌≤◌, ◌≡◌, ◌↔◌, Bool, true, List, take}
use Rattle.lists.specs.Choice.{some_fits}
use Rattle.mltl.specs.Mltl.{Formula, holds, delay}
use Rattle.table.specs.declared.Table.{Table}
use Rattle.table.specs.Nodes.{watched_formula}
use Rattle.table.specs.Sound.{is_sound_by, table_rows, rule_rows}
use Rattle.book.specs.Entries.{Bytes}
use Rattle.book.specs.Reading.{reading}
use Rattle.text.specs.Typing.{typed}
use Rattle.simplify.specs.Promise.{PromisedBy, Simplified}
use Rattle.session.specs.declared.Session.{Session}
use Rattle.session.specs.Session.{opening_by}
use Rattle.acts.specs.World.{Width, narrow, wide, limit}
use Rattle.acts.specs.Claim.{Claim}
use Rattle.mission.specs.Calls.{AnySession, as_wide, Call, MeetsBy, number_of, rows_by, CallsBy, states_fed, verdicts_given, widenings, wide_calls, seen_by}

-- ---- the start
-- where rules come from: a book, or typed lines
pub data Source : Type 0 where
  book : List ℕ → Source
  text : List ℕ → Source

-- the number that reading it answers, and the table that it yields
abbrev pub read_number : Source → ℕ
read_number (book b) = (reading b).number
read_number (text x) = (typed x).number

abbrev pub read_table : Source → Table
read_table (book b) = (reading b).table
read_table (text x) = (typed x).table

-- the elements of a book are bytes; of a text nothing is asked
abbrev pub OfBytes : Source → Type 0
OfBytes (book b) = Bytes b
OfBytes (text x) = Unit {0}

-- An accepted read of a book or of a text, the simplifier's accepted answer for its table, and an accepted open of a rule; any history.
-- The last two by a measure of how many states a verdict waits for: the delay, or the one before A5. What was accepted by that one is read
-- as it was (StaysKept of crate book, StaysAccepted of crate text), and the simplifier's answer says that its table was sound.
pub record StartBy (wait : Formula → ℕ) : Type 0 where
  pub source : Source
  pub read : read_number source ≡ 0
  pub simplified : Simplified
  pub promised : PromisedBy wait (read_table source) simplified
  pub accepted : simplified.number ≡ 0
  pub rule : ℕ
  pub opened : (opening_by wait simplified.table rule).number ≡ 0
  pub history : List ℕ

module _ {wait : Formula → ℕ} where
  -- the session that open gave: a wide one, or a narrow one when the count had 32 bits
  abbrev pub session_of : StartBy wait → Session
  session_of m = (opening_by wait m.simplified.table m.rule).session

  abbrev pub opened_as : Width → StartBy wait → AnySession
  opened_as width m = record { base = session_of m; width = width }

  -- D: the delay of the rule in the simplified table
  abbrev pub start_delay : StartBy wait → ℕ
  start_delay m = wait (watched_formula m.simplified.table m.rule)

  -- the verdict of the rule as it stood in the book or in the text, before simplifying
  abbrev pub verdict_of : StartBy wait → List ℕ → ℕ → Bool
  verdict_of m = holds (watched_formula (read_table m.source) m.rule)

-- a list of calls on the session that was opened, with the session and the history that it has come to
abbrev pub ListBy : (wait : Formula → ℕ) → StartBy wait → Width → List Call → AnySession → List ℕ → Bool → Type 0
ListBy wait m width cs s h ended = CallsBy wait (opened_as width m) m.history cs s h ended

-- ---- beginnings
-- The first calls of such a list are such a list, with the session and the history that they have come to.
pub record Beginning (wait : Formula → ℕ) (first : AnySession) (start : List ℕ) (cs : List Call) : Type 0 where
  pub session : AnySession
  pub history : List ℕ
  pub ended : Bool
  pub calls : CallsBy wait first start cs session history ended

-- ---- as if wide from the start
-- the accepted feeds and closes of a list, begun wide, come to the same session with a wide count, and to the same history; they were fed
-- the same states and gave the same verdicts
pub record AsIfWide {wait : Formula → ℕ} (m : StartBy wait) (cs : List Call) (s : AnySession) (h : List ℕ) (ended : Bool) : Type 0 where
  pub calls : ListBy wait m wide (wide_calls cs) (as_wide s.base) h ended
  pub states : states_fed (wide_calls cs) ≡ states_fed cs
  pub verdicts : verdicts_given (wide_calls cs) ≡ verdicts_given cs

-- 0 for narrow, 1 for wide
abbrev pub width_number : Width → ℕ
width_number narrow = 0
width_number wide = 1

-- ---- the third demand
pub record ThirdDemandBy (wait : Formula → ℕ) : Type 0 where
  -- what holds of every list of calls, by whether a close was accepted in it, on a session that was opened wide or narrow
  pub claim : (m : StartBy wait) (width : Width) (cs : List Call) (s : AnySession) (h : List ℕ) (ended : Bool) → ListBy wait m width cs s h ended
      → Claim (verdict_of m) (start_delay m) m.history ended h (states_fed cs) (verdicts_given cs)
  -- every beginning of such a list is such a list
  pub beginnings : (m : StartBy wait) (width : Width) (cs : List Call) (s : AnySession) (h : List ℕ) (ended : Bool) → ListBy wait m width cs s h ended
      → (j : ℕ) → Beginning wait (opened_as width m) m.history (take j cs)
  -- after an accepted close the session is as open gave it: a new list can begin with it
  pub reopened : (m : StartBy wait) (width : Width) (cs : List Call) (s : AnySession) (h : List ℕ) → ListBy wait m width cs s h true → s ≡ opened_as s.width m
  -- its session has seen the states fed, or none after a close, and the count is within its limit
  pub counted : (m : StartBy wait) (width : Width) (cs : List Call) (s : AnySession) (h : List ℕ) (ended : Bool) → ListBy wait m width cs s h ended
      → (s.base.seen ≡ seen_by ended cs) × (s.base.seen ≤ limit s.width)
  -- at most one widening is accepted, and none in a list that began wide
  pub widened_once : (m : StartBy wait) (width : Width) (cs : List Call) (s : AnySession) (h : List ℕ) (ended : Bool) → ListBy wait m width cs s h ended
      → width_number width + widenings cs ≡ width_number s.width
  -- a list goes on as if it had been wide from the start
  pub as_if_wide : (m : StartBy wait) (width : Width) (cs : List Call) (s : AnySession) (h : List ℕ) (ended : Bool) → ListBy wait m width cs s h ended
      → AsIfWide m cs s h ended
  -- a call, and before it the simplifier's and the open, is refused exactly where a row fits it
  pub calls_refused : (c : Call) → MeetsBy wait c → (¬ (number_of c ≡ 0)) ↔ (some_fits (rows_by wait c.act c.session c.history c.scratch c.out) ≡ true)
  pub simplify_refused : (t : Table) (r : Simplified) → PromisedBy wait t r → (¬ (r.number ≡ 0)) ↔ (some_fits (table_rows (is_sound_by wait t)) ≡ true)
  pub open_refused : (t : Table) (r : ℕ) → (¬ ((opening_by wait t r).number ≡ 0)) ↔ (some_fits (rule_rows (is_sound_by wait t) t.rule_count r) ≡ true)

-- ---- by the delay
abbrev pub Start : Type 0
Start = StartBy delay

abbrev pub ThirdDemand : Type 0
ThirdDemand = ThirdDemandBy delay
