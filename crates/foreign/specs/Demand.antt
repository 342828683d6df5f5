-- The third demand for C programs: they hold a session as bytes, and get an answer as one number. A list of calls of juntreak_feed,
-- juntreak_close and juntreak_widen, on a session that juntreak_read or juntreak_read_text, juntreak_simplify and juntreak_open led to, is
-- a list of calls of crate mission. `wait` is a measure of how many states a verdict waits for: the delay; and, for calls as their contracts
-- were before A5, the one then, by which juntreak_close_old closes.
use Rattle.std.specs.Prelude.{ℕ, ◌/◌, ◌%◌, ◌≡◌, ◌↔◌, Bool, true, false, List, [], ◌∷◌, ◌++◌, map, eqb, length}
use Rattle.limits.specs.Limits.{table_bytes, session_bytes}
use Rattle.lists.specs.Choice.{pick, some_fits}
use Rattle.mltl.specs.Mltl.{Formula, holds, delay, old_delay}
use Rattle.table.specs.Nodes.{watched_formula}
use Rattle.book.specs.Entries.{Bytes}
use Rattle.book.specs.Reading.{reading, code_of}
use Rattle.text.specs.Typing.{typed}
use Rattle.session.specs.declared.Session.{Session}
use Rattle.session.specs.Session.{no_session, opening_by, feeding_by, closing_by, closing_old}
use Rattle.narrow.specs.Narrow.{wide_of, widening_by}
use Rattle.flat.specs.Flat.{table_from, written}
use Rattle.flat.specs.Sessions.{put_four, seen_place, session_from, renewed, narrow_from}
use Rattle.shell.specs.Answers.{leaves, text_answer, SimplifiesBy, stored, Called}
use Rattle.acts.specs.World.{Width, narrow, wide, limit}
use Rattle.acts.specs.Claim.{Claim}
use Rattle.mission.specs.Calls.{states_fed, verdicts_given, MeetsBy}
use Rattle.mission.specs.Calls as mission
use Rattle.mission.specs.Mission.{Source, book, text, read_number, read_table, OfBytes, opened_as}
use Rattle.mission.specs.Mission as missions

-- ---- sessions as bytes
-- The session that bytes hold. A library whose count of states had 32 bits read them as a narrow session.
abbrev pub held_in : Width → List ℕ → Session
held_in narrow b = wide_of (narrow_from b)
held_in wide b = session_from b

-- an accepted call renews their count: all 8 bytes of it, and the lower 4 when the count had 32 bits
abbrev pub renewed_in : Width → ℕ → List ℕ → List ℕ
renewed_in narrow seen b = put_four b seen_place seen
renewed_in wide seen b = renewed seen b

-- ---- one call
-- what a call was given: the session's 558 bytes, history, scratch and out; its answer, and what it left in these
pub record Lent : Type 0 where
  pub session : List ℕ
  pub size : length session ≡ session_bytes
  pub bytes : Bytes session
  pub history : List ℕ
  pub scratch : List ℕ
  pub out : List ℕ
  pub answer : ℕ
  pub session' : List ℕ
  pub history' : List ℕ
  pub scratch' : List ℕ
  pub out' : List ℕ

-- a feed and a close of a session of a width; a widening, which reads the bytes of a narrow session and writes the wide one into a buffer
-- that held `old`: it is lent no history, scratch or out
pub data Call : Type 0 where
  feed : Width → List ℕ → Lent → Call
  close : Width → Lent → Call
  widen : (old : List ℕ) → length old ≡ session_bytes → Lent → Call

abbrev pub lent : Call → Lent
lent (feed width block l) = l
lent (close width l) = l
lent (widen old size l) = l

-- what the contract of juntreak_widen says of the session s; history, scratch and out, which it is not lent, stay
pub record WidensBy (wait : Formula → ℕ) (s : Session) (old : List ℕ) (l : Lent) : Type 0 where
  pub told : l.answer ≡ (widening_by wait s).number
  pub session : l.session' ≡ stored (widening_by wait s) old
  pub history : l.history' ≡ l.history
  pub scratch : l.scratch' ≡ l.scratch
  pub out : l.out' ≡ l.out

-- what the contracts of juntreak_feed, juntreak_close and juntreak_widen say; of narrow sessions, what the first two said when the count had
-- 32 bits and `wait` was the delay before A5
abbrev pub ContractBy : (Formula → ℕ) → Call → Type 0
ContractBy wait (feed width block l) =
    Called (renewed_in width) (feeding_by wait (limit width) (held_in width l.session) block l.history l.scratch l.out) l.session l.answer l.session' l.history' l.scratch' l.out'
ContractBy wait (close width l) =
    Called (renewed_in width) (closing_by wait (held_in width l.session) l.history l.scratch l.out) l.session l.answer l.session' l.history' l.scratch' l.out'
ContractBy wait (widen old size l) = WidensBy wait (held_in narrow l.session) old l

-- the number and the count that an answer holds
abbrev pub answered_number : Call → ℕ
answered_number c = (lent c).answer % 4294967296

abbrev pub answered_count : Call → ℕ
answered_count c = (lent c).answer / 4294967296

-- the call as one of crate mission: the sessions are those that the bytes hold, before and after; a refused widening gives none
abbrev pub act_of : Call → mission.Act
act_of (feed width block l) = mission.feed block
act_of (close width l) = mission.close
act_of (widen old size l) = mission.widen

abbrev pub width_of : Call → Width
width_of (feed width block l) = width
width_of (close width l) = width
width_of (widen old size l) = narrow

abbrev pub held_after : Call → Session
held_after (feed width block l) = held_in width l.session'
held_after (close width l) = held_in width l.session'
held_after (widen old size l) = pick (eqb l.answer 0) (session_from l.session') no_session

abbrev pub as_call : Call → mission.Call
as_call c = record {
  act = act_of c;
  session = record { base = held_in (width_of c) (lent c).session; width = width_of c };
  history = (lent c).history;
  scratch = (lent c).scratch;
  out = (lent c).out;
  effect = record {
    answer = record { number = answered_number c; count = answered_count c; session = held_after c };
    history = (lent c).history';
    scratch = (lent c).scratch';
    out = (lent c).out';
  };
}

-- ---- lists of calls
-- The calls, the width, the bytes and the history that they have come to, and whether a close was accepted. An accepted call is given the
-- list's own bytes and history, as the last accepted call left them; a refused one may be given any.
pub data CallsBy (wait : Formula → ℕ) (width : Width) (first start : List ℕ) : List Call → Width → List ℕ → List ℕ → Bool → Type 0 where
  begin : CallsBy wait width first start [] width first start false
  accepted : {cs : List Call} (c : Call) → CallsBy wait width first start cs (width_of c) (lent c).session (lent c).history false → ContractBy wait c → answered_number c ≡ 0
      → CallsBy wait width first start (cs ++ (c ∷ [])) (mission.width_after (act_of c) (width_of c)) (lent c).session' (lent c).history' (mission.ends (act_of c))
  refused : {cs : List Call} {width' : Width} {b h : List ℕ} {ended : Bool} (c : Call) → CallsBy wait width first start cs width' b h ended → ContractBy wait c → (answered_number c ≡ 0 → ⊥)
      → CallsBy wait width first start (cs ++ (c ∷ [])) width' b h ended

-- ---- the start
-- what juntreak_read answers for a book, and juntreak_read_text for a text
abbrev pub read_answer : Source → ℕ
read_answer (book b) = code_of (reading b)
read_answer (text x) = text_answer (typed x)

-- three calls that answered 0, as their contracts say; what a buffer held before is `old`
pub record StartBy (wait : Formula → ℕ) : Type 0 where
  pub source : Source
  pub bytes : OfBytes source
  -- juntreak_read or juntreak_read_text
  pub read : read_answer source ≡ 0
  pub old_table : List ℕ
  pub table_size : length old_table ≡ table_bytes
  pub table : List ℕ
  pub was_read : table ≡ leaves (read_number source) (written (read_table source) old_table) old_table
  -- juntreak_simplify
  pub simple : List ℕ
  pub simplified : SimplifiesBy wait table 0 simple
  -- juntreak_open; with no state seen, a narrow session has the same bytes
  pub rule : ℕ
  pub opened : 0 ≡ (opening_by wait (table_from simple) rule).number
  pub old_session : List ℕ
  pub session_size : length old_session ≡ session_bytes
  pub session : List ℕ
  pub was_opened : session ≡ stored (opening_by wait (table_from simple) rule) old_session
  -- any history
  pub history : List ℕ

-- the verdict of the rule as it stood in the book or in the text, and D, the delay of the rule in the simplified table
module _ {wait : Formula → ℕ} where
  abbrev pub verdict_of : StartBy wait → List ℕ → ℕ → Bool
  verdict_of m = holds (watched_formula (read_table m.source) m.rule)

  abbrev pub start_delay : StartBy wait → ℕ
  start_delay m = wait (watched_formula (table_from m.simple) m.rule)

-- a list of calls on the session that was opened, with the width, the bytes and the history that it has come to
abbrev pub ListBy : (wait : Formula → ℕ) → StartBy wait → Width → Width → List Call → List ℕ → List ℕ → Bool → Type 0
ListBy wait m width width' cs b h ended = CallsBy wait width m.session m.history cs width' b h ended

-- ---- the third demand
-- the bytes that a call may write: the session's, in a widening those of the other buffer
abbrev pub buffer_of : Call → List ℕ
buffer_of (feed width block l) = l.session
buffer_of (close width l) = l.session
buffer_of (widen old size l) = old

-- a refused call writes nothing
pub record Untouched (c : Call) : Type 0 where
  pub session : (lent c).session' ≡ buffer_of c
  pub history : (lent c).history' ≡ (lent c).history
  pub scratch : (lent c).scratch' ≡ (lent c).scratch
  pub out : (lent c).out' ≡ (lent c).out

-- it is a list of calls of crate mission, from a start with the same source, table, rule and history
pub record Listed {wait : Formula → ℕ} (m : StartBy wait) (width width' : Width) (cs : List Call) (b h : List ℕ) (ended : Bool) : Type 0 where
  pub start : missions.StartBy wait
  pub source : start.source ≡ m.source
  pub table : start.simplified.table ≡ table_from m.simple
  pub rule : start.rule ≡ m.rule
  pub history : start.history ≡ m.history
  pub calls : mission.CallsBy wait (opened_as width start) m.history (map as_call cs) (record { base = held_in width' b; width = width' }) h ended

pub record ForeignDemandBy (wait : Formula → ℕ) : Type 0 where
  -- what holds of every list of calls, on a session that was opened wide or narrow
  pub claim : (m : StartBy wait) (width width' : Width) (cs : List Call) (b h : List ℕ) (ended : Bool) → ListBy wait m width width' cs b h ended
      → Claim (verdict_of m) (start_delay m) m.history ended h (states_fed (map as_call cs)) (verdicts_given (map as_call cs))
  pub listed : (m : StartBy wait) (width width' : Width) (cs : List Call) (b h : List ℕ) (ended : Bool) → ListBy wait m width width' cs b h ended
      → Listed m width width' cs b h ended
  -- the bytes after a call hold the session that the call handed back: it is a call of crate mission
  pub calls : (c : Call) → ContractBy wait c → MeetsBy wait (as_call c)
  -- after an accepted close they hold the session that open gave
  pub reopened : (m : StartBy wait) (width width' : Width) (cs : List Call) (b h : List ℕ) → ListBy wait m width width' cs b h true
      → held_in width' b ≡ session_from m.session
  -- a call is refused exactly where a row fits it, and then writes nothing
  pub refusals : (c : Call) → ContractBy wait c
      → (¬ (answered_number c ≡ 0)) ↔ (some_fits (mission.rows_by wait (act_of c) (as_call c).session (lent c).history (lent c).scratch (lent c).out) ≡ true)
  pub untouched : (c : Call) → ContractBy wait c → (answered_number c ≡ 0 → ⊥) → Untouched c

-- ---- by the delay
abbrev pub Contract : Call → Type 0
Contract c = ContractBy delay c

abbrev pub Calls : Width → List ℕ → List ℕ → List Call → Width → List ℕ → List ℕ → Bool → Type 0
Calls width first start cs width' b h ended = CallsBy delay width first start cs width' b h ended

abbrev pub Start : Type 0
Start = StartBy delay

abbrev pub ForeignDemand : Type 0
ForeignDemand = ForeignDemandBy delay

-- ---- lists as the contracts were before A5, ended by juntreak_close_old
pub record ForeignSecondClose : Type 0 where
  -- the same theorem by the delay before A5
  pub demand : ForeignDemandBy old_delay
  -- what the contract of juntreak_close_old says is that of a close of such a list
  pub closes : (l : Lent)
      → Called renewed (closing_old (session_from l.session) l.history l.scratch l.out) l.session l.answer l.session' l.history' l.scratch' l.out'
      → ContractBy old_delay (close wide l)
  -- juntreak_widen, as it is, widens its narrow session as it was
  pub widens : (m : StartBy old_delay) (width : Width) (cs : List Call) (b h : List ℕ) → ListBy old_delay m width narrow cs b h false
      → (old : List ℕ) (size : length old ≡ session_bytes) (l : Lent) → l.session ≡ b → Contract (widen old size l)
      → (answered_number (widen old size l) ≡ 0) × ContractBy old_delay (widen old size l)
  -- no verdict changes: of the same rule of the same book or text, fed the same states and closed, both lists gave the same verdicts
  pub same_verdicts : (m : StartBy old_delay) (m' : Start) → m.source ≡ m'.source → m.rule ≡ m'.rule
      → (width width₁ width' width₁' : Width) (cs cs' : List Call) (b h b' h' : List ℕ)
      → ListBy old_delay m width width₁ cs b h true → ListBy delay m' width' width₁' cs' b' h' true → states_fed (map as_call cs) ≡ states_fed (map as_call cs')
      → verdicts_given (map as_call cs) ≡ verdicts_given (map as_call cs')
