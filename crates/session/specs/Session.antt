-- What open, feed, close and the second close answer, and what they leave in the buffers that they were lent (document 01, Session; A4, A5).
use Rattle.std.specs.Prelude.{ℕ, ◌+◌, ◌-◌, min, Bool, ◌||◌, not, List, [], ◌∷◌, ◌++◌, length, take, drop, ltb, leb, eqb, Result, Ok, Err}
use Rattle.limits.specs.Limits.{max_block, max_seen, history_words, scratch_words, feed_words, close_words}
use Rattle.refusals.specs.Numbers.{UNSOUND, STATES, BUFFER, SEEN}
use Rattle.refusals.specs.Refusals.{number_of}
use Rattle.refusals.specs.declared.Refusal.{Refusal}
use Rattle.lists.specs.Choice.{Row, pick, ◌if◌, first}
use Rattle.lists.specs.Sequence.{padded, last_of}
use Rattle.lists.specs.Bits.{packed}
use Rattle.mltl.specs.Mltl.{Formula, holds, delay, old_delay}
use Rattle.table.specs.Nodes.{no_table, watched_formula}
use Rattle.table.specs.Sound.{is_sound_by, delay_number_by}
use Rattle.table.specs.declared.Table.{Table}
use Rattle.verdict.specs.Verdict.{cleared}
use Rattle.session.specs.declared.Session.{Session}
use Rattle.session.specs.declared.Given.{Given}

-- ---- the session
abbrev pub session_with : Table → ℕ → ℕ → Session
session_with t r n = record { table = t; rule = r; seen = n }

-- as it is opened, and document 01's 'no session'
abbrev pub opened : Table → ℕ → Session
opened t r = session_with t r 0

abbrev pub no_session : Session
no_session = opened no_table 0

-- what it watches
abbrev pub formula_of : Session → Formula
formula_of s = watched_formula s.table s.rule

-- with another count of states
abbrev pub with_seen : Session → ℕ → Session
with_seen s n = session_with s.table s.rule n

-- ---- what a call answers: the number of the refusal or 0, and the session that open gives, or 'no session'
pub record Opening : Type 0 where
  pub number : ℕ
  pub session : Session

-- the count of verdicts that a feed or a close gives, and the session handed back
pub record Answer : Type 0 where
  pub number : ℕ
  pub count : ℕ
  pub session : Session

-- the same without the session
pub record Step : Type 0 where
  pub number : ℕ
  pub count : ℕ

-- what an answer of the code says; a refused call hands the session s back as it came
abbrev pub opening_told : Result Session Refusal → Opening
opening_told (Ok s) = record { number = 0; session = s }
opening_told (Err e) = record { number = number_of e; session = no_session }

abbrev pub answer_told : Session → Result Given Refusal → Answer
answer_told s (Ok g) = record { number = 0; count = g.count; session = g.session }
answer_told s (Err e) = record { number = number_of e; count = 0; session = s }

abbrev pub step_told : Result ℕ Refusal → Step
step_told (Ok n) = record { number = 0; count = n }
step_told (Err e) = record { number = number_of e; count = 0 }

-- ---- what a call answers, and what it leaves in history, scratch and out
pub record Effect : Type 0 where
  pub answer : Answer
  pub history : List ℕ
  pub scratch : List ℕ
  pub out : List ℕ

-- the same without the session that is handed back
pub record StepEffect : Type 0 where
  pub step : Step
  pub history : List ℕ
  pub scratch : List ℕ
  pub out : List ℕ

abbrev pub step_effect : Effect → StepEffect
step_effect e = record { step = record { number = e.answer.number; count = e.answer.count }; history = e.history; scratch = e.scratch; out = e.out }

-- a refused call answers its number and changes nothing
abbrev pub refused : ℕ → Session → List ℕ → List ℕ → List ℕ → Effect
refused n s h x o = record { answer = record { number = n; count = 0; session = s }; history = h; scratch = x; out = o }

-- ---- accepted calls: d is how many states a verdict waits for
-- the states that history holds: the last min(seen, d), oldest first
abbrev pub kept_of : ℕ → Session → List ℕ → List ℕ
kept_of d s h = take (min s.seen d) h

-- the first `count` verdicts of a trace in the first m words, unused bits and words zero, and the later words as they were
abbrev pub verdict_words : ℕ → ℕ → Formula → List ℕ → List ℕ → List ℕ
verdict_words m count f trace o = padded 0 m (packed count (holds f trace)) ++ drop m o

-- how many ticks are settled by k states more
abbrev pub feed_count : ℕ → Session → ℕ → ℕ
feed_count d s k = (s.seen + k - d) - (s.seen - d)

abbrev pub fed : ℕ → Session → List ℕ → List ℕ → List ℕ → List ℕ → Effect
fed d s block h x o = record {
  answer = record { number = 0; count = feed_count d s (length block); session = with_seen s (s.seen + length block) };
  history = last_of d (kept_of d s h ++ block) ++ drop (min (s.seen + length block) d) h;
  scratch = cleared x;
  out = verdict_words feed_words (feed_count d s (length block)) (formula_of s) (kept_of d s h ++ block) o;
}

abbrev pub closed : ℕ → Session → List ℕ → List ℕ → List ℕ → Effect
closed d s h x o = record {
  answer = record { number = 0; count = min s.seen d; session = with_seen s 0 };
  history = h;
  scratch = cleared x;
  out = verdict_words close_words (min s.seen d) (formula_of s) (kept_of d s h) o;
}

-- ---- the rows of refusals: `bad` says that the session is unfit; h, x and o are the lengths of history, scratch and out
-- of a feed of k states, under a limit of the count of states
abbrev pub feed_rows : ℕ → Bool → ℕ → ℕ → ℕ → ℕ → ℕ → List Row
feed_rows limit bad seen k h x o =
    (UNSOUND if bad) ∷ (STATES if ltb max_block k) ∷ (BUFFER if (ltb h history_words || ltb x scratch_words || ltb o feed_words)) ∷
    (SEEN if ltb limit (seen + k)) ∷ []

abbrev pub close_rows : Bool → ℕ → ℕ → ℕ → List Row
close_rows bad h x o = (UNSOUND if bad) ∷ (BUFFER if (ltb h history_words || ltb x scratch_words || ltb o close_words)) ∷ []

-- ---- every call, under a measure of how many states a verdict waits for
module _ (wait : Formula → ℕ) where
  unfoldable pub opening_by : Table → ℕ → Opening
  opening_by t r = let n = delay_number_by wait t r in record { number = n; session = pick (eqb n 0) (opened t r) no_session }

  -- the table is not sound, or the rule number is not below its rule count
  abbrev pub unfit_by : Session → Bool
  unfit_by s = not (is_sound_by wait s.table) || leb s.table.rule_count s.rule

  abbrev pub feed_number_by : ℕ → Session → ℕ → ℕ → ℕ → ℕ → ℕ
  feed_number_by limit s k h x o = first (feed_rows limit (unfit_by s) s.seen k h x o)

  unfoldable pub feeding_by : ℕ → Session → List ℕ → List ℕ → List ℕ → List ℕ → Effect
  feeding_by limit s block h x o =
      let n = feed_number_by limit s (length block) (length h) (length x) (length o) in
      pick (eqb n 0) (fed (wait (formula_of s)) s block h x o) (refused n s h x o)

  abbrev pub close_number_by : Session → ℕ → ℕ → ℕ → ℕ
  close_number_by s h x o = first (close_rows (unfit_by s) h x o)

  unfoldable pub closing_by : Session → List ℕ → List ℕ → List ℕ → Effect
  closing_by s h x o =
      let n = close_number_by s (length h) (length x) (length o) in
      pick (eqb n 0) (closed (wait (formula_of s)) s h x o) (refused n s h x o)

-- ---- the calls: by the delay, and the second close by the one before A5
abbrev pub delay_of : Session → ℕ
delay_of s = delay (formula_of s)

abbrev pub unfit : Session → Bool
unfit s = unfit_by delay s

abbrev pub opening : Table → ℕ → Opening
opening t r = opening_by delay t r

abbrev pub feeding : Session → List ℕ → List ℕ → List ℕ → List ℕ → Effect
feeding s block h x o = feeding_by delay max_seen s block h x o

abbrev pub closing : Session → List ℕ → List ℕ → List ℕ → Effect
closing s h x o = closing_by delay s h x o

abbrev pub closing_old : Session → List ℕ → List ℕ → List ℕ → Effect
closing_old s h x o = closing_by old_delay s h x o
