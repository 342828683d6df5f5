-- The answers of the C interface as one number each, and what its calls leave in the bytes of tables and sessions.
use Rattle.std.specs.Prelude.{ℕ, ◌+◌, ◌*◌, min, ◌≡◌, List, [], ◌∷◌, eqb, Option, Result, Ok, Err}
use Rattle.lists.specs.Choice.{pick}
use Rattle.interval.specs.Parts.{Splitting}
use Rattle.interval.specs.Doubling.{Doubling}
use Rattle.table.specs.Sound.{RuleDelay}
use Rattle.book.specs.Writing.{Writing}
use Rattle.text.specs.Typing.{Typed}
use Rattle.flat.specs.Flat.{table_from, written}
use Rattle.flat.specs.Sessions.{session_written}
use Rattle.simplify.specs.Promise.{Simplified, PromisedBy}
use Rattle.mltl.specs.Mltl.{Formula, delay}
use Rattle.mltl.specs.Known.{Value, no, undecided, yes}
use Rattle.early.specs.declared.Decision.{Decision}
use Rattle.early.specs.Early.{Told, refused, value, decided}
use Rattle.reach.specs.declared.Ticks.{Ticks}
use Rattle.reach.specs.Reach.{Reached, refused as not-reached, empty, ticks, range_told}
use Rattle.registers.specs.Registers.{Reading}
use Rattle.session.specs.declared.Session.{Session}
use Rattle.session.specs.Session.{Step, Answer, Opening, Effect}

-- a buffer after a call with this number: what an accepted call writes there, and as it was where the call is refused
abbrev pub leaves : ℕ → List ℕ → List ℕ → List ℕ
leaves number new old = pick (eqb number 0) new old

-- the largest place or line that an answer holds, 2^56 - 1: no machine has a text so long
abbrev pub max_place : ℕ
max_place = 72057594037927935

-- the number of a refusal and, above it, its place or line
abbrev pub text_answer : Typed → ℕ
text_answer x = x.number + 256 * min x.place max_place

-- the number of a refusal and, above it, the length of a book in bytes
abbrev pub write_answer : Writing → ℕ
write_answer w = w.number + 65536 * w.length

-- the number of a refusal and, above it, the delay
abbrev pub delay_answer : RuleDelay → ℕ
delay_answer r = r.number + 65536 * r.delay

-- the number of a refusal and, above it, the count of parts
abbrev pub split_answer : Splitting → ℕ
split_answer r = r.number + 256 * r.count

-- the number of a refusal and, above it, the exponent, the count of moves and the leftover
abbrev pub moves_answer : Doubling → ℕ
moves_answer d = d.number + 256 * d.exponent + 65536 * d.count + 4294967296 * d.leftover

-- the number of a refusal and, above it, the count of verdicts
abbrev pub session_answer : Answer → ℕ
session_answer r = r.number + 4294967296 * r.count

abbrev pub step_answer : Step → ℕ
step_answer k = k.number + 4294967296 * k.count

-- the number of a refusal and, above it, the byte at a place
abbrev pub register_answer : Reading → ℕ
register_answer r = r.number + 256 * r.value

-- 0 for no, 1 for yes, 2 for open
abbrev pub value_number : Value → ℕ
value_number no = 0
value_number yes = 1
value_number undecided = 2

-- the number of a refusal or, above it, the value
abbrev pub early_answer : Told → ℕ
early_answer (refused number) = number
early_answer (value v) = 256 * value_number v

-- the number of a refusal or, above it, whether there is a range
abbrev pub reach_answer : Reached → ℕ
reach_answer (not-reached number) = number
reach_answer empty = 0
reach_answer (ticks first last) = 256

-- the two words after a call: the first and the last tick where there is a range, and otherwise as they were
abbrev pub range_after : Reached → List ℕ → List ℕ
range_after (not-reached number) words = words
range_after empty words = words
range_after (ticks first last) words = first ∷ last ∷ []

-- ---- what an answer tells whose refusals have the numbers that n gives. With the numbers of refusals, `told_by`, `reached_by` and `stored` say
-- the same (proofs/Said)
-- 0 for an accepted call
abbrev pub number_said : {A E : Type 0} → (E → ℕ) → Result A E → ℕ
number_said n (Ok x) = 0
number_said n (Err e) = n e

abbrev pub early_said : {E : Type 0} → (E → ℕ) → Result Decision E → Told
early_said n (Ok d) = value (decided d)
early_said n (Err e) = refused (n e)

abbrev pub reach_said : {E : Type 0} → (E → ℕ) → Result (Option Ticks) E → Reached
reach_said n (Ok r) = range_told r
reach_said n (Err e) = not-reached (n e)

-- the bytes of a session after an answer: a refused call, whatever its number, leaves them as they were
abbrev pub stored_by : {E : Type 0} → Result Session E → List ℕ → List ℕ
stored_by (Ok s) b = session_written s b
stored_by (Err e) b = b

-- the bytes of a table after the simplifier: its answer is free but for what is promised of it, by a measure of how many states a verdict waits for
pub record SimplifiesBy (wait : Formula → ℕ) (before : List ℕ) (number : ℕ) (after : List ℕ) : Type 0 where
  pub answer : Simplified
  pub promised : PromisedBy wait (table_from before) answer
  pub told : number ≡ answer.number
  pub bytes : after ≡ leaves answer.number (written answer.table before) before

abbrev pub Simplifies : List ℕ → ℕ → List ℕ → Type 0
Simplifies before number after = SimplifiesBy delay before number after

-- ---- the bytes of a session after a call that gives one
abbrev pub stored : Opening → List ℕ → List ℕ
stored o b = leaves o.number (session_written o.session b) b

-- ---- the effect of a call on a session, with its answer as one number, and the session's bytes after it: `renew` renews their count of states
abbrev pub counted : (ℕ → List ℕ → List ℕ) → Answer → List ℕ → List ℕ
counted renew r b = leaves r.number (renew r.session.seen b) b

pub record Called (renew : ℕ → List ℕ → List ℕ) (e : Effect) (bytes : List ℕ) (r : ℕ) (bytes' history scratch out : List ℕ) : Type 0 where
  pub told : r ≡ session_answer e.answer
  pub session : bytes' ≡ counted renew e.answer bytes
  pub history_is : history ≡ e.history
  pub scratch_is : scratch ≡ e.scratch
  pub out_is : out ≡ e.out
