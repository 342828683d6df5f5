-- What the status registers hold, by all that was done from the start on: A10's sentences, each about the whole list of events (A10).
use Rattle.std.specs.Prelude.{ℕ, ◌+◌, ◌*◌, ◌%◌, ◌<◌, ◌≡◌, Bool, true, false, ◌&&◌, not, ◌↔◌, eqb, get_or, take}
use mathlib.Core.List.{List, [], ◌∷◌, ◌++◌, foldl}
use Rattle.lists.specs.Choice.{pick}
use Rattle.lists.specs.Sequence.{some, concat_map}
use Rattle.lists.specs.Bits.{bit}
use Rattle.registers.specs.declared.Flags.{Flags}
use Rattle.registers.specs.declared.Kind.{Kind}
use Rattle.registers.specs.declared.Kind.TheVariants.{Open, Widen, Feed, Close}
use Rattle.registers.specs.declared.Outcome.{Outcome}
use Rattle.registers.specs.Registers.{flags_from, share, eight_bytes, bytes_of, zeros, after_call, after_write}

-- ---- events: a session call with its outcome, and a write of a value to a place
pub data Event : Type 0 where
  call : Outcome → Event
  write : ℕ → ℕ → Event

-- ---- lists
-- the elements after the last that passes the test; all of them where none does
abbrev pub after_last : {A : Type 0} → (A → Bool) → List A → List A
after_last test [] = []
after_last test (x ∷ xs) = pick (some test (x ∷ xs)) (after_last test xs) (x ∷ xs)

abbrev pub last_or : {A : Type 0} → A → List A → A
last_or d [] = d
last_or d (x ∷ xs) = last_or x xs

abbrev pub first_or : {A : Type 0} → A → List A → A
first_or d [] = d
first_or d (x ∷ xs) = x

-- ---- what an event says of itself
abbrev pub is_accepted : Outcome → Bool
is_accepted o = eqb o.number 0

-- an accepted call that gave a verdict, one that gave a no, and a refused call
abbrev pub gives_verdict : Event → Bool
gives_verdict (call o) = is_accepted o && o.gives
gives_verdict (write place value) = false

abbrev pub gives_no : Event → Bool
gives_no (call o) = is_accepted o && o.fails
gives_no (write place value) = false

abbrev pub is_refused : Event → Bool
is_refused (call o) = not (is_accepted o)
is_refused (write place value) = false

-- a write to byte 0 with bit i set
abbrev pub clears : ℕ → Event → Bool
clears i (call o) = false
clears i (write place value) = eqb place 0 && bit value i

-- of an accepted open or close, whether it was an open
abbrev pub opens_by : Kind → List Bool
opens_by Open = true ∷ []
opens_by Widen = []
opens_by Feed = []
opens_by Close = false ∷ []

abbrev pub opens : Event → List Bool
opens (call o) = pick (is_accepted o) (opens_by o.kind) []
opens (write place value) = []

-- the number of a refused call
abbrev pub refusals : Event → List ℕ
refusals (call o) = pick (is_accepted o) [] (o.number ∷ [])
refusals (write place value) = []

-- what is written to a place
abbrev pub writes_to : ℕ → Event → List ℕ
writes_to i (call o) = []
writes_to i (write place value) = pick (eqb place i) (value ∷ []) []

-- the tick of the first no of a call that gave one
abbrev pub failures : Event → List ℕ
failures (call o) = pick (is_accepted o && o.fails) (o.tick ∷ []) []
failures (write place value) = []

-- ---- the registers, by all events from the start on
-- the events since bit i of the status was last cleared
abbrev pub since : ℕ → List Event → List Event
since i es = after_last (clears i) es

abbrev pub status_by : List Event → Flags
status_by es = record {
  running = last_or false (concat_map opens es);
  ready = some gives_verdict (since 1 es);
  failed = some gives_no (since 2 es);
  refused = some is_refused (since 3 es);
}

abbrev pub enable_by : List Event → Flags
enable_by es = flags_from (last_or 0 (concat_map (writes_to 1) es))

abbrev pub number_by : List Event → ℕ
number_by es = last_or 0 (concat_map refusals es)

-- the tick of the first no since bit 2 was last cleared: since then it was clear up to this no
abbrev pub first_by : List Event → ℕ
first_by es = first_or 0 (concat_map failures (since 2 es))

unfoldable pub bytes_by : List Event → List ℕ
bytes_by es = bytes_of (record { status = status_by es; enable = enable_by es; number = number_by es; first = eight_bytes (first_by es) })

-- ---- what the calls leave, event by event
abbrev pub step : List ℕ → Event → List ℕ
step b (call o) = after_call o b
step b (write place value) = after_write place value b

-- ---- what is claimed of every list of events
-- the number in 8 bytes from place 4 on
abbrev pub first_in : List ℕ → ℕ
first_in b =
    get_or b 4 0 + 256 * get_or b 5 0 + 65536 * get_or b 6 0 + 16777216 * get_or b 7 0
    + 4294967296 * get_or b 8 0 + 1099511627776 * get_or b 9 0 + 281474976710656 * get_or b 10 0 + 72057594037927936 * get_or b 11 0

pub record ByHistory : Type 0 where
  -- all start at 0
  pub start : bytes_by [] ≡ zeros
  -- every list leaves the bytes that the definition gives; so does one event more
  pub whole : (es : List Event) → foldl step zeros es ≡ bytes_by es
  pub next : (es : List Event) (e : Event) → step (bytes_by es) e ≡ bytes_by (es ++ (e ∷ []))
  -- byte 1 is the low four bits last written to it
  pub enable : (es : List Event) → get_or (bytes_by es) 1 0 ≡ last_or 0 (concat_map (writes_to 1) es) % 16
  -- byte 2 is 1 exactly when status and enable share a set bit, and otherwise 0
  pub interrupt : (es : List Event) → (get_or (bytes_by es) 2 0 ≡ 1) ↔ (share (status_by es) (enable_by es) ≡ true)
  pub silent : (es : List Event) → (get_or (bytes_by es) 2 0 ≡ 0) ↔ (share (status_by es) (enable_by es) ≡ false)
  -- bytes 4 to 11 are 0 while bit 2 is clear; where it was clear before a call, and set from then on, they hold the tick of its first no
  pub none : (es : List Event) → (status_by es).failed ≡ false → first_by es ≡ 0
  pub first_no : (before later : List Event) (o : Outcome) → (status_by before).failed ≡ false
      → ((j : ℕ) → (status_by (before ++ (call o ∷ []) ++ take j later)).failed ≡ true)
      → first_by (before ++ (call o ∷ []) ++ later) ≡ o.tick
  pub first_bytes : (es : List Event) → first_by es < 18446744073709551616 → first_in (bytes_by es) ≡ first_by es
