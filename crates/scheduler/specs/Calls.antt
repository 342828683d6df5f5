-- Lists of the scheduler's calls over one table (A9).
use Rattle.std.specs.Prelude.{ℕ, ◌+◌, ◌≡◌, Bool, true, false, ◌&&◌, List, [], ◌∷◌, ◌++◌, length, eqb}
use Rattle.limits.specs.Limits.{history_words, waiting_words}
use Rattle.lists.specs.Choice.{Row, pick}
use Rattle.lists.specs.Sequence.{ticks}
use Rattle.lists.specs.Bits.{bit_at}
use Rattle.table.specs.declared.Table.{Table}
use Rattle.records.specs.declared.Record.{Record}
use Rattle.records.specs.Records.{record_at}
use Rattle.scheduler.specs.Rotation.{waits_at, next_waiting}
use Rattle.scheduler.specs.Scheduler.{part_of, block_of, unfit, leave_rows, turn_rows, close_rows, leave_effect, turn_effect, close_effect}

-- ---- calls
-- what lasts from call to call: the list, and the buffers of history and of waiting states
pub record State : Type 0 where
  pub records : List Record
  pub history : List ℕ
  pub waiting : List ℕ

abbrev pub record_of : State → ℕ → Record
record_of st i = record_at st.records i

-- the words of record i
abbrev pub history_of : State → ℕ → List ℕ
history_of st i = part_of history_words i st.history

abbrev pub waiting_of : State → ℕ → List ℕ
waiting_of st i = part_of waiting_words i st.waiting

-- the block that waits with it
abbrev pub block_at : State → ℕ → List ℕ
block_at st i = block_of (record_of st i) i st.waiting

-- a block is left with a record; a turn is given a place; a record is closed
pub data Act : Type 0 where
  leave : ℕ → List ℕ → Act
  turn : ℕ → Act
  close : ℕ → Act

-- what a call answers and leaves; scratch and out are its own, and leaving a block is lent none
pub record Effect : Type 0 where
  pub number : ℕ
  pub served : Bool
  pub place : ℕ
  pub count : ℕ
  pub state : State
  pub scratch : List ℕ
  pub out : List ℕ

module _ (t : Table) where
  -- what the contract of its function says
  abbrev pub effect_of : Act → State → List ℕ → List ℕ → Effect
  effect_of (leave i block) st x o =
      let e = leave_effect t st.records i block st.waiting in
      record {
        number = e.number;
        served = false;
        place = 0;
        count = 0;
        state = record { records = e.records; history = st.history; waiting = e.waiting };
        scratch = x;
        out = o;
      }
  effect_of (turn from) st x o =
      let e = turn_effect t st.records from st.history st.waiting x o in
      record {
        number = e.number;
        served = e.served;
        place = e.place;
        count = e.count;
        state = record { records = e.records; history = e.history; waiting = st.waiting };
        scratch = e.scratch;
        out = e.out;
      }
  effect_of (close i) st x o =
      let e = close_effect t st.records i st.history x o in
      record {
        number = e.number;
        served = false;
        place = 0;
        count = e.count;
        state = record { records = e.records; history = st.history; waiting = st.waiting };
        scratch = e.scratch;
        out = e.out;
      }

  -- its rows of refusals
  abbrev pub rows_of : Act → State → List ℕ → List ℕ → List Row
  rows_of (leave i block) st x o = leave_rows (unfit t st.records) (length st.records) (record_of st i) i (length block) (length st.waiting)
  rows_of (turn from) st x o =
      turn_rows (unfit t st.records) (length st.records) (record_of st (next_waiting st.records from)) (length st.history) (length st.waiting) (length x) (length o)
  rows_of (close i) st x o = close_rows (unfit t st.records) (length st.records) (record_of st i) i (length st.history) (length x) (length o)

-- what a call was given, and its effect
pub record Call : Type 0 where
  pub act : Act
  pub state : State
  pub scratch : List ℕ
  pub out : List ℕ
  pub effect : Effect

abbrev pub Meets : Table → Call → Type 0
Meets t c = c.effect ≡ effect_of t c.act c.state c.scratch c.out

abbrev pub number_of : Call → ℕ
number_of c = c.effect.number

abbrev pub is_accepted : Call → Bool
is_accepted c = eqb (number_of c) 0

-- ---- lists of calls: an accepted call is given the state that the last accepted one left; a refused one may be given any, and the list's stays
pub data Calls (t : Table) (start : State) : List Call → State → Type 0 where
  begin : Calls t start [] start
  accepted : {cs : List Call} (c : Call) → Calls t start cs c.state → Meets t c → number_of c ≡ 0
      → Calls t start (cs ++ (c ∷ [])) c.effect.state
  refused : {cs : List Call} {st : State} (c : Call) → Calls t start cs st → Meets t c → (number_of c ≡ 0 → ⊥)
      → Calls t start (cs ++ (c ∷ [])) st

-- ---- turns
-- 1 for an accepted turn
abbrev pub turns_by : Act → ℕ
turns_by (leave i block) = 0
turns_by (turn from) = 1
turns_by (close i) = 0

abbrev pub turns_of : Call → ℕ
turns_of c = pick (is_accepted c) (turns_by c.act) 0

-- the number of accepted turns
abbrev pub turns : List Call → ℕ
turns [] = 0
turns (c ∷ cs) = turns_of c + turns cs

-- the place that an accepted turn gave back, and otherwise the place before
abbrev pub place_by : Act → ℕ → ℕ → ℕ
place_by (leave i block) given before = before
place_by (turn from) given before = given
place_by (close i) given before = before

abbrev pub place_after : ℕ → Call → ℕ
place_after p c = pick (is_accepted c) (place_by c.act c.effect.place p) p

-- an accepted turn was given the place p
abbrev pub Takes : ℕ → Act → Type 0
Takes p (leave i block) = Unit {0}
Takes p (turn from) = from ≡ p
Takes p (close i) = Unit {0}

-- each accepted turn was given the place that the last one gave back, the first of them the place p
abbrev pub InTurn : ℕ → List Call → Type 0
InTurn p [] = Unit {0}
InTurn p (c ∷ cs) = (number_of c ≡ 0 → Takes p c.act) × InTurn (place_after p c) cs

-- ---- what the calls have of record i
-- the turn served it
abbrev pub serves : ℕ → Call → Bool
serves i c = c.effect.served && eqb c.effect.place i

-- the call left a block with it, and was accepted; closed it, and was accepted
abbrev pub leaves_to : ℕ → Act → Bool
leaves_to i (leave j block) = eqb j i
leaves_to i (turn from) = false
leaves_to i (close j) = false

abbrev pub closes_at : ℕ → Act → Bool
closes_at i (leave j block) = false
closes_at i (turn from) = false
closes_at i (close j) = eqb j i

abbrev pub leaves : ℕ → Call → Bool
leaves i c = is_accepted c && leaves_to i c.act

abbrev pub closes : ℕ → Call → Bool
closes i c = is_accepted c && closes_at i c.act

-- the block that was left, and the one that was served
abbrev pub block_left : Act → List ℕ
block_left (leave j block) = block
block_left (turn from) = []
block_left (close j) = []

abbrev pub left_of : ℕ → Call → List (List ℕ)
left_of i c = pick (leaves i c) (block_left c.act ∷ []) []

abbrev pub served_of : ℕ → Call → List (List ℕ)
served_of i c = pick (serves i c) (block_at c.state i ∷ []) []

-- the verdicts of a turn that served it, or of a close: verdict k is bit k mod 64 of word k/64 of the call's own out
abbrev pub verdicts_of : ℕ → Call → List Bool
verdicts_of i c = pick (serves i c) (ticks (bit_at c.effect.out) c.effect.count) (pick (closes i c) (ticks (bit_at c.effect.out) c.effect.count) [])

-- the block that still waits
abbrev pub pending : ℕ → State → List (List ℕ)
pending i st = pick (waits_at st.records i) (block_at st i ∷ []) []

-- record i is served in one of the calls
pub data Served (i : ℕ) : List Call → Type 0 where
  here : {c : Call} {cs : List Call} → serves i c ≡ true → Served i (c ∷ cs)
  later : {c : Call} {cs : List Call} → Served i cs → Served i (c ∷ cs)

-- no call wrote the record, or a word of its parts
abbrev pub Untouched : ℕ → List Call → Type 0
Untouched i [] = Unit {0}
Untouched i (c ∷ cs) = ((serves i c ≡ false) × (leaves i c ≡ false) × (closes i c ≡ false)) × Untouched i cs
