-- The scheduler for C programs: they hold the table as bytes and get an answer as one number. A list of calls of juntreak_leave, juntreak_turn
-- and juntreak_close_record over the bytes of one table is a list of the scheduler's calls, so that what is claimed of those holds of it (A9).
use Rattle.std.specs.Prelude.{ℕ, ◌/◌, ◌%◌, ◌≡◌, Bool, false, List, [], ◌∷◌, ◌++◌, map, eqb}
use Rattle.lists.specs.Choice.{pick}
use Rattle.scheduler.specs.Scheduler.{leave_effect, turn_effect, close_effect}
use Rattle.scheduler.specs.Calls.{State, Act, leave, turn, close}
use Rattle.scheduler.specs.Calls as scheduler
use Rattle.table.specs.declared.Table.{Table}
use Rattle.flat.specs.Flat.{table_from}
use Rattle.shell.specs.Scheduler.{LeaveCall, leave_call, TurnCall, turn_call, CloseCall, close_call}

-- what a call was given and its answer, and what it left; of scratch and out, leaving a block is lent none
pub record Call : Type 0 where
  pub act : Act
  pub state : State
  pub scratch : List ℕ
  pub out : List ℕ
  pub answer : ℕ
  pub state' : State
  pub scratch' : List ℕ
  pub out' : List ℕ

-- what is not lent stays
pub record LeaveContract (t : Table) (i : ℕ) (block : List ℕ) (c : Call) : Type 0 where
  pub is : ◌≡◌ {A = LeaveCall} (record { answer = c.answer; records = c.state'.records; waiting = c.state'.waiting }) (leave_call (leave_effect t c.state.records i block c.state.waiting))
  pub history : c.state'.history ≡ c.state.history
  pub scratch : c.scratch' ≡ c.scratch
  pub out : c.out' ≡ c.out

pub record TurnContract (t : Table) (place : ℕ) (c : Call) : Type 0 where
  pub is : ◌≡◌ {A = TurnCall} (record { answer = c.answer; records = c.state'.records; history = c.state'.history; scratch = c.scratch'; out = c.out' })
      (turn_call (turn_effect t c.state.records place c.state.history c.state.waiting c.scratch c.out))
  pub waiting : c.state'.waiting ≡ c.state.waiting

pub record CloseContract (t : Table) (i : ℕ) (c : Call) : Type 0 where
  pub is : ◌≡◌ {A = CloseCall} (record { answer = c.answer; records = c.state'.records; scratch = c.scratch'; out = c.out' })
      (close_call (close_effect t c.state.records i c.state.history c.scratch c.out))
  pub history : c.state'.history ≡ c.state.history
  pub waiting : c.state'.waiting ≡ c.state.waiting

-- what the contract of its function says, over the table that the bytes hold
abbrev pub ContractOf : Table → Act → Call → Type 0
ContractOf t (leave i block) c = LeaveContract t i block c
ContractOf t (turn place) c = TurnContract t place c
ContractOf t (close i) c = CloseContract t i c

abbrev pub Contract : List ℕ → Call → Type 0
Contract table c = ContractOf (table_from table) c.act c

-- what the answer holds: the number, whether a record was served, the place to hand to the next turn, and the count of verdicts
abbrev pub told_number : Act → ℕ → ℕ
told_number (leave i block) answer = answer
told_number (turn place) answer = answer % 256
told_number (close i) answer = answer % 4294967296

abbrev pub told_served : Act → ℕ → Bool
told_served (leave i block) answer = false
told_served (turn place) answer = eqb (answer / 256 % 256) 1
told_served (close i) answer = false

abbrev pub told_place : Act → ℕ → ℕ
told_place (leave i block) answer = 0
told_place (turn place) answer = pick (told_served (turn place) answer) (answer / 65536 % 65536) place
told_place (close i) answer = 0

abbrev pub told_count : Act → ℕ → ℕ
told_count (leave i block) answer = 0
told_count (turn place) answer = answer / 4294967296
told_count (close i) answer = answer / 4294967296

-- the call as one of the scheduler's
abbrev pub as_call : Call → scheduler.Call
as_call c = record {
  act = c.act;
  state = c.state;
  scratch = c.scratch;
  out = c.out;
  effect = record {
    number = told_number c.act c.answer;
    served = told_served c.act c.answer;
    place = told_place c.act c.answer;
    count = told_count c.act c.answer;
    state = c.state';
    scratch = c.scratch';
    out = c.out';
  };
}

-- ---- lists of calls over the bytes of a table: an accepted call is given the state that the last accepted one left; a refused one may be
-- given any, and the list's stays
pub data Calls (table : List ℕ) (start : State) : List Call → State → Type 0 where
  begin : Calls table start [] start
  accepted : {cs : List Call} (c : Call) → Calls table start cs c.state → Contract table c → told_number c.act c.answer ≡ 0
      → Calls table start (cs ++ (c ∷ [])) c.state'
  refused : {cs : List Call} {st : State} (c : Call) → Calls table start cs st → Contract table c → (told_number c.act c.answer ≡ 0 → ⊥)
      → Calls table start (cs ++ (c ∷ [])) st

pub record ForeignScheduled : Type 0 where
  -- each call is one of the scheduler's
  pub meets : (table : List ℕ) (c : Call) → Contract table c → scheduler.Meets (table_from table) (as_call c)
  -- and each list a list of them
  pub lists : (table : List ℕ) (start : State) (cs : List Call) (st : State) → Calls table start cs st → scheduler.Calls (table_from table) start (map as_call cs) st
  -- a refused call leaves the list and every buffer as they were
  pub refused_same : (table : List ℕ) (c : Call) → Contract table c → (told_number c.act c.answer ≡ 0 → ⊥)
      → (c.state' ≡ c.state) × (c.scratch' ≡ c.scratch) × (c.out' ≡ c.out)
