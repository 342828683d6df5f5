-- The scheduler's calls in C: the answers as one number each, beside the list and the buffers (A9).
use Rattle.std.specs.Prelude.{ℕ, ◌+◌, ◌*◌, Bool, List}
use Rattle.lists.specs.Choice.{pick}
use Rattle.lists.specs.Bits.{digit}
use Rattle.records.specs.declared.Record.{Record}
use Rattle.scheduler.specs.Scheduler.{Left, Turned, Closed}
use Rattle.scheduler.specs.Work.{Turning, Stored, Serving, Ending}
use Rattle.shell.specs.declared.Numbered.{Numbered}
use Rattle.shell.specs.declared.Coded.{Coded}

-- ---- the answers
-- the number of a refusal; where a record was served, 256, and 65536 times its place; above them the count of verdicts
abbrev pub turn_answer : ℕ → Bool → ℕ → ℕ → ℕ
turn_answer number served place count = number + 256 * digit served + 65536 * pick served place 0 + 4294967296 * count

-- the number of a refusal and, above it, the count of verdicts
abbrev pub close_answer : ℕ → ℕ → ℕ
close_answer number count = number + 4294967296 * count

-- ---- what a call answers and leaves
pub record LeaveCall : Type 0 where
  pub answer : ℕ
  pub records : List Record
  pub waiting : List ℕ

abbrev pub leave_call : Left → LeaveCall
leave_call e = record { answer = e.number; records = e.records; waiting = e.waiting }

pub record TurnCall : Type 0 where
  pub answer : ℕ
  pub records : List Record
  pub history : List ℕ
  pub scratch : List ℕ
  pub out : List ℕ

abbrev pub turn_call : Turned → TurnCall
turn_call e = record {
  answer = turn_answer e.number e.served e.place e.count;
  records = e.records;
  history = e.history;
  scratch = e.scratch;
  out = e.out;
}

pub record CloseCall : Type 0 where
  pub answer : ℕ
  pub records : List Record
  pub scratch : List ℕ
  pub out : List ℕ

abbrev pub close_call : Closed → CloseCall
close_call e = record { answer = close_answer e.number e.count; records = e.records; scratch = e.scratch; out = e.out }

-- ---- the same for what one pass over the list has found: the answer, and what the list gets
pub record LeaveIn : Type 0 where
  pub done : Numbered
  pub waiting : List ℕ

abbrev pub leave_in : Stored → LeaveIn
leave_in v = record { done = record { number = v.done.number; change = v.done.change }; waiting = v.waiting }

abbrev pub turn_code : Turning → ℕ
turn_code k = turn_answer k.number k.served k.place k.count

pub record TurnIn : Type 0 where
  pub done : Coded
  pub history : List ℕ
  pub scratch : List ℕ
  pub out : List ℕ

abbrev pub turn_in : Serving → TurnIn
turn_in v = record { done = record { code = turn_code v.done; change = v.done.change }; history = v.history; scratch = v.scratch; out = v.out }

pub record CloseIn : Type 0 where
  pub done : Coded
  pub scratch : List ℕ
  pub out : List ℕ

abbrev pub close_in : Ending → CloseIn
close_in v = record { done = record { code = close_answer v.done.number v.done.count; change = v.done.change }; scratch = v.scratch; out = v.out }
