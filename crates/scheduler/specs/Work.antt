-- What the calls answer for what one pass over the list has found, what the list gets, and what they leave in the buffers. That this is what
-- specs/Scheduler says of the list is whole_left, whole_turned and whole_closed in proofs/Whole.
use Rattle.std.specs.Prelude.{ℕ, ◌+◌, ◌*◌, ◌≤◌, ◌<◌, ◌≡◌, Bool, true, false, ◌||◌, ◌&&◌, List, length, ltb, leb, eqb, Option, Some, None, Result, Ok, Err}
use Rattle.limits.specs.Limits.{max_list, max_block, history_words, waiting_words}
use Rattle.refusals.specs.Numbers.{UNSOUND}
use Rattle.refusals.specs.Refusals.{number_of}
use Rattle.refusals.specs.declared.Refusal.{Refusal}
use Rattle.lists.specs.Choice.{pick, first}
use Rattle.table.specs.declared.Table.{Table}
use Rattle.table.specs.Sound.{is_sound}
use Rattle.verdict.specs.Verdict.{cleared}
use Rattle.session.specs.Session.{Step, Answer, Effect, StepEffect, step_effect, feeding, closing}
use Rattle.records.specs.declared.Record.{Record}
use Rattle.records.specs.declared.Summary.{Summary}
use Rattle.records.specs.declared.Change.{Change}
use Rattle.records.specs.Records.{record_at}
use Rattle.scheduler.specs.declared.Served.{Served}
use Rattle.scheduler.specs.declared.Closed.{Closed}
use Rattle.scheduler.specs.Rotation.{waits_at, next}
use Rattle.scheduler.specs.Scheduler.{part_of, pasted, session_of, block_of, leave_rows, turn_rows, close_rows}

-- the record to serve among n, of which the first eight are given; n if there are more
abbrev pub next_place : List Record → ℕ → ℕ → ℕ
next_place rs n from = pick (ltb max_list n) n (next (waits_at rs) n from)

-- a record has a rule number that is too high, or over 1,024 states waiting
abbrev pub misfits : ℕ → Summary → Bool
misfits rules s = (ltb 0 s.count && leb rules s.highest) || ltb max_block s.longest

-- a table that is not sound is told before any other number
abbrev pub told_of : Table → ℕ → ℕ
told_of t n = pick (is_sound t) n UNSOUND

-- no record changes: n is no place among n records
abbrev pub unchanged : ℕ → Change
unchanged n = record { place = n; seen = 0; waiting = 0 }

-- ---- leaving a block: the number of a refusal or 0, and what the list gets
pub record Leaving : Type 0 where
  pub number : ℕ
  pub change : Change

-- what an answer of the code over n records says
abbrev pub leaving_told : ℕ → Result Change Refusal → Leaving
leaving_told n (Ok c) = record { number = 0; change = c }
leaving_told n (Err e) = record { number = number_of e; change = unchanged n }

pub record Stored : Type 0 where
  pub done : Leaving
  pub waiting : List ℕ

abbrev pub leave_number_in : Table → Summary → ℕ → ℕ → ℕ → ℕ
leave_number_in t s i k w = told_of t (first (leave_rows (misfits t.rule_count s) s.count (record_at s.records i) i k w))

unfoldable pub leave_work : Table → Summary → ℕ → List ℕ → List ℕ → Stored
leave_work t s i block w =
    let n = leave_number_in t s i (length block) (length w) in
    pick (eqb n 0)
    (record { done = record { number = 0; change = record { place = i; seen = (record_at s.records i).seen; waiting = length block } }; waiting = pasted (waiting_words * i) block w })
    (record { done = record { number = n; change = unchanged s.count }; waiting = w })

-- ---- a turn: the number of a refusal or 0, whether a record was served, the place to hand to the next turn, the count of verdicts, and what
-- the list gets
pub record Turning : Type 0 where
  pub number : ℕ
  pub served : Bool
  pub place : ℕ
  pub count : ℕ
  pub change : Change

pub record Serving : Type 0 where
  pub done : Turning
  pub history : List ℕ
  pub scratch : List ℕ
  pub out : List ℕ

abbrev pub not_served : ℕ → ℕ → ℕ → Turning
not_served number from n = record { number = number; served = false; place = from; count = 0; change = unchanged n }

-- what an answer of the code to a turn from a place over n records says
abbrev pub turning_told : ℕ → ℕ → Result (Option Served) Refusal → Turning
turning_told from n (Ok (Some k)) = record { number = 0; served = true; place = k.place; count = k.count; change = k.change }
turning_told from n (Ok None) = not_served 0 from n
turning_told from n (Err e) = not_served (number_of e) from n

-- the session of record r, at place p, is fed the block that waits
abbrev pub fed_in : Table → Record → ℕ → List ℕ → List ℕ → List ℕ → List ℕ → StepEffect
fed_in t r p h w x o =
    let e = step_effect (feeding (session_of t r) (block_of r p w) (part_of history_words p h) x o) in
    record { step = e.step; history = pasted (history_words * p) e.history h; scratch = e.scratch; out = e.out }

-- what a turn answers by what the session has answered
abbrev pub served_by : Step → Record → ℕ → ℕ → ℕ → Turning
served_by a r p from n =
    pick (eqb a.number 0)
    (record { number = 0; served = true; place = p; count = a.count; change = record { place = p; seen = r.seen + r.waiting; waiting = 0 } })
    (not_served a.number from n)

abbrev pub serve_work : Table → Record → ℕ → ℕ → ℕ → List ℕ → List ℕ → List ℕ → List ℕ → Serving
serve_work t r p from n h w x o =
    let e = fed_in t r p h w x o in
    record { done = served_by e.step r p from n; history = e.history; scratch = e.scratch; out = e.out }

-- nobody waits
abbrev pub idle_work : Table → ℕ → ℕ → List ℕ → List ℕ → List ℕ → Serving
idle_work t from n h x o = record { done = not_served (told_of t 0) from n; history = h; scratch = pick (is_sound t) (cleared x) x; out = o }

unfoldable pub turn_work : Table → Summary → ℕ → List ℕ → List ℕ → List ℕ → List ℕ → Serving
turn_work t s from h w x o =
    let p = next_place s.records s.count from in
    let r = record_at s.records p in
    let n = first (turn_rows (misfits t.rule_count s) s.count r (length h) (length w) (length x) (length o)) in
    pick (eqb n 0)
    (pick (ltb p s.count) (serve_work t r p from s.count h w x o) (idle_work t from s.count h x o))
    (record { done = not_served (told_of t n) from s.count; history = h; scratch = x; out = o })

-- ---- a close: the number of a refusal or 0, the count of verdicts, and what the list gets
pub record Closing : Type 0 where
  pub number : ℕ
  pub count : ℕ
  pub change : Change

pub record Ending : Type 0 where
  pub done : Closing
  pub scratch : List ℕ
  pub out : List ℕ

abbrev pub not_closed : ℕ → ℕ → Closing
not_closed number n = record { number = number; count = 0; change = unchanged n }

-- what an answer of the code over n records says
abbrev pub closing_told : ℕ → Result Closed Refusal → Closing
closing_told n (Ok k) = record { number = 0; count = k.count; change = k.change }
closing_told n (Err e) = not_closed (number_of e) n

-- the session of record r, at place i, is closed
abbrev pub closed_in : Table → Record → ℕ → List ℕ → List ℕ → List ℕ → Effect
closed_in t r i h x o = closing (session_of t r) (part_of history_words i h) x o

abbrev pub closed_by : Answer → ℕ → ℕ → Closing
closed_by a i n =
    pick (eqb a.number 0)
    (record { number = 0; count = a.count; change = record { place = i; seen = a.session.seen; waiting = 0 } })
    (not_closed a.number n)

abbrev pub finish_work : Table → Record → ℕ → ℕ → List ℕ → List ℕ → List ℕ → Ending
finish_work t r i n h x o = let e = closed_in t r i h x o in record { done = closed_by e.answer i n; scratch = e.scratch; out = e.out }

unfoldable pub close_work : Table → Summary → ℕ → List ℕ → List ℕ → List ℕ → Ending
close_work t s i h x o =
    let r = record_at s.records i in
    let n = first (close_rows (misfits t.rule_count s) s.count r i (length h) (length x) (length o)) in
    pick (eqb n 0) (finish_work t r i s.count h x o) (record { done = not_closed (told_of t n) s.count; scratch = x; out = o })

-- ---- what every answer of a turn is: a place that was served is below eight, and the count small
pub record Told (k : Turning) : Type 0 where
  pub place : k.served ≡ true → k.place < max_list
  pub count : k.count ≤ max_block

-- ---- what the private functions require: the words of place p stand in the buffers
pub record Servable (p : ℕ) (history waiting : List ℕ) : Type 0 where
  pub place : p < max_list
  pub history_fits : history_words * p + history_words ≤ length history
  pub waiting_fits : waiting_words * p + waiting_words ≤ length waiting

pub record Endable (i : ℕ) (history : List ℕ) : Type 0 where
  pub place : i < max_list
  pub history_fits : history_words * i + history_words ≤ length history
