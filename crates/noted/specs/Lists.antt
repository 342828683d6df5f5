-- Lists of session calls with the registers handed to them, on any sessions, and writes among them (A10).
use Rattle.std.specs.Prelude.{ℕ, ◌≡◌, Bool}
use mathlib.Core.List.{List, map, foldl}
use Rattle.mltl.specs.Mltl.{delay}
use Rattle.table.specs.declared.Table.{Table}
use Rattle.table.specs.Nodes.{wait_of}
use Rattle.session.specs.declared.Session.{Session}
use Rattle.session.specs.Session.{opening, feeding, closing_by}
use Rattle.narrow.specs.declared.NarrowSession.{NarrowSession}
use Rattle.narrow.specs.Narrow.{wide_of, widening}
use Rattle.registers.specs.declared.Outcome.{Outcome}
use Rattle.registers.specs.Registers.{zeros, after_call, after_write}
use Rattle.registers.specs.History.{Event, call, write, bytes_by}
use Rattle.noted.specs.Noted.{open_outcome, widen_outcome, feed_outcome, close_outcome}

-- what a session call is given: of a feed the block, history, scratch and out; of a close whether it is the one by the delay before A5,
-- and the buffers
pub data SessionCall : Type 0 where
  opens : Table → ℕ → SessionCall
  widens : NarrowSession → SessionCall
  feeds : Session → (block history scratch out : List ℕ) → SessionCall
  closes : Bool → Session → (history scratch out : List ℕ) → SessionCall

-- what it comes to
abbrev pub outcome_by : SessionCall → Outcome
outcome_by (opens t rule) = open_outcome (opening t rule)
outcome_by (widens n) = widen_outcome (widening (wide_of n))
outcome_by (feeds s block h x o) = feed_outcome delay s (feeding s block h x o)
outcome_by (closes old s h x o) = close_outcome (wait_of old) s (closing_by (wait_of old) s h x o)

pub data Act : Type 0 where
  calls : SessionCall → Act
  writes : ℕ → ℕ → Act

abbrev pub event_of : Act → Event
event_of (calls c) = call (outcome_by c)
event_of (writes place value) = write place value

-- the registers after it, as the contract of its function says
abbrev pub registers_after : List ℕ → Act → List ℕ
registers_after b (calls c) = after_call (outcome_by c) b
registers_after b (writes place value) = after_write place value b

-- every list leaves the bytes that the definition by history gives
abbrev pub EveryList : Type 0
EveryList = (acts : List Act) → foldl registers_after zeros acts ≡ bytes_by (map event_of acts)
