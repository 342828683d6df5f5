-- What is claimed of every list of the scheduler's calls (A9). That a record is a session of its own is in crate mission.
use Rattle.std.specs.Prelude.{ℕ, ◌*◌, ◌<◌, ◌≤◌, ◌≡◌, ◌↔◌, true, List, ◌++◌, length, take, drop}
use Rattle.limits.specs.Limits.{history_words, waiting_words}
use Rattle.lists.specs.Choice.{some_fits}
use Rattle.lists.specs.Sequence.{concat_map}
use Rattle.table.specs.declared.Table.{Table}
use Rattle.scheduler.specs.Rotation.{waits_at}
use Rattle.scheduler.specs.Calls.{State, record_of, history_of, waiting_of, Call, Meets, number_of, rows_of, Calls, turns, InTurn, Served, left_of, served_of, pending, Untouched}

-- a list of calls, cut after its first calls at the state that they have come to
pub record Split (t : Table) (start : State) (before later : List Call) (st : State) : Type 0 where
  pub middle : State
  pub first : Calls t start before middle
  pub second : Calls t middle later st

-- record i and its words are as they were
pub record Same (i : ℕ) (st st' : State) : Type 0 where
  pub values : record_of st' i ≡ record_of st i
  pub history : history_of st' i ≡ history_of st i
  pub waiting : waiting_of st' i ≡ waiting_of st i

-- so are the number of records, and the words that belong to none
pub record Beyond (st st' : State) : Type 0 where
  pub count : length st'.records ≡ length st.records
  pub history : drop (history_words * length st.records) st'.history ≡ drop (history_words * length st.records) st.history
  pub waiting : drop (waiting_words * length st.records) st'.waiting ≡ drop (waiting_words * length st.records) st.waiting

pub record Claim (t : Table) : Type 0 where
  -- every list of calls can be cut at any call
  pub cut : (start : State) (cs : List Call) (st : State) → Calls t start cs st → (j : ℕ) → Split t start (take j cs) (drop j cs) st
  -- whoever waits is served within as many accepted turns as there are records, whoever else leaves blocks meanwhile, if each turn gets the
  -- place that the last one gave back; the first may get any
  pub fair : (start : State) (cs : List Call) (st : State) → Calls t start cs st → (r p : ℕ) → InTurn p cs → r < length start.records
      → waits_at start.records r ≡ true → length start.records ≤ turns cs → Served r cs
  -- with nothing waiting at the start, the blocks left are the blocks served and what still waits, in order
  pub in_order : (start : State) (cs : List Call) (st : State) → Calls t start cs st → (i : ℕ) → (record_of start i).waiting ≡ 0
      → concat_map (left_of i) cs ≡ concat_map (served_of i) cs ++ pending i st
  -- what nobody writes stays
  pub untouched : (start : State) (cs : List Call) (st : State) → Calls t start cs st → (i : ℕ) → Untouched i cs → Same i start st
  pub beyond : (start : State) (cs : List Call) (st : State) → Calls t start cs st → Beyond start st
  -- a call is refused exactly where a row fits it
  pub calls_refused : (c : Call) → Meets t c → (¬ (number_of c ≡ 0)) ↔ (some_fits (rows_of t c.act c.state c.scratch c.out) ≡ true)
