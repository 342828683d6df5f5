-- Each record of the scheduler is a session of its own, opened on its rule and given the blocks served and the closes in the same order: the
-- third demand holds for it (A9).
use Rattle.std.specs.Prelude.{ℕ, ◌≡◌, Bool, true, false, List, [], ◌∷◌, ◌++◌}
use Rattle.lists.specs.Choice.{pick}
use Rattle.lists.specs.Sequence.{concat_map}
use Rattle.table.specs.declared.Table.{Table}
use Rattle.session.specs.Session.{opened}
use Rattle.scheduler.specs.Scheduler.{session_of}
use Rattle.scheduler.specs.Calls as scheduler
use Rattle.acts.specs.Claim.{Claim}
use Rattle.mission.specs.Calls.{AnySession, as_wide, Act, feed, close, effect_of, Call, Calls, states_fed, verdicts_given}
use Rattle.mission.specs.Mission.{Start, start_delay, verdict_of}

-- ---- the calls on the session of record i
module _ (t : Table) (i : ℕ) where
  -- record i as a session
  abbrev pub record_session : scheduler.State → AnySession
  record_session st = as_wide (session_of t (scheduler.record_of st i))

  -- what is done to it in a call of the scheduler
  abbrev pub own_call : Act → scheduler.Call → Call
  own_call a c = record {
    act = a;
    session = record_session c.state;
    history = scheduler.history_of c.state i;
    scratch = c.scratch;
    out = c.out;
    effect = effect_of a (record_session c.state) (scheduler.history_of c.state i) c.scratch c.out;
  }

  -- a turn that serves it feeds it the block that waits, and its close closes it
  abbrev pub own_calls_of : scheduler.Call → List Call
  own_calls_of c =
      pick (scheduler.serves i c) (own_call (feed (scheduler.block_at c.state i)) c ∷ [])
      (pick (scheduler.closes i c) (own_call close c ∷ []) [])

  abbrev pub own_calls : List scheduler.Call → List Call
  own_calls cs = concat_map own_calls_of cs

-- ---- lists of calls on a session that each close opens anew
-- the calls, cut at each close: every part but the last is a list that a close ended, and the next begins with the session as it was opened
pub data Reopened (first : AnySession) : List ℕ → List Call → AnySession → List ℕ → Type 0 where
  going : {start : List ℕ} {cs : List Call} {s : AnySession} {h : List ℕ} → Calls first start cs s h false → Reopened first start cs s h
  closed : {start : List ℕ} {cs ds : List Call} {s : AnySession} {h : List ℕ} {s' : AnySession} {h' : List ℕ}
      → Calls first start cs s h true → Reopened first h ds s' h' → Reopened first start (cs ++ ds) s' h'

-- what the third demand claims, of each part
pub data Claims (val : List ℕ → ℕ → Bool) (D : ℕ) : List ℕ → List Call → List ℕ → Type 0 where
  going : {start : List ℕ} {cs : List Call} {h : List ℕ} → Claim val D start false h (states_fed cs) (verdicts_given cs) → Claims val D start cs h
  closed : {start : List ℕ} (cs : List Call) {ds : List Call} {h h' : List ℕ}
      → Claim val D start true h (states_fed cs) (verdicts_given cs) → Claims val D h ds h' → Claims val D start (cs ++ ds) h'

-- ---- record i apart from the others
pub record Apart (t : Table) (i : ℕ) (start : scheduler.State) (cs : List scheduler.Call) (st : scheduler.State) : Type 0 where
  -- its calls are such a list, from the session that is opened on its rule, and come to the record's counts and words of history
  pub calls : Reopened (as_wide (opened t (scheduler.record_of start i).rule)) (scheduler.history_of start i) (own_calls t i cs) (record_session t i st) (scheduler.history_of st i)
  -- fed the blocks served, it gives the verdicts that the turns and the closes gave for the record
  pub states : states_fed (own_calls t i cs) ≡ concat_map (λ block. block) (concat_map (scheduler.served_of i) cs)
  pub verdicts : verdicts_given (own_calls t i cs) ≡ concat_map (scheduler.verdicts_of i) cs

pub record Scheduled : Type 0 where
  -- from a record that has seen nothing
  pub apart : (t : Table) (i : ℕ) (start : scheduler.State) (cs : List scheduler.Call) (st : scheduler.State) → scheduler.Calls t start cs st
      → (scheduler.record_of start i).seen ≡ 0 → Apart t i start cs st
  -- over a book or a text that was read, and simplified
  pub claim : (m : Start) (i : ℕ) (start : scheduler.State) (cs : List scheduler.Call) (st : scheduler.State) → scheduler.Calls m.simplified.table start cs st
      → (scheduler.record_of start i).seen ≡ 0 → (scheduler.record_of start i).rule ≡ m.rule → scheduler.history_of start i ≡ m.history
      → Claims (verdict_of m) (start_delay m) m.history (own_calls m.simplified.table i cs) (scheduler.history_of st i)
