-- Lists of calls as their contracts were before A5, ended by the second close (A5). Such a list is a `ListBy oldDelay`: what it is fed and
-- how it is widened are by the delay before A5, and so is its close, whose effect is that of the second close, `closingOld`.
use Rattle.std.specs.Prelude.{ℕ, ◌≤◌, ◌<◌, ◌≡◌, Bool, true, false, List, ◌++◌, length, get_or}
use Rattle.mltl.specs.Mltl.{delay, old_delay}
use Rattle.acts.specs.World.{Width, wide}
use Rattle.acts.specs.Claim.{Claim}
use Rattle.table.specs.Nodes.{watched_formula}
use Rattle.session.specs.Session.{opening_by, opening, closing_old}
use Rattle.mission.specs.Calls.{AnySession, widen, close, effect_by, Call, MeetsBy, Meets, number_of, states_fed, verdicts_given, Calls}
use Rattle.mission.specs.Mission.{StartBy, Start, opened_as, start_delay, verdict_of, ListBy, ThirdDemandBy}

-- the same rule of the same book or text, whatever was made of it in simplifying
pub record SameRule (old : StartBy old_delay) (new : Start) : Type 0 where
  pub source : old.source ≡ new.source
  pub rule : old.rule ≡ new.rule

-- the trace that a list is fed: it begins with the states fed, and is these alone where the list was closed
pub record TraceOf (ended : Bool) (cs : List Call) (trace : List ℕ) : Type 0 where
  pub later : List ℕ
  pub whole : trace ≡ states_fed cs ++ later
  pub all : ended ≡ true → trace ≡ states_fed cs

pub record SecondClose : Type 0 where
  -- the third demand for such lists: the same theorem by the delay before A5
  pub demand : ThirdDemandBy old_delay
  -- a close of such a list is the second close
  pub closes : (s : AnySession) (h x o : List ℕ) → effect_by old_delay close s h x o ≡ closing_old s.base h x o
  -- a narrow session of such a list is widened by the call as it is: accepted, with the effect that the call had
  pub widens : (m : StartBy old_delay) (width : Width) (cs : List Call) (s : AnySession) (h : List ℕ) → ListBy old_delay m width cs s h false
      → (c : Call) → c.act ≡ widen → c.session ≡ s → Meets c → (number_of c ≡ 0) × MeetsBy old_delay c
  -- and where it is refused, the call was refused too
  pub widens_not : (c : Call) → c.act ≡ widen → Meets c → (number_of c ≡ 0 → ⊥) → MeetsBy old_delay c
  -- the session that it hands back is the one that open gives now, and what holds of every list of calls as they are now holds of those on it
  pub anew : (m : StartBy old_delay) → opening m.simplified.table m.rule ≡ opening_by old_delay m.simplified.table m.rule
  pub anew_claim : (m : StartBy old_delay) (start : List ℕ) (cs : List Call) (s : AnySession) (h : List ℕ) (ended : Bool) → Calls (opened_as wide m) start cs s h ended
      → Claim (verdict_of m) (delay (watched_formula m.simplified.table m.rule)) start ended h (states_fed cs) (verdicts_given cs)
  -- a list whose rule has one and the same delay may also go on: the calls on its session are what they were
  pub goes_on : (m : StartBy old_delay) → start_delay m ≡ delay (watched_formula m.simplified.table m.rule)
      → (width : Width) (cs : List Call) (s : AnySession) (h : List ℕ) (ended : Bool) → ListBy old_delay m width cs s h ended
      → (c : Call) → c.session ≡ s → Meets c → MeetsBy old_delay c
  -- no verdict changes: fed the same states and closed, both lists gave the same verdicts
  pub same_verdicts : (m : StartBy old_delay) (m' : Start) → SameRule m m' → (width width' : Width) (cs cs' : List Call) (s s' : AnySession) (h h' : List ℕ)
      → ListBy old_delay m width cs s h true → ListBy delay m' width' cs' s' h' true → states_fed cs ≡ states_fed cs' → verdicts_given cs ≡ verdicts_given cs'
  -- at any time: a verdict that both gave on one trace is the same
  pub same_verdict : (m : StartBy old_delay) (m' : Start) → SameRule m m' → (width width' : Width) (cs cs' : List Call) (s s' : AnySession) (h h' : List ℕ) (ended ended' : Bool)
      → ListBy old_delay m width cs s h ended → ListBy delay m' width' cs' s' h' ended' → (trace : List ℕ) → TraceOf ended cs trace → TraceOf ended' cs' trace
      → (t : ℕ) → t < length (verdicts_given cs) → t < length (verdicts_given cs') → get_or (verdicts_given cs) t false ≡ get_or (verdicts_given cs') t false
  -- and none comes later: fed the same states over one table, the list by the delay gave no fewer
  pub no_later : (m : StartBy old_delay) (m' : Start) → m.simplified.table ≡ m'.simplified.table → m.rule ≡ m'.rule
      → (width width' : Width) (cs cs' : List Call) (s s' : AnySession) (h h' : List ℕ)
      → ListBy old_delay m width cs s h false → ListBy delay m' width' cs' s' h' false → states_fed cs ≡ states_fed cs'
      → length (verdicts_given cs) ≤ length (verdicts_given cs')
