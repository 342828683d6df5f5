-- The status registers for C programs: they hold a session as bytes, and get an answer as one number. A list of juntreak_feed_noted,
-- juntreak_close_noted, juntreak_close_old_noted and juntreak_widen_noted, of the same calls without registers, and of juntreak_register_write
-- among them, is such a list of crate mission (A10). `wait` is a measure of how many states a verdict waits for: the delay; and, for
-- juntreak_close_old_noted, the one before A5.
use Rattle.std.specs.Prelude.{ℕ, ◌≡◌, Bool, false, List, [], ◌∷◌, ◌++◌, map}
use Rattle.lists.specs.Choice.{pick}
use Rattle.mltl.specs.Mltl.{Formula, delay, old_delay}
use Rattle.session.specs.Session.{feeding_by, closing_by}
use Rattle.narrow.specs.Narrow.{widening_by}
use Rattle.flat.specs.Flat.{table_from}
use Rattle.registers.specs.declared.Outcome.{Outcome}
use Rattle.registers.specs.Registers.{after_call, after_write}
use Rattle.registers.specs.History.{Event, bytes_by}
use Rattle.noted.specs.Noted.{feed_outcome, close_outcome, widen_outcome}
use Rattle.acts.specs.World.{Width, narrow, limit}
use Rattle.acts.specs.Claim.{Claim}
use Rattle.mission.specs.Calls.{states_fed, verdicts_given}
use Rattle.mission.specs.Calls as mission
use Rattle.mission.specs.Mission.{opened_as}
use Rattle.mission.specs.Mission as missions
use Rattle.mission.specs.Noted.{outcome_by, events_in}
use Rattle.mission.specs.Noted as noted
use Rattle.foreign.specs.Demand.{held_in, Call, feed, close, widen, lent, ContractBy, answered_number, act_of, width_of, as_call, StartBy, start_delay, verdict_of}

-- ---- one call
-- what the contract of the call with registers says that it notes: beside it stands what that of the call without registers says
abbrev pub told_by : (Formula → ℕ) → Call → Outcome
told_by wait (feed width block l) =
    feed_outcome wait (held_in width l.session) (feeding_by wait (limit width) (held_in width l.session) block l.history l.scratch l.out)
told_by wait (close width l) = close_outcome wait (held_in width l.session) (closing_by wait (held_in width l.session) l.history l.scratch l.out)
told_by wait (widen old size l) = widen_outcome (widening_by wait (held_in narrow l.session))

-- ---- steps: a session call, and whether it was the one with registers; a write of a value to a place
pub data Step : Type 0 where
  call : Bool → Call → Step
  write : ℕ → ℕ → Step

-- as a step of crate mission
abbrev pub as_step : Step → noted.Step
as_step (call told c) = noted.call told (as_call c)
as_step (write place value) = noted.write place value

-- ---- lists
-- The steps, the width, the session's bytes and the history that they have come to, whether a close was accepted, and the registers, which
-- were `before` at the beginning.
module _ (wait : Formula → ℕ) where
  abbrev pub registers_after : Bool → Call → List ℕ → List ℕ
  registers_after told c r = pick told (after_call (told_by wait c) r) r

  pub data NotedBy (width : Width) (first start before : List ℕ) : List Step → Width → List ℕ → List ℕ → Bool → List ℕ → Type 0 where
    begin : NotedBy width first start before [] width first start false before
    accepted : {xs : List Step} {r : List ℕ} (told : Bool) (c : Call)
        → NotedBy width first start before xs (width_of c) (lent c).session (lent c).history false r → ContractBy wait c → answered_number c ≡ 0
        → NotedBy width first start before (xs ++ (call told c ∷ [])) (mission.width_after (act_of c) (width_of c)) (lent c).session' (lent c).history'
        (mission.ends (act_of c)) (registers_after told c r)
    refused : {xs : List Step} {width' : Width} {b h : List ℕ} {ended : Bool} {r : List ℕ} (told : Bool) (c : Call)
        → NotedBy width first start before xs width' b h ended r → ContractBy wait c → (answered_number c ≡ 0 → ⊥)
        → NotedBy width first start before (xs ++ (call told c ∷ [])) width' b h ended (registers_after told c r)
    written : {xs : List Step} {width' : Width} {b h : List ℕ} {ended : Bool} {r : List ℕ} (place value : ℕ)
        → NotedBy width first start before xs width' b h ended r
        → NotedBy width first start before (xs ++ (write place value ∷ [])) width' b h ended (after_write place value r)

  -- it is such a list of crate mission, from a start with the same source, table, rule and history
  pub record ListedNoted (m : StartBy wait) (width width' : Width) (before : List ℕ) (xs : List Step) (b h : List ℕ) (ended : Bool) (r : List ℕ) : Type 0 where
    pub start : missions.StartBy wait
    pub source : start.source ≡ m.source
    pub table : start.simplified.table ≡ table_from m.simple
    pub rule : start.rule ≡ m.rule
    pub history : start.history ≡ m.history
    pub steps : noted.NotedBy wait (opened_as width start) m.history before (map as_step xs) (record { base = held_in width' b; width = width' }) h ended r

-- ---- what is claimed of every such list
pub record ForeignNotedBy (wait : Formula → ℕ) : Type 0 where
  -- what a call with registers notes is the outcome of the call of crate mission
  pub tells : (c : Call) → ContractBy wait c → told_by wait c ≡ outcome_by wait (as_call c)
  pub listed : (m : StartBy wait) (width width' : Width) (before : List ℕ) (xs : List Step) (b h : List ℕ) (ended : Bool) (r : List ℕ)
      → NotedBy wait width m.session m.history before xs width' b h ended r → ListedNoted wait m width width' before xs b h ended r
  -- the bytes are those that the definition by history gives, for all events from the registers' start on
  pub bytes : (es : List Event) (m : StartBy wait) (width width' : Width) (xs : List Step) (b h : List ℕ) (ended : Bool) (r : List ℕ)
      → NotedBy wait width m.session m.history (bytes_by es) xs width' b h ended r → r ≡ bytes_by (es ++ events_in wait (map as_step xs))
  -- the third demand, with writes among the calls
  pub claim : (m : StartBy wait) (width width' : Width) (before : List ℕ) (xs : List Step) (b h : List ℕ) (ended : Bool) (r : List ℕ)
      → NotedBy wait width m.session m.history before xs width' b h ended r
      → Claim (verdict_of m) (start_delay m) m.history ended h (states_fed (noted.calls_in (map as_step xs))) (verdicts_given (noted.calls_in (map as_step xs)))

-- by the delay, and by the one before A5 for lists that juntreak_close_old_noted ends
pub record ForeignNoted : Type 0 where
  pub lists : ForeignNotedBy delay
  pub old_lists : ForeignNotedBy old_delay
