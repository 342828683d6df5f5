-- Lists of calls on one session with the status registers beside them, and writes to the registers among the calls (A10).
use Rattle.std.specs.Prelude.{ℕ, ◌≤◌, ◌<◌, ◌≡◌, Bool, true, false, List, [], ◌∷◌, ◌++◌, length, get_or}
use Rattle.lists.specs.Choice.{pick}
use Rattle.lists.specs.Sequence.{concat_map}
use Rattle.mltl.specs.Mltl.{Formula, delay}
use Rattle.acts.specs.World.{Width}
use Rattle.acts.specs.Claim.{Claim}
use Rattle.registers.specs.declared.Kind.{Kind}
use Rattle.registers.specs.declared.Kind.TheVariants.{Widen, Feed, Close}
use Rattle.registers.specs.declared.Outcome.{Outcome}
use Rattle.registers.specs.Registers.{after_call, after_write}
use Rattle.registers.specs.History.{Event, bytes_by}
use Rattle.registers.specs.History as history
use Rattle.noted.specs.Noted.{outcome_of, given}
use Rattle.mission.specs.Calls.{AnySession, Act, feed, close, widen, ends, Call, MeetsBy, number_of, session_after, verdicts_of, CallsBy, states_fed, verdicts_given}
use Rattle.mission.specs.Mission.{StartBy, opened_as, start_delay, verdict_of}

-- ---- steps: a session call, and whether the registers were handed to it; a write of a value to a place
pub data Step : Type 0 where
  call : Bool → Call → Step
  write : ℕ → ℕ → Step

-- the session calls of a list, and the list itself without its writes
abbrev pub calls_of : Step → List Call
calls_of (call told c) = c ∷ []
calls_of (write place value) = []

abbrev pub calls_in : List Step → List Call
calls_in xs = concat_map calls_of xs

abbrev pub unwritten : Step → List Step
unwritten (call told c) = call told c ∷ []
unwritten (write place value) = []

abbrev pub without_writes : List Step → List Step
without_writes xs = concat_map unwritten xs

-- ---- what the registers are told
abbrev pub kind_of : Act → Kind
kind_of (feed block) = Feed
kind_of close = Close
kind_of widen = Widen

module _ (wait : Formula → ℕ) where
  abbrev pub outcome_by : Call → Outcome
  outcome_by c = outcome_of (kind_of c.act) (number_of c) (verdicts_of c) (given wait c.session.base)

  abbrev pub registers_after : Bool → Call → List ℕ → List ℕ
  registers_after told c r = pick told (after_call (outcome_by c) r) r

  abbrev pub events_of : Step → List Event
  events_of (call told c) = pick told (history.call (outcome_by c) ∷ []) []
  events_of (write place value) = history.write place value ∷ []

  abbrev pub events_in : List Step → List Event
  events_in xs = concat_map events_of xs

  -- ---- lists
  -- The steps, the session and the history that they have come to, whether a close was accepted, and the bytes of the registers, which were
  -- `before` at the beginning.
  pub data NotedBy (first : AnySession) (start before : List ℕ) : List Step → AnySession → List ℕ → Bool → List ℕ → Type 0 where
    begin : NotedBy first start before [] first start false before
    accepted : {xs : List Step} {r : List ℕ} (told : Bool) (c : Call)
        → NotedBy first start before xs c.session c.history false r → MeetsBy wait c → number_of c ≡ 0
        → NotedBy first start before (xs ++ (call told c ∷ [])) (session_after c) c.effect.history (ends c.act) (registers_after told c r)
    refused : {xs : List Step} {s : AnySession} {h : List ℕ} {ended : Bool} {r : List ℕ} (told : Bool) (c : Call)
        → NotedBy first start before xs s h ended r → MeetsBy wait c → (number_of c ≡ 0 → ⊥)
        → NotedBy first start before (xs ++ (call told c ∷ [])) s h ended (registers_after told c r)
    written : {xs : List Step} {s : AnySession} {h : List ℕ} {ended : Bool} {r : List ℕ} (place value : ℕ)
        → NotedBy first start before xs s h ended r
        → NotedBy first start before (xs ++ (write place value ∷ [])) s h ended (after_write place value r)

  -- the same list without its writes
  pub record Without (first : AnySession) (start before : List ℕ) (xs : List Step) (s : AnySession) (h : List ℕ) (ended : Bool) : Type 0 where
    pub registers : List ℕ
    pub noted : NotedBy first start before (without_writes xs) s h ended registers
    pub calls : calls_in (without_writes xs) ≡ calls_in xs

-- t is the first tick from `from` on at which the verdict is no
pub record FirstNo (from : ℕ) (verdicts : List Bool) (t : ℕ) : Type 0 where
  pub after : from ≤ t
  pub among : t < length verdicts
  pub says_no : get_or verdicts t true ≡ false
  pub earlier : (i : ℕ) → from ≤ i → i < t → get_or verdicts i false ≡ true

-- ---- what is claimed of every such list
pub record NotedDemandBy (wait : Formula → ℕ) : Type 0 where
  -- the bytes are those that the definition by history gives, for all events from the registers' start on
  pub bytes : (es : List Event) (first : AnySession) (start : List ℕ) (xs : List Step) (s : AnySession) (h : List ℕ) (ended : Bool) (r : List ℕ)
      → NotedBy wait first start (bytes_by es) xs s h ended r → r ≡ bytes_by (es ++ events_in wait xs)
  -- no write reaches a verdict: without its writes it is a list that comes to the same session and history by the same calls
  pub unwritten : (first : AnySession) (start before : List ℕ) (xs : List Step) (s : AnySession) (h : List ℕ) (ended : Bool) (r : List ℕ)
      → NotedBy wait first start before xs s h ended r → Without wait first start before xs s h ended
  -- its calls are a list of calls as they are without registers
  pub calls : (first : AnySession) (start before : List ℕ) (xs : List Step) (s : AnySession) (h : List ℕ) (ended : Bool) (r : List ℕ)
      → NotedBy wait first start before xs s h ended r → CallsBy wait first start (calls_in xs) s h ended
  -- the third demand holds for it
  pub claim : (m : StartBy wait) (width : Width) (before : List ℕ) (xs : List Step) (s : AnySession) (h : List ℕ) (ended : Bool) (r : List ℕ)
      → NotedBy wait (opened_as width m) m.history before xs s h ended r
      → Claim (verdict_of m) (start_delay m) m.history ended h (states_fed (calls_in xs)) (verdicts_given (calls_in xs))
  -- ticks count from the open: a call on the list's session that gives a no notes the tick of its first no among all verdicts given
  pub ticks : (m : StartBy wait) (width : Width) (before : List ℕ) (xs : List Step) (h r : List ℕ) (c : Call)
      → NotedBy wait (opened_as width m) m.history before xs c.session h false r → (outcome_by wait c).fails ≡ true
      → FirstNo (length (verdicts_given (calls_in xs))) (verdicts_given (calls_in xs) ++ verdicts_of c) (outcome_by wait c).tick

-- by the delay
abbrev pub NotedDemand : Type 0
NotedDemand = NotedDemandBy delay
