-- Lists of calls of feed, close and widen on one session (document 01, Session; A4, A5; the third demand). `wait` is a measure of how many
-- states a verdict waits for: the delay; and, for calls as their contracts were before A5, the one then.
use Rattle.std.specs.Prelude.{ℕ, ◌≡◌, Bool, true, false, List, [], ◌∷◌, ◌++◌, map, length, eqb}
use Rattle.lists.specs.Choice.{Row, pick}
use Rattle.lists.specs.Sequence.{ticks, concat_map, sum}
use Rattle.lists.specs.Bits.{bit_at}
use Rattle.mltl.specs.Mltl.{Formula, delay}
use Rattle.session.specs.declared.Session.{Session}
use Rattle.session.specs.Session.{Effect, no_session, unfit_by, feed_rows, feeding_by, close_rows, closing_by}
use Rattle.narrow.specs.Narrow.{widen_rows, widening_by}
use Rattle.acts.specs.World.{Width, narrow, wide, limit}

-- ---- sessions
-- A session of either width: a narrow one was opened when the count of states had 32 bits, and is narrow until it is widened. Of a narrow
-- session n, `base` is `wide_of n`: the same table, rule number and count.
pub record AnySession : Type 0 where
  pub base : Session
  pub width : Width

abbrev pub as_wide : Session → AnySession
as_wide s = record { base = s; width = wide }

-- ---- acts: what a call does to a session
pub data Act : Type 0 where
  feed : List ℕ → Act
  close : Act
  widen : Act

-- what the contract of its function says: on a session, with the words of history, scratch and out. On a narrow session it is what the
-- contracts said when the count had 32 bits: row 24 was at that limit, and `wait` the delay before A5.
abbrev pub effect_by : (Formula → ℕ) → Act → AnySession → List ℕ → List ℕ → List ℕ → Effect
effect_by wait (feed block) s h x o = feeding_by wait (limit s.width) s.base block h x o
effect_by wait close s h x o = closing_by wait s.base h x o
effect_by wait widen s h x o =
    let w = widening_by wait s.base in
    record { answer = record { number = w.number; count = 0; session = w.session }; history = h; scratch = x; out = o }

-- its rows of refusals
abbrev pub rows_by : (Formula → ℕ) → Act → AnySession → List ℕ → List ℕ → List ℕ → List Row
rows_by wait (feed block) s h x o = feed_rows (limit s.width) (unfit_by wait s.base) s.base.seen (length block) (length h) (length x) (length o)
rows_by wait close s h x o = close_rows (unfit_by wait s.base) (length h) (length x) (length o)
rows_by wait widen s h x o = widen_rows (unfit_by wait s.base)

-- the states that it feeds, and whether it ends a list
abbrev pub block_of : Act → List ℕ
block_of (feed block) = block
block_of close = []
block_of widen = []

abbrev pub ends : Act → Bool
ends (feed block) = false
ends close = true
ends widen = false

-- feed and close are calls on a session of either width; widening takes a narrow one, and gives a wide one
abbrev pub Takes : Act → Width → Type 0
Takes (feed block) width = Unit {0}
Takes close width = Unit {0}
Takes widen width = width ≡ narrow

abbrev pub width_after : Act → Width → Width
width_after (feed block) width = width
width_after close width = width
width_after widen width = wide

-- the session that it hands back where it is refused: its own, but a widening none
abbrev pub handed_back : Act → Session → Session
handed_back (feed block) s = s
handed_back close s = s
handed_back widen s = no_session

-- ---- calls
-- what a call was given (its session, and the words of history, scratch and out), and its effect
pub record Call : Type 0 where
  pub act : Act
  pub session : AnySession
  pub history : List ℕ
  pub scratch : List ℕ
  pub out : List ℕ
  pub effect : Effect

pub record MeetsBy (wait : Formula → ℕ) (c : Call) : Type 0 where
  pub takes : Takes c.act c.session.width
  pub is : c.effect ≡ effect_by wait c.act c.session c.history c.scratch c.out

abbrev pub number_of : Call → ℕ
number_of c = c.effect.answer.number

-- the session after it
abbrev pub session_after : Call → AnySession
session_after c = record { base = c.effect.answer.session; width = width_after c.act c.session.width }

-- ---- the states fed and the verdicts given by a list of calls
-- the block of an accepted feed
abbrev pub states_of : Call → List ℕ
states_of c = pick (eqb (number_of c) 0) (block_of c.act) []

-- verdict number i is bit i mod 64 of word i/64 of the call's own out; a refused call counts none
abbrev pub verdicts_of : Call → List Bool
verdicts_of c = ticks (bit_at c.effect.out) c.effect.answer.count

abbrev pub states_fed : List Call → List ℕ
states_fed cs = concat_map states_of cs

abbrev pub verdicts_given : List Call → List Bool
verdicts_given cs = concat_map verdicts_of cs

-- how many widenings were accepted
abbrev pub widenings_by : Act → ℕ
widenings_by (feed block) = 0
widenings_by close = 0
widenings_by widen = 1

abbrev pub widenings_of : Call → ℕ
widenings_of c = pick (eqb (number_of c) 0) (widenings_by c.act) 0

abbrev pub widenings : List Call → ℕ
widenings cs = sum (map widenings_of cs)

-- the accepted feeds and closes of a list, each on its session with a wide count
abbrev pub wide_call : Call → Call
wide_call c = record { act = c.act; session = as_wide c.session.base; history = c.history; scratch = c.scratch; out = c.out; effect = c.effect }

abbrev pub wide_calls_by : Act → Call → List Call
wide_calls_by (feed block) c = wide_call c ∷ []
wide_calls_by close c = wide_call c ∷ []
wide_calls_by widen c = []

abbrev pub wide_calls_of : Call → List Call
wide_calls_of c = pick (eqb (number_of c) 0) (wide_calls_by c.act c) []

abbrev pub wide_calls : List Call → List Call
wide_calls cs = concat_map wide_calls_of cs

-- how many states a list's session has seen: none after a close
abbrev pub seen_by : Bool → List Call → ℕ
seen_by false cs = length (states_fed cs)
seen_by true cs = 0

-- ---- lists of calls
-- The calls, the session and the history that they have come to, and whether a close was accepted; `first` and `start` are those of
-- the beginning. An accepted call is given the list's own session and history; a refused one may be given any.
pub data CallsBy (wait : Formula → ℕ) (first : AnySession) (start : List ℕ) : List Call → AnySession → List ℕ → Bool → Type 0 where
  begin : CallsBy wait first start [] first start false
  accepted : {cs : List Call} (c : Call)
      → CallsBy wait first start cs c.session c.history false → MeetsBy wait c → number_of c ≡ 0
      → CallsBy wait first start (cs ++ (c ∷ [])) (session_after c) c.effect.history (ends c.act)
  refused : {cs : List Call} {s : AnySession} {h : List ℕ} {ended : Bool} (c : Call)
      → CallsBy wait first start cs s h ended → MeetsBy wait c → (number_of c ≡ 0 → ⊥)
      → CallsBy wait first start (cs ++ (c ∷ [])) s h ended

-- ---- by the delay
abbrev pub effect_of : Act → AnySession → List ℕ → List ℕ → List ℕ → Effect
effect_of a s h x o = effect_by delay a s h x o

abbrev pub rows_of : Act → AnySession → List ℕ → List ℕ → List ℕ → List Row
rows_of a s h x o = rows_by delay a s h x o

abbrev pub Meets : Call → Type 0
Meets c = MeetsBy delay c

abbrev pub Calls : AnySession → List ℕ → List Call → AnySession → List ℕ → Bool → Type 0
Calls first start cs s h ended = CallsBy delay first start cs s h ended
