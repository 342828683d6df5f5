-- The session's calls with the status registers beside them: the outcome that each notes (A10). A call's answer, session and buffers are the
-- session's own.
use Rattle.std.specs.Prelude.{ℕ, suc, ◌+◌, ◌-◌, Bool, true, false, not, List, [], ◌∷◌, ltb, length}
use Rattle.lists.specs.Choice.{pick}
use Rattle.lists.specs.Sequence.{ticks, some}
use Rattle.lists.specs.Bits.{bit_at}
use Rattle.mltl.specs.Mltl.{Formula}
use Rattle.session.specs.declared.Session.{Session}
use Rattle.session.specs.Session.{Opening, Effect, formula_of}
use Rattle.registers.specs.declared.Kind.{Kind}
use Rattle.registers.specs.declared.Kind.TheVariants.{Open, Widen, Feed, Close}
use Rattle.registers.specs.declared.Outcome.{Outcome}

-- the place of the first no; the count of verdicts where all are yes
abbrev pub place_of_no : List Bool → ℕ
place_of_no [] = 0
place_of_no (true ∷ vs) = suc (place_of_no vs)
place_of_no (false ∷ vs) = 0

-- a call with this number gave these verdicts, after `before` others since the session's open: a verdict's tick is that count and then its
-- place in the call
abbrev pub outcome_of : Kind → ℕ → List Bool → ℕ → Outcome
outcome_of kind number verdicts before = record {
  kind = kind;
  number = number;
  gives = ltb 0 (length verdicts);
  fails = some not verdicts;
  tick = pick (some not verdicts) (before + place_of_no verdicts) 0;
}

-- open and widening give no verdict
abbrev pub open_outcome : Opening → Outcome
open_outcome o = outcome_of Open o.number [] 0

abbrev pub widen_outcome : Opening → Outcome
widen_outcome o = outcome_of Widen o.number [] 0

-- of a feed and a close, verdict number i is bit i mod 64 of word i/64 of out; `wait` is the measure of how many states a verdict waits for
abbrev pub verdicts_in : Effect → List Bool
verdicts_in e = ticks (bit_at e.out) e.answer.count

-- how many verdicts the session has given
abbrev pub given : (Formula → ℕ) → Session → ℕ
given wait s = s.seen - wait (formula_of s)

abbrev pub feed_outcome : (Formula → ℕ) → Session → Effect → Outcome
feed_outcome wait s e = outcome_of Feed e.answer.number (verdicts_in e) (given wait s)

abbrev pub close_outcome : (Formula → ℕ) → Session → Effect → Outcome
close_outcome wait s e = outcome_of Close e.answer.number (verdicts_in e) (given wait s)
