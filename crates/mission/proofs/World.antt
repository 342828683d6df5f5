-- Sessions over tables as a world of crate acts, by either delay, and the calls of this crate as calls of it.
use Prim.Native.Nat.{ℕ, ◌<◌}
use mathlib.Core.Path.{◌≡◌, refl}
use mathlib.Core.Bool.{Bool, true, false, ◌||◌}
use mathlib.Core.List.{List, [], ◌∷◌}
use lib.ListN.{length}
use lib.Dec.{ltb}
use Rattle.lists.specs.Choice.{Row, ◌if◌, numbered}
use Rattle.mltl.specs.Mltl.{Formula, holds, Settles}
use Rattle.mltl.proofs.Stable.{prefix_stable, old_prefix_stable, future_only}
use Rattle.table.specs.declared.Table.{Table}
use Rattle.table.specs.Nodes.{no_table, watched_formula, wait_of}
use Rattle.session.specs.Session.{Effect, unfit_by}
use Rattle.acts.specs.World.{World, Width}
use Rattle.acts.specs.World as world
use Rattle.acts.specs.Calls as acts
use Rattle.mission.specs.Calls.{AnySession, Act, feed, close, widen, Call, session_after, verdicts_of}

-- a rule of a table
pub record Watch : Type 0 where
  pub table : Table
  pub rule : ℕ

abbrev pub formula : Watch → Formula
formula r = watched_formula r.table r.rule

-- scratch and out
pub record Buffers : Type 0 where
  pub scratch : List ℕ
  pub out : List ℕ

-- r is the rule b of a table, simplified: it has the same verdicts
pub record Made (r b : Watch) : Type 0 where
  pub verdicts : (xs : List ℕ) (t : ℕ) → t < length xs → holds (formula r) xs t ≡ holds (formula b) xs t

-- the rows of refusals before 24; there is no change yet
abbrev pub bad : (Formula → ℕ) → Watch → Bool
bad wait r = unfit_by wait (record { table = r.table; rule = r.rule; seen = 0 })

abbrev pub short : ℕ → List ℕ → Buffers → Bool
short m h x = ltb (length h) 4095 || ltb (length x.scratch) 5280 || ltb (length x.out) m

abbrev pub rows_before : (Formula → ℕ) → world.Act Watch Watch → world.Session Watch → List ℕ → Buffers → List Row
rows_before wait (world.feed block) s h x = (25 if bad wait s.rule) ∷ (22 if ltb 1024 (length block)) ∷ (23 if short 16 h x) ∷ []
rows_before wait world.close s h x = (25 if bad wait s.rule) ∷ (23 if short 64 h x) ∷ []
rows_before wait world.widen s h x = (25 if bad wait s.rule) ∷ []
rows_before wait (world.change r b) s h x = []

pub numbers : (wait : Formula → ℕ) (a : world.Act Watch Watch) (s : world.Session Watch) (h : List ℕ) (x : Buffers) → numbered (rows_before wait a s h x) ≡ true
numbers wait (world.feed block) s h x = refl
numbers wait world.close s h x = refl
numbers wait world.widen s h x = refl
numbers wait (world.change r b) s h x = refl

-- a verdict is settled by either delay
pub settled : (old : Bool) → Settles (wait_of old)
settled true = old_prefix_stable
settled false = prefix_stable

abbrev pub tables : Bool → World
tables old = record {
  Rule = Watch;
  run = λ r. holds (formula r);
  D = λ r. wait_of old (formula r);
  stable = λ r. settled old (formula r);
  future = λ r. future_only (formula r);
  Source = Watch;
  val = λ b. holds (formula b);
  From = Made;
  as_read = λ r b m. m.verdicts;
  Lent = Buffers;
  rows = rows_before (wait_of old);
  numbers = numbers (wait_of old);
  no_rule = record { table = no_table; rule = 0 };
}

-- ---- this crate's sessions, effects and calls, seen there: the first tick is 0
abbrev pub seen_session : AnySession → world.Session Watch
seen_session s = record { rule = record { table = s.base.table; rule = s.base.rule }; seen = s.base.seen; first_tick = 0; width = s.width }

abbrev pub seen_act : Act → world.Act Watch Watch
seen_act (feed block) = world.feed block
seen_act close = world.close
seen_act widen = world.widen

abbrev pub seen_effect : (old : Bool) → Effect → List Bool → Width → world.Effect (tables old)
seen_effect old e v width =
    record { number = e.answer.number; verdicts = v; session = seen_session (record { base = e.answer.session; width = width }); history = e.history }

abbrev pub seen_call : (old : Bool) → Call → acts.Call (tables old)
seen_call old c = record {
  act = seen_act c.act;
  session = seen_session c.session;
  history = c.history;
  lent = record { scratch = c.scratch; out = c.out };
  effect = seen_effect old c.effect (verdicts_of c) (session_after c).width;
}
