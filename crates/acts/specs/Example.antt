-- A world of formulas, and a list with a change in it, by hand: document 01's trace P under F[1,3]p, changed to G[1,2]q after five states.
use Rattle.std.specs.Prelude.{ℕ, refl, List, [], ◌∷◌}
use Rattle.mltl.specs.Mltl.{Formula, signal, F, G, holds, delay}
use Rattle.mltl.proofs.Stable.{prefix_stable, future_only}
use Rattle.mltl.proofs.Laws.{Same}
use Rattle.acts.specs.World.{World, wide, Session, Act, feed, close, change, effect_of}
use Rattle.acts.specs.Calls.{Call}
use Rattle.acts.specs.Demand.{opening}

-- rules are formulas, simplified to formulas with the same verdicts; no row but 24
abbrev pub formulas : World
formulas = record {
  Rule = Formula;
  run = holds;
  D = delay;
  stable = prefix_stable;
  future = future_only;
  Source = Formula;
  val = holds;
  From = Same;
  as_read = λ r b s xs t h. s.at xs t h;
  Lent = Unit {0};
  rows = λ a s h x. [];
  numbers = λ a s h x. refl;
  no_rule = signal 0;
}

abbrev pub call_on : Session Formula → List ℕ → Act Formula Formula → Call formulas
call_on s h a = record { act = a; session = s; history = h; lent = tt; effect = effect_of formulas a s h tt }

abbrev pub after : Call formulas → Act Formula Formula → Call formulas
after c a = call_on c.effect.session c.effect.history a

abbrev pub finally_p : Formula
finally_p = F 1 3 (signal 0)

abbrev pub always_q : Formula
always_q = G 1 2 (signal 1)

abbrev pub start : List ℕ
start = 9 ∷ 9 ∷ 9 ∷ 9 ∷ 9 ∷ []

abbrev pub one : Call formulas
one = call_on (opening formulas wide finally_p) start (feed (2 ∷ 2 ∷ 1 ∷ 0 ∷ 2 ∷ []))

abbrev pub two : Call formulas
two = after one (change always_q always_q)

abbrev pub three : Call formulas
three = after two (feed (3 ∷ 0 ∷ 0 ∷ []))

abbrev pub four : Call formulas
four = after three close
