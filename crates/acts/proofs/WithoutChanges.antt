-- The base's claim without changes. Assumes nothing.
use Prim.Native.Nat.{ℕ, ◌-◌, min}
use native.Mathlib.Omega.{arith}
use mathlib.Core.Path.{◌≡◌, refl, ap, ◌∙◌, subst}
use mathlib.Core.Bool.{Bool, true, false, false≢true}
use mathlib.Core.List.{List, [], ◌∷◌, ◌++◌}
use lib.ListN.{length, take}
use Rattle.lists.specs.Choice.{pick}
use Rattle.lists.specs.Sequence.{ticks, last_of}
use Rattle.lists.proofs.Tests.{true_left, true_right}
use Rattle.acts.specs.World.{World, Width, Session, Act, feed, close, widen, change}
use Rattle.acts.specs.Calls.{Call, is_accepted, states_fed, verdicts_given, Rules, opened, rules_by, ruled, Calls, HeldUnder, GoingUnder, EndedUnder, ClaimUnder}
use Rattle.acts.specs.Demand.{opening, session_by}
use Rattle.acts.specs.Claim.{Going, Ended, Claim}
use Rattle.acts.specs.WithoutChanges.{keeps_rule, unchanged, WithoutChanges}
use Rattle.acts.proofs.Listed.{come}

module _ (w : World) where
  same_rule : (a : Act w.Rule w.Source) (accepts : Bool) (f : ℕ) (p : Rules w) → keeps_rule w a ≡ true → pick accepts (ruled w a f p) p ≡ p
  same_rule (feed block) true f p k = refl
  same_rule close true f p k = refl
  same_rule widen true f p k = refl
  same_rule (change r b) true f p k = absurd (false≢true k)
  same_rule a false f p k = refl

  pub one_rule : (p : Rules w) (cs : List (Call w)) → unchanged w cs ≡ true → rules_by w p cs ≡ p
  one_rule p [] u = refl
  one_rule p (c ∷ cs) u =
      rw (same_rule c.act (is_accepted w c) c.effect.session.first_tick p (true_left (keeps_rule w c.act) (unchanged w cs) u))
      (one_rule p cs (true_right (keeps_rule w c.act) (unchanged w cs) u))

  module _ (r : w.Rule) (b : w.Source) (start h states : List ℕ) (verdicts : List Bool) where
    abbrev L : ℕ
    L = length states

    held_base : HeldUnder w (opened r b) start h states → take (min L (w.D r)) h ≡ last_of (w.D r) states
    held_base g =
        let m : min (L - 0) (w.D r) ≡ min L (w.D r) = omega arith in
        let n : L - min L (w.D r) ≡ L - w.D r = omega arith in
        rw n at (rw m at g.last)

    going_base : GoingUnder w (opened r b) start h states verdicts → Going (w.val b) (w.D r) start h states verdicts
    going_base g =
        let s = g.sum in
        let n : length verdicts ≡ L - w.D r = omega arith in
        record {
          sum = omega arith;
          kept = held_base g.held;
          others = g.held.others;
          settled = λ t. omega arith;
          exact = λ later. g.exact later ∙ ap (ticks (w.val b (states ++ later))) n;
        }

    ended_base : EndedUnder w (opened r b) start h states verdicts → Ended (w.val b) (w.D r) start h states verdicts
    ended_base g = record { kept = held_base g.held; others = g.held.others; count = g.count; exact = g.exact }

    claim_base : (ended : Bool) → ClaimUnder w (opened r b) start ended h states verdicts → Claim (w.val b) (w.D r) start ended h states verdicts
    claim_base false g = going_base g
    claim_base true g = ended_base g

  -- the session has seen the states fed, and none after a close
  pub session_unchanged : (width : Width) (r : w.Rule) (b : w.Source) (start : List ℕ) (cs : List (Call w)) (s : Session w.Rule) (h : List ℕ) (ended : Bool)
      → w.From r b → Calls w (opening w width r) start cs s h ended → unchanged w cs ≡ true
      → s ≡ session_by w ended s.width (opened r b) (length (states_fed w cs))
  session_unchanged width r b start cs s h ended o l u =
      (come w width r b o start l).session ∙ ap (λ (p : Rules w). session_by w ended s.width p (length (states_fed w cs))) (one_rule (opened r b) cs u)

  pub without_changes : WithoutChanges w
  without_changes width r b start cs s h ended o l u =
      claim_base r b start h (states_fed w cs) (verdicts_given w cs) ended
      (subst (λ (p : Rules w). ClaimUnder w p start ended h (states_fed w cs) (verdicts_given w cs)) (one_rule (opened r b) cs u) (come w width r b o start l).claim)
