-- Lists of calls: what refused calls leave, the session that a list has come to, the claim, and beginnings. Assumes nothing.
use Prim.Native.Nat.{ℕ}
use native.Mathlib.Nat.{sub-zero}
use mathlib.Core.Path.{◌≡◌, sym, ap, ◌∙◌}
use mathlib.Core.Bool.{Bool, true, false}
use mathlib.Core.List.{List, map}
use lib.ListN.{length, take}
use lib.Seq.{take-nil}
use Rattle.lists.proofs.Sequences.{first_by}
use Rattle.mltl.specs.Mltl.{holds}
use Rattle.table.specs.Nodes.{wait_of}
use Rattle.session.specs.declared.Session.{Session}
use Rattle.session.specs.Session.{Effect, refused as unchanged, with_seen}
use Rattle.session.proofs.Effects.{feed_refused_lem, close_refused}
use Rattle.narrow.specs.Narrow.{widening_by}
use Rattle.narrow.proofs.Widening.{widen_refused}
use Rattle.acts.specs.World.{Width, limit}
use Rattle.acts.specs.World as world
use Rattle.acts.specs.Claim.{Claim}
use Rattle.acts.specs.Calls as acts
use Rattle.acts.specs.Demand.{session_by}
use Rattle.acts.proofs.WithoutChanges.{session_unchanged, without_changes}
use Rattle.mission.specs.Calls.{AnySession, Act, feed, close, widen, effect_by, handed_back, Call, MeetsBy, number_of, states_fed, verdicts_given, seen_by, CallsBy, begin, accepted, refused}
use Rattle.mission.specs.Mission.{Beginning}
use Rattle.mission.proofs.World.{Watch, formula, Made, tables, seen_session, seen_call}
use Rattle.mission.proofs.Seen.{opened, seen, same_states, same_verdicts, no_change}

-- by either delay
module _ (old : Bool) where
  -- ---- a refused call hands back its session and its buffers as they were, a widening no session
  refused_act : (a : Act) (s : AnySession) (h x o : List ℕ) → ((effect_by (wait_of old) a s h x o).answer.number ≡ 0 → ⊥)
      → effect_by (wait_of old) a s h x o ≡ unchanged (effect_by (wait_of old) a s h x o).answer.number (handed_back a s.base) h x o
  refused_act (feed block) s h x o r =
      let p = (feed_refused_lem (wait_of old) s.base h x o (limit s.width) block r).0 in
      p ∙ ap (λ (n : ℕ). unchanged n s.base h x o) (sym (ap (λ (q : Effect). q.answer.number) p))
  refused_act close s h x o r =
      let p = (close_refused (wait_of old) s.base h x o r).0 in p ∙ ap (λ (n : ℕ). unchanged n s.base h x o) (sym (ap (λ (q : Effect). q.answer.number) p))
  refused_act widen s h x o r = ap (λ (q : Session). unchanged (widening_by (wait_of old) s.base).number q h x o) (widen_refused (wait_of old) s.base r).1

  pub handed_back_lem : (c : Call) → MeetsBy (wait_of old) c → (number_of c ≡ 0 → ⊥)
      → c.effect ≡ unchanged (number_of c) (handed_back c.act c.session.base) c.history c.scratch c.out
  handed_back_lem c m r =
      let n = ap (λ (q : Effect). q.answer.number) m.is in
      m.is ∙ refused_act c.act c.session c.history c.scratch c.out (λ z. r (n ∙ z))
      ∙ ap (λ (k : ℕ). unchanged k (handed_back c.act c.session.base) c.history c.scratch c.out) (sym n)

  -- ---- what a list has come to
  -- r is the rule b of a table, simplified
  module _ (r b : Watch) (made : Made r b) (width : Width) (start : List ℕ) where
    abbrev fresh : Session
    fresh = (opened r width).base

    pub come_session : (cs : List Call) (s : AnySession) (h : List ℕ) (ended : Bool) → CallsBy (wait_of old) (opened r width) start cs s h ended
        → s.base ≡ with_seen fresh (seen_by ended cs)
    come_session cs s h ended l =
        let e = session_unchanged (tables old) width r b start (map (seen_call old) cs) (seen_session s) h ended made (seen old r width start l) (no_change old cs) in
        go ended e
      where
        back : {q : world.Session Watch} → seen_session s ≡ q → s.base ≡ record { table = q.rule.table; rule = q.rule.rule; seen = q.seen }
        back e = ap (λ (q : world.Session Watch). record { table = q.rule.table; rule = q.rule.rule; seen = q.seen }) e

        go : (ended : Bool) → seen_session s ≡ session_by (tables old) ended s.width (acts.opened r b) (length (acts.states_fed (tables old) (map (seen_call old) cs)))
            → s.base ≡ with_seen fresh (seen_by ended cs)
        go false e = back e ∙ ap (with_seen fresh) (sub-zero _ ∙ ap length (same_states old cs))
        go true e = back e

    pub come_claim : (cs : List Call) (s : AnySession) (h : List ℕ) (ended : Bool) → CallsBy (wait_of old) (opened r width) start cs s h ended
        → Claim (holds (formula b)) (wait_of old (formula r)) start ended h (states_fed cs) (verdicts_given cs)
    come_claim cs s h ended l =
        rw (same_states old cs, same_verdicts old cs) at (without_changes (tables old) width r b start (map (seen_call old) cs) (seen_session s) h ended made (seen old r width start l) (no_change old cs))

  -- ---- every beginning of such a list is such a list
  module _ (first : AnySession) (start : List ℕ) (j : ℕ) where
    so_far : {cs : List Call} {s : AnySession} {h : List ℕ} {ended : Bool} → CallsBy (wait_of old) first start cs s h ended → Beginning (wait_of old) first start cs
    so_far l = record { session = _; history = _; ended = _; calls = l }

    pub beginning : {cs : List Call} {s : AnySession} {h : List ℕ} {ended : Bool} → CallsBy (wait_of old) first start cs s h ended → Beginning (wait_of old) first start (take j cs)
    beginning begin = rw take-nil (so_far begin)
    beginning (accepted {cs = cs} c l m z) = first_by j cs c (Beginning (wait_of old) first start) (beginning l) (so_far (accepted c l m z))
    beginning (refused {cs = cs} c l m r) = first_by j cs c (Beginning (wait_of old) first start) (beginning l) (so_far (refused c l m r))
