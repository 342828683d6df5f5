-- Lists of calls as their contracts were before A5, ended by the second close. Assumes nothing.
use Prim.Native.Nat.{ℕ, ◌-◌, ◌≤◌, ◌<◌}
use native.Mathlib.Omega.{arith}
use mathlib.Core.Path.{◌≡◌, refl, sym, ap, ap₂, ◌∙◌, subst}
use mathlib.Core.Bool.{Bool, true, false}
use mathlib.Core.Logic.{inl, inr}
use mathlib.Core.List.{List, ◌++◌}
use borrow.Author.Tests.{lt-leb}
use lib.ListN.{length, get_or}
use Rattle.lists.specs.Sequence.{ticks}
use Rattle.lists.proofs.Sequences.{length_ticks, get_or_ticks}
use Rattle.mltl.specs.Mltl.{Formula, holds, delay, old_delay}
use Rattle.mltl.proofs.Delays.{delay_sooner}
use Rattle.table.specs.Nodes.{watched_formula}
use Rattle.table.specs.declared.Table.{Table}
use Rattle.table.proofs.Soundness.{sound_iff, wait_sound_iff, sound_now}
use Rattle.session.specs.declared.Session.{Session}
use Rattle.session.specs.Session.{Opening, Effect, formula_of, opening_by, opening, unfit_by, feeding_by, closing_by}
use Rattle.session.proofs.Effects.{opened_is, opened_rule, opened_sound, opened_fit}
use Rattle.narrow.specs.Narrow.{widening, widening_by}
use Rattle.narrow.proofs.Widening.{widened_fit, fit_now, widened_alike}
use Rattle.acts.specs.World.{Width, wide}
use Rattle.acts.specs.Claim.{Claim}
use Rattle.mission.specs.Calls.{AnySession, Act, feed, close, widen, effect_by, Call, MeetsBy, Meets, number_of, states_fed, verdicts_given, Calls}
use Rattle.mission.specs.Mission.{Source, read_table, StartBy, Start, opened_as, start_delay, verdict_of, ListBy}
use Rattle.mission.specs.SecondClose.{SameRule, TraceOf, SecondClose}
use Rattle.mission.proofs.Listed.{come_claim}
use Rattle.mission.proofs.ThirdDemand.{simple, as_read, made, third_demand_by, third_demand, session_is}

-- ---- widening
-- the effect of a widening is what it was
widen_effect : (s : AnySession) (h x o : List ℕ) → widening s.base ≡ widening_by old_delay s.base → effect_by delay widen s h x o ≡ effect_by old_delay widen s h x o
widen_effect s h x o e = ap (λ (w : Opening). record { answer = record { number = w.number; count = 0; session = w.session }; history = h; scratch = x; out = o }) e

meets_old : (c : Call) → c.act ≡ widen → Meets c → widening c.session.base ≡ widening_by old_delay c.session.base → MeetsBy old_delay c
meets_old c a m e = record {
  takes = m.takes;
  is =
      m.is ∙ ap (λ (z : Act). effect_by delay z c.session c.history c.scratch c.out) a
      ∙ widen_effect c.session c.history c.scratch c.out e
      ∙ ap (λ (z : Act). effect_by old_delay z c.session c.history c.scratch c.out) (sym a);
}

number_is : (c : Call) → c.act ≡ widen → Meets c → number_of c ≡ (widening c.session.base).number
number_is c a m = ap (λ (e : Effect). e.answer.number) (m.is ∙ ap (λ (z : Act). effect_by delay z c.session c.history c.scratch c.out) a)

-- the session of a list by the delay before A5 was fit
pub list_fit : (m : StartBy old_delay) (width : Width) (cs : List Call) (s : AnySession) (h : List ℕ) (ended : Bool) → ListBy old_delay m width cs s h ended
    → unfit_by old_delay s.base ≡ false
list_fit m width cs s h ended l =
    ap (unfit_by old_delay) (session_is true m width cs s h ended l) ∙ opened_fit true m.simplified.table m.rule m.opened

widens : (m : StartBy old_delay) (width : Width) (cs : List Call) (s : AnySession) (h : List ℕ) → ListBy old_delay m width cs s h false
    → (c : Call) → c.act ≡ widen → c.session ≡ s → Meets c → (number_of c ≡ 0) × MeetsBy old_delay c
widens m width cs s h l c a e k =
    let u : unfit_by old_delay c.session.base ≡ false = ap (λ (q : AnySession). unfit_by old_delay q.base) e ∙ list_fit m width cs s h false l in
    let alike = widened_alike c.session.base (inl u) in
    (number_is c a k ∙ sym (ap (λ (w : Opening). w.number) (widened_fit delay c.session.base (fit_now c.session.base u))), meets_old c a k alike)

widens_not : (c : Call) → c.act ≡ widen → Meets c → (number_of c ≡ 0 → ⊥) → MeetsBy old_delay c
widens_not c a k n = meets_old c a k (widened_alike c.session.base (inr (λ z. n (number_is c a k ∙ z))))

-- ---- one delay
module _ (s : AnySession) (h x o : List ℕ) (u : unfit_by old_delay s.base ≡ false) (e : old_delay (formula_of s.base) ≡ delay (formula_of s.base)) where
  v : unfit_by delay s.base ≡ false
  v = fit_now s.base u

  alike : (a : Act) → effect_by old_delay a s h x o ≡ effect_by delay a s h x o
  unfolding feeding_by closing_by
  alike (feed block) = rw (u, v, e)
  alike close = rw (u, v, e)
  alike widen = sym (widen_effect s h x o (widened_alike s.base (inl u)))

goes_on : (m : StartBy old_delay) → start_delay m ≡ delay (watched_formula m.simplified.table m.rule)
    → (width : Width) (cs : List Call) (s : AnySession) (h : List ℕ) (ended : Bool) → ListBy old_delay m width cs s h ended
    → (c : Call) → c.session ≡ s → Meets c → MeetsBy old_delay c
goes_on m d width cs s h ended l c e k =
    let u : unfit_by old_delay c.session.base ≡ false = ap (λ (q : AnySession). unfit_by old_delay q.base) e ∙ list_fit m width cs s h ended l in
    let f : formula_of c.session.base ≡ watched_formula m.simplified.table m.rule =
    ap (λ (q : AnySession). formula_of q.base) e ∙ ap formula_of (session_is true m width cs s h ended l)
    ∙ ap formula_of (opened_is true m.simplified.table m.rule m.opened) in
    let g : old_delay (formula_of c.session.base) ≡ delay (formula_of c.session.base) = ap old_delay f ∙ d ∙ ap delay (sym f) in
    record { takes = k.takes; is = k.is ∙ sym (alike c.session c.history c.scratch c.out u g c.act) }

-- ---- after the second close
module _ (m : StartBy old_delay) where
  abbrev u : Table
  u = m.simplified.table

  anew : opening u m.rule ≡ opening_by old_delay u m.rule
  unfolding opening_by
  anew =
      let z = opened_sound true u m.rule m.opened in
      rw ((sound_iff u).1 (sound_now true u z), (wait_sound_iff true u).1 z, lt-leb u.rule_count m.rule (opened_rule true u m.rule m.opened))

  anew_claim : (start : List ℕ) (cs : List Call) (s : AnySession) (h : List ℕ) (ended : Bool) → Calls (opened_as wide m) start cs s h ended
      → Claim (verdict_of m) (delay (watched_formula u m.rule)) start ended h (states_fed cs) (verdicts_given cs)
  anew_claim start cs s h ended l =
      come_claim false (simple true m) (as_read true m) (made true m) wide start cs s h ended
      (subst (λ (q : Session). Calls (record { base = q; width = wide }) start cs s h ended) (opened_is true u m.rule m.opened) l)

-- ---- verdicts
-- what a list gave, on a trace that it is fed
module _ (val : List ℕ → ℕ → Bool) (D : ℕ) (start h : List ℕ) (cs : List Call) (trace : List ℕ) (t : ℕ) (l : t < length (verdicts_given cs)) where
  abbrev given : List Bool
  given = verdicts_given cs

  given_by : (xs : List ℕ) (n : ℕ) → given ≡ ticks (val xs) n → trace ≡ xs → get_or given t false ≡ val trace t
  given_by xs n e w =
      let k : length given ≡ n = ap length e ∙ length_ticks (val xs) n in
      ap (λ (vs : List Bool). get_or vs t false) e ∙ get_or_ticks (val xs) n t false (omega arith) ∙ ap (λ (ys : List ℕ). val ys t) (sym w)

  given_at : (ended : Bool) → Claim val D start ended h (states_fed cs) given → TraceOf ended cs trace → get_or given t false ≡ val trace t
  given_at false c r = given_by (states_fed cs ++ r.later) (length (states_fed cs) - D) (c.exact r.later) r.whole
  given_at true c r = given_by (states_fed cs) (length (states_fed cs)) c.exact (r.all refl)

module _ (m : StartBy old_delay) (m' : Start) (k : SameRule m m') where
  same_val : verdict_of m ≡ verdict_of m'
  same_val = ap₂ (λ (q : Source) (r : ℕ). holds (watched_formula (read_table q) r)) k.source k.rule

  same_verdicts : (width width' : Width) (cs cs' : List Call) (s s' : AnySession) (h h' : List ℕ)
      → ListBy old_delay m width cs s h true → ListBy delay m' width' cs' s' h' true → states_fed cs ≡ states_fed cs' → verdicts_given cs ≡ verdicts_given cs'
  same_verdicts width width' cs cs' s s' h h' l l' e =
      ((third_demand_by true).claim m width cs s h true l).exact
      ∙ ap₂ (λ (val : List ℕ → ℕ → Bool) (xs : List ℕ). ticks (val xs) (length xs)) same_val e
      ∙ sym (third_demand.claim m' width' cs' s' h' true l').exact

  same_verdict : (width width' : Width) (cs cs' : List Call) (s s' : AnySession) (h h' : List ℕ) (ended ended' : Bool)
      → ListBy old_delay m width cs s h ended → ListBy delay m' width' cs' s' h' ended' → (trace : List ℕ) → TraceOf ended cs trace → TraceOf ended' cs' trace
      → (t : ℕ) → t < length (verdicts_given cs) → t < length (verdicts_given cs') → get_or (verdicts_given cs) t false ≡ get_or (verdicts_given cs') t false
  same_verdict width width' cs cs' s s' h h' ended ended' l l' trace r r' t p p' =
      given_at (verdict_of m) (start_delay m) m.history h cs trace t p ended ((third_demand_by true).claim m width cs s h ended l) r
      ∙ ap (λ (val : List ℕ → ℕ → Bool). val trace t) same_val
      ∙ sym (given_at (verdict_of m') (start_delay m') m'.history h' cs' trace t p' ended' (third_demand.claim m' width' cs' s' h' ended' l') r')

no_later : (m : StartBy old_delay) (m' : Start) → m.simplified.table ≡ m'.simplified.table → m.rule ≡ m'.rule
    → (width width' : Width) (cs cs' : List Call) (s s' : AnySession) (h h' : List ℕ)
    → ListBy old_delay m width cs s h false → ListBy delay m' width' cs' s' h' false → states_fed cs ≡ states_fed cs'
    → length (verdicts_given cs) ≤ length (verdicts_given cs')
no_later m m' e r width width' cs cs' s s' h h' l l' x =
    let a = ((third_demand_by true).claim m width cs s h false l).sum in
    let b = (third_demand.claim m' width' cs' s' h' false l').sum in
    let n : length (states_fed cs) ≡ length (states_fed cs') = ap length x in
    let d : start_delay m' ≤ start_delay m =
    subst (λ (f : Formula). delay f ≤ start_delay m) (ap₂ watched_formula e r) (delay_sooner (watched_formula m.simplified.table m.rule)) in
    omega arith

pub second_close : SecondClose
second_close = record {
  demand = third_demand_by true;
  closes = λ s h x o. refl;
  widens = widens;
  widens_not = widens_not;
  anew = anew;
  anew_claim = anew_claim;
  goes_on = goes_on;
  same_verdicts = same_verdicts;
  same_verdict = same_verdict;
  no_later = no_later;
}
