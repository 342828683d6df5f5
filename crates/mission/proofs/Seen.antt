-- Each call is one of crate acts, and so is each list. Assumes nothing.
use Prim.Native.Nat.{ℕ, ◌+◌, ◌≤◌, min}
use native.Mathlib.Nat.{zero-add}
use native.Mathlib.Omega.{arith}
use mathlib.Core.Path.{◌≡◌, refl, ap, ◌∙◌}
use mathlib.Core.Bool.{Bool, true, false}
use mathlib.Core.Logic.{⊎_elim}
use mathlib.Core.List.{List, [], ◌∷◌, ◌++◌, map, map-append}
use borrow.Author.Tests.{le-ltb, eqb-true, eqb-false}
use lib.Dec.{ltb, eqb}
use lib.ListN.{length}
use Rattle.lists.specs.Choice.{pick, first}
use Rattle.lists.specs.Sequence.{ticks}
use Rattle.lists.specs.Bits.{bit_at}
use Rattle.lists.proofs.Sequences.{concat_map_map}
use Rattle.lists.proofs.Tests.{true_or_false, ◌also◌}
use Rattle.table.specs.Nodes.{wait_of}
use Rattle.session.specs.Session.{Effect, unfit_by, feeding_by, fed, closing_by, closed, feed_number_by, close_number_by, kept_of, formula_of, feed_count, refused as unchanged}
use Rattle.session.proofs.Effects.{words_verdicts, close_number_lem}
use Rattle.narrow.specs.Narrow.{widening_by}
use Rattle.acts.specs.World.{Width, wide, limit, effect_of as acted, rows_of as rowsThere, done, refused as refusedThere}
use Rattle.acts.specs.World as world
use Rattle.acts.specs.Calls as acts
use Rattle.acts.specs.Demand.{opening}
use Rattle.acts.specs.WithoutChanges.{keeps_rule, unchanged as unchangedRules}
use Rattle.acts.proofs.Listed.{within}
use Rattle.mission.specs.Calls.{AnySession, Act, feed, close, widen, effect_by, block_of, ends, Takes, width_after, Call, MeetsBy, number_of, session_after, states_of, verdicts_of, states_fed, verdicts_given, CallsBy, begin, accepted, refused}
use Rattle.mission.proofs.World.{Watch, Buffers, short, tables, seen_session, seen_act, seen_effect, seen_call}

-- ---- one call
-- the verdicts that it gave
abbrev pub given : Effect → List Bool
given e = ticks (bit_at e.out) e.answer.count

-- the session that open gives for a rule
abbrev pub opened : Watch → Width → AnySession
opened r width = record { base = record { table = r.table; rule = r.rule; seen = 0 }; width = width }

-- by either delay
module _ (old : Bool) where
  module _ (s : AnySession) (h x o : List ℕ) where
    abbrev lent : Buffers
    lent = record { scratch = x; out = o }

    abbrev d : ℕ
    d = wait_of old (formula_of s.base)

    module _ (block : List ℕ) where
      same_feed : (n : ℕ) (b : Bool) → let e = pick b (fed d s.base block h x o) (unchanged n s.base h x o) in
          seen_effect old e (given e) s.width ≡ pick b (done (tables old) (world.feed block) (seen_session s) h) (refusedThere (tables old) n (world.feed block) (seen_session s) h)
      same_feed n true =
          ap (λ (v : List Bool). seen_effect old (fed d s.base block h x o) v s.width)
          (words_verdicts 16 (feed_count d s.base (length block)) (formula_of s.base) (kept_of d s.base h ++ block) o)
      same_feed n false = refl

      feed_is : let e = effect_by (wait_of old) (feed block) s h x o in seen_effect old e (given e) s.width ≡ acted (tables old) (world.feed block) (seen_session s) h lent
      unfolding feeding_by acted
      feed_is = let n = feed_number_by (wait_of old) (limit s.width) s.base (length block) (length h) (length x) (length o) in rw zero-add (same_feed n (eqb n 0))

    same_close : (n : ℕ) (b : Bool) → let e = pick b (closed d s.base h x o) (unchanged n s.base h x o) in
        seen_effect old e (given e) s.width ≡ pick b (done (tables old) world.close (seen_session s) h) (refusedThere (tables old) n world.close (seen_session s) h)
    same_close n true =
        ap (λ (v : List Bool). seen_effect old (closed d s.base h x o) v s.width)
        (words_verdicts 64 (min s.base.seen d) (formula_of s.base) (kept_of d s.base h) o)
    same_close n false = refl

    -- a close has no row 24 here: the numbers are the same where the count is within its limit, or another row fits
    abbrev here : ℕ
    here = close_number_by (wait_of old) s.base (length h) (length x) (length o)

    abbrev there : ℕ
    there = first (rowsThere (tables old) world.close (seen_session s) h lent)

    number_within : 0 + s.base.seen ≤ limit s.width → there ≡ here
    number_within l = rw (le-ltb (limit s.width) (0 + s.base.seen + 0) (omega arith))

    number_refused : (here ≡ 0 → ⊥) → there ≡ here
    number_refused n = go (unfit_by (wait_of old) s.base) (short 64 h lent) (ltb (limit s.width) (0 + s.base.seen + 0)) n
      where
        go : (a b c : Bool) → (◌≡◌ {A = ℕ} (pick a 25 (pick b 23 0)) 0 → ⊥) → ◌≡◌ {A = ℕ} (pick a 25 (pick b 23 (pick c 24 0))) (pick a 25 (pick b 23 0))
        go true b c n = refl
        go false true c n = refl
        go false false c n = absurd (n refl)

    close_is : there ≡ here → let e = effect_by (wait_of old) close s h x o in seen_effect old e (given e) s.width ≡ acted (tables old) world.close (seen_session s) h lent
    unfolding closing_by acted
    close_is e = rw e (same_close here (eqb here 0))

    widen_is : let e = effect_by (wait_of old) widen s h x o in seen_effect old e (given e) wide ≡ acted (tables old) world.widen (seen_session s) h lent
    unfolding widening_by acted
    widen_is = ⊎_elim (λ (e : unfit_by (wait_of old) s.base ≡ true). rw e) (λ (e : unfit_by (wait_of old) s.base ≡ false). rw e) (true_or_false (unfit_by (wait_of old) s.base))

  -- an act on any session; of an accepted close it is used that the count of states is within its limit
  meets_by : (a : Act) (s : AnySession) (h x o : List ℕ) (e : Effect) → e ≡ effect_by (wait_of old) a s h x o → (e.answer.number ≡ 0 → 0 + s.base.seen ≤ limit s.width)
      → seen_effect old e (given e) (width_after a s.width) ≡ acted (tables old) (seen_act a) (seen_session s) h (record { scratch = x; out = o })
  meets_by (feed block) s h x o e m l = ap (λ (q : Effect). seen_effect old q (given q) s.width) m ∙ feed_is s h x o block
  meets_by close s h x o e m l =
      let n : e.answer.number ≡ here s h x o = ap (λ (q : Effect). q.answer.number) m ∙ close_number_lem (wait_of old) s.base h x o in
      let k : there s h x o ≡ here s h x o =
      ⊎_elim (λ (z : eqb e.answer.number 0 ≡ true). number_within s h x o (l (eqb-true e.answer.number 0 z)))
      (λ (z : eqb e.answer.number 0 ≡ false). number_refused s h x o (λ q. eqb-false e.answer.number 0 z (n ∙ q)))
      (true_or_false (eqb e.answer.number 0)) in
      ap (λ (q : Effect). seen_effect old q (given q) s.width) m ∙ close_is s h x o k
  meets_by widen s h x o e m l = ap (λ (q : Effect). seen_effect old q (given q) wide) m ∙ widen_is s h x o

  takes : (a : Act) (width : Width) → Takes a width → world.Takes (tables old) (seen_act a) width
  takes (feed block) width t = tt
  takes close width t = tt
  takes widen width t = t

  meets : (c : Call) → MeetsBy (wait_of old) c → (number_of c ≡ 0 → 0 + c.session.base.seen ≤ limit c.session.width) → acts.Meets (tables old) (seen_call old c)
  meets c m l = record {
    takes = takes c.act c.session.width m.takes;
    is = meets_by c.act c.session c.history c.scratch c.out c.effect m.is l;
  }

  -- ---- lists of calls
  lawful : (a : Act) → world.Lawful (tables old) (seen_act a)
  lawful (feed block) = tt
  lawful close = tt
  lawful widen = tt

  same_end : (a : Act) → acts.ends (tables old) (seen_act a) ≡ ends a
  same_end (feed block) = refl
  same_end close = refl
  same_end widen = refl

  same_block : (a : Act) → acts.block_of (tables old) (seen_act a) ≡ block_of a
  same_block (feed block) = refl
  same_block close = refl
  same_block widen = refl

  module _ (r : Watch) (width : Width) (start : List ℕ) where
    abbrev pub Seen : List Call → AnySession → List ℕ → Bool → Type 0
    Seen cs s h ended = acts.Calls (tables old) (opening (tables old) width r) start (map (seen_call old) cs) (seen_session s) h ended

    seen_accepted : (cs : List Call) (c : Call) → Seen cs c.session c.history false → MeetsBy (wait_of old) c → number_of c ≡ 0
        → Seen (cs ++ (c ∷ [])) (session_after c) c.effect.history (ends c.act)
    seen_accepted cs c l m z =
        rw (map-append, ← same_end c.act) (acts.accepted (seen_call old c) l (meets c m (λ e. within (tables old) width r start l)) (lawful c.act) z)

    seen_refused : (cs : List Call) (s : AnySession) (h : List ℕ) (ended : Bool) (c : Call) → Seen cs s h ended → MeetsBy (wait_of old) c → (number_of c ≡ 0 → ⊥)
        → Seen (cs ++ (c ∷ [])) s h ended
    seen_refused cs s h ended c l m n = rw map-append (acts.refused (seen_call old c) l (meets c m (λ e. absurd (n e))) n)

    pub seen : {cs : List Call} {s : AnySession} {h : List ℕ} {ended : Bool} → CallsBy (wait_of old) (opened r width) start cs s h ended → Seen cs s h ended
    seen begin = acts.begin
    seen (accepted {cs = cs} c l m z) = seen_accepted cs c (seen l) m z
    seen (refused {cs = cs} {s = s} {h = h} {ended = ended} c l m n) = seen_refused cs s h ended c (seen l) m n

  -- ---- what was fed and given; no call changes the rule
  pub same_states : (cs : List Call) → acts.states_fed (tables old) (map (seen_call old) cs) ≡ states_fed cs
  same_states cs = concat_map_map (acts.states_of (tables old)) (seen_call old) states_of (λ c. rw (same_block c.act)) cs

  pub same_verdicts : (cs : List Call) → acts.verdicts_given (tables old) (map (seen_call old) cs) ≡ verdicts_given cs
  same_verdicts cs = concat_map_map (acts.verdicts_of (tables old)) (seen_call old) verdicts_of (λ c. refl) cs

  keeps : (a : Act) → keeps_rule (tables old) (seen_act a) ≡ true
  keeps (feed block) = refl
  keeps close = refl
  keeps widen = refl

  pub no_change : (cs : List Call) → unchangedRules (tables old) (map (seen_call old) cs) ≡ true
  no_change [] = refl
  no_change (c ∷ cs) = keeps c.act also no_change cs
