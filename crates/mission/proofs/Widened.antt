-- Lists begun narrow: at most one widening is accepted, and they go on as if they had been wide from the start. Assumes nothing.
use Prim.Native.Nat.{ℕ, ◌+◌}
use native.Mathlib.Nat.{add-zero}
use native.Mathlib.Omega.{arith}
use mathlib.Core.Path.{◌≡◌, refl, sym, ap, ◌∙◌}
use mathlib.Core.Bool.{Bool, true, false}
use mathlib.Core.Logic.{◌⊎◌, inl, inr, ⊎_elim}
use mathlib.Core.List.{List, [], ◌∷◌, ◌++◌, append-nil}
use borrow.Author.Tests.{eq-eqb, ne_eqb, ltb-false, le-ltb}
use lib.Dec.{eqb, ltb}
use lib.ListN.{length, take}
use Rattle.refusals.specs.Numbers.{SEEN}
use Rattle.lists.specs.Choice.{Row, ◌if◌, first}
use Rattle.lists.specs.Sequence.{concat_map}
use Rattle.lists.proofs.Sequences.{concat_map_snoc}
use Rattle.lists.proofs.Rows.{no_row, last_other}
use Rattle.mltl.specs.Mltl.{Formula}
use Rattle.table.specs.Nodes.{wait_of}
use Rattle.session.specs.Session.{Effect, formula_of, unfit_by, feed_rows, feed_number_by, fed, feeding_by}
use Rattle.session.proofs.Effects.{feed_accepted}
use Rattle.narrow.proofs.Widening.{widen_same}
use Rattle.acts.specs.World.{Width, wide, limit}
use Rattle.acts.proofs.Listed.{limit_wide}
use Rattle.mission.specs.Calls.{AnySession, as_wide, Act, feed, close, widen, effect_by, ends, Takes, width_after, Call, MeetsBy, number_of, session_after, states_of, verdicts_of, widenings_by, widenings_of, widenings, wide_call, wide_calls_of, wide_calls, CallsBy, begin, accepted, refused}
use Rattle.mission.specs.Mission.{StartBy, ListBy, AsIfWide, width_number}
use Rattle.mission.proofs.Seen.{given}
use Rattle.mission.proofs.Listed.{handed_back_lem}

-- ---- widenings
widenings_snoc : (cs : List Call) (c : Call) → widenings (cs ++ (c ∷ [])) ≡ widenings cs + widenings_of c
widenings_snoc [] c = omega arith
widenings_snoc (d ∷ cs) c = omega (arith, widenings_snoc cs c)

one_more : (a : Act) (width : Width) → Takes a width → width_number width + widenings_by a ≡ width_number (width_after a width)
one_more (feed block) width t = add-zero (width_number width)
one_more close width t = add-zero (width_number width)
one_more widen width t = rw t

stays_wide : (a : Act) → width_after a wide ≡ wide
stays_wide (feed block) = refl
stays_wide close = refl
stays_wide widen = refl

-- ---- what is made of a call: one that is accepted, or nothing of a widening and of a refused one, which feed no state and give no verdict
abbrev One : Call → Type 0
One c = (wide_calls_of c ≡ wide_call c ∷ []) × Takes c.act wide

abbrev None : Call → Type 0
None c = (wide_calls_of c ≡ []) × (states_of c ≡ []) × (verdicts_of c ≡ [])

-- ---- joined lists
-- what f makes of the calls of a list made wide, joined, is what it makes of those of the list: one call more
module _ {B : Type 0} (f : Call → List B) (cs : List Call) (c : Call) (e : concat_map f (wide_calls cs) ≡ concat_map f cs) where
  joined_one : f (wide_call c) ≡ f c → wide_calls_of c ≡ wide_call c ∷ [] → concat_map f (wide_calls (cs ++ (c ∷ []))) ≡ concat_map f (cs ++ (c ∷ []))
  joined_one s o = rw (concat_map_snoc wide_calls_of cs c, o, concat_map_snoc f (wide_calls cs) (wide_call c), concat_map_snoc f cs c, e, s)

  joined_none : f c ≡ [] → wide_calls_of c ≡ [] → concat_map f (wide_calls (cs ++ (c ∷ []))) ≡ concat_map f (cs ++ (c ∷ []))
  joined_none s o = rw (concat_map_snoc wide_calls_of cs c, o, append-nil (wide_calls cs), concat_map_snoc f cs c, s, append-nil (concat_map f cs)) e

-- by either delay
module _ (old : Bool) where
  abbrev wait : Formula → ℕ
  wait = wait_of old

  -- ---- at most one widening
  pub widened_once : {first : AnySession} {start : List ℕ} {cs : List Call} {s : AnySession} {h : List ℕ} {ended : Bool} → CallsBy wait first start cs s h ended
      → width_number first.width + widenings cs ≡ width_number s.width
  widened_once {first} begin = add-zero (width_number first.width)
  widened_once (accepted {cs = cs} c l m z) =
      let n : widenings_of c ≡ widenings_by c.act = rw (eq-eqb (number_of c) 0 z) in
      omega (arith, widened_once l, widenings_snoc cs c, n, one_more c.act c.session.width m.takes)
  widened_once (refused {cs = cs} c l m r) =
      let n : widenings_of c ≡ 0 = rw (ne_eqb (number_of c) 0 r) in
      omega (arith, widened_once l, widenings_snoc cs c, n)

  -- ---- a call made wide
  -- an accepted feed is accepted under the wide limit, with the same effect
  module _ (s : AnySession) (h x o block : List ℕ) where
    abbrev number_at : Width → ℕ
    number_at width = feed_number_by wait (limit width) s.base (length block) (length h) (length x) (length o)

    abbrev seen_row : Width → List Row
    seen_row width = (SEEN if ltb (limit width) (s.base.seen + length block)) ∷ []

    within_wide : first (seen_row s.width) ≡ 0 → first (seen_row wide) ≡ 0
    within_wide e =
        let n : ℕ = s.base.seen + length block in
        let l = ltb-false (limit s.width) n (no_row (seen_row s.width) refl e 0) in
        let m = limit_wide s.width in
        rw (le-ltb (limit wide) n (omega arith))

    -- the rows before it do not ask how wide the count is
    abbrev rows_before : List Row
    rows_before = take 3 (feed_rows (limit wide) (unfit_by wait s.base) s.base.seen (length block) (length h) (length x) (length o))

    number_wide : number_at s.width ≡ 0 → number_at wide ≡ 0
    number_wide e = last_other rows_before (seen_row s.width) (seen_row wide) refl within_wide e

    fed_wide : number_at wide ≡ 0 → feeding_by wait (limit wide) s.base block h x o ≡ fed (wait (formula_of s.base)) s.base block h x o
    unfolding feeding_by
    fed_wide e = rw e

  same_wide : (a : Act) (s : AnySession) (h x o : List ℕ) → (effect_by wait a s h x o).answer.number ≡ 0 → effect_by wait a s h x o ≡ effect_by wait a (as_wide s.base) h x o
  same_wide (feed block) s h x o z =
      let p = feed_accepted wait s.base h x o (limit s.width) block z in
      p.0 ∙ sym (fed_wide s h x o block (number_wide s h x o block p.1))
  same_wide close s h x o z = refl
  same_wide widen s h x o z = refl

  meets_wide : (c : Call) → MeetsBy wait c → number_of c ≡ 0 → Takes c.act wide → MeetsBy wait (wide_call c)
  meets_wide c m z t = record {
    takes = t;
    is = m.is ∙ same_wide c.act c.session c.history c.scratch c.out (sym (ap (λ (e : Effect). e.answer.number) m.is) ∙ z);
  }

  one_or_widen : (c : Call) → MeetsBy wait c → number_of c ≡ 0 → One c ⊎ (None c × (c.act ≡ widen))
  one_or_widen c g z = go c.act refl
    where
      y : eqb (number_of c) 0 ≡ true
      y = eq-eqb (number_of c) 0 z

      go : (a : Act) → c.act ≡ a → One c ⊎ (None c × (c.act ≡ widen))
      go (feed block) e = inl (rw (y, e), rw e tt)
      go close e = inl (rw (y, e), rw e tt)
      go widen e = inr ((rw (y, e), rw (y, e), ap given (g.is ∙ ap (λ (a : Act). effect_by wait a c.session c.history c.scratch c.out) e)), e)

  none_refused : (c : Call) → MeetsBy wait c → (number_of c ≡ 0 → ⊥) → None c
  none_refused c g n = let y = ne_eqb (number_of c) 0 n in (rw y, rw y, ap given (handed_back_lem old c g n))

  -- ---- as if wide from the start
  module _ (m : StartBy wait) where
    wide_one : (cs : List Call) (c : Call) → AsIfWide m cs c.session c.history false → MeetsBy wait c → number_of c ≡ 0 → One c
        → AsIfWide m (cs ++ (c ∷ [])) (session_after c) c.effect.history (ends c.act)
    wide_one cs c k g z o = record {
      calls = rw (concat_map_snoc wide_calls_of cs c, o.0) (rw (stays_wide c.act) at (accepted (wide_call c) k.calls (meets_wide c g z o.1) z));
      states = joined_one states_of cs c k.states refl o.0;
      verdicts = joined_one verdicts_of cs c k.verdicts refl o.0;
    }

    wide_none : (cs : List Call) (c : Call) (s : AnySession) (h : List ℕ) (ended : Bool) → AsIfWide m cs s h ended → None c → AsIfWide m (cs ++ (c ∷ [])) s h ended
    wide_none cs c s h ended k o = record {
      calls = rw (concat_map_snoc wide_calls_of cs c, o.0, append-nil (wide_calls cs)) k.calls;
      states = joined_none states_of cs c k.states o.1 o.0;
      verdicts = joined_none verdicts_of cs c k.verdicts o.2 o.0;
    }

    wide_widen : (cs : List Call) (c : Call) → AsIfWide m cs c.session c.history false → MeetsBy wait c → number_of c ≡ 0 → None c → c.act ≡ widen
        → AsIfWide m (cs ++ (c ∷ [])) (session_after c) c.effect.history (ends c.act)
    wide_widen cs c k g z o e =
        let d : c.effect ≡ effect_by wait widen c.session c.history c.scratch c.out =
        g.is ∙ ap (λ (a : Act). effect_by wait a c.session c.history c.scratch c.out) e in
        let s : c.effect.answer.session ≡ c.session.base =
        ap (λ (q : Effect). q.answer.session) d ∙ widen_same wait c.session.base (sym (ap (λ (q : Effect). q.answer.number) d) ∙ z) in
        let u : AsIfWide m cs (session_after c) c.effect.history (ends c.act) =
        record { calls = rw (s, ap (λ (q : Effect). q.history) d, e) k.calls; states = k.states; verdicts = k.verdicts } in
        wide_none cs c _ _ _ u o

    pub as_if_wide : {width : Width} {cs : List Call} {s : AnySession} {h : List ℕ} {ended : Bool} → ListBy wait m width cs s h ended
        → AsIfWide m cs s h ended
    as_if_wide begin = record { calls = begin; states = refl; verdicts = refl }
    as_if_wide (accepted {cs = cs} c l g z) =
        ⊎_elim (λ (o : One c). wide_one cs c (as_if_wide l) g z o)
        (λ (o : None c × (c.act ≡ widen)). wide_widen cs c (as_if_wide l) g z o.0 o.1) (one_or_widen c g z)
    as_if_wide (refused {cs = cs} {s = s} {h = h} {ended = ended} c l g n) = wide_none cs c s h ended (as_if_wide l) (none_refused c g n)
