-- Every list of calls keeps the claim, and every beginning of such a list is one. Assumes nothing.
use Prim.Native.Nat.{ℕ, ◌+◌, ◌-◌, ◌≤◌}
use native.Mathlib.Omega.{arith}
use mathlib.Core.Path.{◌≡◌, refl, sym, ap, ◌∙◌, subst}
use mathlib.Core.Bool.{Bool, true, false}
use mathlib.Core.List.{List, [], ◌∷◌, ◌++◌, append-nil}
use borrow.Author.Tests.{eq-eqb, ne_eqb, ltb-false}
use lib.ListN.{length, take, length-take}
use lib.Seq.{take-nil}
use Rattle.lists.specs.Choice.{pick, first}
use Rattle.lists.proofs.Sequences.{concat_map_snoc, first_by}
use Rattle.lists.proofs.Rows.{no_row}
use Rattle.acts.specs.World.{World, Width, narrow, wide, limit, Session, Act, feed, close, widen, change, Effect, done, held_by, last_rows, Takes, Lawful}
use Rattle.acts.specs.Calls.{Call, Meets, is_accepted, block_of, states_of, verdicts_of, states_fed, verdicts_given, Rules, opened, first_tick_of, in_force, source_of, ruled, rules_by, ends, Calls, begin, accepted, refused, ClaimUnder}
use Rattle.acts.specs.Demand.{opening, session_by, rules_of, Beginning, Demand}
use Rattle.acts.proofs.Stream.{none_yet, fed_session, fed_claim, at_given, changed_session, changed_claim, closed_claim}
use Rattle.acts.proofs.Effects.{call_accepted, call_last, call_none, call_refused}

module _ (w : World) (start : List ℕ) where
  -- ---- what is true of a state that a list has come to
  pub record At (p : Rules w) (states : List ℕ) (given : List Bool) (s : Session w.Rule) (h : List ℕ) (ended : Bool) : Type 0 where
    pub session : s ≡ session_by w ended s.width p (length states)
    pub from : w.From (in_force w p) (source_of w p)
    -- a narrow session knows no change
    pub young : s.width ≡ narrow → s.first_tick ≡ 0
    pub claim : ClaimUnder w p start ended h states given

  -- one act more
  abbrev Next : Act w.Rule w.Source → Rules w → List ℕ → List Bool → Session w.Rule → List ℕ → Type 0
  Next a p states given s h =
      let e = done w a s h in At (ruled w a e.session.first_tick p) (states ++ block_of w a) (given ++ e.verdicts) e.session e.history (ends w a)

  next : (a : Act w.Rule w.Source) (p : Rules w) (states : List ℕ) (given : List Bool) (s : Session w.Rule) (h : List ℕ)
      → At p states given s h false → Takes w a s.width → Lawful w a → Next a p states given s h
  next a p states given s h k t o = subst (λ (z : Session w.Rule). Next a p states given z h) (sym k.session) (go a t o)
    where
      f_of : first_tick_of w p ≡ s.first_tick
      f_of = ap (λ (z : Session w.Rule). z.first_tick) (sym k.session)

      go : (a : Act w.Rule w.Source) → Takes w a s.width → Lawful w a → Next a p states given (session_by w false s.width p (length states)) h
      go (feed block) t o = record {
        session = fed_session w p start h states given k.claim k.from s.width block;
        from = k.from;
        young = λ q. f_of ∙ k.young q;
        claim = fed_claim w p start h states given k.claim k.from s.width block;
      }
      go close t o = record { session = refl; from = k.from; young = λ q. refl; claim = rw append-nil (closed_claim w p start h states given k.claim k.from s.width) }
      go widen t o = record {
        session = rw append-nil (ap (λ (n : ℕ). record { rule = in_force w p; seen = length states - first_tick_of w p; first_tick = n; width = wide }) (sym (f_of ∙ k.young t)));
        from = k.from;
        young = λ q. refl;
        claim = rw (append-nil states, append-nil given) k.claim;
      }
      go (change r b) t o = record {
        session = rw append-nil (changed_session w p start h states given k.claim k.from s.width r b o);
        from = o;
        young = λ q. absurd (let z = ap limit (sym q ∙ t) in omega arith);
        claim = rw append-nil (changed_claim w p start h states given k.claim k.from s.width r b o);
      }

-- ---- one call more
module _ (w : World) where
  rules_snoc : (p : Rules w) (cs : List (Call w)) (c : Call w)
      → rules_by w p (cs ++ (c ∷ [])) ≡ pick (is_accepted w c) (ruled w c.act c.effect.session.first_tick (rules_by w p cs)) (rules_by w p cs)
  rules_snoc p [] c = refl
  rules_snoc p (d ∷ cs) c = rules_snoc (rules_by w p (d ∷ [])) cs c

-- ---- the claim
module _ (w : World) (width : Width) (r : w.Rule) (b : w.Source) (o : w.From r b) (start : List ℕ) where
  abbrev pub Come : List (Call w) → Session w.Rule → List ℕ → Bool → Type 0
  Come cs s h ended = At w start (rules_of w r b cs) (states_fed w cs) (verdicts_given w cs) s h ended

  come_accepted : (cs : List (Call w)) (c : Call w) → Come cs c.session c.history false → Meets w c → Lawful w c.act → c.effect.number ≡ 0
      → Come (cs ++ (c ∷ [])) c.effect.session c.effect.history (ends w c.act)
  come_accepted cs c k m f z =
      let y : is_accepted w c ≡ true = eq-eqb c.effect.number 0 z in
      rw (concat_map_snoc (states_of w) cs c, concat_map_snoc (verdicts_of w) cs c, rules_snoc w (opened r b) cs c, y, call_accepted w c m z)
      (next w start c.act (rules_of w r b cs) (states_fed w cs) (verdicts_given w cs) c.session c.history k m.takes f)

  come_refused : (cs : List (Call w)) (s : Session w.Rule) (h : List ℕ) (ended : Bool) (c : Call w) → Come cs s h ended → Meets w c
      → (c.effect.number ≡ 0 → ⊥) → Come (cs ++ (c ∷ [])) s h ended
  come_refused cs s h ended c k m n =
      let y : is_accepted w c ≡ false = ne_eqb c.effect.number 0 n in
      rw (concat_map_snoc (states_of w) cs c, concat_map_snoc (verdicts_of w) cs c, rules_snoc w (opened r b) cs c, y, call_none w c m n, append-nil (states_fed w cs), append-nil (verdicts_given w cs)) k

  pub come : {cs : List (Call w)} {s : Session w.Rule} {h : List ℕ} {ended : Bool} → Calls w (opening w width r) start cs s h ended → Come cs s h ended
  come begin = record { session = refl; from = o; young = λ q. refl; claim = none_yet w r b start }
  come (accepted {cs = cs} c l m f z) = come_accepted cs c (come l) m f z
  come (refused {cs = cs} {s = s} {h = h} {ended = ended} c l m n) = come_refused cs s h ended c (come l) m n

  -- a change in a list starts the new rule at the first tick whose verdict was not given yet
  pub new_from : (cs : List (Call w)) (c : Call w) (r' : w.Rule) (b' : w.Source) → Calls w (opening w width r) start cs c.session c.history false
      → Meets w c → c.act ≡ change r' b' → w.From r' b' → c.effect.number ≡ 0 → c.effect.session.first_tick ≡ length (verdicts_given w cs)
  new_from cs c r' b' l m e f z =
      let k = come l in
      ap (λ (q : Effect w). q.session.first_tick) (call_accepted w c m z ∙ ap (λ (a : Act w.Rule w.Source). done w a c.session c.history) e)
      ∙ ap (λ (s : Session w.Rule). s.first_tick + s.seen - held_by w s) k.session
      ∙ at_given w (rules_of w r b cs) start c.history (states_fed w cs) (verdicts_given w cs) k.claim k.from c.session.width r' b' f

-- ---- every beginning of such a list is such a list
module _ (w : World) (s₀ : Session w.Rule) (start : List ℕ) (j : ℕ) where
  so_far : {cs : List (Call w)} {s : Session w.Rule} {h : List ℕ} {ended : Bool} → Calls w s₀ start cs s h ended → Beginning w s₀ start cs
  so_far l = record { session = _; history = _; ended = _; calls = l }

  pub beginning : {cs : List (Call w)} {s : Session w.Rule} {h : List ℕ} {ended : Bool} → Calls w s₀ start cs s h ended → Beginning w s₀ start (take j cs)
  beginning begin = rw take-nil (so_far begin)
  beginning (accepted {cs = cs} c l m f z) = first_by j cs c (Beginning w s₀ start) (beginning l) (so_far (accepted c l m f z))
  beginning (refused {cs = cs} c l m n) = first_by j cs c (Beginning w s₀ start) (beginning l) (so_far (refused c l m n))

-- ---- the count of a list's session stays within its limit: row 24 fits neither a close nor a change of it
some_limit : (p : Width) → 0 + 0 ≤ limit p
some_limit narrow = omega arith
some_limit wide = omega arith

pub limit_wide : (p : Width) → limit p ≤ limit wide
limit_wide narrow = omega arith
limit_wide wide = omega arith

module _ (w : World) where
  abbrev Within : Session w.Rule → Type 0
  Within s = s.first_tick + s.seen ≤ limit s.width

  within_done : (a : Act w.Rule w.Source) (s : Session w.Rule) (h : List ℕ) → Within s → first (last_rows w a s) ≡ 0 → Within (done w a s h).session
  within_done (feed block) s h i e =
      let n : ℕ = s.first_tick + s.seen + length block in
      let l = ltb-false (limit s.width) n (no_row (last_rows w (feed block) s) refl e 0) in omega arith
  within_done close s h i e = some_limit s.width
  within_done widen s h i e = let l = limit_wide s.width in omega arith
  within_done (change r b) s h i e = let l = length-take (held_by w s) h in omega arith

  within_call : (c : Call w) → Meets w c → c.effect.number ≡ 0 → Within c.session → Within c.effect.session
  within_call c m z i = subst (λ (e : Effect w). Within e.session) (sym (call_accepted w c m z)) (within_done c.act c.session c.history i (call_last w c m z))

  pub within : (width : Width) (r : w.Rule) (start : List ℕ) {cs : List (Call w)} {s : Session w.Rule} {h : List ℕ} {ended : Bool}
      → Calls w (opening w width r) start cs s h ended → Within s
  within width r start begin = some_limit width
  within width r start (accepted c l m f z) = within_call c m z (within width r start l)
  within width r start (refused c l m n) = within width r start l

pub demand : (w : World) → Demand w
demand w = record {
  claim = λ width r b start cs s h ended o l. (come w width r b o start l).claim;
  session = λ width r b start cs s h ended o l. (come w width r b o start l).session;
  beginnings = λ s₀ start cs s h ended l j. beginning w s₀ start j l;
  calls_refused = call_refused w;
}
