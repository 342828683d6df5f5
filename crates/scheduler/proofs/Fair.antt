-- Whoever waits is served within as many accepted turns as there are records; and lists of calls cut at a call. Assumes nothing.
use Prim.Native.Nat.{ℕ, ◌+◌, ◌≤◌, ◌<◌}
use native.Mathlib.Omega.{arith}
use mathlib.Core.Path.{◌≡◌, refl, sym, ap, ◌∙◌, subst}
use mathlib.Core.Logic.{◌⊎◌, inl, inr, ⊎_elim}
use mathlib.Core.Bool.{true}
use mathlib.Core.List.{List, [], ◌∷◌, ◌++◌}
use borrow.Author.Tests.{ltb-true, eq-eqb, ne_eqb}
use lib.Dec.{ltb}
use lib.ListN.{length, take, drop, length-append, drop_of_length-le}
use lib.Seq.{take-nil, drop-nil, take_all, take-append-le, drop-append-le}
use Rattle.lists.proofs.Tests.{lt_or_le}
use Rattle.table.specs.declared.Table.{Table}
use Rattle.records.specs.declared.Record.{Record}
use Rattle.records.specs.Records.{record_at}
use Rattle.records.proofs.Changes.{seen_other, seen_count, waiting_other, waiting_count, both_other, both_count}
use Rattle.scheduler.specs.Rotation.{start_of, waits_at, next_waiting}
use Rattle.scheduler.specs.Calls.{State, Act, leave, turn, close, Effect, effect_of, Call, number_of, Calls, begin, accepted, refused, turns_of, turns, serves, place_after, Takes, InTurn, Served, here, later}
use Rattle.scheduler.specs.Claim.{Split}
use Rattle.scheduler.proofs.Rotation.{Ranked, rank, start_le, Found, Nearer, next_found, served_or_nearer}
use Rattle.scheduler.proofs.Accepted.{call_by, left_by, served_by, closed_by, leave_accepted, Serves, Idle, turn_accepted, close_accepted}

-- ---- one call more
turns_snoc : (cs : List Call) (c : Call) → turns (cs ++ (c ∷ [])) ≡ turns cs + turns_of c
turns_snoc [] c = omega arith
turns_snoc (d ∷ cs) c = let e = turns_snoc cs c in omega arith

-- the place that the last accepted turn gave back
abbrev last_place : ℕ → List Call → ℕ
last_place p [] = p
last_place p (c ∷ cs) = last_place (place_after p c) cs

place_snoc : (p : ℕ) (cs : List Call) (c : Call) → last_place p (cs ++ (c ∷ [])) ≡ place_after (last_place p cs) c
place_snoc p [] c = refl
place_snoc p (d ∷ cs) c = place_snoc (place_after p d) cs c

in_turn_snoc : (p : ℕ) (cs : List Call) (c : Call) → InTurn p (cs ++ (c ∷ [])) → InTurn p cs × (number_of c ≡ 0 → Takes (last_place p cs) c.act)
in_turn_snoc p [] c t = (tt, t.0)
in_turn_snoc p (d ∷ cs) c t = let k = in_turn_snoc (place_after p d) cs c t.1 in ((t.0, k.0), k.1)

served_before : {r : ℕ} {cs : List Call} (c : Call) → Served r cs → Served r (cs ++ (c ∷ []))
served_before c (here e) = here e
served_before c (later s) = later (served_before c s)

served_last : (r : ℕ) (cs : List Call) (c : Call) → serves r c ≡ true → Served r (cs ++ (c ∷ []))
served_last r [] c e = here e
served_last r (d ∷ cs) c e = later (served_last r cs c e)

-- ---- record r still waits, and the turns so far have brought it nearer; k is its rank at the start
module _ (t : Table) (start : State) (r p k : ℕ) where
  record Still (cs : List Call) (st : State) : Type 0 where
    pub within : r < length st.records
    pub waits : waits_at st.records r ≡ true
    pub steps : ℕ
    pub ranked : Ranked (length st.records) (start_of (length st.records) (last_place p cs)) r steps
    pub sum : steps + turns cs ≤ k

  -- it has been served, or still waits
  abbrev Goes : List Call → Call → Type 0
  Goes cs c = Served r (cs ++ (c ∷ [])) ⊎ Still (cs ++ (c ∷ [])) c.effect.state

  -- a call that is no accepted turn, and leaves record r
  kept : (cs : List Call) (c : Call) (st st' : State) → turns_of c ≡ 0 → place_after (last_place p cs) c ≡ last_place p cs
      → length st'.records ≡ length st.records → record_at st'.records r ≡ record_at st.records r
      → Still cs st → Still (cs ++ (c ∷ [])) st'
  kept cs c st st' z q l e s = record {
    within = rw l s.within;
    waits = ap (λ (x : Record). ltb 0 x.waiting) e ∙ s.waits;
    steps = s.steps;
    ranked = rw (place_snoc p cs c, q, l) s.ranked;
    sum = let h = s.sum in omega (arith, turns_snoc cs c);
  }

  -- who waits is not idle
  not_idle : (rs : List Record) (i : ℕ) → waits_at rs r ≡ true → (record_at rs i).waiting ≡ 0 → r ≡ i → ⊥
  not_idle rs i w z e =
      let h : 0 < (record_at rs r).waiting = ltb-true 0 (record_at rs r).waiting w in
      let q : (record_at rs r).waiting ≡ 0 = ap (λ (j : ℕ). (record_at rs j).waiting) e ∙ z in
      omega arith

  after_serving : (cs : List Call) (from : ℕ) (st : State) (x o : List ℕ) → from ≡ last_place p cs → Still cs st → Found st.records from (next_waiting st.records from)
      → Goes cs (call_by (turn from) st x o (served_by t st x o (next_waiting st.records from)))
  after_serving cs from st x o f s v =
      let rs : List Record = st.records in
      let n : ℕ = next_waiting rs from in
      let c : Call = call_by (turn from) st x o (served_by t st x o n) in
      ⊎_elim
      (λ (q : n ≡ r). inl (served_last r cs c (eq-eqb n r q)))
      (λ (q : Nearer rs from n r s.steps).
      let l : length c.effect.state.records ≡ length rs = both_count rs n ((record_at rs n).seen + (record_at rs n).waiting) 0 in
      inr (record {
        within = rw l s.within;
        waits = ap (λ (y : Record). ltb 0 y.waiting) (both_other rs n ((record_at rs n).seen + (record_at rs n).waiting) 0 r q.other) ∙ s.waits;
        steps = q.steps;
        ranked = rw (place_snoc p cs c, l) q.ranked;
        sum = let h = s.sum in let g = q.less in omega (arith, turns_snoc cs c);
      }))
      (served_or_nearer rs from r s.steps n s.within (rw f s.ranked) s.waits v)

  after_act : (cs : List Call) (a : Act) (st : State) (x o : List ℕ) (e : Effect) → Takes (last_place p cs) a → e ≡ effect_of t a st x o → e.number ≡ 0 → Still cs st
      → Goes cs (call_by a st x o e)
  after_act cs (leave i block) st x o e f g z s =
      let a = leave_accepted t st x o i block e g z in
      subst (λ (y : Effect). Goes cs (call_by (leave i block) st x o y)) (sym a.is)
      (inr (kept cs (call_by (leave i block) st x o (left_by t st x o i block)) st _ refl refl (waiting_count st.records i (length block))
      (waiting_other st.records i (length block) r (not_idle st.records i s.waits a.known.idle)) s))
  after_act cs (turn from) st x o e f g z s =
      ⊎_elim
      (λ (v : Serves t st x o from e).
      subst (λ (y : Effect). Goes cs (call_by (turn from) st x o y)) (sym v.is) (after_serving cs from st x o f s v.found))
      (λ (v : Idle t st x o from e).
      absurd (let h : next_waiting st.records from < length st.records = (next_found st.records from r s.within s.waits).within in omega (arith, v.none)))
      (turn_accepted t st x o from e g z)
  after_act cs (close i) st x o e f g z s =
      let a = close_accepted t st x o i e g z in
      subst (λ (y : Effect). Goes cs (call_by (close i) st x o y)) (sym a.is)
      (inr (kept cs (call_by (close i) st x o (closed_by t st x o i)) st _ refl refl (seen_count st.records i 0)
      (seen_other st.records i 0 r (not_idle st.records i s.waits a.known.idle)) s))

  still_or_served : Still [] start → {cs : List Call} {st : State} → Calls t start cs st → InTurn p cs → Served r cs ⊎ Still cs st
  still_or_served s begin f = inr s
  still_or_served s (accepted {cs = cs} c l g z) f =
      let q = in_turn_snoc p cs c f in
      ⊎_elim (λ (v : Served r cs). inl (served_before c v))
      (λ (v : Still cs c.state). after_act cs c.act c.state c.scratch c.out c.effect (q.1 z) g z v) (still_or_served s l q.0)
  still_or_served s (refused {cs = cs} {st = st} c l g z) f =
      let q = in_turn_snoc p cs c f in
      let b = ne_eqb (number_of c) 0 z in
      ⊎_elim (λ (v : Served r cs). inl (served_before c v)) (λ (v : Still cs st). inr (kept cs c st st (rw b) (rw b) refl refl v)) (still_or_served s l q.0)

pub fair : (t : Table) (start : State) (r p : ℕ) {cs : List Call} {st : State} → Calls t start cs st → InTurn p cs → r < length start.records
    → waits_at start.records r ≡ true → length start.records ≤ turns cs → Served r cs
fair t start r p {cs} {st} l f h w enough =
    let n : ℕ = length start.records in
    let k = rank n (start_of n p) r (start_le n p) h in
    let b : k.steps < n = k.ranked.below in
    ⊎_elim (λ (v : Served r cs). v) (λ (v : Still t start r p k.steps cs st). absurd (let s = v.sum in omega arith))
    (still_or_served t start r p k.steps (record { within = h; waits = w; steps = k.steps; ranked = k.ranked; sum = omega arith }) l f)

-- ---- every end of a list of calls is one, from the state that was then reached
module _ (t : Table) (start : State) (j : ℕ) where
  cut_more : (cs : List Call) (c : Call) (st st' : State) → Calls t start (cs ++ (c ∷ [])) st'
      → ((u : State) → Calls t u (drop j cs) st → Calls t u (drop j cs ++ (c ∷ [])) st')
      → Split t start (take j cs) (drop j cs) st → Split t start (take j (cs ++ (c ∷ []))) (drop j (cs ++ (c ∷ []))) st'
  cut_more cs c st st' l more s =
      ⊎_elim
      (λ (h : length cs < j).
      let k : length (cs ++ (c ∷ [])) ≤ j = simp length-append (omega arith) in
      rw (take_all j (cs ++ (c ∷ [])) k, drop_of_length-le (cs ++ (c ∷ [])) k) (record { middle = st'; first = l; second = begin }))
      (λ (h : j ≤ length cs).
      rw (take-append-le j cs (c ∷ []) h, drop-append-le j cs (c ∷ []) h) (record { middle = s.middle; first = s.first; second = more s.middle s.second }))
      (lt_or_le (length cs) j)

  pub cut : {cs : List Call} {st : State} → Calls t start cs st → Split t start (take j cs) (drop j cs) st
  cut begin = rw (take-nil {A = Call} j, drop-nil {A = Call} j) (record { middle = start; first = begin; second = begin })
  cut (accepted {cs = cs} c l g z) = cut_more cs c c.state c.effect.state (accepted c l g z) (λ u k. accepted c k g z) (cut l)
  cut (refused {cs = cs} {st = st} c l g z) = cut_more cs c st st (refused c l g z) (λ u k. refused c k g z) (cut l)
