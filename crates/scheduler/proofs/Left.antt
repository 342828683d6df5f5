-- The blocks served are those left, and what nobody writes stays. Assumes nothing.
use Prim.Native.Nat.{ℕ, ◌+◌, ◌<◌}
use native.Mathlib.Omega.{arith}
use mathlib.Core.Path.{◌≡◌, refl, sym, ap, ap₂, ◌∙◌, subst}
use mathlib.Core.Logic.{⊎_elim}
use mathlib.Core.Bool.{true, false}
use mathlib.Core.List.{List, [], ◌∷◌, ◌++◌, append_assoc, append-nil}
use borrow.Author.Tests.{lt-ltb, eqb-true, eqb-false, eq-eqb, ne_eqb}
use lib.Dec.{eqb, ltb}
use lib.ListN.{length, take}
use Rattle.limits.specs.Limits.{history_words, waiting_words}
use Rattle.lists.specs.Choice.{pick}
use Rattle.lists.specs.Sequence.{concat_map}
use Rattle.lists.proofs.Tests.{true_or_false}
use Rattle.lists.proofs.Sequences.{concat_map_snoc}
use Rattle.table.specs.declared.Table.{Table}
use Rattle.records.specs.declared.Record.{Record}
use Rattle.records.proofs.Changes.{seen_at, seen_other, seen_count, waiting_at, waiting_other, waiting_count, both_at, both_other, both_count}
use Rattle.scheduler.specs.Rotation.{next_waiting, waits_at}
use Rattle.scheduler.specs.Calls.{State, record_of, waiting_of, block_at, Act, leave, turn, close, Effect, effect_of, Call, number_of, Calls, begin, accepted, refused, serves, leaves, closes, left_of, served_of, pending, Untouched}
use Rattle.scheduler.specs.Claim.{Same, Beyond}
use Rattle.scheduler.proofs.Parts.{part_in, part_apart, part_beyond}
use Rattle.scheduler.proofs.Accepted.{Leavable, refused_serves, call_by, left_by, fed_by, served_by, idle_by, closed_by, leave_accepted, Serves, Idle, turn_accepted, close_accepted}

-- ---- what an accepted call leaves of a record that it has nothing to do with
module _ (t : Table) (i : ℕ) (st : State) (x o : List ℕ) where
  leave_same : (j : ℕ) (block : List ℕ) → Leavable t st.records j (length block) (length st.waiting) → (i ≡ j → ⊥) → Same i st (left_by t st x o j block).state
  leave_same j block k d = record {
    values = waiting_other st.records j (length block) i d;
    history = refl;
    waiting = part_apart waiting_words (length st.records) st.waiting k.room j k.within block k.few i d;
  }

  serve_same : (from : ℕ) (e : Effect) → Serves t st x o from e → (i ≡ next_waiting st.records from → ⊥)
      → Same i st (served_by t st x o (next_waiting st.records from)).state
  serve_same from e v d =
      let n : ℕ = next_waiting st.records from in
      record {
        values = both_other st.records n ((record_of st n).seen + (record_of st n).waiting) 0 i d;
        history =
            part_apart history_words (length st.records) st.history v.known.history n v.found.within (fed_by t st x o n).history
            (omega (arith, v.words)) i d;
        waiting = refl;
      }

  close_same : (j : ℕ) → (i ≡ j → ⊥) → Same i st (closed_by t st x o j).state
  close_same j d = record { values = seen_other st.records j 0 i d; history = refl; waiting = refl }

  abbrev Stays : Act → Effect → Type 0
  Stays a e = serves i (call_by a st x o e) ≡ false → leaves i (call_by a st x o e) ≡ false → closes i (call_by a st x o e) ≡ false → Same i st e.state

  pub stays : (a : Act) (e : Effect) → e ≡ effect_of t a st x o → e.number ≡ 0 → Stays a e
  stays (leave j block) e g z =
      let k = leave_accepted t st x o j block e g z in
      subst (λ (y : Effect). Stays (leave j block) y) (sym k.is) (λ p q r. leave_same j block k.known (λ h. eqb-false j i q (sym h)))
  stays (turn from) e g z =
      ⊎_elim
      (λ (v : Serves t st x o from e).
      subst (λ (y : Effect). Stays (turn from) y) (sym v.is)
      (λ p q r. serve_same from e v (λ h. eqb-false (next_waiting st.records from) i p (sym h))))
      (λ (v : Idle t st x o from e).
      subst (λ (y : Effect). Stays (turn from) y) (sym v.is) (λ p q r. record { values = refl; history = refl; waiting = refl }))
      (turn_accepted t st x o from e g z)
  stays (close j) e g z =
      let k = close_accepted t st x o j e g z in
      subst (λ (y : Effect). Stays (close j) y) (sym k.is) (λ p q r. close_same j (λ h. eqb-false j i r (sym h)))

-- ---- the number of records, and the words that belong to none
module _ (t : Table) (st : State) (x o : List ℕ) where
  act_beyond : (a : Act) (e : Effect) → e ≡ effect_of t a st x o → e.number ≡ 0 → Beyond st e.state
  act_beyond (leave j block) e g z =
      let k = leave_accepted t st x o j block e g z in
      subst (λ (y : Effect). Beyond st y.state) (sym k.is) (record {
        count = waiting_count st.records j (length block);
        history = refl;
        waiting = part_beyond waiting_words (length st.records) st.waiting k.known.room j k.known.within block k.known.few;
      })
  act_beyond (turn from) e g z =
      ⊎_elim
      (λ (v : Serves t st x o from e).
      let n : ℕ = next_waiting st.records from in
      subst (λ (y : Effect). Beyond st y.state) (sym v.is) (record {
        count = both_count st.records n ((record_of st n).seen + (record_of st n).waiting) 0;
        history =
            part_beyond history_words (length st.records) st.history v.known.history n v.found.within (fed_by t st x o n).history
            (omega (arith, v.words));
        waiting = refl;
      }))
      (λ (v : Idle t st x o from e). subst (λ (y : Effect). Beyond st y.state) (sym v.is) (record { count = refl; history = refl; waiting = refl }))
      (turn_accepted t st x o from e g z)
  act_beyond (close j) e g z =
      let k = close_accepted t st x o j e g z in
      subst (λ (y : Effect). Beyond st y.state) (sym k.is) (record { count = seen_count st.records j 0; history = refl; waiting = refl })

-- ---- lists of calls
module _ (t : Table) (start : State) where
  untouched_snoc : (i : ℕ) (cs : List Call) (c : Call) → Untouched i (cs ++ (c ∷ [])) → Untouched i cs × (serves i c ≡ false) × (leaves i c ≡ false) × (closes i c ≡ false)
  untouched_snoc i [] c u = (tt, u.0.0, u.0.1, u.0.2)
  untouched_snoc i (d ∷ cs) c u = let k = untouched_snoc i cs c u.1 in ((u.0, k.0), k.1, k.2, k.3)

  -- what nobody writes stays
  pub untouched : (i : ℕ) {cs : List Call} {st : State} → Calls t start cs st → Untouched i cs → Same i start st
  untouched i begin u = record { values = refl; history = refl; waiting = refl }
  untouched i (accepted {cs = cs} c l g z) u =
      let k = untouched_snoc i cs c u in
      let p = untouched i l k.0 in
      let q = stays t i c.state c.scratch c.out c.act c.effect g z k.1 k.2 k.3 in
      record { values = q.values ∙ p.values; history = q.history ∙ p.history; waiting = q.waiting ∙ p.waiting }
  untouched i (refused {cs = cs} c l g z) u = untouched i l (untouched_snoc i cs c u).0

  pub beyond : {cs : List Call} {st : State} → Calls t start cs st → Beyond start st
  beyond begin = record { count = refl; history = refl; waiting = refl }
  beyond (accepted c l g z) =
      let p = beyond l in
      let q = act_beyond t c.state c.scratch c.out c.act c.effect g z in
      record {
        count = q.count ∙ p.count;
        history = (rw p.count at q.history) ∙ p.history;
        waiting = (rw p.count at q.waiting) ∙ p.waiting;
      }
  beyond (refused c l g z) = beyond l

-- ---- the blocks served are those left
module _ (t : Table) (i : ℕ) where
  abbrev InOrder : List Call → State → Type 0
  InOrder cs st = concat_map (left_of i) cs ≡ concat_map (served_of i) cs ++ pending i st

  -- one call more leaves ls, and serves ss
  order_more : (cs : List Call) (c : Call) (st st' : State) (ls ss : List (List ℕ)) → left_of i c ≡ ls → served_of i c ≡ ss
      → pending i st ++ ls ≡ ss ++ pending i st' → InOrder cs st → InOrder (cs ++ (c ∷ [])) st'
  order_more cs c st st' ls ss p q e o =
      concat_map_snoc (left_of i) cs c ∙ ap₂ (λ (x y : List (List ℕ)). x ++ y) o p
      ∙ append_assoc (concat_map (served_of i) cs) (pending i st) ls ∙ ap (λ (x : List (List ℕ)). concat_map (served_of i) cs ++ x) e
      ∙ sym (append_assoc (concat_map (served_of i) cs) ss (pending i st'))
      ∙ ap (λ (x : List (List ℕ)). x ++ pending i st')
      (ap (λ (x : List (List ℕ)). concat_map (served_of i) cs ++ x) (sym q) ∙ sym (concat_map_snoc (served_of i) cs c))

  -- it leaves none and serves none, and the block that waits stays
  order_same : (cs : List Call) (c : Call) (st st' : State) → left_of i c ≡ [] → served_of i c ≡ [] → (record_of st' i).waiting ≡ (record_of st i).waiting
      → waiting_of st' i ≡ waiting_of st i → InOrder cs st → InOrder (cs ++ (c ∷ [])) st'
  order_same cs c st st' p q w x o =
      order_more cs c st st' [] [] p q
      (append-nil (pending i st) ∙ sym (ap₂ (λ (k : ℕ) (xs : List ℕ). pick (ltb 0 k) (take k xs ∷ []) []) w x)) o

  module _ (cs : List Call) (st : State) (x o : List ℕ) (before : InOrder cs st) where
    abbrev After : Act → Effect → Type 0
    After a e = InOrder (cs ++ (call_by a st x o e ∷ [])) e.state

    -- a block is left with record i
    order_left : (block : List ℕ) → Leavable t st.records i (length block) (length st.waiting) → After (leave i block) (left_by t st x o i block)
    order_left block k =
        let st' : State = (left_by t st x o i block).state in
        let none : pending i st ≡ [] = rw k.idle in
        let n : (record_of st' i).waiting ≡ length block = ap (λ (r : Record). r.waiting) (waiting_at st.records i (length block) k.within) in
        let one : pending i st' ≡ block ∷ [] =
        ap (λ (y : ℕ). pick (ltb 0 y) (take y (waiting_of st' i) ∷ []) []) n
        ∙ rw (lt-ltb 0 (length block) k.some)
        (ap (λ (y : List ℕ). y ∷ []) (part_in waiting_words (length st.records) st.waiting k.room i k.within block k.few)) in
        order_more cs (call_by (leave i block) st x o (left_by t st x o i block)) st st' (block ∷ []) [] (rw (eq-eqb i i refl)) refl
        (ap (λ (y : List (List ℕ)). y ++ (block ∷ [])) none ∙ sym one) before

    -- record i is served
    order_served : (from : ℕ) → i < length st.records → waits_at st.records i ≡ true → After (turn from) (served_by t st x o i)
    order_served from h w =
        let st' : State = (served_by t st x o i).state in
        let n : (record_of st' i).waiting ≡ 0 =
        ap (λ (r : Record). r.waiting) (both_at st.records i ((record_of st i).seen + (record_of st i).waiting) 0 h) in
        let none : pending i st' ≡ [] = rw n in
        let one : pending i st ≡ block_at st i ∷ [] = rw w in
        order_more cs (call_by (turn from) st x o (served_by t st x o i)) st st' [] (block_at st i ∷ []) refl (rw (eq-eqb i i refl))
        (append-nil (pending i st) ∙ one ∙ ap (λ (y : List (List ℕ)). block_at st i ∷ y) (sym none)) before

    order_act : (a : Act) (e : Effect) → e ≡ effect_of t a st x o → e.number ≡ 0 → After a e
    order_act (leave j block) e g z =
        let k = leave_accepted t st x o j block e g z in
        subst (λ (y : Effect). After (leave j block) y) (sym k.is) (⊎_elim
        (λ (b : eqb j i ≡ true).
        subst (λ (m : ℕ). Leavable t st.records m (length block) (length st.waiting) → After (leave m block) (left_by t st x o m block)) (sym (eqb-true j i b))
        (order_left block) k.known)
        (λ (b : eqb j i ≡ false).
        let s = leave_same t i st x o j block k.known (λ h. eqb-false j i b (sym h)) in
        order_same cs (call_by (leave j block) st x o (left_by t st x o j block)) st (left_by t st x o j block).state (rw b) refl
        (ap (λ (r : Record). r.waiting) s.values) s.waiting before)
        (true_or_false (eqb j i)))
    order_act (turn from) e g z =
        ⊎_elim
        (λ (v : Serves t st x o from e).
        let n : ℕ = next_waiting st.records from in
        subst (λ (y : Effect). After (turn from) y) (sym v.is) (⊎_elim
        (λ (b : eqb n i ≡ true).
        subst (λ (m : ℕ). m < length st.records → waits_at st.records m ≡ true → After (turn from) (served_by t st x o m)) (sym (eqb-true n i b))
        (order_served from) v.found.within v.found.waits)
        (λ (b : eqb n i ≡ false).
        let s = serve_same t i st x o from e v (λ h. eqb-false n i b (sym h)) in
        order_same cs (call_by (turn from) st x o (served_by t st x o n)) st (served_by t st x o n).state refl (rw b)
        (ap (λ (r : Record). r.waiting) s.values) refl before)
        (true_or_false (eqb n i))))
        (λ (v : Idle t st x o from e).
        subst (λ (y : Effect). After (turn from) y) (sym v.is) (order_same cs (call_by (turn from) st x o (idle_by t st x o from)) st st refl refl refl refl before))
        (turn_accepted t st x o from e g z)
    order_act (close j) e g z =
        let k = close_accepted t st x o j e g z in
        let still : (record_of (closed_by t st x o j).state i).waiting ≡ (record_of st i).waiting =
        ⊎_elim
        (λ (b : eqb j i ≡ true).
        subst (λ (m : ℕ). m < length st.records → (record_of (closed_by t st x o m).state i).waiting ≡ (record_of st i).waiting) (sym (eqb-true j i b))
        (λ h. ap (λ (r : Record). r.waiting) (seen_at st.records i 0 h)) k.known.within)
        (λ (b : eqb j i ≡ false). ap (λ (r : Record). r.waiting) (seen_other st.records j 0 i (λ h. eqb-false j i b (sym h))))
        (true_or_false (eqb j i)) in
        subst (λ (y : Effect). After (close j) y) (sym k.is)
        (order_same cs (call_by (close j) st x o (closed_by t st x o j)) st (closed_by t st x o j).state refl refl still refl before)

  pub in_order : (start : State) → (record_of start i).waiting ≡ 0 → {cs : List Call} {st : State} → Calls t start cs st → InOrder cs st
  in_order start n begin = rw n
  in_order start n (accepted {cs = cs} c l g z) = order_act cs c.state c.scratch c.out (in_order start n l) c.act c.effect g z
  in_order start n (refused {cs = cs} {st = st} c l g z) =
      order_same cs c st st (rw (ne_eqb (number_of c) 0 z)) (rw (refused_serves t c.state c.scratch c.out c.act c.effect g z)) refl refl (in_order start n l)
