-- The search for the next record: it finds one if one waits, and each search brings every waiting record nearer. Assumes nothing.
use Prim.Native.Nat.{ℕ, zero, suc, ◌+◌, ◌-◌, ◌≤◌, ◌<◌}
use native.Mathlib.Omega.{arith}
use mathlib.Core.Path.{◌≡◌, refl}
use mathlib.Core.Logic.{◌⊎◌, inl, inr, ⊎_elim}
use mathlib.Core.Bool.{Bool, true, false}
use mathlib.Core.List.{List}
use borrow.Author.Tests.{lt-ltb, le-ltb}
use lib.ListN.{length}
use Rattle.lists.specs.Choice.{pick}
use Rattle.lists.proofs.Tests.{lt_or_le, true_or_false}
use Rattle.records.specs.declared.Record.{Record}
use Rattle.scheduler.specs.Rotation.{least, start_of, stepped, waits_at, passed, next, next_waiting}

-- ---- the least place with a test
pub least_le : (f : ℕ → Bool) (m j : ℕ) → j < m → f j ≡ true → least f m ≤ j
unfolding least
least_le f zero j h e = absurd (omega arith)
least_le f (suc m) zero h e = rw e (omega arith)
least_le f (suc m) (suc j) h e =
    ⊎_elim (λ (t : f 0 ≡ true). rw t (omega arith))
    (λ (t : f 0 ≡ false). rw t (let k : least (λ i. f (suc i)) m ≤ j = least_le (λ i. f (suc i)) m j (omega arith) e in omega arith)) (true_or_false (f 0))

holds_at : (b : Bool) (f : ℕ → Bool) (m l : ℕ) → f 0 ≡ b → (l < m → f (suc l) ≡ true) → pick b 0 (suc l) < suc m → f (pick b 0 (suc l)) ≡ true
holds_at true f m l e g h = e
holds_at false f m l e g h = g (omega arith)

pub least_holds : (f : ℕ → Bool) (m : ℕ) → least f m < m → f (least f m) ≡ true
unfolding least
least_holds f zero h = absurd (omega arith)
least_holds f (suc m) h = holds_at (f 0) f m (least (λ i. f (suc i)) m) refl (least_holds (λ i. f (suc i)) m) h

-- ---- place r is j steps on from `start`, in a list of n
pub record Ranked (n start r j : ℕ) : Type 0 where
  pub below : j < n
  pub place : (start + j ≡ r) ⊎ (start + j ≡ r + n)

pub start_le : (n from : ℕ) → start_of n from ≤ n
start_le n from =
    ⊎_elim (λ (h : from < n). rw (lt-ltb from n h) (omega arith)) (λ (h : n ≤ from). rw (le-ltb from n h) (omega arith)) (lt_or_le from n)

pub start_in : (n from : ℕ) → from < n → start_of n from ≡ from + 1
start_in n from h = rw (lt-ltb from n h)

pub stepped_lt : (n start j : ℕ) → start ≤ n → j < n → stepped n start j < n
stepped_lt n start j s h =
    ⊎_elim (λ (k : start + j < n). rw (lt-ltb (start + j) n k) k) (λ (k : n ≤ start + j). rw (le-ltb (start + j) n k) (omega arith)) (lt_or_le (start + j) n)

pub stepped_ranked : (n start j : ℕ) → start ≤ n → j < n → Ranked n start (stepped n start j) j
stepped_ranked n start j s h = record {
  below = h;
  place =
      ⊎_elim (λ (k : start + j < n). inl (rw (lt-ltb (start + j) n k))) (λ (k : n ≤ start + j). inr (rw (le-ltb (start + j) n k) (omega arith)))
      (lt_or_le (start + j) n);
}

pub ranked_stepped : (n start r j : ℕ) → r < n → Ranked n start r j → stepped n start j ≡ r
ranked_stepped n start r j h k =
    ⊎_elim (λ (e : start + j ≡ r). rw (lt-ltb (start + j) n (omega arith)) e) (λ (e : start + j ≡ r + n). rw (le-ltb (start + j) n (omega arith)) (omega arith)) k.place

-- every place has a rank
pub record Rank (n start r : ℕ) : Type 0 where
  pub steps : ℕ
  pub ranked : Ranked n start r steps

pub rank : (n start r : ℕ) → start ≤ n → r < n → Rank n start r
rank n start r s h =
    ⊎_elim
    (λ (k : r < start). record { steps = r + n - start; ranked = record { below = omega arith; place = inr (omega arith) } })
    (λ (k : start ≤ r). record { steps = r - start; ranked = record { below = omega arith; place = inl (omega arith) } })
    (lt_or_le r start)

-- a search that begins after place s finds r nearer, by all the steps that led to s and one more
pub nearer : (n start r s k j : ℕ) → r < n → s < n → Ranked n start r k → Ranked n start s j → j < k → Ranked n (s + 1) r (k - j - 1)
nearer n start r s k j hr hs a b l = record {
  below = let h = a.below in omega arith;
  place =
      ⊎_elim
      (λ (p : start + k ≡ r). ⊎_elim (λ (q : start + j ≡ s). inl (omega arith)) (λ (q : start + j ≡ s + n). absurd (omega arith)) b.place)
      (λ (p : start + k ≡ r + n). ⊎_elim (λ (q : start + j ≡ s). inr (omega arith)) (λ (q : start + j ≡ s + n). inl (omega arith)) b.place)
      a.place;
}

same_place : (n start r s j : ℕ) → r < n → s < n → Ranked n start r j → Ranked n start s j → r ≡ s
same_place n start r s j hr hs a b =
    ⊎_elim
    (λ (p : start + j ≡ r). ⊎_elim (λ (q : start + j ≡ s). omega arith) (λ (q : start + j ≡ s + n). omega arith) b.place)
    (λ (p : start + j ≡ r + n). ⊎_elim (λ (q : start + j ≡ s). omega arith) (λ (q : start + j ≡ s + n). omega arith) b.place)
    a.place

-- a place has one rank
one_rank : (n start r s k j : ℕ) → Ranked n start r k → Ranked n start s j → j < k → r ≡ s → ⊥
one_rank n start r s k j a b l e =
    let h = a.below in
    ⊎_elim
    (λ (p : start + k ≡ r). ⊎_elim (λ (q : start + j ≡ s). omega arith) (λ (q : start + j ≡ s + n). omega arith) b.place)
    (λ (p : start + k ≡ r + n). ⊎_elim (λ (q : start + j ≡ s). omega arith) (λ (q : start + j ≡ s + n). omega arith) b.place)
    a.place

-- ---- the next record
module _ (rs : List Record) (from : ℕ) where
  abbrev n : ℕ
  n = length rs

  abbrev start : ℕ
  start = start_of n from

  -- someone waits, k steps on: then someone is found, in at most k steps
  pub record Found (s : ℕ) : Type 0 where
    pub within : s < n
    pub steps : ℕ
    pub ranked : Ranked n start s steps
    pub waits : waits_at rs s ≡ true
    pub first : (r k : ℕ) → r < n → Ranked n start r k → waits_at rs r ≡ true → steps ≤ k

  pub none_or_found : (next_waiting rs from ≡ n) ⊎ Found (next_waiting rs from)
  unfolding passed next
  none_or_found =
      ⊎_elim
      (λ (h : passed (waits_at rs) n from < n). inr (rw (lt-ltb (passed (waits_at rs) n from) n h) (record {
        within = stepped_lt n start (passed (waits_at rs) n from) (start_le n from) h;
        steps = passed (waits_at rs) n from;
        ranked = stepped_ranked n start (passed (waits_at rs) n from) (start_le n from) h;
        waits = least_holds (λ j. waits_at rs (stepped n start j)) n h;
        first = λ r k l a w. least_le (λ j. waits_at rs (stepped n start j)) n k a.below (rw (ranked_stepped n start r k l a) w);
      })))
      (λ (h : n ≤ passed (waits_at rs) n from). inl (rw (le-ltb (passed (waits_at rs) n from) n h)))
      (lt_or_le (passed (waits_at rs) n from) n)

  not_none : passed (waits_at rs) n from < n → next_waiting rs from ≡ n → ⊥
  unfolding passed next
  not_none p e =
      let q : stepped n start (passed (waits_at rs) n from) ≡ n = rw (lt-ltb (passed (waits_at rs) n from) n p) at e in
      let z : stepped n start (passed (waits_at rs) n from) < n = stepped_lt n start (passed (waits_at rs) n from) (start_le n from) p in
      omega arith

  passed_le : (r k : ℕ) → r < n → Ranked n start r k → waits_at rs r ≡ true → passed (waits_at rs) n from ≤ k
  unfolding passed
  passed_le r k h a w = least_le (λ j. waits_at rs (stepped n start j)) n k a.below (rw (ranked_stepped n start r k h a) w)

  -- who waits is found, or comes nearer
  pub next_found : (r : ℕ) → r < n → waits_at rs r ≡ true → Found (next_waiting rs from)
  next_found r h w =
      let k = rank n start r (start_le n from) h in
      let l : passed (waits_at rs) n from ≤ k.steps = passed_le r k.steps h k.ranked w in
      let b : k.steps < n = k.ranked.below in
      ⊎_elim (λ (e : next_waiting rs from ≡ n). absurd (not_none (omega arith) e)) (λ f. f) none_or_found

  -- the rank of r after a search that served s
  pub record Nearer (s r k : ℕ) : Type 0 where
    pub steps : ℕ
    pub less : steps < k
    pub other : r ≡ s → ⊥
    pub ranked : Ranked n (start_of n s) r steps

  pub served_or_nearer : (r k s : ℕ) → r < n → Ranked n start r k → waits_at rs r ≡ true → Found s
      → (s ≡ r) ⊎ Nearer s r k
  served_or_nearer r k s h a w f =
      ⊎_elim
      (λ (l : f.steps < k). inr (record {
        steps = k - f.steps - 1;
        less = omega arith;
        other = one_rank n start r s k f.steps a f.ranked l;
        ranked = rw (start_in n s f.within) (nearer n start r s k f.steps h f.within a f.ranked l);
      }))
      (λ (l : k ≤ f.steps). inl (let e : k ≡ f.steps = omega (arith, f.first r k h a w) in
      same_place n start s r k f.within h (rw e f.ranked) a))
      (lt_or_le f.steps k)
