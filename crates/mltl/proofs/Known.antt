-- What is known of a formula while its trace still grows:
--     unseen             at a tick not yet seen every formula is undecided
--     decided_stays      a yes or a no stays, whatever states still come
--     decided_holds      it is the verdict on the trace that they complete; decided-closed: on the states seen, if none comes
--     delay_decided      from the delay on nothing is undecided; settled-decided: from any measure on that waits long enough
--     F_reads, ..        when an operator's value is yes and when it is no, by ∃ and ∀
-- Assumes nothing.
use Prim.Native.Nat.{ℕ, zero, suc, ◌+◌, ◌-◌, ◌≤◌, ◌<◌}
use native.Mathlib.Nat.{eq-or-lt_of_le}
use native.Mathlib.Omega.{arith}
use mathlib.Core.Path.{◌≡◌, refl, sym, ap, ◌∙◌, subst}
use mathlib.Core.Logic.Iff
use mathlib.Core.Logic.{◌⊎◌, inl, inr, ⊎_elim, ◌↔◌}
use mathlib.Core.Bool.{Bool, true, false, not, ◌&&◌, ◌||◌, false≢true, true≢false}
use mathlib.Core.List.{List, ◌++◌}
use borrow.Author.Tests.{lt-ltb, le-ltb, not-true}
use lib.ListN.{length, get_or, length-append, get_or-append}
use Rattle.lists.specs.Bits.{bit, below}
use Rattle.lists.proofs.Tests.{lt_or_le, not_iff, and_iff, or_iff}
use Rattle.mltl.specs.Mltl.{Formula, signal, const, neg, and, or, F, G, U, R, holds, delay, eventually, until, always, release}
use Rattle.mltl.specs.Known.{Value, no, undecided, yes, decided, is_yes, is_no, turned, smaller, larger, largest_from, smallest_from, largest, smallest, eventually_known, always_known, until_known, release_known, if_seen, known}
use Rattle.mltl.proofs.Readings.{eventually_iff, always_iff, until_iff, release_iff}
use Rattle.mltl.proofs.Stable.{Waits, delay_waits}

-- ---- the two tests of a value: yes, no
yes_iff : (v : Value) → (is_yes v ≡ true) ↔ (v ≡ yes)
yes_iff no = (λ e. absurd (false≢true e), ap is_yes)
yes_iff undecided = (λ e. absurd (false≢true e), ap is_yes)
yes_iff yes = (λ e. refl, ap is_yes)

no_iff : (v : Value) → (is_no v ≡ true) ↔ (v ≡ no)
no_iff no = (λ e. refl, ap is_no)
no_iff undecided = (λ e. absurd (false≢true e), ap is_no)
no_iff yes = (λ e. absurd (false≢true e), ap is_no)

pub decided_is : (b : Bool) → (is_yes (decided b) ≡ b) × (is_no (decided b) ≡ not b)
decided_is true = (refl, refl)
decided_is false = (refl, refl)

pub turned_is : (v : Value) → (is_yes (turned v) ≡ is_no v) × (is_no (turned v) ≡ is_yes v)
turned_is no = (refl, refl)
turned_is undecided = (refl, refl)
turned_is yes = (refl, refl)

pub smaller_is : (a b : Value) → (is_yes (smaller a b) ≡ (is_yes a && is_yes b)) × (is_no (smaller a b) ≡ (is_no a || is_no b))
smaller_is no b = (refl, refl)
smaller_is undecided no = (refl, refl)
smaller_is undecided undecided = (refl, refl)
smaller_is undecided yes = (refl, refl)
smaller_is yes b = (refl, refl)

pub larger_is : (a b : Value) → (is_yes (larger a b) ≡ (is_yes a || is_yes b)) × (is_no (larger a b) ≡ (is_no a && is_no b))
larger_is no b = (refl, refl)
larger_is undecided no = (refl, refl)
larger_is undecided undecided = (refl, refl)
larger_is undecided yes = (refl, refl)
larger_is yes b = (refl, refl)

-- ---- when a value is yes and when it is no
-- v is yes exactly if Y, and no exactly if N
pub record Reads (v : Value) (Y N : Type 0) : Type 0 where
  pub says_yes : (v ≡ yes) ↔ Y
  pub says_no : (v ≡ no) ↔ N

pub itself : (v : Value) → Reads v (v ≡ yes) (v ≡ no)
itself v = record { says_yes = Iff.rfl; says_no = Iff.rfl }

through : {A B C : Type 0} → A ↔ B → B ↔ C → A ↔ C
through r s = (λ a. s.0 (r.0 a), λ c. r.1 (s.1 c))

module _ {v : Value} {Y N : Type 0} (r : Reads v Y N) where
  pub yes_test : (is_yes v ≡ true) ↔ Y
  yes_test = through (yes_iff v) r.says_yes

  pub no_test : (is_no v ≡ true) ↔ N
  no_test = through (no_iff v) r.says_no

  reads_same : {Y' N' : Type 0} → Y ↔ Y' → N ↔ N' → Reads v Y' N'
  reads_same y z = record { says_yes = through r.says_yes y; says_no = through r.says_no z }

-- by its tests
pub tested : (v : Value) {p q : Bool} {Y N : Type 0} → (is_yes v ≡ p) × (is_no v ≡ q) → (p ≡ true) ↔ Y → (q ≡ true) ↔ N → Reads v Y N
tested v (e, f) y z = record {
  says_yes = (λ h. y.0 (sym e ∙ (yes_iff v).1 h), λ h. (yes_iff v).0 (e ∙ y.1 h));
  says_no = (λ h. z.0 (sym f ∙ (no_iff v).1 h), λ h. (no_iff v).0 (f ∙ z.1 h));
}

pub turned_reads : {v : Value} {Y N : Type 0} → Reads v Y N → Reads (turned v) N Y
turned_reads {v} r = tested (turned v) (turned_is v) (no_test r) (yes_test r)

module _ {v w : Value} {Y N Y' N' : Type 0} (r : Reads v Y N) (s : Reads w Y' N') where
  pub smaller_reads : Reads (smaller v w) (Y × Y') (N ⊎ N')
  smaller_reads = tested (smaller v w) (smaller_is v w) (and_iff _ _ (yes_test r) (yes_test s)) (or_iff _ _ (no_test r) (no_test s))

  pub larger_reads : Reads (larger v w) (Y ⊎ Y') (N × N')
  larger_reads = tested (larger v w) (larger_is v w) (or_iff _ _ (yes_test r) (yes_test s)) (and_iff _ _ (no_test r) (no_test s))

-- at some tick i with from ≤ i < below; at every such tick
abbrev pub Somewhere : ℕ → ℕ → (ℕ → Type 0) → Type 0
Somewhere from below P = (i : ℕ) × (from ≤ i) × (i < below) × P i

abbrev pub Everywhere : ℕ → ℕ → (ℕ → Type 0) → Type 0
Everywhere from below P = (i : ℕ) → from ≤ i → i < below → P i

module _ (c f : ℕ) (P : ℕ → Type 0) where
  somewhere_suc : (P f ⊎ Somewhere (suc f) (suc f + c) P) ↔ Somewhere f (f + suc c) P
  somewhere_suc = (
    ⊎_elim (λ x. (f, omega arith, omega arith, x)) (λ r. (r.0, omega arith, omega arith, r.3)),
    λ r. ⊎_elim (λ e. inl (subst P (sym e) r.3)) (λ l. inr (r.0, l, omega arith, r.3)) (eq-or-lt_of_le r.1),
  )

  everywhere_suc : (P f × Everywhere (suc f) (suc f + c) P) ↔ Everywhere f (f + suc c) P
  everywhere_suc = (
    λ r i x y. ⊎_elim (λ e. subst P e r.0) (λ l. r.1 i l (omega arith)) (eq-or-lt_of_le x),
    λ k. (k f (omega arith) (omega arith), λ i x y. k i (omega arith) (omega arith)),
  )

module _ {a : ℕ → Value} {Y N : ℕ → Type 0} (r : (i : ℕ) → Reads (a i) (Y i) (N i)) where
  largest_from_reads : (c f : ℕ) → Reads (largest_from c f a) (Somewhere f (f + c) Y) (Everywhere f (f + c) N)
  unfolding largest_from
  largest_from_reads zero f = record {
    says_yes = (λ h. absurd (false≢true (ap is_yes h)), λ s. absurd (omega arith));
    says_no = (λ h i x y. absurd (omega arith), λ k. refl);
  }
  largest_from_reads (suc c) f = reads_same (larger_reads (r f) (largest_from_reads c (suc f))) (somewhere_suc c f Y) (everywhere_suc c f N)

  smallest_from_reads : (c f : ℕ) → Reads (smallest_from c f a) (Everywhere f (f + c) Y) (Somewhere f (f + c) N)
  unfolding smallest_from
  smallest_from_reads zero f = record {
    says_yes = (λ h i x y. absurd (omega arith), λ k. refl);
    says_no = (λ h. absurd (false≢true (ap is_no h)), λ s. absurd (omega arith));
  }
  smallest_from_reads (suc c) f = reads_same (smaller_reads (r f) (smallest_from_reads c (suc f))) (everywhere_suc c f Y) (somewhere_suc c f N)

some_range : (f e : ℕ) {P : ℕ → Type 0} → Somewhere f (f + (e - f)) P ↔ Somewhere f e P
some_range f e = (λ r. (r.0, r.1, omega arith, r.3), λ r. (r.0, r.1, omega arith, r.3))

every_range : (f e : ℕ) {P : ℕ → Type 0} → Everywhere f (f + (e - f)) P ↔ Everywhere f e P
every_range f e = (λ k i x y. k i x (omega arith), λ k i x y. k i x (omega arith))

module _ (f e : ℕ) {a : ℕ → Value} {Y N : ℕ → Type 0} (r : (i : ℕ) → Reads (a i) (Y i) (N i)) where
  pub largest_reads : Reads (largest f e a) (Somewhere f e Y) (Everywhere f e N)
  unfolding largest
  largest_reads = reads_same (largest_from_reads r (e - f) f) (some_range f e) (every_range f e)

  pub smallest_reads : Reads (smallest f e a) (Everywhere f e Y) (Somewhere f e N)
  unfolding smallest
  smallest_reads = reads_same (smallest_from_reads r (e - f) f) (every_range f e) (some_range f e)

-- the operators at tick t; t + hi + 1 is the first tick past the interval
module _ (lo hi : ℕ) {a : ℕ → Value} {Y N : ℕ → Type 0} (r : (i : ℕ) → Reads (a i) (Y i) (N i)) where
  pub F_reads : (t : ℕ) → Reads (eventually_known lo hi a t) (Somewhere (t + lo) (t + hi + 1) Y) (Everywhere (t + lo) (t + hi + 1) N)
  unfolding eventually_known
  F_reads t = largest_reads (t + lo) (t + hi + 1) r

  pub G_reads : (t : ℕ) → Reads (always_known lo hi a t) (Everywhere (t + lo) (t + hi + 1) Y) (Somewhere (t + lo) (t + hi + 1) N)
  unfolding always_known
  G_reads t = smallest_reads (t + lo) (t + hi + 1) r

  module _ {b : ℕ → Value} {Y' N' : ℕ → Type 0} (s : (i : ℕ) → Reads (b i) (Y' i) (N' i)) where
    pub U_reads : (t : ℕ) → Reads (until_known lo hi a b t)
        (Somewhere (t + lo) (t + hi + 1) (λ i. Y' i × Everywhere (t + lo) i Y))
        (Everywhere (t + lo) (t + hi + 1) (λ i. N' i ⊎ Somewhere (t + lo) i N))
    unfolding until_known
    U_reads t = largest_reads (t + lo) (t + hi + 1) λ i. smaller_reads (s i) (smallest_reads (t + lo) i r)

module _ (lo hi : ℕ) {a b : ℕ → Value} {Y N Y' N' : ℕ → Type 0}
    (r : (i : ℕ) → Reads (a i) (Y i) (N i)) (s : (i : ℕ) → Reads (b i) (Y' i) (N' i)) where
  pub R_reads : (t : ℕ) → Reads (release_known lo hi a b t)
      (Everywhere (t + lo) (t + hi + 1) (λ i. Y' i ⊎ Somewhere (t + lo) i Y))
      (Somewhere (t + lo) (t + hi + 1) (λ i. N' i × Everywhere (t + lo) i N))
  unfolding release_known
  R_reads t = turned_reads (U_reads lo hi (λ i. turned_reads (r i)) (λ i. turned_reads (s i)) t)

-- ---- at a tick not yet seen every formula is undecided
module _ (n t : ℕ) (v : Value) where
  pub seen : t < n → if_seen n t v ≡ v
  seen h = rw (lt-ltb t n h)

  pub not_seen : n ≤ t → if_seen n t v ≡ undecided
  not_seen h = rw (le-ltb t n h)

pub unseen : (f : Formula) (xs : List ℕ) (t : ℕ) → length xs ≤ t → known f xs t ≡ undecided
unfolding known
unseen (signal s) xs t h = not_seen _ t _ h
unseen (const b) xs t h = not_seen _ t _ h
unseen (neg a) xs t h = not_seen _ t _ h
unseen (and a b) xs t h = not_seen _ t _ h
unseen (or a b) xs t h = not_seen _ t _ h
unseen (F lo hi a) xs t h = not_seen _ t _ h
unseen (G lo hi a) xs t h = not_seen _ t _ h
unseen (U lo hi a b) xs t h = not_seen _ t _ h
unseen (R lo hi a b) xs t h = not_seen _ t _ h

-- ---- what follows from a value
-- where v is yes, Y; where it is no, N
record Says (v : Value) (Y N : Type 0) : Type 0 where
  if_yes : v ≡ yes → Y
  if_no : v ≡ no → N

says_by : {v : Value} {Y N Y' N' : Type 0} → Reads v Y N → (Y → Y') → (N → N') → Says v Y' N'
says_by r f g = record { if_yes = λ h. f (r.says_yes.0 h); if_no = λ h. g (r.says_no.0 h) }

says_more : {v : Value} {Y N Y' N' : Type 0} → (Y → Y') → (N → N') → Says v Y N → Says v Y' N'
says_more f g s = record { if_yes = λ h. f (s.if_yes h); if_no = λ h. g (s.if_no h) }

-- from `ifSeen` it follows besides that t is seen
seen_says : (n t : ℕ) {v : Value} {Y N : Type 0} → (t < n → Says v Y N) → Says (if_seen n t v) ((t < n) × Y) ((t < n) × N)
seen_says n t {v} k = ⊎_elim
    (λ h. record { if_yes = λ e. (h, (k h).if_yes (sym (seen n t v h) ∙ e)); if_no = λ e. (h, (k h).if_no (sym (seen n t v h) ∙ e)) })
    (λ h. record {
      if_yes = λ e. absurd (false≢true (ap is_yes (sym (not_seen n t v h) ∙ e)));
      if_no = λ e. absurd (false≢true (ap is_no (sym (not_seen n t v h) ∙ e)));
    })
    (lt_or_le t n)

turned_says : {v : Value} {Y N : Type 0} → Says v Y N → Says (turned v) N Y
turned_says {v} s = says_by (turned_reads (itself v)) s.if_no s.if_yes

module _ {v w : Value} {Y N Y' N' : Type 0} (s : Says v Y N) (u : Says w Y' N') where
  smaller_says : Says (smaller v w) (Y × Y') (N ⊎ N')
  smaller_says =
      says_by (smaller_reads (itself v) (itself w))
      (λ r. (s.if_yes r.0, u.if_yes r.1)) (⊎_elim (λ e. inl (s.if_no e)) (λ e. inr (u.if_no e)))

  larger_says : Says (larger v w) (Y ⊎ Y') (N × N')
  larger_says =
      says_by (larger_reads (itself v) (itself w))
      (⊎_elim (λ e. inl (s.if_yes e)) (λ e. inr (u.if_yes e))) (λ r. (s.if_no r.0, u.if_no r.1))

module _ (f e : ℕ) {a : ℕ → Value} {Y N : ℕ → Type 0} (s : (i : ℕ) → Says (a i) (Y i) (N i)) where
  largest_says : Says (largest f e a) (Somewhere f e Y) (Everywhere f e N)
  largest_says = says_by (largest_reads f e λ i. itself (a i)) (λ r. (r.0, r.1, r.2, (s r.0).if_yes r.3)) (λ k i x y. (s i).if_no (k i x y))

  smallest_says : Says (smallest f e a) (Everywhere f e Y) (Somewhere f e N)
  smallest_says = says_by (smallest_reads f e λ i. itself (a i)) (λ k i x y. (s i).if_yes (k i x y)) (λ r. (r.0, r.1, r.2, (s r.0).if_no r.3))

module _ (lo hi : ℕ) {a b : ℕ → Value} {Y N Y' N' : ℕ → Type 0}
    (s : (i : ℕ) → Says (a i) (Y i) (N i)) (u : (i : ℕ) → Says (b i) (Y' i) (N' i)) where
  until_says : (t : ℕ) → Says (until_known lo hi a b t)
      (Somewhere (t + lo) (t + hi + 1) (λ i. Y' i × Everywhere (t + lo) i Y))
      (Everywhere (t + lo) (t + hi + 1) (λ i. N' i ⊎ Somewhere (t + lo) i N))
  unfolding until_known
  until_says t = largest_says (t + lo) (t + hi + 1) λ i. smaller_says (u i) (smallest_says (t + lo) i s)

module _ (lo hi : ℕ) {a b : ℕ → Value} {Y N Y' N' : ℕ → Type 0}
    (s : (i : ℕ) → Says (a i) (Y i) (N i)) (u : (i : ℕ) → Says (b i) (Y' i) (N' i)) where
  release_says : (t : ℕ) → Says (release_known lo hi a b t)
      (Everywhere (t + lo) (t + hi + 1) (λ i. Y' i ⊎ Somewhere (t + lo) i Y))
      (Somewhere (t + lo) (t + hi + 1) (λ i. N' i × Everywhere (t + lo) i N))
  unfolding release_known
  release_says t = turned_says (until_says lo hi (λ i. turned_says (s i)) (λ i. turned_says (u i)) t)

-- ---- a yes or a no stays
-- where v is yes or no, w is the same
abbrev Keeps : Value → Value → Type 0
Keeps v w = Says v (w ≡ yes) (w ≡ no)

keeps : {v w : Value} {Y N : Type 0} → Reads w Y N → Says v Y N → Keeps v w
keeps r s = says_more r.says_yes.1 r.says_no.1 s

equal : {v w : Value} → v ≡ w → Keeps v w
equal e = record { if_yes = λ h. sym e ∙ h; if_no = λ h. sym e ∙ h }

module _ (xs ys : List ℕ) where
  seen_keeps : (t : ℕ) {v w : Value} → (t < length xs → Keeps v w) → Keeps (if_seen (length xs) t v) (if_seen (length (xs ++ ys)) t w)
  seen_keeps t {v} {w} k = says_more (λ r. seen _ t w (longer r.0) ∙ r.1) (λ r. seen _ t w (longer r.0) ∙ r.1) (seen_says (length xs) t k)
    where
      longer : t < length xs → t < length (xs ++ ys)
      longer h = simp length-append (omega arith)

  kept : (f : Formula) (t : ℕ) → Keeps (known f xs t) (known f (xs ++ ys) t)
  unfolding known eventually_known always_known release_known
  kept (signal s) t = seen_keeps t λ h. equal (ap (λ (x : ℕ). decided (bit x s)) (sym (get_or-append xs ys 0 t h)))
  kept (const b) t = seen_keeps t λ h. equal refl
  kept (neg a) t = seen_keeps t λ h. keeps (turned_reads (itself _)) (turned_says (kept a t))
  kept (and a b) t = seen_keeps t λ h. keeps (smaller_reads (itself _) (itself _)) (smaller_says (kept a t) (kept b t))
  kept (or a b) t = seen_keeps t λ h. keeps (larger_reads (itself _) (itself _)) (larger_says (kept a t) (kept b t))
  kept (F lo hi a) t = seen_keeps t λ h. keeps (largest_reads _ _ λ i. itself _) (largest_says _ _ (kept a))
  kept (G lo hi a) t = seen_keeps t λ h. keeps (smallest_reads _ _ λ i. itself _) (smallest_says _ _ (kept a))
  kept (U lo hi a b) t = seen_keeps t λ h. keeps (U_reads lo hi (λ i. itself _) (λ i. itself _) t) (until_says lo hi (kept a) (kept b) t)
  kept (R lo hi a b) t = seen_keeps t λ h. keeps (R_reads lo hi (λ i. itself _) (λ i. itself _) t) (release_says lo hi (kept a) (kept b) t)

  pub decided_stays : (f : Formula) (t : ℕ) (b : Bool) → known f xs t ≡ decided b → known f (xs ++ ys) t ≡ decided b
  decided_stays f t true e = (kept f t).if_yes e
  decided_stays f t false e = (kept f t).if_no e

-- ---- a yes or a no is the verdict
-- where v is yes or no, t is below n, and the verdict b says the same
abbrev Tells : ℕ → ℕ → Value → Bool → Type 0
Tells n t v b = Says v ((t < n) × (b ≡ true)) ((t < n) × (¬ (b ≡ true)))

module _ (n t : ℕ) where
  seen_tells : {v : Value} {b : Bool} → Says v (b ≡ true) (¬ (b ≡ true)) → Tells n t (if_seen n t v) b
  seen_tells k = seen_says n t λ h. k

  not_tells : {v : Value} (b : Bool) → Tells n t v b → Says (turned v) (not b ≡ true) (¬ (not b ≡ true))
  not_tells b k = let c = not_iff b Iff.rfl in says_more (λ r. c.1 r.1) (λ r e. c.0 e r.1) (turned_says k)

  module _ {v w : Value} (a b : Bool) (k : Tells n t v a) (l : Tells n t w b) where
    and_tells : Says (smaller v w) ((a && b) ≡ true) (¬ ((a && b) ≡ true))
    and_tells =
        let c = and_iff a b Iff.rfl Iff.rfl in
        says_more (λ r. c.1 (r.0.1, r.1.1)) (λ r e. ⊎_elim (λ x. x.1 (c.0 e).0) (λ x. x.1 (c.0 e).1) r) (smaller_says k l)

    or_tells : Says (larger v w) ((a || b) ≡ true) (¬ ((a || b) ≡ true))
    or_tells =
        let c = or_iff a b Iff.rfl Iff.rfl in
        says_more (λ r. c.1 (⊎_elim (λ x. inl x.1) (λ x. inr x.1) r)) (λ r e. ⊎_elim r.0.1 r.1.1 (c.0 e)) (larger_says k l)

decided_tells : (b : Bool) → Says (decided b) (b ≡ true) (¬ (b ≡ true))
decided_tells true = record { if_yes = λ e. refl; if_no = λ e. absurd (false≢true (ap is_no e)) }
decided_tells false = record { if_yes = λ e. absurd (false≢true (ap is_yes e)); if_no = λ e. false≢true }

module _ (n lo hi : ℕ) {w : ℕ → Value} {b : ℕ → Bool} (l : (i : ℕ) → Tells n i (w i) (b i)) (t : ℕ) where
  F_tells : Says (eventually_known lo hi w t) (eventually n lo hi b t ≡ true) (¬ (eventually n lo hi b t ≡ true))
  unfolding eventually_known
  F_tells =
      let c = eventually_iff n lo hi b t in
      says_more
      (λ r. c.1 (r.0, r.1, omega arith, r.3.0, r.3.1))
      (λ k e. let r = c.0 e in (k r.0 r.1 (omega arith)).1 r.4) (largest_says _ _ l)

  G_tells : Says (always_known lo hi w t) (always n lo hi b t ≡ true) (¬ (always n lo hi b t ≡ true))
  unfolding always_known
  G_tells =
      let c = always_iff n lo hi b t in
      says_more
      (λ k. c.1 λ i x y z. (k i x (omega arith)).1)
      (λ r e. r.3.1 (c.0 e r.0 r.1 (omega arith) r.3.0)) (smallest_says _ _ l)

  module _ {v : ℕ → Value} {a : ℕ → Bool} (k : (i : ℕ) → Tells n i (v i) (a i)) where
    U_tells : Says (until_known lo hi v w t) (until n lo hi a b t ≡ true) (¬ (until n lo hi a b t ≡ true))
    U_tells =
        let c = until_iff n lo hi a b t in
        says_more
        (λ r. c.1 (record { at = r.0; late = r.1; early = omega arith; inside = r.3.0.0; right = r.3.0.1; left = λ j x y. (r.3.1 j x y).1 }))
        (λ g e.
        let r = c.0 e in
        ⊎_elim (λ x. x.1 r.right) (λ x. x.3.1 (r.left x.0 x.1 x.2)) (g r.at r.late (omega arith)))
        (until_says lo hi k l t)

    R_tells : Says (release_known lo hi v w t) (release n lo hi a b t ≡ true) (¬ (release n lo hi a b t ≡ true))
    R_tells =
        let c = release_iff n lo hi a b t in
        says_more
        (λ g. c.1 λ i x y z. ⊎_elim (λ r. inl r.1) (λ r. inr (record { at = r.0; late = r.1; early = r.2; is = r.3.1 })) (g i x (omega arith)))
        (λ r e. ⊎_elim r.3.0.1 (λ x. (r.3.1 x.at x.late x.early).1 x.is) (c.0 e r.0 r.1 (omega arith) r.3.0.0))
        (release_says lo hi k l t)

tells : (xs : List ℕ) (f : Formula) (t : ℕ) → Tells (length xs) t (known f xs t) (holds f xs t)
unfolding known holds
tells xs (signal s) t = seen_tells _ t (decided_tells (bit (get_or xs t 0) s))
tells xs (const b) t = seen_tells _ t (decided_tells b)
tells xs (neg a) t = seen_tells _ t (not_tells _ t _ (tells xs a t))
tells xs (and a b) t = seen_tells _ t (and_tells _ t _ _ (tells xs a t) (tells xs b t))
tells xs (or a b) t = seen_tells _ t (or_tells _ t _ _ (tells xs a t) (tells xs b t))
tells xs (F lo hi a) t = seen_tells _ t (F_tells _ lo hi (tells xs a) t)
tells xs (G lo hi a) t = seen_tells _ t (G_tells _ lo hi (tells xs a) t)
tells xs (U lo hi a b) t = seen_tells _ t (U_tells _ lo hi (tells xs b) t (tells xs a))
tells xs (R lo hi a b) t = seen_tells _ t (R_tells _ lo hi (tells xs b) t (tells xs a))

untrue : (b : Bool) → ¬ (b ≡ true) → b ≡ false
untrue b k = not-true b ((not_iff b Iff.rfl).1 k)

pub decided_closed : (xs : List ℕ) (f : Formula) (t : ℕ) (b : Bool) → known f xs t ≡ decided b → holds f xs t ≡ b
decided_closed xs f t true e = ((tells xs f t).if_yes e).1
decided_closed xs f t false e = untrue _ ((tells xs f t).if_no e).1

pub decided_holds : (xs ys : List ℕ) (f : Formula) (t : ℕ) (b : Bool) → known f xs t ≡ decided b → holds f (xs ++ ys) t ≡ b
decided_holds xs ys f t b e = decided_closed (xs ++ ys) f t b (decided_stays xs ys f t b e)

-- ---- from the delay on nothing is undecided
abbrev Decided : Value → Type 0
Decided v = ¬ (v ≡ undecided)

decided_not : (b : Bool) → Decided (decided b)
decided_not true e = true≢false (ap is_yes e)
decided_not false e = true≢false (ap is_no e)

turned_decided : (v : Value) → Decided v → Decided (turned v)
turned_decided no k e = k (ap turned e)
turned_decided undecided k e = k refl
turned_decided yes k e = k (ap turned e)

smaller_decided : (a b : Value) → Decided a → Decided b → Decided (smaller a b)
smaller_decided no b k l = k
smaller_decided undecided b k l = absurd (k refl)
smaller_decided yes b k l = l

larger_decided : (a b : Value) → Decided a → Decided b → Decided (larger a b)
larger_decided no b k l = l
larger_decided undecided b k l = absurd (k refl)
larger_decided yes b k l = k

largest_from_decided : (c f : ℕ) (a : ℕ → Value) → Everywhere f (f + c) (λ i. Decided (a i)) → Decided (largest_from c f a)
unfolding largest_from
largest_from_decided zero f a k = decided_not false
largest_from_decided (suc c) f a k =
    larger_decided _ _ (k f (omega arith) (omega arith)) (largest_from_decided c (suc f) a λ i x y. k i (omega arith) (omega arith))

smallest_from_decided : (c f : ℕ) (a : ℕ → Value) → Everywhere f (f + c) (λ i. Decided (a i)) → Decided (smallest_from c f a)
unfolding smallest_from
smallest_from_decided zero f a k = decided_not true
smallest_from_decided (suc c) f a k =
    smaller_decided _ _ (k f (omega arith) (omega arith)) (smallest_from_decided c (suc f) a λ i x y. k i (omega arith) (omega arith))

module _ (f e : ℕ) (a : ℕ → Value) (k : Everywhere f e (λ i. Decided (a i))) where
  largest_decided : Decided (largest f e a)
  unfolding largest
  largest_decided = largest_from_decided (e - f) f a λ i x y. k i x (omega arith)

  smallest_decided : Decided (smallest f e a)
  unfolding smallest
  smallest_decided = smallest_from_decided (e - f) f a λ i x y. k i x (omega arith)

-- the left operand is read before t + hi only
until_decided : (lo hi : ℕ) (a b : ℕ → Value) (t : ℕ)
    → Everywhere (t + lo) (t + hi) (λ i. Decided (a i)) → Everywhere (t + lo) (t + hi + 1) (λ i. Decided (b i)) → Decided (until_known lo hi a b t)
unfolding until_known
until_decided lo hi a b t k l = largest_decided _ _ _ λ i x y.
    smaller_decided _ _ (l i x y) (smallest_decided _ i a λ j p q. k j p (omega arith))

seen_decided : (n t d : ℕ) (v : Value) → t + d < n → Decided v → Decided (if_seen n t v)
seen_decided n t d v h k = let l : t < n = omega arith in rw (lt-ltb t n l) k

module _ (m : Formula → ℕ) (w : Waits m) (xs : List ℕ) where
  abbrev Waited : Formula → Type 0
  Waited f = (t : ℕ) → t + m f < length xs → Decided (known f xs t)

  until_waited : (lo hi d : ℕ) (a b : Formula) → (lo < hi → hi + m a ≤ d + 1) × (hi + m b ≤ d) → Waited a → Waited b → (t : ℕ) → t + d < length xs
      → Everywhere (t + lo) (t + hi) (λ i. Decided (known a xs i)) × Everywhere (t + lo) (t + hi + 1) (λ i. Decided (known b xs i))
  until_waited lo hi d a b l p q t h =
      (λ i x y. let k = l.0 (omega arith) in p i (omega arith), λ i x y. let k = l.1 in q i (omega arith))

  waited : (f : Formula) → Waited f
  unfolding known eventually_known always_known release_known
  waited (signal s) t h = seen_decided _ t _ _ h (decided_not (bit (get_or xs t 0) s))
  waited (const b) t h = seen_decided _ t _ _ h (decided_not b)
  waited (neg a) t h = seen_decided _ t _ _ h (let l = w.not_waits a in turned_decided _ (waited a t (omega arith)))
  waited (and a b) t h = seen_decided _ t _ _ h (let l = w.and_waits a b in smaller_decided _ _ (waited a t (omega arith)) (waited b t (omega arith)))
  waited (or a b) t h = seen_decided _ t _ _ h (let l = w.or_waits a b in larger_decided _ _ (waited a t (omega arith)) (waited b t (omega arith)))
  waited (F lo hi a) t h = seen_decided _ t _ _ h (let l = w.F_waits lo hi a in largest_decided _ _ _ λ i x y. waited a i (omega arith))
  waited (G lo hi a) t h = seen_decided _ t _ _ h (let l = w.G_waits lo hi a in smallest_decided _ _ _ λ i x y. waited a i (omega arith))
  waited (U lo hi a b) t h =
      let e = until_waited lo hi _ a b (w.U_waits lo hi a b) (waited a) (waited b) t h in
      seen_decided _ t _ _ h (until_decided lo hi _ _ t e.0 e.1)
  waited (R lo hi a b) t h =
      let e = until_waited lo hi _ a b (w.R_waits lo hi a b) (waited a) (waited b) t h in
      seen_decided _ t _ _ h
      (turned_decided _ (until_decided lo hi _ _ t (λ i x y. turned_decided _ (e.0 i x y)) (λ i x y. turned_decided _ (e.1 i x y))))

  pub settled_decided : (f : Formula) (t : ℕ) → t + m f < length xs → known f xs t ≡ decided (holds f xs t)
  settled_decided f t h = verdict (known f xs t) (holds f xs t) (tells xs f t) (waited f t h)
    where
      verdict : (v : Value) (b : Bool) → Tells (length xs) t v b → Decided v → v ≡ decided b
      verdict no b k d = ap decided (sym (untrue b (k.if_no refl).1))
      verdict undecided b k d = absurd (d refl)
      verdict yes b k d = ap decided (sym (k.if_yes refl).1)

pub delay_decided : (xs : List ℕ) (f : Formula) (t : ℕ) → t + delay f < length xs → known f xs t ≡ decided (holds f xs t)
delay_decided = settled_decided delay delay_waits
