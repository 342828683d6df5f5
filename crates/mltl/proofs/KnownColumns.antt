-- What is known of a formula as two columns of bits, yes and no, by those of its operands: F_columns, .. for each operator. Assumes nothing.
use Prim.Native.Nat.{ℕ, ◌+◌, ◌≤◌, ◌<◌}
use native.Mathlib.Omega.{arith}
use mathlib.Core.Path.{◌≡◌, refl, sym, ap, ap₂, ◌∙◌}
use mathlib.Core.Logic.Iff
use mathlib.Core.Logic.{◌⊎◌, ⊎_elim, ◌↔◌}
use mathlib.Core.Bool.{Bool, true, false, not, ◌&&◌, ◌||◌, false≢true}
use mathlib.Core.List.{List}
use lib.Dec.{ltb}
use lib.ListN.{length, get_or}
use Rattle.lists.specs.Bits.{bit, below}
use Rattle.lists.specs.Choice.{pick}
use Rattle.lists.proofs.Tests.{lt_or_le, same_test, or_iff}
use Rattle.mltl.specs.Mltl.{Formula, signal, const, neg, and, or, F, G, U, R, some_tick, eventually, until}
use Rattle.mltl.specs.Known.{Value, undecided, is_yes, is_no, turned, smaller, larger, eventually_known, always_known, until_known, release_known, if_seen, known, whole, whole_release}
use Rattle.mltl.proofs.Readings.{some_tick_iff, every_tick_iff, eventually_iff, until_iff}
use Rattle.mltl.proofs.Known.{decided_is, turned_is, smaller_is, larger_is, Reads, yes_test, no_test, tested, Somewhere, Everywhere, F_reads, G_reads, U_reads, R_reads, seen, not_seen}

-- ---- when the operators hold on columns of bits, by ∃ and ∀
pub whole_iff : (lo hi : ℕ) (q : ℕ → Bool) (t : ℕ) → (whole lo hi q t ≡ true) ↔ Everywhere (t + lo) (t + hi + 1) (λ i. q i ≡ true)
unfolding whole
whole_iff lo hi q t = every_tick_iff (t + lo) (t + hi + 1) q

-- at every tick q, or p before it
pub whole_release_iff : (lo hi : ℕ) (p q : ℕ → Bool) (t : ℕ)
    → (whole_release lo hi p q t ≡ true) ↔ Everywhere (t + lo) (t + hi + 1) (λ i. (q i ≡ true) ⊎ Somewhere (t + lo) i (λ j. p j ≡ true))
unfolding whole_release
whole_release_iff lo hi p q t =
    let c = every_tick_iff (t + lo) (t + hi + 1) (λ i. q i || some_tick (t + lo) i p) in
    (λ h i x y. (at i).0 (c.0 h i x y), λ k. c.1 λ i x y. (at i).1 (k i x y))
  where
    at : (i : ℕ) → ((q i || some_tick (t + lo) i p) ≡ true) ↔ ((q i ≡ true) ⊎ Somewhere (t + lo) i (λ j. p j ≡ true))
    at i =
        let s = some_tick_iff (t + lo) i p in
        or_iff _ _ Iff.rfl (λ h. let r = s.0 h in (r.at, r.late, r.early, r.is), λ r. s.1 (record { at = r.0; late = r.1; early = r.2; is = r.3 }))

-- q is clear from n on: no interval has to be cut there
module _ {n : ℕ} (lo hi : ℕ) (p : ℕ → Bool) {q : ℕ → Bool} (ends : (i : ℕ) → n ≤ i → q i ≡ false) (t : ℕ) where
  inside : (i : ℕ) → q i ≡ true → i < n
  inside i e = ⊎_elim (λ h. h) (λ h. absurd (false≢true (sym (ends i h) ∙ e))) (lt_or_le i n)

  pub eventually_uncut : (eventually n lo hi q t ≡ true) ↔ Somewhere (t + lo) (t + hi + 1) (λ i. q i ≡ true)
  eventually_uncut =
      let c = eventually_iff n lo hi q t in
      (λ h. let r = c.0 h in (r.0, r.1, omega arith, r.4), λ r. c.1 (r.0, r.1, omega arith, inside r.0 r.3, r.3))

  pub until_uncut : (until n lo hi p q t ≡ true) ↔ Somewhere (t + lo) (t + hi + 1) (λ i. (q i ≡ true) × Everywhere (t + lo) i (λ j. p j ≡ true))
  until_uncut =
      let c = until_iff n lo hi p q t in (
        λ h. let r = c.0 h in (r.at, r.late, omega arith, (r.right, r.left)),
        λ r. c.1 (record { at = r.0; late = r.1; early = omega arith; inside = inside r.0 r.3.0; right = r.3.0; left = r.3.1 }),
      )

same : (p q : Bool) {S : Type 0} → (p ≡ true) ↔ S → (q ≡ true) ↔ S → p ≡ q
same p q r s = same_test p q r s (λ x. x) (λ x. x)

-- ---- the two columns
-- p is the yes column and q the no column of values a, which are undecided from tick n on
pub record TwoColumns (n : ℕ) (a : ℕ → Value) (p q : ℕ → Bool) : Type 0 where
  pub yeses : (t : ℕ) → p t ≡ is_yes (a t)
  pub noes : (t : ℕ) → q t ≡ is_no (a t)
  pub ends : (t : ℕ) → n ≤ t → a t ≡ undecided

-- they are false from n on
module _ {n : ℕ} {a : ℕ → Value} {p q : ℕ → Bool} (c : TwoColumns n a p q) where
  pub yes_ends : (t : ℕ) → n ≤ t → p t ≡ false
  yes_ends t h = c.yeses t ∙ ap is_yes (c.ends t h)

  pub no_ends : (t : ℕ) → n ≤ t → q t ≡ false
  no_ends t h = c.noes t ∙ ap is_no (c.ends t h)

  pub bits : (t : ℕ) → Reads (a t) (p t ≡ true) (q t ≡ true)
  bits t = tested (a t) (sym (c.yeses t), sym (c.noes t)) Iff.rfl Iff.rfl

-- an operator's value at any tick, by the columns of its operands
module _ {n : ℕ} (lo hi : ℕ) {a : ℕ → Value} {ya na : ℕ → Bool} (A : TwoColumns n a ya na) where
  pub F_yes : (t : ℕ) → is_yes (eventually_known lo hi a t) ≡ eventually n lo hi ya t
  F_yes t = same _ _ (yes_test (F_reads lo hi (bits A) t)) (eventually_uncut lo hi ya (yes_ends A) t)

  pub F_no : (t : ℕ) → is_no (eventually_known lo hi a t) ≡ whole lo hi na t
  F_no t = same _ _ (no_test (F_reads lo hi (bits A) t)) (whole_iff lo hi na t)

  pub G_yes : (t : ℕ) → is_yes (always_known lo hi a t) ≡ whole lo hi ya t
  G_yes t = same _ _ (yes_test (G_reads lo hi (bits A) t)) (whole_iff lo hi ya t)

  pub G_no : (t : ℕ) → is_no (always_known lo hi a t) ≡ eventually n lo hi na t
  G_no t = same _ _ (no_test (G_reads lo hi (bits A) t)) (eventually_uncut lo hi na (no_ends A) t)

  module _ {b : ℕ → Value} {yb nb : ℕ → Bool} (B : TwoColumns n b yb nb) where
    pub U_yes : (t : ℕ) → is_yes (until_known lo hi a b t) ≡ until n lo hi ya yb t
    U_yes t = same _ _ (yes_test (U_reads lo hi (bits A) (bits B) t)) (until_uncut lo hi ya (yes_ends B) t)

    pub U_no : (t : ℕ) → is_no (until_known lo hi a b t) ≡ whole_release lo hi na nb t
    U_no t = same _ _ (no_test (U_reads lo hi (bits A) (bits B) t)) (whole_release_iff lo hi na nb t)

    pub R_yes : (t : ℕ) → is_yes (release_known lo hi a b t) ≡ whole_release lo hi ya yb t
    R_yes t = same _ _ (yes_test (R_reads lo hi (bits A) (bits B) t)) (whole_release_iff lo hi ya yb t)

    pub R_no : (t : ℕ) → is_no (release_known lo hi a b t) ≡ until n lo hi na nb t
    R_no t = same _ _ (no_test (R_reads lo hi (bits A) (bits B) t)) (until_uncut lo hi na (no_ends B) t)

-- ---- the columns of a formula
seen_columns : (n : ℕ) (a : ℕ → Value) (p q : ℕ → Bool) → ((t : ℕ) → is_yes (a t) ≡ p t) → ((t : ℕ) → is_no (a t) ≡ q t)
    → TwoColumns n (λ t. if_seen n t (a t)) (below n p) (below n q)
seen_columns n a p q y z = record {
  yeses = λ t. by (ltb t n) is_yes refl (y t);
  noes = λ t. by (ltb t n) is_no refl (z t);
  ends = λ t h. not_seen n t (a t) h;
}
  where
    by : (s : Bool) (f : Value → Bool) {v : Value} {x : Bool} → f undecided ≡ false → f v ≡ x → (s && x) ≡ f (pick s v undecided)
    by true f o e = sym e
    by false f o e = sym o

-- where the operands are undecided, not, and, or are so too
plain_columns : (n : ℕ) (a : ℕ → Value) (p q : ℕ → Bool) → ((t : ℕ) → p t ≡ is_yes (a t)) → ((t : ℕ) → q t ≡ is_no (a t))
    → ((t : ℕ) → n ≤ t → a t ≡ undecided) → TwoColumns n (λ t. if_seen n t (a t)) p q
plain_columns n a p q y z e = record {
  yeses = λ t. y t ∙ ap is_yes (plain t);
  noes = λ t. z t ∙ ap is_no (plain t);
  ends = λ t h. not_seen n t (a t) h;
}
  where
    plain : (t : ℕ) → a t ≡ if_seen n t (a t)
    plain t = ⊎_elim (λ h. sym (seen n t (a t) h)) (λ h. e t h ∙ sym (not_seen n t (a t) h)) (lt_or_le t n)

module _ (xs : List ℕ) where
  abbrev n : ℕ
  n = length xs

  abbrev pub FormulaColumns : Formula → (ℕ → Bool) → (ℕ → Bool) → Type 0
  FormulaColumns f p q = TwoColumns (length xs) (known f xs) p q

  pub signal_columns : (s : ℕ) → FormulaColumns (signal s) (below n (λ t. bit (get_or xs t 0) s)) (below n (λ t. not (bit (get_or xs t 0) s)))
  unfolding known
  signal_columns s = seen_columns n _ _ _ (λ t. (decided_is (bit (get_or xs t 0) s)).0) (λ t. (decided_is (bit (get_or xs t 0) s)).1)

  pub const_columns : (b : Bool) → FormulaColumns (const b) (below n (λ t. b)) (below n (λ t. not b))
  unfolding known
  const_columns b = seen_columns n _ _ _ (λ t. (decided_is b).0) (λ t. (decided_is b).1)

  module _ (a : Formula) {ya na : ℕ → Bool} (A : FormulaColumns a ya na) where
    pub not_columns : FormulaColumns (neg a) na ya
    unfolding known
    not_columns = plain_columns n _ _ _
        (λ t. A.noes t ∙ sym (turned_is (known a xs t)).0)
        (λ t. A.yeses t ∙ sym (turned_is (known a xs t)).1)
        (λ t h. ap turned (A.ends t h))

    pub F_columns : (lo hi : ℕ) → FormulaColumns (F lo hi a) (below n (eventually n lo hi ya)) (below n (whole lo hi na))
    unfolding known
    F_columns lo hi = seen_columns n _ _ _ (F_yes lo hi A) (F_no lo hi A)

    pub G_columns : (lo hi : ℕ) → FormulaColumns (G lo hi a) (below n (whole lo hi ya)) (below n (eventually n lo hi na))
    unfolding known
    G_columns lo hi = seen_columns n _ _ _ (G_yes lo hi A) (G_no lo hi A)

    module _ (b : Formula) {yb nb : ℕ → Bool} (B : FormulaColumns b yb nb) where
      pub and_columns : FormulaColumns (and a b) (λ t. ya t && yb t) (λ t. na t || nb t)
      unfolding known
      and_columns = plain_columns n _ _ _
          (λ t. ap₂ ◌&&◌ (A.yeses t) (B.yeses t) ∙ sym (smaller_is (known a xs t) (known b xs t)).0)
          (λ t. ap₂ ◌||◌ (A.noes t) (B.noes t) ∙ sym (smaller_is (known a xs t) (known b xs t)).1)
          (λ t h. ap₂ smaller (A.ends t h) (B.ends t h))

      pub or_columns : FormulaColumns (or a b) (λ t. ya t || yb t) (λ t. na t && nb t)
      unfolding known
      or_columns = plain_columns n _ _ _
          (λ t. ap₂ ◌||◌ (A.yeses t) (B.yeses t) ∙ sym (larger_is (known a xs t) (known b xs t)).0)
          (λ t. ap₂ ◌&&◌ (A.noes t) (B.noes t) ∙ sym (larger_is (known a xs t) (known b xs t)).1)
          (λ t h. ap₂ larger (A.ends t h) (B.ends t h))

      pub U_columns : (lo hi : ℕ)
          → FormulaColumns (U lo hi a b) (below n (until n lo hi ya yb)) (below n (whole_release lo hi na nb))
      unfolding known
      U_columns lo hi = seen_columns n _ _ _ (U_yes lo hi A B) (U_no lo hi A B)

      pub R_columns : (lo hi : ℕ)
          → FormulaColumns (R lo hi a b) (below n (whole_release lo hi ya yb)) (below n (until n lo hi na nb))
      unfolding known
      R_columns lo hi = seen_columns n _ _ _ (R_yes lo hi A B) (R_no lo hi A B)
