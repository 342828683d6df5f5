-- The bytes of a book that is made of records, and the lists that its chain is made of. Assumes nothing.
use mathlib.Core.Path.{◌≡◌, refl, sym, ◌∙◌}
use mathlib.Core.Bool.{Bool, true, false, ◌||◌, false≢true}
use mathlib.Core.List.{List, [], ◌∷◌, ◌++◌}
use mathlib.Core.Logic.{inl, inr, ⊎_elim}
use Prim.Native.Nat.{ℕ, zero, suc, ◌+◌, ◌*◌, ◌/◌, ◌%◌, ◌<◌}
use native.Mathlib.Numerals.{add-one}
use native.Mathlib.Omega.{arith}
use borrow.Author.Tests.{eqb-true, lt-ltb, le-ltb, ne_eqb}
use lib.Dec.{ltb, eqb}
use lib.ListN.{length, get_or}
use Rattle.lists.specs.Choice.{pick}
use Rattle.lists.specs.Sequence.{ticks, among, pair_of}
use Rattle.lists.proofs.Tests.{lt_or_le, or_split, same_test, or_iff, ltb_iff, eqb_iff}
use Rattle.lists.proofs.Sequences.{length_ticks, ticks_snoc}
use Rattle.book.specs.declared.Entry.{Entry}
use Rattle.book.specs.Entries.{entry_of}
use Rattle.book.specs.Reading.{index, place}
use Rattle.book.specs.Writing.{bytes_of, bytes, head_entry}
use Rattle.book.proofs.Among.{eqb_suc, among_snoc, index_old, index_new}

-- ---- a number as two bytes
pub two : (n : ℕ) → pair_of (n % 256) (n / 256) ≡ n
two n = omega arith

-- ---- the record r of a book of records
entry_first : (e : Entry) (s : List ℕ) → entry_of (bytes_of e s) 0 ≡ e
entry_first e s = rw (two e.lo, two e.hi)

past : (e : Entry) (s : List ℕ) (i c : ℕ) → get_or (bytes_of e s) (12 * suc i + c) 0 ≡ get_or s (12 * i + c) 0
past e s i c =
    let m : 12 * suc i + c ≡ suc (suc (suc (suc (suc (suc (suc (suc (suc (suc (suc (suc (12 * i + c)))))))))))) = omega arith in
    rw m

past_none : (e : Entry) (s : List ℕ) (i : ℕ) → get_or (bytes_of e s) (12 * suc i) 0 ≡ get_or s (12 * i) 0
past_none e s i =
    let m : 12 * suc i ≡ suc (suc (suc (suc (suc (suc (suc (suc (suc (suc (suc (suc (12 * i)))))))))))) = omega arith in
    rw m

past_two : (e : Entry) (s : List ℕ) (i c : ℕ) → get_or (bytes_of e s) (12 * suc i + c + 1) 0 ≡ get_or s (12 * i + c + 1) 0
past_two e s i c =
    let m : 12 * suc i + c + 1 ≡ suc (suc (suc (suc (suc (suc (suc (suc (suc (suc (suc (suc (12 * i + c + 1)))))))))))) = omega arith in
    rw m

entry_past : (e : Entry) (s : List ℕ) (i : ℕ) → entry_of (bytes_of e s) (suc i) ≡ entry_of s i
entry_past e s i =
    rw (past_none e s i, past e s i 1, past e s i 2, past_two e s i 2, past e s i 4, past_two e s i 4, past e s i 6, past e s i 7, past e s i 8, past e s i 9, past e s i 10, past e s i 11)

pub entry_of_lem : (es : List Entry) (r : ℕ) → entry_of (bytes es) r ≡ get_or es r (head_entry 0)
entry_of_lem [] r = refl
entry_of_lem (e ∷ es) zero = entry_first e (bytes es)
entry_of_lem (e ∷ es) (suc r) = entry_past e (bytes es) r ∙ entry_of_lem es r

pub length_bytes : (es : List Entry) → length (bytes es) ≡ 12 * length es
length_bytes [] = refl
length_bytes (e ∷ es) = rw (length_bytes es) (omega arith)

-- ---- f at 0 to n - 1, as a list that grows at its end
unfoldable pub listed : (ℕ → ℕ) → ℕ → List ℕ
listed f n = ticks f n

pub listed_none : (f : ℕ → ℕ) → listed f 0 ≡ []
unfolding listed
listed_none f = refl

pub listed_more : (f : ℕ → ℕ) (n : ℕ) → listed f (suc n) ≡ listed f n ++ (f n ∷ [])
unfolding listed
listed_more f n = ticks_snoc f n

pub length_listed : (f : ℕ → ℕ) (n : ℕ) → length (listed f n) ≡ n
unfolding listed
length_listed f n = length_ticks f n

-- the numbers from 0, and from 1
abbrev pub ups : ℕ → List ℕ
ups k = listed (λ i. i) k

abbrev pub ones : ℕ → List ℕ
ones k = listed suc k

pub first_up : ups 1 ≡ 0 ∷ []
unfolding listed
first_up = refl

up_one : (r k : ℕ) → (ltb r k || eqb r k) ≡ ltb r (suc k)
up_one r k =
    same_test _ _ (or_iff (ltb r k) (eqb r k) (ltb_iff r k) (eqb_iff r k)) (ltb_iff r (suc k)) (⊎_elim (λ h. omega arith) (λ h. omega arith)) λ h.
    ⊎_elim (λ l. inl l) (λ l. inr (omega arith)) (lt_or_le r k)

pub among_ups : (r k : ℕ) → among r (ups k) ≡ ltb r k
among_ups r zero = rw (listed_none (λ i. i)) (sym (le-ltb r 0 (omega arith)))
among_ups r (suc k) = rw (listed_more (λ i. i) k) (among_snoc r (ups k) k ∙ rw (among_ups r k) (up_one r k))

among_ones : (o k : ℕ) → among (suc o) (ones k) ≡ ltb o k
among_ones o zero = rw (listed_none suc) (sym (le-ltb o 0 (omega arith)))
among_ones o (suc k) = rw (listed_more suc k) (among_snoc (suc o) (ones k) (suc k) ∙ rw (among_ones o k, eqb_suc o k) (up_one o k))

-- the record of the place o
pub among_records : (o k : ℕ) → among (o + 1) (ones k) ≡ ltb o k
among_records o k = rw (add-one o) (among_ones o k)

among_none : (k : ℕ) → among 0 (ones k) ≡ false
among_none zero = rw (listed_none suc)
among_none (suc k) = rw (listed_more suc k) (among_snoc 0 (ones k) (suc k) ∙ rw (among_none k, ne_eqb 0 (suc k) (omega arith)))

index_ones : (k o : ℕ) → o < k → index (ones k) (suc o) ≡ o
index_ones zero o h = absurd (omega arith)
index_ones (suc k) o h =
    rw (listed_more suc k)
    (⊎_elim (λ p. index_old (ones k) (suc k ∷ []) (suc o) (among_ones o k ∙ lt-ltb o k p) ∙ index_ones k o p)
    (λ p.
    let m : o ≡ k = omega arith in
    rw m (index_new (ones k) (suc k) (among_ones k k ∙ le-ltb k k (omega arith)) ∙ length_listed suc k))
    (lt_or_le o k))

place_ones : (k o : ℕ) → o < k → place (ones k) (suc o) ≡ o
place_ones k o h = rw (among_ones o k, lt-ltb o k h) (index_ones k o h)

-- the place of an operand that a kind uses, and of one that it does not
pub operand_place : (b : Bool) (k u : ℕ) → (b ≡ true → u < k) → (b ≡ false → u ≡ 0) → place (ones k) (pick b (u + 1) 0) ≡ u
operand_place true k u p q = rw (add-one u) (place_ones k u (p refl))
operand_place false k u p q = rw (among_none k) (sym (q refl))

-- one of a list of numbers
pub record Which (f : ℕ → ℕ) (n q : ℕ) : Type 0 where
  pub at : ℕ
  pub small : at < n
  pub is : q ≡ f at

pub which : (f : ℕ → ℕ) (n q : ℕ) → among q (listed f n) ≡ true → Which f n q
which f zero q h = absurd (false≢true (rw (listed_none f) at h))
which f (suc n) q h =
    ⊎_elim (λ i. let w = which f n q i in record { at = w.at; small = omega (arith, w.small); is = w.is })
    (λ i. record { at = n; small = omega arith; is = eqb-true q (f n) i })
    (or_split (among q (listed f n)) (eqb q (f n)) (sym (among_snoc q (listed f n) (f n)) ∙ (rw (listed_more f n) at h)))
