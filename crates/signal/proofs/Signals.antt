-- A signal's column, put together from parts of its words. Assumes nothing.
use mathlib.Core.Path.{◌≡◌, refl, sym, ap, ap₂, subst, ◌∙◌}
use mathlib.Core.Logic.{⊎_elim}
use mathlib.Core.Bool.{Bool, true, false, ◌||◌, ◌&&◌}
use mathlib.Core.List.{List, ◌++◌}
use Prim.Native.Nat.{ℕ, zero, suc, ◌+◌, ◌-◌, ◌*◌, ◌/◌, ◌%◌, ◌^◌, ◌≤◌, ◌<◌, min}
use native.Mathlib.Nat.{zero-add, le_antisymm}
use native.Mathlib.Omega.{arith}
use borrow.Author.Tests.{eq-eqb, ne_eqb}
use lib.Bits.{bit_or, or_lt}
use lib.Dec.{eqb}
use lib.ListN.{length, get_or, set, length-set, length-append, get_or-append, get_or-eq_default}
use lib.Seq.{get_or-append-add, get_or-set_same, get_or-set_other}
use Rattle.lists.specs.Bits.{bit, bit_at, digit, number, pack}
use Rattle.lists.proofs.Tests.{lt_or_le, same_test, eqb_iff}
use Rattle.lists.proofs.Bits.{bit_none, bit_or_lem, bit_mod, bit_shl_low, bit_shl_high, bit_high, number_lt, number_bit, number_is}
use Rattle.lists.proofs.Numbers.{number_ext, number_clear, number_join, digit_number}
use Rattle.lists.proofs.Columns.{length_pack, bit_at_pack}
use Rattle.column.specs.Column.{WordOf, Swept, Laid, lay}
use Rattle.column.proofs.Registers.{paste_in}
use Rattle.column.proofs.Sweeps.{swept_none, swept_to, swept_on, swept_laid}
use Rattle.signal.specs.Signal.{signal_column, SignalPacked}
use Rattle.signal.specs.Code.Steps.{fourths, Lanes}

-- ---- every fourth bit
no_fourth : (f : ℕ → Bool) (j : ℕ) → 0 < j % 4 → fourths f j ≡ false
no_fourth f j h = rw (ne_eqb (j % 4) 0 (λ e. omega arith))

pub fourths_more : (k : ℕ) (f : ℕ → Bool) {x y : ℕ} → k < 8 → x ≡ number (4 * k) (fourths f) → y ≡ digit (f (4 * k))
    → bit_or x (y * 2 ^ (4 * k) % 2 ^ 32) ≡ number (4 * (k + 1)) (fourths f)
fourths_more k f h p q =
    number_join 32 (4 * k) 4 (fourths f) (omega arith) p (q ∙ ap digit first ∙ digit_number 4 (λ j. fourths f (4 * k + j)) (omega arith) (λ j a b. no_fourth f (4 * k + j) (omega arith)))
    (λ j l. refl) (λ j l. refl)
    ∙ ap (λ (n : ℕ). number n (fourths f)) (omega arith)
  where
    first : f (4 * k) ≡ fourths f (4 * k + 0)
    first = rw (eq-eqb ((4 * k + 0) % 4) 0 (omega arith)) (ap f (omega arith))

pub lanes_none : {f : ℕ → Bool} {from : ℕ} {l : List ℕ} → Lanes f from 0 l
lanes_none = record { low = λ k h. absurd (omega arith); high = λ k h. absurd (omega arith) }

-- a lane more in each half
module _ {f : ℕ → Bool} {from k : ℕ} {l : List ℕ} (r : Lanes f from k l) {x y : ℕ} (h : k < 4) (e : length l ≡ 8) where
  pub lanes_more : x ≡ number 32 (fourths (λ j. f (from + k + j))) → y ≡ number 32 (fourths (λ j. f (from + 32 + k + j)))
      → Lanes f from (k + 1) (set (set l k x) (k + 4) y)
  lanes_more p q =
      let long : length (set l k x) ≡ 8 = length-set l k x ∙ e in
      let kept : (j : ℕ) → (j ≡ k → ⊥) → (j ≡ k + 4 → ⊥) → get_or (set (set l k x) (k + 4) y) j 0 ≡ get_or l j 0
      = λ j a b. get_or-set_other (set l k x) (k + 4) j y 0 b ∙ get_or-set_other l k j x 0 a in
      record {
        low = λ j m.
            ⊎_elim
            (λ (a : j < k). kept j (λ z. omega arith) (λ z. omega arith) ∙ r.low j a)
            (λ (a : k ≤ j).
            let z : j ≡ k = omega arith in
            rw z (get_or-set_other (set l k x) (k + 4) k y 0 (λ z. omega arith) ∙ get_or-set_same l k x 0 (omega arith) ∙ p))
            (lt_or_le j k);
        high = λ j m.
            ⊎_elim
            (λ (a : j < k). kept (j + 4) (λ z. omega arith) (λ z. omega arith) ∙ r.high j a)
            (λ (a : k ≤ j). let z : j ≡ k = omega arith in rw z (get_or-set_same (set l k x) (k + 4) y 0 (omega arith) ∙ q))
            (lt_or_le j k);
      }

pub lanes_done : {f : ℕ → Bool} {from k n : ℕ} {l : List ℕ} → Lanes f from k l → k ≤ n → n ≤ k → Lanes f from n l
lanes_done {f} {from} {l = l} r a b = subst (λ (m : ℕ). Lanes f from m l) (le_antisymm a b) r

pick_one : (r : ℕ) (b : Bool) → r < 4 → (((eqb r 0 && b) || (eqb r 1 && b)) || (eqb r 2 && b)) || (eqb r 3 && b) ≡ b
pick_one zero true h = refl
pick_one zero false h = refl
pick_one (suc zero) true h = refl
pick_one (suc zero) false h = refl
pick_one (suc (suc zero)) true h = refl
pick_one (suc (suc zero)) false h = refl
pick_one (suc (suc (suc zero))) true h = refl
pick_one (suc (suc (suc zero))) false h = refl
pick_one (suc (suc (suc (suc r)))) b h = absurd (omega arith)

module _ (f : ℕ → Bool) where
  -- two numbers of 32 bits, the second from where the first ends
  pub fourths_both : (m n : ℕ) {x y r : ℕ} → n ≡ m + 32 → r ≡ bit_or x (y * 2 ^ 32 % 2 ^ 64) → x ≡ number 32 (fourths (λ j. f (m + j)))
      → y ≡ number 32 (fourths (λ j. f (n + j))) → r ≡ number 64 (fourths (λ j. f (m + j)))
  fourths_both m n h e p q =
      e
      ∙ number_join 64 32 32 (fourths (λ j. f (m + j))) (omega arith) p q (λ j l. refl) λ j l.
      ap₂ ◌&&◌ (same_test _ _ (eqb_iff (j % 4) 0) (eqb_iff ((32 + j) % 4) 0) (λ z. omega arith) (λ z. omega arith)) (ap f (omega arith))

  -- moved by l, those from place l on are the bits whose places leave l when divided by 4
  moved_bit : (from l : ℕ) {x : ℕ} → l < 4 → x ≡ number 64 (fourths (λ j. f (from + l + j))) → (j : ℕ) → j < 64
      → bit (x * 2 ^ l % 2 ^ 64) j ≡ (eqb (j % 4) l && f (from + j))
  moved_bit from l {x} h e j m =
      bit_mod 64 _ j m
      ∙ ⊎_elim
      (λ (a : j < l). bit_shl_low l x j a ∙ rw (ne_eqb (j % 4) l (λ z. omega arith)) refl)
      (λ (a : l ≤ j).
      let k : j ≡ l + (j - l) = omega arith in
      ap (bit (x * 2 ^ l)) k ∙ bit_shl_high l x (j - l) ∙ ap (λ (z : ℕ). bit z (j - l)) e
      ∙ number_bit 64 (fourths (λ j. f (from + l + j))) (j - l) (omega arith)
      ∙ ap₂ ◌&&◌ (same_test _ _ (eqb_iff ((j - l) % 4) 0) (eqb_iff (j % 4) l) (λ z. omega arith) (λ z. omega arith)) (ap f (omega arith)))
      (lt_or_le j l)

  -- the four of them are all bits
  pub fourths_all : (from : ℕ) {a b c d : ℕ} → a ≡ number 64 (fourths (λ j. f (from + 0 + j))) → b ≡ number 64 (fourths (λ j. f (from + 1 + j)))
      → c ≡ number 64 (fourths (λ j. f (from + 2 + j))) → d ≡ number 64 (fourths (λ j. f (from + 3 + j)))
      → bit_or (bit_or (bit_or a (b * 2 ^ 1 % 2 ^ 64)) (c * 2 ^ 2 % 2 ^ 64)) (d * 2 ^ 3 % 2 ^ 64) ≡ number 64 (λ j. f (from + j))
  fourths_all from {a} {b} {c} {d} p q r s =
      let ab : bit_or a (b * 2 % 2 ^ 64) < 2 ^ 64 = or_lt 64 a (b * 2 % 2 ^ 64) (rw p (number_lt 64 (fourths (λ j. f (from + 0 + j))))) (omega arith) in
      let abc : bit_or (bit_or a (b * 2 % 2 ^ 64)) (c * 4 % 2 ^ 64) < 2 ^ 64 = or_lt 64 (bit_or a (b * 2 % 2 ^ 64)) (c * 4 % 2 ^ 64) ab (omega arith) in
      number_is 64 _ (λ j. f (from + j)) (or_lt 64 (bit_or (bit_or a (b * 2 % 2 ^ 64)) (c * 4 % 2 ^ 64)) (d * 8 % 2 ^ 64) abc (omega arith)) λ j m.
      bit_or_lem _ _ j
      ∙ ap₂ ◌||◌
      (bit_or_lem _ _ j
      ∙ ap₂ ◌||◌
      (bit_or_lem _ _ j
      ∙ ap₂ ◌||◌ (ap (λ (z : ℕ). bit z j) p ∙ number_bit 64 (fourths (λ j. f (from + 0 + j))) j m ∙ ap (λ (n : ℕ). eqb (j % 4) 0 && f n) (omega arith)) (moved_bit from 1 (omega arith) q j m))
      (moved_bit from 2 (omega arith) r j m))
      (moved_bit from 3 (omega arith) s j m)
      ∙ pick_one (j % 4) (f (from + j)) (omega arith)

-- ---- the column of a trace in two parts
module _ (i : ℕ) (a b : List ℕ) where
  from_older : (t : ℕ) → t < length a → signal_column i a t ≡ signal_column i (a ++ b) t
  from_older t h = ap (λ (x : ℕ). bit x i) (sym (get_or-append a b 0 t h))

  pub from_newer : (s t : ℕ) → s + length a ≡ t → signal_column i b s ≡ signal_column i (a ++ b) t
  from_newer s t h =
      let e : length a + s ≡ t = omega arith in
      ap (λ (x : ℕ). bit x i) (sym (get_or-append-add a b s 0)) ∙ ap (signal_column i (a ++ b)) e

no_state_lem : (i : ℕ) (states : List ℕ) (t : ℕ) → length states ≤ t → signal_column i states t ≡ false
no_state_lem i states t h = ap (λ (x : ℕ). bit x i) (get_or-eq_default states 0 {n = t} h) ∙ bit_none i

-- the word at the end of a trace
pub last_part : (i from : ℕ) (states : List ℕ) {count x : ℕ} → count ≡ length states - from → count < 64
    → x ≡ number count (λ j. signal_column i states (from + j)) → x ≡ number 64 (λ j. signal_column i states (from + j))
last_part i from states {count} h l e = e ∙ number_clear count 64 _ (omega arith) (λ j a b. no_state_lem i states (from + j) (omega arith))

-- the word that begins in the first part of a trace
module _ (i from : ℕ) (a b : List ℕ) {k x : ℕ} (e : k ≡ length a - from) (h : from < length a) where
  pub first_part : 64 ≤ k → x ≡ number 64 (λ j. signal_column i a (from + j)) → x ≡ number 64 (λ j. signal_column i (a ++ b) (from + j))
  first_part l p = p ∙ number_ext 64 _ _ (λ j c. from_older i a b (from + j) (omega arith))

  pub joint_parts : {r y : ℕ} → k < 64 → r ≡ min (length b) (64 - k) → x ≡ number k (λ j. signal_column i a (from + j))
      → y ≡ number r (λ j. signal_column i b (0 + j)) → bit_or x (y * 2 ^ k % 2 ^ 64) ≡ number 64 (λ j. signal_column i (a ++ b) (from + j))
  joint_parts {r} l m p q =
      number_join 64 k r (λ j. signal_column i (a ++ b) (from + j)) (omega arith) p q
      (λ j c. from_older i a b (from + j) (omega arith))
      (λ j c. from_newer i a b (0 + j) (from + (k + j)) (omega arith))
      ∙ number_clear (k + r) 64 _ (omega arith) (λ j u v. no_state_lem i (a ++ b) (from + j) (simp length-append (omega arith)))

-- the word from its 64 digits, wherever they were read
pub gathered_word : {w x : ℕ} (f h : ℕ → Bool) → x ≡ number 64 h → ((j : ℕ) → j < 64 → h j ≡ f (64 * w + j)) → WordOf f w x
gathered_word f h e same = rw e (record { fits = number_lt 64 h; bits = λ j l. number_bit 64 h j l ∙ same j l })

-- a word of the column from a word on
pub word_from : (at w : ℕ) {x : ℕ} {f : ℕ → Bool} → WordOf f (at + w) x → WordOf (λ t. f (64 * at + t)) w x
word_from at w {f = f} q = record { fits = q.fits; bits = λ j h. q.bits j h ∙ ap f (omega arith) }

-- a state has 32 signals
pub no_signal : (i : ℕ) (a b : List ℕ) → 32 ≤ i → ((t : ℕ) → get_or a t 0 < 2 ^ 32) → ((t : ℕ) → get_or b t 0 < 2 ^ 32) → (t : ℕ) → signal_column i (a ++ b) t ≡ false
no_signal i a b h p q t =
    ⊎_elim
    (λ (l : t < length a). sym (from_older i a b t l) ∙ bit_high 32 (get_or a t 0) i (p t) h)
    (λ (l : length a ≤ t). sym (from_newer i a b (t - length a) t (omega arith)) ∙ bit_high 32 (get_or b (t - length a) 0) i (q (t - length a)) h)
    (lt_or_le t (length a))

-- ---- the words of the column
column_bit : (i m : ℕ) (states : List ℕ) (t : ℕ) → t < 64 * m → bit (get_or (pack m (signal_column i states)) (t / 64) 0) (t % 64) ≡ signal_column i states t
unfolding bit_at
column_bit i m states t k = bit_at_pack m (signal_column i states) t k

pub packed : (i m : ℕ) (states xs : List ℕ) {ys : List ℕ} → m ≤ length xs → Laid 0 m (signal_column i states) xs ys → SignalPacked i m states xs ys
packed i m states xs {ys} h l = record {
  laid = l;
  bits = λ t k.
      ap (λ (zs : List ℕ). bit (get_or zs (t / 64) 0) (t % 64)) l.is
      ∙ ap (λ (w : ℕ). bit (get_or (lay 0 m (signal_column i states) xs) w 0) (t % 64)) (omega arith)
      ∙ ap (λ (x : ℕ). bit x (t % 64)) (paste_in xs 0 (pack m (signal_column i states)) m (omega arith) (omega (arith, length_pack m (signal_column i states))) (t / 64) (omega arith))
      ∙ column_bit i m states t k;
}

module _ (i : ℕ) (a b : List ℕ) {xs ys zs : List ℕ} where
  -- words of the first part, and then others of the column
  pub older_swept : {k n : ℕ} → 64 * k ≤ length a → k ≤ n → Swept 0 (λ t. signal_column i a (0 + t)) k xs ys
      → Swept k (λ t. signal_column i (a ++ b) (64 * k + t)) (n - k) ys zs → Swept 0 (signal_column i (a ++ b)) n xs zs
  older_swept {k} h l p q =
      swept_to
      (swept_on (swept_on swept_none refl p (λ t m. from_older i a b (0 + t) (omega arith) ∙ ap (signal_column i (a ++ b)) (omega arith))) (omega arith) q (λ t m. ap (signal_column i (a ++ b)) (omega arith)))
      (omega arith)

  -- words of the second part, and then others of the column
  pub newer_swept : {at k m n from : ℕ} → from ≡ 64 * at - length a → (0 < k → length a ≤ 64 * at) → m ≡ at + k → m ≤ n
      → Swept at (λ t. signal_column i b (from + t)) k xs ys → Swept m (λ t. signal_column i (a ++ b) (64 * m + t)) (n - m) ys zs
      → Swept at (λ t. signal_column i (a ++ b) (64 * at + t)) (n - at) xs zs
  newer_swept {at} {k} e h d l p q =
      swept_to
      (swept_on
      (swept_on swept_none (omega arith) p (λ t u. let v : length a ≤ 64 * at = h (omega arith) in from_newer i a b _ _ (omega arith))) (omega arith) q
      (λ t u. ap (signal_column i (a ++ b)) (omega arith)))
      (omega arith)

-- both together are the column
pub packed_parts : (i : ℕ) (states xs : List ℕ) {at m n : ℕ} {ys zs : List ℕ} → m ≡ n → at ≤ m → m ≤ length xs → Swept 0 (signal_column i states) at xs ys
    → Swept at (λ t. signal_column i states (64 * at + t)) (m - at) ys zs → SignalPacked i n states xs zs
packed_parts i states xs {at} e h l p q =
    packed i _ states xs (omega arith) (swept_laid (swept_to (swept_on p (sym (zero-add at)) q (λ t u. refl)) (omega arith)) (λ u. omega arith))
