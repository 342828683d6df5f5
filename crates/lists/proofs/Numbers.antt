-- Numbers put together from their bits. Assumes nothing.
use mathlib.Core.Path.{◌≡◌, refl, sym, ap, ap₂, subst, ◌∙◌}
use mathlib.Core.Logic.{◌⊎◌, inl, inr, ⊎_elim}
use mathlib.Core.Bool.{Bool, false, ◌||◌, or-false}
use Prim.Native.Nat.{ℕ, ◌+◌, ◌-◌, ◌*◌, ◌/◌, ◌%◌, ◌^◌, ◌≤◌, ◌<◌}
use native.Mathlib.Nat.{mod-le, le_antisymm, lt_of_lt_of_le}
use native.Mathlib.Omega.{arith}
use lib.Bits.{bit_or, bit_and, or_lt, and_mask}
use lib.Pow.{pow_mono, shl_lt}
use Rattle.lists.specs.Bits.{bit, digit, number}
use Rattle.lists.proofs.Tests.{lt_or_le}
use Rattle.lists.proofs.Bits.{digit_flag, bit_or_lem, bit_mod, bit_shl_low, bit_shl_high, bit_high, number_lt, number_bit, number_is}

-- a bit as a digit
pub bit_digit : (x i : ℕ) → bit_and (x / 2 ^ i) 1 ≡ digit (bit x i)
unfolding bit
bit_digit x i = and_mask (x / 2 ^ i) 1 ∙ sym (digit_flag (x / 2 ^ i % 2) (omega arith))

pub number_none : (f : ℕ → Bool) → 0 ≡ number 0 f
unfolding number
number_none f = refl

pub number_ext : (k : ℕ) (f g : ℕ → Bool) → ((j : ℕ) → j < k → f j ≡ g j) → number k f ≡ number k g
number_ext k f g e = number_is k (number k f) g (number_lt k f) (λ j h. number_bit k f j h ∙ e j h)

-- bits that are clear add nothing
pub number_clear : (k n : ℕ) (f : ℕ → Bool) → k ≤ n → ((j : ℕ) → k ≤ j → j < n → f j ≡ false) → number k f ≡ number n f
number_clear k n f h c =
    number_is n (number k f) f (lt_of_lt_of_le (number_lt k f) (pow_mono h)) λ j l.
    ⊎_elim
    (λ (a : j < k). number_bit k f j a)
    (λ (a : k ≤ j). bit_high k (number k f) j (number_lt k f) a ∙ sym (c j a l))
    (lt_or_le j k)

-- y's bits stand above x's
module _ (n k r : ℕ) {x y : ℕ} {f g : ℕ → Bool} (h : ℕ → Bool) where
  pub number_join : k + r ≤ n → x ≡ number k f → y ≡ number r g → ((j : ℕ) → j < k → f j ≡ h j) → ((j : ℕ) → j < r → g j ≡ h (k + j))
      → bit_or x (y * 2 ^ k % 2 ^ n) ≡ number (k + r) h
  number_join l p q low high = number_is (k + r) _ h bound λ i m. bit_or_lem _ _ i ∙ at i (lt_or_le i k) m
    where
      small : x < 2 ^ k
      small = rw p (number_lt k f)

      size : y * 2 ^ k < 2 ^ (k + r)
      size = rw q (subst (λ (e : ℕ). number r g * 2 ^ k < 2 ^ e) (omega arith) (shl_lt r k (number_lt r g)))

      bound : bit_or x (y * 2 ^ k % 2 ^ n) < 2 ^ (k + r)
      bound = or_lt (k + r) x (y * 2 ^ k % 2 ^ n) (lt_of_lt_of_le small (pow_mono (omega arith))) (omega (arith, mod-le (y * 2 ^ k) (2 ^ n), size))

      at : (i : ℕ) → (i < k) ⊎ (k ≤ i) → i < k + r → bit x i || bit (y * 2 ^ k % 2 ^ n) i ≡ h i
      at i (inl a) m =
          ap₂ ◌||◌ (ap (λ (z : ℕ). bit z i) p ∙ number_bit k f i a) (bit_mod n _ i (omega arith) ∙ bit_shl_low k y i a) ∙ or-false (f i) ∙ low i a
      at i (inr a) m =
          let e : i ≡ k + (i - k) = omega arith in
          ap₂ ◌||◌ (bit_high k x i small a)
          (bit_mod n _ i (omega arith) ∙ ap (bit (y * 2 ^ k)) e ∙ bit_shl_high k y (i - k) ∙ ap (λ (z : ℕ). bit z (i - k)) q ∙ number_bit r g (i - k) (omega arith))
          ∙ high (i - k) (omega arith) ∙ ap h (sym e)

-- a digit, with bits above it that are clear
digit_one : (g : ℕ → Bool) → digit (g 0) ≡ number 1 g
unfolding number
digit_one g = omega arith

pub digit_number : (r : ℕ) (g : ℕ → Bool) → 1 ≤ r → ((j : ℕ) → 1 ≤ j → j < r → g j ≡ false) → digit (g 0) ≡ number r g
digit_number r g h c = digit_one g ∙ number_clear 1 r g h c

-- one digit more
pub number_more : (n k : ℕ) (f : ℕ → Bool) {x y : ℕ} → k < n → x ≡ number k f → y ≡ digit (f k) → bit_or x (y * 2 ^ k % 2 ^ n) ≡ number (k + 1) f
number_more n k f h p q =
    number_join n k 1 f (omega arith) p (q ∙ digit_number 1 (λ j. f k) (omega arith) (λ j a b. absurd (omega arith)))
    (λ j l. refl) (λ j l. ap f (omega arith))

pub number_done : (f : ℕ → Bool) {x j k : ℕ} → x ≡ number j f → j ≤ k → k ≤ j → x ≡ number k f
number_done f e a b = e ∙ ap (λ (n : ℕ). number n f) (le_antisymm a b)
