-- Words of columns: an operation on words is the operation on their columns, bit by bit. Assumes nothing.
use mathlib.Core.Path.{◌≡◌, refl, sym, ap, ap₂, ◌∙◌}
use mathlib.Core.Logic.{⊎_elim}
use mathlib.Core.Bool.{Bool, true, false, ◌||◌, ◌&&◌, not}
use mathlib.Core.List.{List}
use Prim.Native.Nat.{ℕ, ◌+◌, ◌-◌, ◌*◌, ◌/◌, ◌%◌, ◌^◌, ◌≤◌, ◌<◌}
use native.Mathlib.Nat.{sub-zero, one-mul, mod-eq_of_lt}
use native.Mathlib.Omega.{arith}
use borrow.Author.Tests.{lt-ltb, le-ltb}
use lib.Bits.{bit_or, bit_and, or_lt, and_lt}
use lib.ListN.{get_or}
use lib.Pow.{pow_pos, pow-lt, ones_lt}
use Rattle.lists.specs.Bits.{bit, bit_at}
use Rattle.lists.proofs.Tests.{lt_or_le}
use Rattle.lists.proofs.Bits.{bit_or_lem, bit_and_lem, bit_not, bit_high, bit_none}
use Rattle.lists.proofs.Columns.{bit_at_at}
use Rattle.column.specs.Column.{WordOf, filled}

-- a word of a list
pub own_word : (c : List ℕ) (w : ℕ) {x : ℕ} → x < 2 ^ 64 → x ≡ get_or c w 0 → WordOf (bit_at c) w x
own_word c w h e = record { fits = h; bits = λ i k. ap (λ (y : ℕ). bit y i) e ∙ sym (bit_at_at c (64 * w + i) w i refl k) }

-- a word that is made of two, bit by bit
pub op_words : (op : Bool → Bool → Bool) {f g : ℕ → Bool} {w x y z : ℕ} → WordOf f w x → WordOf g w y → z < 2 ^ 64
    → ((i : ℕ) → i < 64 → bit z i ≡ op (bit x i) (bit y i)) → WordOf (λ t. op (f t) (g t)) w z
op_words op p q fits bits = record { fits = fits; bits = λ i h. bits i h ∙ ap₂ op (p.bits i h) (q.bits i h) }

-- the words that the operations on words make
pub bit_and_by : (x y : ℕ) {z : ℕ} → z ≡ bit_and x y → (i : ℕ) → bit z i ≡ (bit x i && bit y i)
bit_and_by x y e i = rw e (bit_and_lem x y i)

pub bit_or_by : (x y : ℕ) {z : ℕ} → z ≡ bit_or x y → (i : ℕ) → bit z i ≡ (bit x i || bit y i)
bit_or_by x y e i = rw e (bit_or_lem x y i)

pub bit_and_not_by : (x y : ℕ) {z : ℕ} → y < 2 ^ 64 → z ≡ bit_and x ((2 ^ 64 - 1) - y) → (i : ℕ) → i < 64 → bit z i ≡ (bit x i && not (bit y i))
bit_and_not_by x y b e i h = bit_and_by x ((2 ^ 64 - 1) - y) e i ∙ ap (λ (v : Bool). bit x i && v) (bit_not 64 y i b h)

pub or_words : {f g : ℕ → Bool} {w x y : ℕ} → WordOf f w x → WordOf g w y → WordOf (λ t. f t || g t) w (bit_or x y)
or_words {x = x} {y = y} p q = record { fits = or_lt 64 x y p.fits q.fits; bits = λ i h. bit_or_lem x y i ∙ ap₂ ◌||◌ (p.bits i h) (q.bits i h) }

pub and_words : {f g : ℕ → Bool} {w x y : ℕ} → WordOf f w x → WordOf g w y → WordOf (λ t. f t && g t) w (bit_and x y)
and_words {x = x} {y = y} p q = record { fits = and_lt 64 x y p.fits q.fits; bits = λ i h. bit_and_lem x y i ∙ ap₂ ◌&&◌ (p.bits i h) (q.bits i h) }

pub not_word : {f : ℕ → Bool} {w x : ℕ} → WordOf f w x → WordOf (λ t. not (f t)) w ((2 ^ 64 - 1) - x)
not_word {x = x} p = record { fits = omega arith; bits = λ i h. bit_not 64 x i p.fits h ∙ ap not (p.bits i h) }

-- the same bits, by another column
pub word_by : {f g : ℕ → Bool} {w x : ℕ} → WordOf f w x → ((i : ℕ) → i < 64 → f (64 * w + i) ≡ g (64 * w + i)) → WordOf g w x
word_by p e = record { fits = p.fits; bits = λ i h. p.bits i h ∙ e i h }

pub no_word : {f : ℕ → Bool} {w : ℕ} → ((i : ℕ) → i < 64 → f (64 * w + i) ≡ false) → WordOf f w 0
no_word z = record { fits = omega arith; bits = λ i h. bit_none i ∙ sym (z i h) }

-- ---- the bits below n: all of a word, none of it, or its first
pub mask : (k : ℕ) → k < 64 → 1 * 2 ^ k % 2 ^ 64 ≡ 2 ^ k
mask k h = ap (λ (x : ℕ). x % 2 ^ 64) (one-mul (2 ^ k)) ∙ mod-eq_of_lt (pow-lt h)

ones_bit : (k i : ℕ) → i < k → bit (2 ^ k - 1) i ≡ true
ones_bit k i h = ap (λ (x : ℕ). bit x i) (sym (sub-zero (2 ^ k - 1))) ∙ bit_not k 0 i (pow_pos k) h ∙ ap not (bit_none i)

module _ (n w : ℕ) where
  pub below_all : w < n / 64 → WordOf (filled n) w (2 ^ 64 - 1)
  below_all p = record { fits = omega arith; bits = λ i h. ones_bit 64 i h ∙ sym (lt-ltb (64 * w + i) n (omega arith)) }

  pub below_none : n / 64 < w → WordOf (filled n) w 0
  below_none p = no_word (λ i h. le-ltb (64 * w + i) n (omega arith))

  pub below_first : w ≡ n / 64 → WordOf (filled n) w (1 * 2 ^ (n % 64) % 2 ^ 64 - 1)
  below_first p =
      rw (mask (n % 64) (omega arith))
      (record {
        fits = omega (arith, pow-lt {i = n % 64} {j = 64} (omega arith));
        bits =
            λ i h. ⊎_elim
            (λ (l : i < n % 64). ones_bit (n % 64) i l ∙ sym (lt-ltb (64 * w + i) n (omega arith)))
            (λ (l : n % 64 ≤ i). bit_high (n % 64) _ i (ones_lt (n % 64)) l ∙ sym (le-ltb (64 * w + i) n (omega arith)))
            (lt_or_le i (n % 64));
      })
