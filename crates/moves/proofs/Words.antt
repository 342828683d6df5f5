-- Words of a column moved down. Assumes nothing.
use mathlib.Core.Path.{◌≡◌, sym, ap, ap₂, ◌∙◌}
use mathlib.Core.Logic.{⊎_elim}
use mathlib.Core.Bool.{Bool, false, ◌||◌, ◌&&◌, or-false}
use Prim.Native.Nat.{ℕ, ◌+◌, ◌-◌, ◌*◌, ◌/◌, ◌%◌, ◌^◌, ◌≤◌, ◌<◌}
use native.Mathlib.Nat.{mod-lt, lt_of_le_of_lt, div-le_self}
use native.Mathlib.Omega.{arith}
use lib.Bits.{bit_or, bit_and, or_lt}
use Rattle.lists.specs.Bits.{bit}
use Rattle.lists.proofs.Tests.{lt_or_le}
use Rattle.lists.proofs.Bits.{bit_or_lem, bit_and_lem, bit_shr, bit_mod, bit_shl_low, bit_shl_high, bit_high}
use Rattle.column.specs.Column.{WordOf}
use Rattle.column.proofs.Words.{word_by, bit_or_by, bit_and_by}

-- the words that `bridge` and `sustain` make
pub bit_bridge : (u v x : ℕ) {z : ℕ} → z ≡ bit_or u (bit_and v x) → (i : ℕ) → bit z i ≡ (bit u i || bit v i && bit x i)
bit_bridge u v x e i = bit_or_by u (bit_and v x) e i ∙ ap (λ (b : Bool). bit u i || b) (bit_and_lem v x i)

pub bit_sustain : (u v x : ℕ) {z : ℕ} → z ≡ bit_and u (bit_or v x) → (i : ℕ) → bit z i ≡ (bit u i && (bit v i || bit x i))
bit_sustain u v x e i = bit_and_by u (bit_or v x) e i ∙ ap (λ (b : Bool). bit u i && b) (bit_or_lem v x i)

-- a second column that is clear there
pub or_none : {f : ℕ → Bool} (g : ℕ → Bool) {w x : ℕ} → WordOf f w x → ((i : ℕ) → i < 64 → g (64 * w + i) ≡ false) → WordOf (λ t. f t || g t) w x
or_none {f = f} g {w = w} p z = word_by p (λ i h. sym (ap (λ (b : Bool). f (64 * w + i) || b) (z i h) ∙ or-false _))

-- a word of two, and the last word
module _ {f : ℕ → Bool} (by : ℕ) {w : ℕ} where
  pub moved_two : {x y : ℕ} → WordOf f (w + by / 64) x → WordOf f (w + by / 64 + 1) y → WordOf (λ t. f (t + by)) w (bit_or (x / 2 ^ (by % 64)) (y * 2 ^ 1 % 2 ^ 64 * 2 ^ (63 - by % 64) % 2 ^ 64))
  moved_two {x} {y} p q =
      record {
        fits = or_lt 64 _ _ (lt_of_le_of_lt (div-le_self _ _) p.fits) (mod-lt _ (omega arith));
        bits =
            λ i h. bit_or_lem _ _ i ∙ ap₂ ◌||◌ (bit_shr x r i) (bit_mod 64 _ i h) ∙ ⊎_elim (low i h) (high i h) (lt_or_le (r + i) 64);
      }
    where
      r : ℕ
      r = by % 64

      up : ℕ
      up = y * 2 ^ 1 % 2 ^ 64

      clear : (i : ℕ) → r + i < 64 → bit (up * 2 ^ (63 - r)) i ≡ false
      clear i l =
          ⊎_elim
          (λ (k : i < 63 - r). bit_shl_low (63 - r) up i k)
          (λ (k : 63 - r ≤ i).
          ap (bit (up * 2 ^ (63 - r))) (let e : i ≡ 63 - r + 0 = omega arith in e) ∙ bit_shl_high (63 - r) up 0 ∙ bit_mod 64 (y * 2 ^ 1) 0 (omega arith)
          ∙ bit_shl_low 1 y 0 (omega arith))
          (lt_or_le i (63 - r))

      low : (i : ℕ) → i < 64 → r + i < 64 → bit x (r + i) || bit (up * 2 ^ (63 - r)) i ≡ f (64 * w + i + by)
      low i h l = ap₂ ◌||◌ (p.bits (r + i) l ∙ ap f (omega arith)) (clear i l) ∙ or-false _

      high : (i : ℕ) → i < 64 → 64 ≤ r + i → bit x (r + i) || bit (up * 2 ^ (63 - r)) i ≡ f (64 * w + i + by)
      high i h l =
          ap₂ ◌||◌ (bit_high 64 x (r + i) p.fits l)
          (ap (bit (up * 2 ^ (63 - r))) (let e : i ≡ 63 - r + (r + i - 63) = omega arith in e) ∙ bit_shl_high (63 - r) up (r + i - 63)
          ∙ bit_mod 64 (y * 2 ^ 1) (r + i - 63) (omega arith) ∙ ap (bit (y * 2 ^ 1)) (let e : r + i - 63 ≡ 1 + (r + i - 64) = omega arith in e)
          ∙ bit_shl_high 1 y (r + i - 64) ∙ q.bits (r + i - 64) (omega arith) ∙ ap f (omega arith))

  pub moved_whole : {x : ℕ} → by % 64 ≡ 0 → WordOf f (w + by / 64) x → WordOf (λ t. f (t + by)) w x
  moved_whole e p = record { fits = p.fits; bits = λ i h. p.bits i h ∙ ap f (omega arith) }

  pub moved_last : {x : ℕ} → WordOf f (w + by / 64) x → ((t : ℕ) → 64 * (w + by / 64 + 1) ≤ t → f t ≡ false) → WordOf (λ t. f (t + by)) w (x / 2 ^ (by % 64))
  moved_last {x} p z =
      record {
        fits = lt_of_le_of_lt (div-le_self _ _) p.fits;
        bits =
            λ i h. bit_shr x (by % 64) i
            ∙ ⊎_elim
            (λ (l : by % 64 + i < 64). p.bits (by % 64 + i) l ∙ ap f (omega arith))
            (λ (l : 64 ≤ by % 64 + i). bit_high 64 x (by % 64 + i) p.fits l ∙ sym (z (64 * w + i + by) (omega arith)))
            (lt_or_le (by % 64 + i) 64);
      }
