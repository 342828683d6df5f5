-- Registers: lists of words that hold a column of bits. Bit t is the verdict of tick t, and past the words every bit is clear.
use Rattle.std.specs.Prelude.{◌≡◌, Bool, ◌&&◌, not, List, ℕ, ◌+◌, ◌*◌, ◌^◌, ◌≤◌, ◌<◌, ltb, length, get_or, take, drop}
use Rattle.std.proofs.Math.Seq.{paste}
use Rattle.lists.specs.Bits.{bit, bit_at, word_at, pack}

-- ---- what a register's column becomes
-- the first n bits set; the first n bits flipped; the others clear
abbrev pub filled : ℕ → ℕ → Bool
filled n t = ltb t n

abbrev pub flipped : ℕ → List ℕ → ℕ → Bool
flipped n c t = ltb t n && not (bit_at c t)

-- what op makes of the first n bits and of the column c, bit by bit
abbrev pub masked : (Bool → Bool → Bool) → ℕ → List ℕ → ℕ → Bool
masked op n c t = op (ltb t n) (bit_at c t)

-- ---- where it stands
-- the whole list holds the column f
pub record Turned (f : ℕ → Bool) (xs ys : List ℕ) : Type 0 where
  pub is : ys ≡ pack (length xs) f

-- the register of m words at `at`, and a list in which it holds the column f
abbrev pub register : ℕ → ℕ → List ℕ → List ℕ
register at m xs = take m (drop at xs)

abbrev pub lay : ℕ → ℕ → (ℕ → Bool) → List ℕ → List ℕ
lay at m f xs = paste xs at (pack m f) m

pub record Laid (at m : ℕ) (f : ℕ → Bool) (xs ys : List ℕ) : Type 0 where
  pub is : ys ≡ lay at m f xs

-- ---- words
-- x is word w of the column f
pub record WordOf (f : ℕ → Bool) (w x : ℕ) : Type 0 where
  pub fits : x < 2 ^ 64
  pub bits : (i : ℕ) → i < 64 → bit x i ≡ f (64 * w + i)

-- each word that is made of two words is what op makes of them, bit by bit
abbrev pub Bitwise : (ℕ → ℕ → ℕ → Type 0) → (Bool → Bool → Bool) → Type 0
Bitwise Makes op = (x y z : ℕ) → x < 2 ^ 64 → y < 2 ^ 64 → Makes x y z → (i : ℕ) → i < 64 → bit z i ≡ op (bit x i) (bit y i)

-- ys is xs but for the first `upto` words of the register at `at`, which are those of the column f
pub record Swept (at : ℕ) (f : ℕ → Bool) (upto : ℕ) (xs ys : List ℕ) : Type 0 where
  pub long : length ys ≡ length xs
  pub laid : (w : ℕ) → w < upto → get_or ys (at + w) 0 ≡ word_at f w
  pub low : (i : ℕ) → i < at → get_or ys i 0 ≡ get_or xs i 0
  pub high : (i : ℕ) → at + upto ≤ i → get_or ys i 0 ≡ get_or xs i 0
