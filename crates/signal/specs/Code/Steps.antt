-- A word of a column put together from parts of it.
use Rattle.std.specs.Prelude.{◌≡◌, Bool, ◌&&◌, List, ℕ, ◌+◌, ◌%◌, ◌<◌, eqb, get_or}
use Rattle.lists.specs.Bits.{number}

-- every fourth bit of f; the others are clear
abbrev pub fourths : (ℕ → Bool) → ℕ → Bool
fourths f j = eqb (j % 4) 0 && f j

-- every fourth one of 32 bits, from each of the first `upto` of four on, and once more 32 bits later
pub record Lanes (f : ℕ → Bool) (from upto : ℕ) (l : List ℕ) : Type 0 where
  pub low : (k : ℕ) → k < upto → get_or l k 0 ≡ number 32 (fourths (λ j. f (from + k + j)))
  pub high : (k : ℕ) → k < upto → get_or l (k + 4) 0 ≡ number 32 (fourths (λ j. f (from + 32 + k + j)))
