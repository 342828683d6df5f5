-- Columns moved down.
use Rattle.std.specs.Prelude.{◌≡◌, Bool, ◌||◌, ◌&&◌, List, ℕ, ◌+◌, ◌^◌, ◌<◌}
use Rattle.lists.specs.Bits.{bit, bit_at}

-- moved down; joined, or met, with itself moved down
abbrev pub moved : ℕ → List ℕ → ℕ → Bool
moved by c t = bit_at c (t + by)

abbrev pub joined : ℕ → List ℕ → ℕ → Bool
joined by c t = bit_at c t || bit_at c (t + by)

abbrev pub met : ℕ → List ℕ → ℕ → Bool
met by c t = bit_at c t && bit_at c (t + by)

-- c joined with itself moved down where d is set: U's windows doubled, where d tells that the left holds up to the second one
abbrev pub bridged : ℕ → List ℕ → List ℕ → ℕ → Bool
bridged by c d t = bit_at c t || bit_at d t && bit_at c (t + by)

-- c met with itself moved down where d is clear: R's windows doubled, where d tells that the left holds before the second one
abbrev pub sustained : ℕ → List ℕ → List ℕ → ℕ → Bool
sustained by c d t = bit_at c t && (bit_at d t || bit_at c (t + by))

-- what op makes of c, of d and of c moved down, bit by bit
abbrev pub with_moved : (Bool → Bool → Bool → Bool) → ℕ → List ℕ → List ℕ → ℕ → Bool
with_moved op by c d t = op (bit_at c t) (bit_at d t) (bit_at c (t + by))

-- each word that is made of three words is what op makes of them, bit by bit
abbrev pub BitwiseThree : (ℕ → ℕ → ℕ → ℕ → Type 0) → (Bool → Bool → Bool → Bool) → Type 0
BitwiseThree Makes op = (u v x z : ℕ) → u < 2 ^ 64 → v < 2 ^ 64 → x < 2 ^ 64 → Makes u v x z → (i : ℕ) → i < 64 → bit z i ≡ op (bit u i) (bit v i) (bit x i)
