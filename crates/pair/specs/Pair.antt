-- Two registers in one list, at 0 and at d.
use Rattle.std.specs.Prelude.{Bool, List, ℕ, ◌-◌, min, length}
use Rattle.lists.specs.Bits.{bit_at}
use Rattle.column.specs.Column.{register, Laid}

-- each has as many words as there are from d on, and at most d
abbrev pub room : ℕ → List ℕ → ℕ
room d xs = min (length xs - d) d

-- two columns bit by bit
abbrev pub both : (Bool → Bool → Bool) → List ℕ → List ℕ → ℕ → Bool
both g c d t = g (bit_at c t) (bit_at d t)

-- the second becomes what op makes of both
abbrev pub IntoSecond : (List ℕ → List ℕ → ℕ → Bool) → ℕ → List ℕ → List ℕ → Type 0
IntoSecond op d xs ys = Laid d (room d xs) (op (register d (room d xs) xs) (register 0 (room d xs) xs)) xs ys

-- the first becomes what op makes of both
abbrev pub IntoFirst : (List ℕ → List ℕ → ℕ → Bool) → ℕ → List ℕ → List ℕ → Type 0
IntoFirst op d xs ys = Laid 0 (room d xs) (op (register 0 (room d xs) xs) (register d (room d xs) xs)) xs ys
