-- What the steps of F, G, U and R leave in their registers.
use Rattle.std.specs.Prelude.{◌≡◌, Bool, List, map, ℕ, ◌-◌, ◌*◌, ◌^◌, take}
use Rattle.lists.specs.Bits.{bit_at}
use Rattle.lists.specs.Sequence.{sum}
use Rattle.column.specs.Column.{register, lay}
use Rattle.windows.specs.Windows.{third, used}

-- the width of the windows of the first `count` parts k
abbrev pub width_of : ℕ → List ℕ → ℕ
width_of count ks = sum (map (λ k. 2 ^ k - 1) (take count ks))

-- two registers of m words, at 0 and d, hold f and g, and all else is as it was
pub record Two (d m : ℕ) (f g : ℕ → Bool) (xs ys : List ℕ) : Type 0 where
  pub is : ys ≡ lay 0 m f (lay d m g xs)

-- of two registers, of as many words as there are from d on, the first holds the column W of 2 ^ k ticks, and the second whether Q, all or any, of as many are
-- set
abbrev pub Within : (ℕ → ℕ → ℕ → (ℕ → Bool) → (ℕ → Bool) → ℕ → Bool) → (ℕ → (ℕ → Bool) → ℕ → Bool) → ℕ → ℕ → List ℕ → List ℕ → Type 0
Within W Q d k xs ys =
    let m : ℕ = third d xs in
    let a : List ℕ = register d m xs in
    Two d m (W (64 * m) 0 (2 ^ k - 1) (bit_at a) (bit_at (register 0 m xs))) (Q (2 ^ k) (bit_at a)) xs ys

-- of three registers the first holds the column W by the first `count` parts, and the third was used
abbrev pub by_parts : (ℕ → ℕ → ℕ → (ℕ → Bool) → (ℕ → Bool) → ℕ → Bool) → (ℕ → (ℕ → Bool) → ℕ → Bool) → ℕ → ℕ → ℕ → List ℕ → List ℕ → List ℕ
by_parts W Q d e count ks xs =
    let m : ℕ = third e xs in
    let a : List ℕ = register d m xs in
    lay 0 m (W (64 * m) 0 (width_of count ks) (bit_at a) (bit_at (register 0 m xs))) (used Q e m (take count ks) (bit_at a) xs)
