-- U and `wholeRelease` on words by doubling. Assumes nothing.
use mathlib.Core.Path.{◌≡◌, sym, ap, ap₂, ◌∙◌}
use mathlib.Core.Logic.{inr}
use mathlib.Core.Bool.{Bool}
use mathlib.Core.List.{List}
use Prim.Native.Nat.{ℕ, ◌+◌, ◌-◌, ◌*◌, ◌%◌, ◌^◌, ◌≤◌, ◌<◌}
use native.Mathlib.Omega.{arith}
use lib.ListN.{length, get_or}
use lib.Pow.{pow_pos}
use Rattle.lists.specs.Bits.{bit_at, pack}
use Rattle.lists.proofs.Columns.{bit_at_past, pack_is}
use Rattle.column.specs.Column.{register, lay, Laid}
use Rattle.column.proofs.Words.{mask}
use Rattle.column.proofs.Registers.{bit_at_pack_all, length_register, register_lt, register_lay, register_apart, lay_ext, lay_lay, length_lay}
use Rattle.windows.specs.Code.Steps.{Two}
use Rattle.windows.proofs.Lays.{lay_held, lay_swap}
use Rattle.windows.proofs.Laws.{Ends, Binary, twice}

-- one register laid, of two
module _ {d m : ℕ} {f g : ℕ → Bool} {xs ys : List ℕ} (r : Two d m f g xs ys) (a : m ≤ d) (l : d + m ≤ length xs) where
  low : length (lay d m g xs) ≡ length xs
  low = length_lay d m g xs l

  pub two_length : length ys ≡ length xs
  two_length = ap length r.is ∙ length_lay 0 m f (lay d m g xs) (omega (arith, low)) ∙ low

  pub two_at_first : register 0 m ys ≡ pack m f
  two_at_first = ap (register 0 m) r.is ∙ register_lay 0 m f (lay d m g xs) (omega (arith, low))

  pub two_at_second : register d m ys ≡ pack m g
  two_at_second =
      ap (register d m) r.is ∙ register_apart 0 m f (lay d m g xs) (omega (arith, low)) d m (omega (arith, low)) (inr (omega arith))
      ∙ register_lay d m g xs l

  two_first : (op : List ℕ → List ℕ → ℕ → Bool) {h : ℕ → Bool} {zs : List ℕ} → Laid 0 m (op (register 0 m ys) (register d m ys)) ys zs
      → ((t : ℕ) → t < 64 * m → op (pack m f) (pack m g) t ≡ h t) → Two d m h g xs zs
  two_first op {h} q same =
      record {
        is =
            q.is ∙ ap₂ (λ (c e : List ℕ). lay 0 m (op c e) ys) two_at_first two_at_second ∙ lay_ext 0 m (op (pack m f) (pack m g)) h ys same
            ∙ ap (lay 0 m h) r.is ∙ lay_lay 0 m f (lay d m g xs) (omega (arith, low)) h;
      }

  two_second : (op : List ℕ → ℕ → Bool) {h : ℕ → Bool} {zs : List ℕ} → Laid d m (op (register d m ys)) ys zs
      → ((t : ℕ) → t < 64 * m → op (pack m g) t ≡ h t) → Two d m f h xs zs
  two_second op {h} q same =
      record {
        is =
            q.is ∙ ap (λ (c : List ℕ). lay d m (op c) ys) two_at_second ∙ lay_ext d m (op (pack m g)) h ys same ∙ ap (lay d m h) r.is
            ∙ lay_swap 0 m f d m h (lay d m g xs) (omega arith) (omega (arith, low)) ∙ ap (lay 0 m f) (lay_lay d m g xs l h);
      }

-- ---- an operator of two operands, the left one in the second register
module _ {W : ℕ → ℕ → ℕ → (ℕ → Bool) → (ℕ → Bool) → ℕ → Bool} {Q : ℕ → (ℕ → Bool) → ℕ → Bool} {step : Bool → Bool → Bool → Bool} {join : Bool → Bool → Bool}
    (laws : Binary W Q step join) {d m : ℕ} {xs : List ℕ} (a : m ≤ d) (l : d + m ≤ length xs) where
  pub within_start : ((w : ℕ) → get_or xs w 0 < 2 ^ 64)
      → Two d m (W (64 * m) 0 (2 ^ 0 - 1) (bit_at (register d m xs)) (bit_at (register 0 m xs))) (Q (2 ^ 0) (bit_at (register d m xs))) xs xs
  within_start k =
      let f : ℕ → Bool = bit_at (register d m xs) in
      let g : ℕ → Bool = bit_at (register 0 m xs) in
      let first : register 0 m xs ≡ pack m (W (64 * m) 0 (2 ^ 0 - 1) f g) =
      pack_is (register 0 m xs) m _ (length_register 0 m xs (omega arith)) (register_lt 0 m xs k) (λ t h. sym (laws.now (64 * m) f g t h))
      in
      let second : register d m xs ≡ pack m (Q (2 ^ 0) f) =
      pack_is (register d m xs) m _ (length_register d m xs l) (register_lt d m xs k) (λ t h. sym (laws.left_one f t))
      in
      record { is = lay_held 0 m _ xs first ∙ ap (lay 0 m (W (64 * m) 0 (2 ^ 0 - 1) f g)) (lay_held d m _ xs second) }

  -- what one turn does
  pub within_twice : (j : ℕ) {ys zs us : List ℕ} → j < 64
      → Two d m (W (64 * m) 0 (2 ^ j - 1) (bit_at (register d m xs)) (bit_at (register 0 m xs))) (Q (2 ^ j) (bit_at (register d m xs))) xs ys
      → Laid 0 m (λ t. step (bit_at (register 0 m ys) t) (bit_at (register d m ys) t) (bit_at (register 0 m ys) (t + 1 * 2 ^ j % 2 ^ 64))) ys zs
      → Laid d m (λ t. join (bit_at (register d m zs) t) (bit_at (register d m zs) (t + 1 * 2 ^ j % 2 ^ 64))) zs us
      → Two d m (W (64 * m) 0 (2 ^ (j + 1) - 1) (bit_at (register d m xs)) (bit_at (register 0 m xs))) (Q (2 ^ (j + 1)) (bit_at (register d m xs))) xs us
  within_twice j h r p q =
      let by : ℕ = 1 * 2 ^ j % 2 ^ 64 in
      two_second
      (two_first r a l (λ c e t. step (bit_at c t) (bit_at e t) (bit_at c (t + by))) p λ t k.
      ap (λ (b : ℕ). step (bit_at (pack m U) t) (bit_at (pack m A) t) (bit_at (pack m U) (t + b))) (mask j h)
      ∙ ap₂ (λ (x y : Bool). step x y (bit_at (pack m U) (t + 2 ^ j))) (bit_at_pack_all m U ends_u t) (bit_at_pack_all m A ends_a t)
      ∙ ap (step (U t) (A t)) (bit_at_pack_all m U ends_u (t + 2 ^ j))
      ∙ laws.double (64 * m) (2 ^ j) f g t (pow_pos j) ∙ ap (λ (w : ℕ). W (64 * m) 0 (w - 1) f g t) (twice j))
      a l (λ c t. join (bit_at c t) (bit_at c (t + by))) q λ t k.
      ap (λ (b : ℕ). join (bit_at (pack m A) t) (bit_at (pack m A) (t + b))) (mask j h)
      ∙ ap₂ join (bit_at_pack_all m A ends_a t) (bit_at_pack_all m A ends_a (t + 2 ^ j)) ∙ laws.left_double (2 ^ j) f t ∙ ap (λ (n : ℕ). Q n f t) (twice j)
    where
      f : ℕ → Bool
      f = bit_at (register d m xs)

      g : ℕ → Bool
      g = bit_at (register 0 m xs)

      U : ℕ → Bool
      U = W (64 * m) 0 (2 ^ j - 1) f g

      A : ℕ → Bool
      A = Q (2 ^ j) f

      ends : (at : ℕ) → at + m ≤ length xs → Ends (64 * m) (bit_at (register at m xs))
      ends at k t i = bit_at_past (register at m xs) t (omega (arith, length_register at m xs k))

      ends_a : Ends (64 * m) A
      ends_a = laws.left_ends (64 * m) (2 ^ j) f (pow_pos j) (ends d l)

      ends_u : Ends (64 * m) U
      ends_u = laws.ends (64 * m) (2 ^ j - 1) f g (ends 0 (omega arith))
