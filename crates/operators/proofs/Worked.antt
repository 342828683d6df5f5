-- What lies around the registers that an operator writes. Assumes nothing.
use mathlib.Core.Path.{◌≡◌, refl, sym, ap, ◌∙◌}
use mathlib.Core.Bool.{Bool, true, false}
use mathlib.Core.List.{List}
use Prim.Native.Nat.{ℕ, ◌+◌, ◌-◌, ◌^◌, ◌≤◌}
use native.Mathlib.Omega.{arith}
use lib.Dec.{eqb}
use lib.ListN.{length, get_or, take, drop}
use lib.Seq.{drop-drop, drop-paste, take-take}
use Rattle.lists.specs.Bits.{pack}
use Rattle.lists.specs.Choice.{pick}
use Rattle.lists.proofs.Columns.{length_pack}
use Rattle.column.specs.Column.{register, lay}
use Rattle.column.proofs.Registers.{length_lay, register_lay, take_lay}
use Rattle.windows.specs.Windows.{used}
use Rattle.windows.proofs.Lays.{used_length}
use Rattle.operators.specs.Operators.{worked}

-- ---- a column that was laid
module _ (at m : ℕ) (f : ℕ → Bool) (xs : List ℕ) (h : at + m ≤ length xs) (k : ℕ) where
  pub take_below : k ≤ at → take k (lay at m f xs) ≡ take k xs
  take_below l = sym (take-take k at (lay at m f xs) l) ∙ ap (take k) (take_lay at m f xs h) ∙ take-take k at xs l

  pub drop_above : at + m ≤ k → drop k (lay at m f xs) ≡ drop k xs
  drop_above l =
      let e : at + m + (k - (at + m)) ≡ k = omega arith in
      sym (drop-drop (k - (at + m)) (at + m) (lay at m f xs) ∙ ap (λ (i : ℕ). drop i (lay at m f xs)) e)
      ∙ ap (drop (k - (at + m))) (drop-paste xs at (pack m f) m (omega arith) (omega (arith, length_pack m f)))
      ∙ drop-drop (k - (at + m)) (at + m) xs ∙ ap (λ (i : ℕ). drop i xs) e

-- ---- the register that was used
module _ (Q : ℕ → (ℕ → Bool) → ℕ → Bool) (w m : ℕ) (ks : List ℕ) (g : ℕ → Bool) (xs : List ℕ) (h : w + m ≤ length xs) (k : ℕ) where
  abbrev column : ℕ → Bool
  column = Q (2 ^ get_or ks (length ks - 1) 0) g

  used_low : k ≤ w → take k (used Q w m ks g xs) ≡ take k xs
  used_low l = go (eqb (length ks) 0)
    where
      go : (t : Bool) → take k (pick t xs (lay w m column xs)) ≡ take k xs
      go true = refl
      go false = take_below w m column xs h k l

  used_high : w + m ≤ k → drop k (used Q w m ks g xs) ≡ drop k xs
  used_high l = go (eqb (length ks) 0)
    where
      go : (t : Bool) → drop k (pick t xs (lay w m column xs)) ≡ drop k xs
      go true = refl
      go false = drop_above w m column xs h k l

-- ---- the three registers of U and R
module _ (Q : ℕ → (ℕ → Bool) → ℕ → Bool) (b l w m : ℕ) (ks : List ℕ) (f g : ℕ → Bool) (xs : List ℕ) (h : b + m ≤ l) (j : l + m ≤ w) (k : w + m ≤ length xs) where
  abbrev under : List ℕ
  under = used Q w m ks g xs

  long : length under ≡ length xs
  long = used_length Q w m ks g xs k

  fits : l + m ≤ length under
  fits = omega (arith, long, j, k)

  fits_b : b + m ≤ length (lay l m g under)
  fits_b = omega (arith, length_lay l m g under fits, fits, h)

  pub worked_here : register b m (worked Q b l w m ks f g xs) ≡ pack m f
  unfolding worked
  worked_here = register_lay b m f (lay l m g under) fits_b

  pub worked_low : take b (worked Q b l w m ks f g xs) ≡ take b xs
  unfolding worked
  worked_low = take_lay b m f (lay l m g under) fits_b ∙ take_below l m g under fits b (omega (arith, h)) ∙ used_low Q w m ks g xs k b (omega (arith, h, j))

  pub worked_high : (i : ℕ) → w + m ≤ i → drop i (worked Q b l w m ks f g xs) ≡ drop i xs
  unfolding worked
  worked_high i e =
      drop_above b m f (lay l m g under) fits_b i (omega (arith, h, j)) ∙ drop_above l m g under fits i (omega (arith, j)) ∙ used_high Q w m ks g xs k i e
