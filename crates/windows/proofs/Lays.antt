-- Columns laid in several registers of one list. Assumes nothing.
use mathlib.Core.Path.{◌≡◌, refl, sym, ap, ◌∙◌, fun_ext}
use mathlib.Core.Logic.{inl, ⊎_elim}
use mathlib.Core.Bool.{Bool, true, false}
use mathlib.Core.List.{List, ◌++◌}
use Prim.Native.Nat.{ℕ, ◌+◌, ◌-◌, ◌*◌, ◌^◌, ◌≤◌, ◌<◌}
use native.Mathlib.Omega.{arith}
use borrow.Author.Tests.{ne_eqb}
use lib.Dec.{eqb}
use lib.ListN.{length, get_or, take, drop, take-append-drop}
use lib.Seq.{take_all, take-add, get_or-take, length-take-le, ext_get_or}
use Rattle.lists.specs.Bits.{bit_at, pack}
use Rattle.lists.specs.Choice.{pick}
use Rattle.lists.proofs.Tests.{lt_or_le}
use Rattle.lists.proofs.Columns.{length_pack}
use Rattle.column.specs.Column.{register, lay}
use Rattle.column.proofs.Registers.{paste_low, paste_in, paste_high, bit_at_pack_all, length_lay, lay_lay, register_apart}
use Rattle.windows.specs.Windows.{used}

-- a register that holds a column which ends with it
pub held : (m : ℕ) (f : ℕ → Bool) {c : List ℕ} → c ≡ pack m f → ((t : ℕ) → 64 * m ≤ t → f t ≡ false) → bit_at c ≡ f
held m f e z = fun_ext λ t. ap (λ (l : List ℕ). bit_at l t) e ∙ bit_at_pack_all m f z t

-- a column laid where it stands changes nothing
pub lay_held : (at m : ℕ) (f : ℕ → Bool) (xs : List ℕ) → register at m xs ≡ pack m f → xs ≡ lay at m f xs
lay_held at m f xs e =
    sym
    (ap (λ (l : List ℕ). take at xs ++ l ++ drop (at + m) xs) (take_all m (pack m f) (omega (arith, length_pack m f)) ∙ sym e)
    ∙ ap (λ (l : List ℕ). l ++ drop (at + m) xs) (sym (take-add at m xs)) ∙ take-append-drop (at + m) xs)

-- ---- columns laid apart from each other, in either order
-- a word of a list in which a column was laid goes by that word alone
module _ (at m : ℕ) (f : ℕ → Bool) (xs ys : List ℕ) (a : at + m ≤ length xs) (b : at + m ≤ length ys) where
  whole : m ≤ length (pack m f)
  whole = omega (arith, length_pack m f)

  inside : (zs : List ℕ) → at + m ≤ length zs → (i : ℕ) → at ≤ i → i < at + m → get_or (lay at m f zs) i 0 ≡ get_or (pack m f) (i - at) 0
  inside zs l i p q =
      let e : i ≡ at + (i - at) = omega arith in
      ap (λ (j : ℕ). get_or (lay at m f zs) j 0) e ∙ paste_in zs at (pack m f) m (omega arith) whole (i - at) (omega arith)

  word_same : (i : ℕ) → get_or xs i 0 ≡ get_or ys i 0 → get_or (lay at m f xs) i 0 ≡ get_or (lay at m f ys) i 0
  word_same i e =
      ⊎_elim
      (λ (l : i < at). paste_low xs at (pack m f) m (omega arith) whole i l ∙ e ∙ sym (paste_low ys at (pack m f) m (omega arith) whole i l))
      (λ (l : at ≤ i).
      ⊎_elim (λ (k : i < at + m). inside xs a i l k ∙ sym (inside ys b i l k))
      (λ (k : at + m ≤ i). paste_high xs at (pack m f) m (omega arith) whole i k ∙ e ∙ sym (paste_high ys at (pack m f) m (omega arith) whole i k))
      (lt_or_le i (at + m)))
      (lt_or_le i at)

pub lay_swap : (at m : ℕ) (f : ℕ → Bool) (bt k : ℕ) (g : ℕ → Bool) (xs : List ℕ) → at + m ≤ bt → bt + k ≤ length xs
    → lay bt k g (lay at m f xs) ≡ lay at m f (lay bt k g xs)
lay_swap at m f bt k g xs a l =
    let la : length (lay at m f xs) ≡ length xs = length_lay at m f xs (omega arith) in
    let lb : length (lay bt k g xs) ≡ length xs = length_lay bt k g xs l in
    let wf : m ≤ length (pack m f) = omega (arith, length_pack m f) in
    let wg : k ≤ length (pack k g) = omega (arith, length_pack k g) in
    ext_get_or 0 (lay bt k g (lay at m f xs)) (lay at m f (lay bt k g xs))
    (length_lay bt k g (lay at m f xs) (omega arith) ∙ la ∙ sym (length_lay at m f (lay bt k g xs) (omega arith) ∙ lb)) λ i h.
    ⊎_elim
    (λ (j : i < bt).
    paste_low (lay at m f xs) bt (pack k g) k (omega arith) wg i j
    ∙ word_same at m f xs (lay bt k g xs) (omega arith) (omega arith) i (sym (paste_low xs bt (pack k g) k (omega arith) wg i j)))
    (λ (j : bt ≤ i).
    word_same bt k g (lay at m f xs) xs (omega arith) l i (paste_high xs at (pack m f) m (omega arith) wf i (omega arith))
    ∙ sym (paste_high (lay bt k g xs) at (pack m f) m (omega arith) wf i (omega arith)))
    (lt_or_le i bt)

-- two registers, at 0 and d: only what was laid last stands there
module _ (d m : ℕ) (xs : List ℕ) (a : m ≤ d) (l : d + m ≤ length xs) where
  pub first_over : (f g h : ℕ → Bool) → lay 0 m f (lay d m g (lay 0 m h xs)) ≡ lay 0 m f (lay d m g xs)
  first_over f g h =
      ap (lay 0 m f) (lay_swap 0 m h d m g xs (omega arith) l) ∙ lay_lay 0 m h (lay d m g xs) (omega (arith, length_lay d m g xs l)) f

  pub two_over : (f g f' g' : ℕ → Bool) → lay 0 m f (lay d m g (lay 0 m f' (lay d m g' xs))) ≡ lay 0 m f (lay d m g xs)
  two_over f g f' g' =
      ap (lay 0 m f) (lay_swap 0 m f' d m g (lay d m g' xs) (omega arith) (omega (arith, length_lay d m g' xs l)))
      ∙ lay_lay 0 m f' (lay d m g (lay d m g' xs)) (omega (arith, length_lay d m g (lay d m g' xs) (omega (arith, length_lay d m g' xs l)), length_lay d m g' xs l)) f
      ∙ ap (lay 0 m f) (lay_lay d m g' xs l g)

-- ---- the register that is used
module _ (Q : ℕ → (ℕ → Bool) → ℕ → Bool) (e m : ℕ) (ks : List ℕ) (f : ℕ → Bool) (xs : List ℕ) (l : e + m ≤ length xs) where
  abbrev column : ℕ → Bool
  column = Q (2 ^ get_or ks (length ks - 1) 0) f

  pub used_length : length (used Q e m ks f xs) ≡ length xs
  used_length = go (eqb (length ks) 0)
    where
      go : (b : Bool) → length (pick b xs (lay e m column xs)) ≡ length xs
      go true = refl
      go false = length_lay e m column xs l

  -- every register below is as it was
  pub used_below : (at k : ℕ) → at + k ≤ e → register at k (used Q e m ks f xs) ≡ register at k xs
  used_below at k h = go (eqb (length ks) 0)
    where
      go : (b : Bool) → register at k (pick b xs (lay e m column xs)) ≡ register at k xs
      go true = refl
      go false = register_apart e m column xs l at k (omega arith) (inl h)

  pub used_swap : (at k : ℕ) (g : ℕ → Bool) → at + k ≤ e → used Q e m ks f (lay at k g xs) ≡ lay at k g (used Q e m ks f xs)
  used_swap at k g h = go (eqb (length ks) 0)
    where
      go : (b : Bool) → pick b (lay at k g xs) (lay e m column (lay at k g xs)) ≡ lay at k g (pick b xs (lay e m column xs))
      go true = refl
      go false = lay_swap at k g e m column xs h l

  pub used_over : (g : ℕ → Bool) → lay e m g (used Q e m ks f xs) ≡ lay e m g xs
  used_over g = go (eqb (length ks) 0)
    where
      go : (b : Bool) → lay e m g (pick b xs (lay e m column xs)) ≡ lay e m g xs
      go true = refl
      go false = lay_lay e m column xs l g

-- a part more
pub used_more : (Q : ℕ → (ℕ → Bool) → ℕ → Bool) (e m : ℕ) (ks : List ℕ) (i : ℕ) (f : ℕ → Bool) (xs : List ℕ) → i < length ks
    → used Q e m (take (i + 1) ks) f xs ≡ lay e m (Q (2 ^ get_or ks i 0) f) xs
used_more Q e m ks i f xs h =
    let n : length (take (i + 1) ks) ≡ i + 1 = length-take-le (i + 1) ks (omega arith) in
    let z : eqb (i + 1) 0 ≡ false = ne_eqb (i + 1) 0 (λ q. omega arith) in
    let j : i + 1 - 1 ≡ i = omega arith in
    ap (λ (w : ℕ). pick (eqb w 0) xs (lay e m (Q (2 ^ get_or (take (i + 1) ks) (w - 1) 0) f) xs)) n
    ∙ ap (λ (b : Bool). pick b xs (lay e m (Q (2 ^ get_or (take (i + 1) ks) (i + 1 - 1) 0) f) xs)) z
    ∙ ap (λ (w : ℕ). lay e m (Q (2 ^ w) f) xs) (ap (λ (w : ℕ). get_or (take (i + 1) ks) w 0) j ∙ get_or-take (i + 1) ks i 0 (omega arith))
