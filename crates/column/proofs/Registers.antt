-- Registers of one list: what stands in one that was laid, and in every other. Assumes nothing.
use mathlib.Core.Path.{◌≡◌, sym, ap, ap₂, ◌∙◌}
use mathlib.Core.Logic.{◌⊎◌, inl, inr, ⊎_elim}
use mathlib.Core.Bool.{Bool, false}
use mathlib.Core.List.{List, ◌++◌}
use Prim.Native.Nat.{ℕ, ◌+◌, ◌-◌, ◌*◌, ◌^◌, ◌≤◌, ◌<◌}
use native.Mathlib.Omega.{arith}
use lib.ListN.{length, get_or, take, drop, length-take, length-drop, get_or-append, get_or-eq_default}
use lib.Seq.{paste, length-paste, length_paste_head, drop-paste, length-take-le, take-append-le, take_at, get_or-append-add, get_or-take, get_or-drop, ext_get_or}
use Rattle.lists.specs.Bits.{bit_at, pack}
use Rattle.lists.proofs.Tests.{lt_or_le}
use Rattle.lists.proofs.Columns.{bit_at_pack, bit_at_past, length_pack, pack_ext}
use Rattle.column.specs.Column.{register, lay}

-- ---- a list pasted over another, element by element
module _ (d : List ℕ) (at : ℕ) (s : List ℕ) (n : ℕ) (hd : at ≤ length d) (hs : n ≤ length s) where
  pub paste_low : (i : ℕ) → i < at → get_or (paste d at s n) i 0 ≡ get_or d i 0
  paste_low i h =
      get_or-append (take at d ++ take n s) (drop (at + n) d) 0 i (omega (arith, length_paste_head d at s n hd hs))
      ∙ get_or-append (take at d) (take n s) 0 i (omega (arith, length-take-le at d hd)) ∙ get_or-take at d i 0 h

  pub paste_in : (i : ℕ) → i < n → get_or (paste d at s n) (at + i) 0 ≡ get_or s i 0
  paste_in i h =
      get_or-append (take at d ++ take n s) (drop (at + n) d) 0 (at + i) (omega (arith, length_paste_head d at s n hd hs))
      ∙ ap (λ (k : ℕ). get_or (take at d ++ take n s) (k + i) 0) (sym (length-take-le at d hd)) ∙ get_or-append-add (take at d) (take n s) i 0 ∙ get_or-take n s i 0 h

  pub paste_high : (i : ℕ) → at + n ≤ i → get_or (paste d at s n) i 0 ≡ get_or d i 0
  paste_high i h =
      ap (λ (k : ℕ). get_or (paste d at s n) k 0) (omega (arith, length_paste_head d at s n hd hs))
      ∙ get_or-append-add (take at d ++ take n s) (drop (at + n) d) (i - (at + n)) 0 ∙ get_or-drop (at + n) d (i - (at + n)) 0
      ∙ ap (λ (k : ℕ). get_or d k 0) (omega arith)

-- ---- registers
pub register_in : (at m : ℕ) (xs : List ℕ) (w : ℕ) → w < m → get_or (register at m xs) w 0 ≡ get_or xs (at + w) 0
register_in at m xs w h = get_or-take m (drop at xs) w 0 h ∙ get_or-drop at xs w 0

pub length_register : (at m : ℕ) (xs : List ℕ) → at + m ≤ length xs → length (register at m xs) ≡ m
length_register at m xs h = simp (length-take, length-drop) (omega arith)

pub register_out : (at m : ℕ) (xs : List ℕ) (w : ℕ) → m ≤ w → get_or (register at m xs) w 0 ≡ 0
register_out at m xs w h = get_or-eq_default (register at m xs) 0 (omega (arith, length-take m (drop at xs)))

-- two registers hold the same where their words are the same
pub register_same : (at m : ℕ) (xs : List ℕ) (bt : ℕ) (ys : List ℕ) → at + m ≤ length xs → bt + m ≤ length ys
    → ((w : ℕ) → w < m → get_or xs (at + w) 0 ≡ get_or ys (bt + w) 0) → register at m xs ≡ register bt m ys
register_same at m xs bt ys hx hy e =
    ext_get_or 0 (register at m xs) (register bt m ys) (length_register at m xs hx ∙ sym (length_register bt m ys hy)) λ w h.
    let k : w < m = omega (arith, length_register at m xs hx) in register_in at m xs w k ∙ e w k ∙ sym (register_in bt m ys w k)

-- every word of a register fits
pub register_lt : (at m : ℕ) (xs : List ℕ) → ((w : ℕ) → get_or xs w 0 < 2 ^ 64) → (w : ℕ) → get_or (register at m xs) w 0 < 2 ^ 64
register_lt at m xs h w = ⊎_elim (λ (l : w < m). rw register_in (h (at + w))) (λ (l : m ≤ w). rw register_out (omega arith)) (lt_or_le w m)

pub lay_ext : (at m : ℕ) (f g : ℕ → Bool) (xs : List ℕ) → ((t : ℕ) → t < 64 * m → f t ≡ g t) → lay at m f xs ≡ lay at m g xs
lay_ext at m f g xs e = ap (λ (p : List ℕ). paste xs at p m) (pack_ext m f g e)

-- a column that ends with the register is read whole
pub bit_at_pack_all : (m : ℕ) (f : ℕ → Bool) → ((t : ℕ) → 64 * m ≤ t → f t ≡ false) → (t : ℕ) → bit_at (pack m f) t ≡ f t
bit_at_pack_all m f z t = go (lt_or_le t (64 * m))
  where
    go : (t < 64 * m) ⊎ (64 * m ≤ t) → bit_at (pack m f) t ≡ f t
    go (inl h) = bit_at_pack m f t h
    go (inr h) = bit_at_past (pack m f) t (omega (arith, length_pack m f)) ∙ sym (z t h)

module _ (at m : ℕ) (f : ℕ → Bool) (xs : List ℕ) (fits : at + m ≤ length xs) where
  whole : m ≤ length (pack m f)
  whole = omega (arith, length_pack m f)

  pub length_lay : length (lay at m f xs) ≡ length xs
  length_lay = length-paste xs at (pack m f) m fits whole

  -- what was laid stands in the register
  pub register_lay : register at m (lay at m f xs) ≡ pack m f
  register_lay =
      ext_get_or 0 (register at m (lay at m f xs)) (pack m f) (long ∙ sym (length_pack m f)) λ w h.
      register_in at m (lay at m f xs) w (omega (arith, long)) ∙ paste_in xs at (pack m f) m (omega arith) whole w (omega (arith, long))
    where
      long : length (register at m (lay at m f xs)) ≡ m
      long = length_register at m (lay at m f xs) (omega (arith, length_lay))

  -- every other register is as it was
  pub register_apart : (bt k : ℕ) → bt + k ≤ length xs → (bt + k ≤ at) ⊎ (at + m ≤ bt) → register bt k (lay at m f xs) ≡ register bt k xs
  register_apart bt k h apart = register_same bt k (lay at m f xs) bt xs (omega (arith, length_lay)) h (kept apart)
    where
      kept : (bt + k ≤ at) ⊎ (at + m ≤ bt) → (w : ℕ) → w < k → get_or (lay at m f xs) (bt + w) 0 ≡ get_or xs (bt + w) 0
      kept (inl a) w l = paste_low xs at (pack m f) m (omega arith) whole (bt + w) (omega arith)
      kept (inr a) w l = paste_high xs at (pack m f) m (omega arith) whole (bt + w) (omega arith)

  -- and so is what lies below
  pub take_lay : take at (lay at m f xs) ≡ take at xs
  take_lay =
      take-append-le at (take at xs ++ take m (pack m f)) (drop (at + m) xs) (omega (arith, length_paste_head xs at (pack m f) m (omega arith) whole))
      ∙ take_at (take at xs) (take m (pack m f)) at (length-take-le at xs (omega arith))

  -- the last column laid is the one that stands there
  pub lay_lay : (g : ℕ → Bool) → lay at m g (lay at m f xs) ≡ lay at m g xs
  lay_lay g = ap₂ (λ (a b : List ℕ). a ++ take m (pack m g) ++ b) take_lay (drop-paste xs at (pack m f) m (omega arith) whole)
