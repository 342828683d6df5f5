-- The halves of a scratch: one lent as a part, or a column laid in one. Assumes nothing.
use mathlib.Core.Path.{◌≡◌, refl, sym, ap, ◌∙◌, subst}
use mathlib.Core.Logic.{◌⊎◌, ⊎_elim}
use mathlib.Core.Bool.{Bool, true}
use mathlib.Core.List.{List}
use Prim.Native.Nat.{ℕ, ◌+◌, ◌-◌, ◌≤◌}
use native.Mathlib.Omega.{arith}
use borrow.Rule.Slice.PartMut.{put_mid, mid_of}
use lib.ListN.{length, take, drop}
use Rattle.limits.specs.Limits.{scratch_words, early_scratch_words}
use Rattle.column.specs.Column.{lay}
use Rattle.column.proofs.Registers.{length_register, length_lay}
use Rattle.column.proofs.Parts.{part_laid, put_here, put_long, put_after, put_before}
use Rattle.layout.specs.Layout.{Place, Step}
use Rattle.layout.proofs.Steps.{laid_step}
use Rattle.early.specs.Code.Steps.{half, TwoSteps}

-- ---- a step in the half at p; the other one, and what follows both, stay
abbrev pub IsHalf : ℕ → Type 0
IsHalf p = (p ≡ 0) ⊎ (p ≡ scratch_words)

pub record HalfStep (p b m : ℕ) (f : ℕ → Bool) (xs ys : List ℕ) : Type 0 where
  pub here : Step b m f (half p xs) (half p ys)
  pub other : half (scratch_words - p) ys ≡ half (scratch_words - p) xs
  pub rest : drop early_scratch_words ys ≡ drop early_scratch_words xs
  pub long : length ys ≡ length xs

pub half_length : (p : ℕ) (xs : List ℕ) → IsHalf p → early_scratch_words ≤ length xs → length (half p xs) ≡ scratch_words
half_length p xs i l = length_register p scratch_words xs (⊎_elim (λ e. omega arith) (λ e. omega arith) i)

-- the half lent as a part
lent_half : {p b m : ℕ} {f : ℕ → Bool} {xs hs : List ℕ} → IsHalf p → early_scratch_words ≤ length xs → (k : ℕ) → k ≡ scratch_words
    → length hs ≡ scratch_words → Step b m f (half p xs) hs → HalfStep p b m f xs (put_mid p k xs hs)
lent_half {p} {b} {m} {f} {xs} {hs} i l k e n s =
    subst (λ (j : ℕ). HalfStep p b m f xs (put_mid p j xs hs)) (sym e) (⊎_elim first second i)
  where
    made : p + scratch_words ≤ length xs → half (scratch_words - p) (put_mid p scratch_words xs hs) ≡ half (scratch_words - p) xs → p + scratch_words ≤ early_scratch_words
        → HalfStep p b m f xs (put_mid p scratch_words xs hs)
    made h o q = record {
      here = subst (λ (ys : List ℕ). Step b m f (half p xs) ys) (sym (put_here p scratch_words xs hs h n)) s;
      other = o;
      rest = put_after p scratch_words xs hs h n early_scratch_words q;
      long = put_long p scratch_words xs hs h n;
    }

    first : p ≡ 0 → HalfStep p b m f xs (put_mid p scratch_words xs hs)
    first z =
        let h : p + scratch_words ≤ length xs = omega arith in
        let w : p + scratch_words ≤ scratch_words - p = omega arith in
        made h (ap (take scratch_words) (put_after p scratch_words xs hs h n (scratch_words - p) w)) (omega arith)

    second : p ≡ scratch_words → HalfStep p b m f xs (put_mid p scratch_words xs hs)
    second z =
        let h : p + scratch_words ≤ length xs = omega arith in
        made h (put_before p scratch_words xs hs h n (scratch_words - p) scratch_words (omega arith)) (omega arith)

-- the part from p to its end
pub part_words : (p : ℕ) → p + scratch_words - p ≡ scratch_words
part_words p = omega arith

-- with a column that is made of what the half holds
pub lent_by : (F : List ℕ → ℕ → Bool) {p b m : ℕ} {xs hs : List ℕ} → IsHalf p → early_scratch_words ≤ length xs → length hs ≡ length (mid_of p (p + scratch_words - p) xs)
    → Step b m (F (mid_of p (p + scratch_words - p) xs)) (mid_of p (p + scratch_words - p) xs) hs
    → HalfStep p b m (F (half p xs)) xs (put_mid p (p + scratch_words - p) xs hs)
lent_by F {p} {b} {m} {xs} {hs} i l n s =
    let e = part_words p in
    lent_half i l (p + scratch_words - p) e (n ∙ ap (λ (j : ℕ). length (mid_of p j xs)) e ∙ half_length p xs i l)
    (subst (λ (j : ℕ). Step b m (F (mid_of p j xs)) (mid_of p j xs) hs) e s)

-- a column laid in it
pub laid_half : {p b m : ℕ} {f : ℕ → Bool} {xs ys : List ℕ} → IsHalf p → early_scratch_words ≤ length xs → Place b m (half p xs) → ys ≡ lay (p + b) m f xs
    → HalfStep p b m f xs ys
laid_half {p} {b} {m} {f} {xs} i l h q =
    let u = h.node in let v = h.small in
    let fit : p + scratch_words ≤ length xs = ⊎_elim (λ z. omega arith) (λ z. omega arith) i in
    let n : length (half p xs) ≡ scratch_words = half_length p xs i l in
    let hs : List ℕ = lay b m f (half p xs) in
    subst (λ (zs : List ℕ). HalfStep p b m f xs zs)
    (sym (q ∙ sym (part_laid p scratch_words xs {d = b} {m = m} {f = f} {ys = hs} fit (omega arith) (record { is = refl })).is))
    (lent_half i l scratch_words refl (length_lay b m f (half p xs) (omega (arith, n)) ∙ n) (laid_step {t = true} h refl refl))

-- ---- a step in each
module _ {b m : ℕ} {f g : ℕ → Bool} {xs ys zs : List ℕ} where
  pub first_then : HalfStep 0 b m f xs ys → HalfStep scratch_words b m g ys zs → TwoSteps b m f g xs zs
  first_then r s = record {
    yes_step = subst (λ (c : List ℕ). Step b m f (half 0 xs) c) (sym s.other) r.here;
    no_step = subst (λ (c : List ℕ). Step b m g c (half scratch_words zs)) r.other s.here;
    rest = s.rest ∙ r.rest;
  }

  pub second_then : HalfStep scratch_words b m g xs ys → HalfStep 0 b m f ys zs → TwoSteps b m f g xs zs
  second_then r s = record {
    yes_step = subst (λ (c : List ℕ). Step b m f c (half 0 zs)) r.other s.here;
    no_step = subst (λ (c : List ℕ). Step b m g (half scratch_words xs) c) (sym s.other) r.here;
    rest = s.rest ∙ r.rest;
  }
