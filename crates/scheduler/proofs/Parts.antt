-- The words of one record among those of all, when another's are written. Assumes nothing.
use Prim.Native.Nat.{ℕ, suc, ◌+◌, ◌-◌, ◌*◌, ◌≤◌, ◌<◌}
use native.Mathlib.Nat.{mul-suc, mul-le-mul_left}
use native.Mathlib.Omega.{arith}
use mathlib.Core.Path.{◌≡◌, refl, sym, ap, ◌∙◌}
use mathlib.Core.Logic.{◌⊎◌, inl, inr, ⊎_elim}
use mathlib.Core.List.{List, ◌++◌}
use lib.ListN.{length, get_or, take, drop, length-append, length-take, length-drop, get_or-append}
use lib.Seq.{get_or-take, get_or-drop, get_or-append-add, ext_get_or, take-take, take_at, drop_at}
use Rattle.lists.proofs.Tests.{lt_or_le}
use Rattle.scheduler.specs.Scheduler.{part_of, pasted}

-- ---- words in the places from `at` on
module _ (at : ℕ) (ys xs : List ℕ) (fits : at + length ys ≤ length xs) where
  head_length : length (take at xs) ≡ at
  head_length = simp length-take (omega arith)

  pub length_pasted : length (pasted at ys xs) ≡ length xs
  length_pasted = simp (length-append, length-take, length-drop) (omega arith)

  pasted_before : (k : ℕ) → k < at → get_or (pasted at ys xs) k 0 ≡ get_or xs k 0
  pasted_before k h = get_or-append (take at xs) (ys ++ drop (at + length ys) xs) 0 k (omega (arith, head_length)) ∙ get_or-take at xs k 0 h

  pasted_after : (k : ℕ) → at + length ys ≤ k → get_or (pasted at ys xs) k 0 ≡ get_or xs k 0
  pasted_after k h =
      let d : ℕ = k - (at + length ys) in
      let e : k ≡ length (take at xs) + (length ys + d) = omega (arith, head_length) in
      ap (λ (j : ℕ). get_or (pasted at ys xs) j 0) e
      ∙ get_or-append-add (take at xs) (ys ++ drop (at + length ys) xs) (length ys + d) 0
      ∙ get_or-append-add ys (drop (at + length ys) xs) d 0 ∙ get_or-drop (at + length ys) xs d 0 ∙ ap (λ (j : ℕ). get_or xs j 0) (omega arith)

  pub pasted_in : take (length ys) (drop at (pasted at ys xs)) ≡ ys
  pasted_in = ap (take (length ys)) (drop_at (take at xs) (ys ++ drop (at + length ys) xs) at head_length) ∙ take_at ys (drop (at + length ys) xs) (length ys) refl

  -- words elsewhere
  pub pasted_apart : (w from : ℕ) → (from + w ≤ at) ⊎ (at + length ys ≤ from) → take w (drop from (pasted at ys xs)) ≡ take w (drop from xs)
  pasted_apart w from apart =
      ext_get_or 0 (take w (drop from (pasted at ys xs))) (take w (drop from xs)) (simp (length-take, length-drop, length_pasted)) λ i h.
      let l : i < w = omega (arith, length-take w (drop from (pasted at ys xs))) in
      get_or-take w (drop from (pasted at ys xs)) i 0 l ∙ get_or-drop from (pasted at ys xs) i 0
      ∙ ⊎_elim (λ (q : from + w ≤ at). pasted_before (from + i) (omega arith)) (λ (q : at + length ys ≤ from). pasted_after (from + i) (omega arith)) apart
      ∙ sym (get_or-take w (drop from xs) i 0 l ∙ get_or-drop from xs i 0)

  pub pasted_beyond : (from : ℕ) → at + length ys ≤ from → drop from (pasted at ys xs) ≡ drop from xs
  pasted_beyond from h =
      ext_get_or 0 (drop from (pasted at ys xs)) (drop from xs) (simp (length-drop, length_pasted)) λ i l.
      get_or-drop from (pasted at ys xs) i 0 ∙ pasted_after (from + i) (omega arith) ∙ sym (get_or-drop from xs i 0)

-- ---- the parts of n records, of w words each
pub part_below : (w i j : ℕ) → i < j → w * i + w ≤ w * j
part_below w i j h = let k : w * suc i ≤ w * j = mul-le-mul_left w (omega arith) in omega (arith, mul-suc w i)

parts_apart : (w i j : ℕ) → (j ≡ i → ⊥) → (w * j + w ≤ w * i) ⊎ (w * i + w ≤ w * j)
parts_apart w i j d = ⊎_elim (λ (h : j < i). inl (part_below w j i h)) (λ (h : i ≤ j). inr (part_below w i j (omega (arith, d)))) (lt_or_le j i)

module _ (w n : ℕ) (xs : List ℕ) (room : w * n ≤ length xs) (i : ℕ) (within : i < n) where
  pub part_length : length (part_of w i xs) ≡ w
  part_length = let k = part_below w i n within in simp (length-take, length-drop) (omega arith)

  -- words are written in the part of record i, from its beginning on
  module _ (ys : List ℕ) (small : length ys ≤ w) where
    fits : w * i + length ys ≤ length xs
    fits = omega (arith, part_below w i n within)

    pub part_in : take (length ys) (part_of w i (pasted (w * i) ys xs)) ≡ ys
    part_in = take-take (length ys) w (drop (w * i) (pasted (w * i) ys xs)) small ∙ pasted_in (w * i) ys xs fits

    pub part_apart : (j : ℕ) → (j ≡ i → ⊥) → part_of w j (pasted (w * i) ys xs) ≡ part_of w j xs
    part_apart j d =
        pasted_apart (w * i) ys xs fits w (w * j)
        (⊎_elim (λ (h : w * j + w ≤ w * i). inl h) (λ (h : w * i + w ≤ w * j). inr (omega arith)) (parts_apart w i j d))

    -- the words that belong to no record
    pub part_beyond : drop (w * n) (pasted (w * i) ys xs) ≡ drop (w * n) xs
    part_beyond = pasted_beyond (w * i) ys xs fits (w * n) (omega (arith, part_below w i n within))

  -- the whole part is written
  pub part_whole : (ys : List ℕ) → length ys ≡ w → part_of w i (pasted (w * i) ys xs) ≡ ys
  part_whole ys e =
      ap (λ (k : ℕ). take k (drop (w * i) (pasted (w * i) ys xs))) (sym e) ∙ pasted_in (w * i) ys xs (omega (arith, part_below w i n within))
