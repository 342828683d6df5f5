-- History while it is renewed: its states are moved down, and the block's follow. Assumes nothing.
use Prim.Native.Nat.{ℕ, zero, suc, ◌+◌, ◌-◌, ◌≤◌}
use native.Mathlib.Nat.{sub-zero, zero-sub, suc-sub-suc}
use native.Mathlib.Omega.{arith}
use mathlib.Core.Path.{◌≡◌, refl, sym, ap, ◌∙◌}
use mathlib.Core.List.{List, [], ◌∷◌, ◌++◌, append_assoc}
use borrow.Rule.Slice.PartMut.{put_mid}
use lib.ListN.{length, take, drop, length-take, length-drop, take-append-drop}
use lib.Seq.{paste, take_at, take-nil, length-take-le}
use Rattle.std.proofs.lemmas.List.Edits.{paste_all, take-paste, drop-paste}
use Rattle.lists.proofs.Sequences.{drop_past}
use Rattle.std.proofs.lemmas.List.{take_all}
use Rattle.std.proofs.lemmas.Slice.{put_mid-paste}

module _ {A : Type 0} where
  pub drop_append : (n : ℕ) (xs ys : List A) → drop n (xs ++ ys) ≡ drop n xs ++ drop (n - length xs) ys
  drop_append zero xs ys = rw zero-sub
  drop_append (suc n) [] ys = rw sub-zero
  drop_append (suc n) (x ∷ xs) ys = rw suc-sub-suc (drop_append n xs ys)

  pub drop_take : (n m : ℕ) (xs : List A) → drop n (take m xs) ≡ take (m - n) (drop n xs)
  drop_take zero m xs = rw sub-zero
  drop_take (suc n) zero xs = rw (zero-sub (suc n)) refl
  drop_take (suc n) (suc m) [] = sym (take-nil (suc m - suc n))
  drop_take (suc n) (suc m) (x ∷ xs) = rw suc-sub-suc (drop_take n m xs)

-- m states are moved down from place `by` on
pub moved_down : (xs : List ℕ) (by m : ℕ) → by + m ≤ length xs → paste xs 0 (drop by xs) (by + m - by) ≡ take m (drop by xs) ++ drop m xs
moved_down xs by m h =
    let l : m ≤ length (drop by xs) = omega (arith, length-drop by xs) in
    let k : by + m - by ≡ m = omega arith in
    let z : 0 + m ≡ m = omega arith in
    let mid : List ℕ = paste xs 0 (drop by xs) m in
    let head : take m mid ≡ take m (drop by xs) = ap (λ (i : ℕ). take i mid) (sym z) ∙ take-paste xs 0 (drop by xs) m (omega arith) l in
    let rest : drop m mid ≡ drop m xs = ap (λ (i : ℕ). drop i mid) (sym z) ∙ drop-paste xs 0 (drop by xs) m (omega arith) l ∙ ap (λ (i : ℕ). drop i xs) z in
    ap (paste xs 0 (drop by xs)) k ∙ sym (take-append-drop m mid) ∙ rw (head, rest)

-- the two moves together
pub kept_is : (hist mid last tail block : List ℕ) (h skip m from left : ℕ) → h ≤ left → left ≤ h + length block → left ≤ length hist
    → skip ≡ h + length block - left → m ≡ h - skip → from ≡ skip - h
    → mid ≡ take m (drop skip hist) ++ drop m hist → tail ≡ take (length block - from) (drop from block) → last ≡ put_mid m (left - m) mid tail
    → last ≡ drop skip (take h hist ++ block) ++ drop left hist
kept_is hist mid last tail block h skip m from left p q r e em ef a t b =
    let lm : length (take m (drop skip hist)) ≡ m = simp (length-take, length-drop) (omega arith) in
    let lh : length (take h hist) ≡ h = length-take-le h hist (omega arith) in
    let lt : left - m ≡ length (drop from block) = omega (arith, length-drop from block) in
    let n : m + (left - m) ≡ left = omega arith in
    let t : tail ≡ drop from block = t ∙ take_all (length block - from) (drop from block) (omega (arith, length-drop from block)) in
    let first : take m mid ≡ take m (drop skip hist) = rw a (take_at (take m (drop skip hist)) (drop m hist) m lm) in
    let rest : drop (m + (left - m)) mid ≡ drop left hist =
    ap (drop (m + (left - m))) a ∙ drop_past (take m (drop skip hist)) hist m lm (left - m) ∙ ap (λ (i : ℕ). drop i hist) n in
    let trace : drop skip (take h hist ++ block) ≡ take m (drop skip hist) ++ drop from block =
    drop_append skip (take h hist) block ∙ rw (drop_take skip h hist, lh, em, ef) in
    b ∙ put_mid-paste m (left - m) mid tail (drop from block) (left - m) t refl lt ∙ paste_all mid m (drop from block) (left - m) lt
    ∙ rw (first, rest, trace) (sym (append_assoc (take m (drop skip hist)) (drop from block) (drop left hist)))
