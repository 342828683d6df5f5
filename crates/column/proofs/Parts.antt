-- A part of a list that was lent from a on, k words of it, said of the whole list. Assumes nothing.
use mathlib.Core.Path.{◌≡◌, sym, ap, ap₂, ◌∙◌, subst}
use mathlib.Core.Bool.{Bool}
use mathlib.Core.List.{List, ◌++◌, append_assoc}
use Prim.Native.Nat.{ℕ, ◌+◌, ◌-◌, ◌≤◌}
use native.Mathlib.Nat.{zero-add}
use native.Mathlib.Omega.{arith}
use lib.ListN.{length, get_or, take, drop, take-append-drop, length-take, length-drop}
use lib.Seq.{take_all, take-take, take_at, take-add, drop_at, drop-drop, drop-append-le, length-take-le}
use borrow.Rule.Slice.PartMut.{put_mid, mid_of, take_put, same_len_mid}
use Rattle.column.specs.Column.{register, Laid, Turned}
use Rattle.lists.specs.Bits.{pack}
use Rattle.lists.proofs.Columns.{length_pack}
use Rattle.column.proofs.Registers.{length_register, register_in, register_same, length_lay, lay_ext}

-- a register of the part is one of the whole
pub register_part : (a k d m : ℕ) (xs : List ℕ) → a + k ≤ length xs → d + m ≤ k → register d m (mid_of a k xs) ≡ register (a + d) m xs
register_part a k d m xs h l =
    register_same d m (mid_of a k xs) (a + d) xs (omega (arith, length_register a k xs h)) (omega arith) λ w j.
    register_in a k xs (d + w) (omega arith) ∙ ap (λ (i : ℕ). get_or xs i 0) (omega arith)

-- a register below what is known
pub register_below : (b at m : ℕ) (xs ys : List ℕ) → take b ys ≡ take b xs → at + m ≤ b → b ≤ length xs → b ≤ length ys → register at m ys ≡ register at m xs
register_below b at m xs ys e h l k = sym (whole ys k) ∙ ap (register at m) e ∙ whole xs l
  where
    whole : (zs : List ℕ) → b ≤ length zs → register at m (take b zs) ≡ register at m zs
    whole zs j = register_part 0 b at m zs (omega arith) h ∙ ap (λ (i : ℕ). register i m zs) (zero-add at)

-- ---- a list put in the place of a part
module _ (a k : ℕ) (xs ys : List ℕ) (h : a + k ≤ length xs) (n : length ys ≡ k) where
  put_tail : drop a (put_mid a k xs ys) ≡ ys ++ drop k (drop a xs)
  put_tail = drop_at (take a xs) (ys ++ drop k (drop a xs)) a (length-take-le a xs (omega arith))

  pub put_here : register a k (put_mid a k xs ys) ≡ ys
  put_here = ap (take k) put_tail ∙ take_at ys (drop k (drop a xs)) k n

  pub put_long : length (put_mid a k xs ys) ≡ length xs
  put_long = same_len_mid a k xs ys (n ∙ sym (length_register a k xs h))

  pub put_after : (e : ℕ) → a + k ≤ e → drop e (put_mid a k xs ys) ≡ drop e xs
  put_after e l =
      let s : a + (k + (e - (a + k))) ≡ e = omega arith in
      let split : (zs : List ℕ) → drop (e - (a + k)) (drop k (drop a zs)) ≡ drop e zs =
      λ zs. drop-drop (e - (a + k)) k (drop a zs) ∙ drop-drop (k + (e - (a + k))) a zs ∙ ap (λ (i : ℕ). drop i zs) s
      in
      sym (split (put_mid a k xs ys)) ∙ ap (drop (e - (a + k))) (ap (drop k) put_tail ∙ drop_at ys (drop k (drop a xs)) k n) ∙ split xs

  pub put_before : (at m : ℕ) → at + m ≤ a → register at m (put_mid a k xs ys) ≡ register at m xs
  put_before at m l =
      register_below a at m xs (put_mid a k xs ys) (take_put a k xs ys (omega arith)) l (omega arith) (omega (arith, put_long))

-- ---- columns laid or turned in a part
drop_take : (i k : ℕ) (l : List ℕ) → i ≤ k → k ≤ length l → drop i (take k l) ++ drop k l ≡ drop i l
drop_take i k l h j = sym (drop-append-le i (take k l) (drop k l) (omega (arith, length-take k l))) ∙ ap (drop i) (take-append-drop k l)

-- what was laid in the part is laid in the whole
pub part_laid : (a k : ℕ) (xs : List ℕ) {d m : ℕ} {f : ℕ → Bool} {ys : List ℕ} → a + k ≤ length xs → d + m ≤ k → Laid d m f (mid_of a k xs) ys
    → Laid (a + d) m f xs (put_mid a k xs ys)
part_laid a k xs {d} {m} {f} h l r =
    let L : List ℕ = drop a xs in
    let P : List ℕ = take m (pack m f) in
    let long : k ≤ length L = omega (arith, length-drop a xs) in
    record {
      is =
          ap (λ (y : List ℕ). take a xs ++ (y ++ drop k L)) r.is
          ∙ ap (λ (y : List ℕ). take a xs ++ y) (append_assoc (take d (take k L) ++ P) (drop (d + m) (take k L)) (drop k L))
          ∙ ap₂ (λ (u v : List ℕ). take a xs ++ (u ++ P ++ v)) (take-take d k L (omega arith)) (drop_take (d + m) k L l long)
          ∙ sym (append_assoc (take a xs) (take d L ++ P) (drop (d + m) L))
          ∙ ap₂ (λ (u v : List ℕ). u ++ v)
          (sym (append_assoc (take a xs) (take d L) P) ∙ ap (λ (u : List ℕ). u ++ P) (sym (take-add a d xs)))
          (drop-drop (d + m) a xs ∙ ap (λ (n : ℕ). drop n xs) (let e : a + (d + m) ≡ a + d + m = omega arith in e));
    }

pub laid_length : {at m : ℕ} {f : ℕ → Bool} {xs ys : List ℕ} → at + m ≤ length xs → Laid at m f xs ys → length ys ≡ length xs
laid_length {at} {m} {f} {xs} h r = ap length r.is ∙ length_lay at m f xs h

-- a part that was turned
pub part_turned : (a k : ℕ) (xs : List ℕ) {f : ℕ → Bool} {ys : List ℕ} → a + k ≤ length xs → Turned f (mid_of a k xs) ys → Laid a k f xs (put_mid a k xs ys)
part_turned a k xs {f} h r =
    record {
      is =
          ap (λ (y : List ℕ). take a xs ++ (y ++ drop k (drop a xs)))
          (r.is ∙ ap (λ (n : ℕ). pack n f) (length_register a k xs h) ∙ sym (take_all k (pack k f) (omega (arith, length_pack k f))))
          ∙ sym (append_assoc (take a xs) (take k (pack k f)) (drop k (drop a xs)))
          ∙ ap (λ (v : List ℕ). take a xs ++ take k (pack k f) ++ v) (drop-drop k a xs);
    }

-- a part of m words that was turned by what it held
pub part_op : (op : List ℕ → ℕ → Bool) (a k m : ℕ) (xs : List ℕ) {ys : List ℕ} → k ≡ m → a + k ≤ length xs → Turned (op (mid_of a k xs)) (mid_of a k xs) ys
    → Laid a m (op (register a m xs)) xs (put_mid a k xs ys)
part_op op a k m xs {ys} e h r = subst (λ (n : ℕ). Laid a n (op (register a n xs)) xs (put_mid a k xs ys)) e (part_turned a k xs h r)

-- the same column, said otherwise
pub laid_as : (g : ℕ → Bool) {at m n : ℕ} {f : ℕ → Bool} {xs ys : List ℕ} → m ≡ n → ((t : ℕ) → f t ≡ g t) → Laid at m f xs ys → Laid at n g xs ys
laid_as g {at} {m} {f = f} {xs = xs} {ys = ys} e same r =
    subst (λ (k : ℕ). Laid at k g xs ys) e (record { is = r.is ∙ lay_ext at m f g xs (λ t h. same t) })
