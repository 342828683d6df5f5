-- Two registers in one list: one of them is written word by word; and both as a part of a longer list. Assumes nothing.
use mathlib.Core.Path.{◌≡◌, refl, sym, ap, ap₂, ◌∙◌, subst}
use mathlib.Core.Logic.{◌⊎◌, inl, inr}
use mathlib.Core.Bool.{Bool}
use mathlib.Core.List.{List, ◌++◌}
use Prim.Native.Nat.{ℕ, ◌+◌, ◌-◌, ◌^◌, ◌≤◌, ◌<◌}
use native.Mathlib.Nat.{le_antisymm}
use native.Mathlib.Omega.{arith}
use lib.ListN.{length, get_or, set, take, drop}
use lib.Seq.{paste, take-take}
use borrow.Rule.Slice.PartMut.{put_mid, mid_of}
use Rattle.lists.specs.Bits.{bit_at, pack}
use Rattle.lists.proofs.Columns.{pack_is}
use Rattle.column.proofs.Registers.{length_register, register_lt}
use Rattle.column.specs.Column.{register, lay, Laid, Swept, WordOf}
use Rattle.column.proofs.Sweeps.{swept_none, swept_more, swept_to, swept_laid, own_ahead}
use Rattle.column.proofs.Parts.{register_part, part_laid}
use Rattle.pair.specs.Pair.{room}

-- the places of the register that is written and of the other one
pub data Places (d : ℕ) : ℕ → ℕ → Type 0 where
  first : Places d 0 d
  second : Places d d 0

-- w of the words of the register that is written are what op makes of it and of the other one
pub record Into (op : List ℕ → List ℕ → ℕ → Bool) (d at bt m w : ℕ) (xs ys : List ℕ) : Type 0 where
  pub places : Places d at bt
  pub swept : Swept at (op (register at m xs) (register bt m xs)) w xs ys
  pub upto : w ≤ m
  pub room : m ≡ room d xs

below : {d at bt : ℕ} → Places d at bt → at ≤ d
below first = omega arith
below second = omega arith

exchanged : {d at bt : ℕ} → Places d at bt → Places d bt at
exchanged first = second
exchanged second = first

apart : {d at bt m : ℕ} → Places d at bt → m ≤ d → (bt + m ≤ at) ⊎ (at ≤ bt)
apart first h = inr (omega arith)
apart second h = inl (omega arith)

pub into_none : {op : List ℕ → List ℕ → ℕ → Bool} {d at bt m : ℕ} {xs : List ℕ} → Places d at bt → m ≡ room d xs → Into op d at bt m 0 xs xs
into_none p e = record { places = p; swept = swept_none; upto = omega arith; room = e }

pub into_at : {op : List ℕ → List ℕ → ℕ → Bool} {d at bt m w v : ℕ} {xs ys : List ℕ} → Into op d at bt m w xs ys → w ≡ v → Into op d at bt m v xs ys
into_at {op} {d} {at} {bt} {m} {xs = xs} {ys = ys} r e = subst (λ (n : ℕ). Into op d at bt m n xs ys) e r

-- all of its words, however the last of them came about
pub into_laid : {op : List ℕ → List ℕ → ℕ → Bool} {d at bt m w : ℕ} {xs ys zs : List ℕ} → Into op d at bt m w xs ys
    → Swept at (op (register at m xs) (register bt m xs)) m xs zs → Laid at (room d xs) (op (register at (room d xs) xs) (register bt (room d xs) xs)) xs zs
into_laid {op} {at = at} {bt = bt} {xs = xs} {zs = zs} r s =
    let e = r.room in
    let l = below r.places in
    subst (λ (n : ℕ). Laid at n (op (register at n xs) (register bt n xs)) xs zs) e (swept_laid s (λ h. omega arith))

pub into_done : {op : List ℕ → List ℕ → ℕ → Bool} {d at bt m w : ℕ} {xs ys : List ℕ} → Into op d at bt m w xs ys → m ≤ w
    → Laid at (room d xs) (op (register at (room d xs) xs) (register bt (room d xs) xs)) xs ys
into_done r h = into_laid r (swept_to r.swept (le_antisymm r.upto h))

-- a word more, made of the word of each
pub into_next : {op : List ℕ → List ℕ → ℕ → Bool} {d at bt m w i j x : ℕ} {xs ys : List ℕ} → Into op d at bt m w xs ys → w < m → i ≡ at + w → j ≡ bt + w
    → ((v : ℕ) → get_or ys v 0 < 2 ^ 64)
    → (WordOf (bit_at (register at m xs)) w (get_or ys i 0) → WordOf (bit_at (register bt m xs)) w (get_or ys j 0) → WordOf (op (register at m xs) (register bt m xs)) w x)
    → Into op d at bt m (w + 1) xs (set ys i x)
into_next {at = at} {bt = bt} {m = m} {i = i} {j = j} {x = x} {ys = ys} r h a b fits made =
    let s = r.swept in
    let e = r.room in
    let l = below r.places in
    record {
      places = r.places;
      swept = swept_more s (omega arith) (ap (λ (k : ℕ). set ys k x) a)
          (made (own_ahead s at m (inr (omega arith)) h (fits i) (ap (λ (k : ℕ). get_or ys k 0) a))
          (own_ahead s bt m (apart r.places (omega arith)) h (fits j) (ap (λ (k : ℕ). get_or ys k 0) b)));
      upto = omega arith;
      room = e;
    }

-- a register that was copied
pub laid_copy : (at bt j m : ℕ) {xs ys : List ℕ} → ((w : ℕ) → get_or xs w 0 < 2 ^ 64) → bt + m ≤ length xs → j - bt ≡ m → ys ≡ paste xs at (drop bt xs) (j - bt)
    → Laid at m (bit_at (register bt m xs)) xs ys
laid_copy at bt j m {xs} fits l e q =
    let r : List ℕ = register bt m xs in
    let same : take m (drop bt xs) ≡ take m (pack m (bit_at r)) =
    sym (take-take m m (drop bt xs) (omega arith)) ∙ ap (take m) (pack_is r m (bit_at r) (length_register bt m xs l) (register_lt bt m xs fits) (λ t h. refl)) in
    record { is = q ∙ ap (paste xs at (drop bt xs)) e ∙ ap (λ (p : List ℕ). take at xs ++ p ++ drop (at + m) xs) same }

-- a part that begins with one register and ends with another, of which one was laid
pub part_pair : (op : List ℕ → List ℕ → ℕ → Bool) {d at bt : ℕ} (p : Places d at bt) (a k m : ℕ) (xs : List ℕ) {i j : ℕ} {ys : List ℕ} → room d (mid_of a k xs) ≡ m
    → d + m ≤ k → a + k ≤ length xs → a + at ≡ i → a + bt ≡ j
    → Laid at (room d (mid_of a k xs)) (op (register at (room d (mid_of a k xs)) (mid_of a k xs)) (register bt (room d (mid_of a k xs)) (mid_of a k xs))) (mid_of a k xs) ys
    → Laid i m (op (register i m xs) (register j m xs)) xs (put_mid a k xs ys)
part_pair op {at = at} {bt = bt} p a k m xs {i} {j} {ys} e l h x y r =
    let mid : List ℕ = mid_of a k xs in
    let u = below p in
    let v = below (exchanged p) in
    let q : Laid at m (op (register i m xs) (register j m xs)) mid ys =
    record {
      is =
          r.is ∙ ap (λ (n : ℕ). lay at n (op (register at n mid) (register bt n mid)) mid) e
          ∙ ap₂ (λ (c d : List ℕ). lay at m (op c d) mid)
          (register_part a k at m xs h (omega arith) ∙ ap (λ (n : ℕ). register n m xs) x)
          (register_part a k bt m xs h (omega arith) ∙ ap (λ (n : ℕ). register n m xs) y);
    }
    in
    subst (λ (n : ℕ). Laid n m (op (register i m xs) (register j m xs)) xs (put_mid a k xs ys)) x (part_laid a k xs h (omega arith) q)
