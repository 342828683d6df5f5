-- U and R on registers that are lent as one part: two operands are loaded, and the part from the result's register to the end of the last one is turned.
-- Assumes nothing.
use mathlib.Core.Path.{◌≡◌, sym, ap, ap₂, ◌∙◌}
use mathlib.Core.Logic.{inl}
use mathlib.Core.Bool.{Bool, true, false, not, ◌&&◌, ◌||◌}
use mathlib.Core.List.{List, ◌++◌}
use Prim.Native.Nat.{ℕ, ◌+◌, ◌-◌, ◌*◌, ◌^◌, ◌≤◌}
use native.Mathlib.Nat.{add-zero}
use native.Mathlib.Omega.{arith}
use borrow.Rule.Slice.PartMut.{put_mid, mid_of, take_put, put_same}
use lib.Dec.{ltb, eqb}
use lib.ListN.{length, get_or}
use lib.Seq.{drop-drop}
use Rattle.lists.specs.Bits.{bit_at, pack, below}
use Rattle.lists.specs.Choice.{pick}
use Rattle.mltl.specs.Mltl.{until, opposite}
use Rattle.mltl.specs.Known.{whole_release}
use Rattle.interval.specs.Parts.{bad_interval, parts}
use Rattle.column.specs.Column.{register, lay, Laid}
use Rattle.column.proofs.Registers.{length_register, length_lay, lay_lay, register_apart}
use Rattle.column.proofs.Parts.{register_part, put_here, put_long, put_after, part_laid, laid_length}
use Rattle.windows.specs.Windows.{third, misplaced, Three, all, any, used, until_later, release_later, whole_release_later}
use Rattle.windows.proofs.Lays.{lay_swap, used_length, used_swap}
use Rattle.windows.proofs.Results.{three_fits}
use Rattle.operators.specs.Operators.{worked, Reaches}
use Rattle.operators.proofs.Fits.{Four}
use Rattle.operators.proofs.Laws.{laid_bits}

-- ---- lists put in the place of a part
module _ (a k : ℕ) (xs ys : List ℕ) (h : a + k ≤ length xs) (n : length ys ≡ k) where
  put_put : (zs : List ℕ) → put_mid a k (put_mid a k xs ys) zs ≡ put_mid a k xs zs
  put_put zs =
      ap₂ (λ (u v : List ℕ). u ++ (zs ++ v)) (take_put a k xs ys (omega arith))
      (drop-drop k a (put_mid a k xs ys) ∙ put_after a k xs ys h n (a + k) (omega arith) ∙ sym (drop-drop k a xs))

  -- a column laid in what is put back is laid in the whole
  put_lay : (d m : ℕ) (f : ℕ → Bool) → d + m ≤ k → put_mid a k xs (lay d m f ys) ≡ lay (a + d) m f (put_mid a k xs ys)
  put_lay d m f l =
      let p : Laid d m f (mid_of a k (put_mid a k xs ys)) (lay d m f ys) = record { is = ap (lay d m f) (sym (put_here a k xs ys h n)) } in
      sym (put_put (lay d m f ys)) ∙ (part_laid a k (put_mid a k xs ys) (omega (arith, put_long a k xs ys h n)) l p).is

put_used : (Q : ℕ → (ℕ → Bool) → ℕ → Bool) (a k : ℕ) (xs : List ℕ) (e m : ℕ) (ks : List ℕ) (f : ℕ → Bool) → a + k ≤ length xs → e + m ≤ k
    → put_mid a k xs (used Q e m ks f (mid_of a k xs)) ≡ used Q (a + e) m ks f xs
put_used Q a k xs e m ks f h l = go (eqb (length ks) 0)
  where
    column : ℕ → Bool
    column = Q (2 ^ get_or ks (length ks - 1) 0) f

    go : (t : Bool) → put_mid a k xs (pick t (mid_of a k xs) (lay e m column (mid_of a k xs))) ≡ pick t xs (lay (a + e) m column xs)
    go true = put_same a k xs
    go false = put_lay a k xs (mid_of a k xs) h (length_register a k xs h) e m column l ∙ ap (lay (a + e) m column) (put_same a k xs)

-- ---- two operands loaded
module _ {a c b l w m : ℕ} {xs ys zs : List ℕ} (h : Four a c b l w m (length xs))
    (p : Laid b m (bit_at (register c m xs)) xs ys) (q : Laid l m (bit_at (register a m ys)) ys zs) where
  abbrev wide : ℕ
  wide = w + m - b

  abbrev part : List ℕ
  part = mid_of b wide zs

  fits_b : b + m ≤ length xs
  fits_b = let i = h.result in let j = h.copy in let k = h.work in omega arith

  fits_l : l + m ≤ length xs
  fits_l = let j = h.copy in let k = h.work in omega arith

  long_y : length ys ≡ length xs
  long_y = laid_length fits_b p

  long_z : length zs ≡ length xs
  long_z = laid_length (omega (arith, long_y, fits_l)) q ∙ long_y

  left : bit_at (register l m zs) ≡ bit_at (register a m xs)
  left =
      let i = h.left in
      laid_bits (register a m ys) (omega (arith, long_y, fits_l)) (length_register a m ys (omega (arith, long_y, fits_b))) q
      ∙ ap bit_at (ap (register a m) p.is ∙ register_apart b m (bit_at (register c m xs)) xs fits_b a m (omega (arith, fits_b)) (inl i))

  right : bit_at (register b m zs) ≡ bit_at (register c m xs)
  right =
      let i = h.right in let j = h.result in
      ap bit_at (ap (register b m) q.is ∙ register_apart l m (bit_at (register a m ys)) ys (omega (arith, long_y, fits_l)) b m (omega (arith, long_y, fits_b)) (inl j))
      ∙ laid_bits (register c m xs) fits_b (length_register c m xs (omega (arith, fits_b))) p

  room : b + wide ≤ length zs
  room = let i = h.result in let j = h.copy in let k = h.work in omega (arith, long_z)

  long_p : length part ≡ wide
  long_p = length_register b wide zs room

  three : Three (l - b) (w - b) part
  three =
      let i = h.result in let j = h.copy in
      record { low = omega (arith, long_p); high = omega (arith, long_p); apart = omega (arith, long_p) }

  -- what was laid in the part
  lifted : (Q : ℕ → (ℕ → Bool) → ℕ → Bool) (ks : List ℕ) (f g : ℕ → Bool) → put_mid b wide zs (lay 0 m f (lay (l - b) m g (used Q (w - b) m ks g part))) ≡ worked Q b l w m ks f g zs
  unfolding worked
  lifted Q ks f g =
      let i = h.result in
      let j = h.copy in
      let U : List ℕ = used Q (w - b) m ks g part in
      let u : length U ≡ wide = used_length Q (w - b) m ks g part (omega (arith, long_p)) ∙ long_p in
      let v : length (lay (l - b) m g U) ≡ wide = length_lay (l - b) m g U (omega arith) ∙ u in
      let el : b + (l - b) ≡ l = omega arith in
      let ew : b + (w - b) ≡ w = omega arith in
      put_lay b wide zs (lay (l - b) m g U) room v 0 m f (omega arith)
      ∙ ap₂ (λ (at : ℕ) (z : List ℕ). lay at m f z) (add-zero b)
      (put_lay b wide zs U room u (l - b) m g (omega arith)
      ∙ ap₂ (λ (at : ℕ) (z : List ℕ). lay at m g z) el
      (put_used Q b wide zs (w - b) m ks g room (omega arith) ∙ ap (λ (at : ℕ). used Q at m ks g zs) ew))

  -- what was loaded is gone
  loads_gone : (Q : ℕ → (ℕ → Bool) → ℕ → Bool) (ks : List ℕ) (f g : ℕ → Bool) → worked Q b l w m ks f g zs ≡ worked Q b l w m ks f g xs
  unfolding worked
  loads_gone Q ks f g =
      let i = h.result in
      let j = h.copy in
      let k = h.work in
      let A : ℕ → Bool = bit_at (register a m ys) in
      let C : ℕ → Bool = bit_at (register c m xs) in
      let U : List ℕ = used Q w m ks g xs in
      let u : length U ≡ length xs = used_length Q w m ks g xs k in
      let v : length (lay b m C U) ≡ length xs = length_lay b m C U (omega (arith, fits_b)) ∙ u in
      let x : length (lay l m g U) ≡ length xs = length_lay l m g U (omega (arith, fits_l)) ∙ u in
      ap (λ (z : List ℕ). lay b m f (lay l m g z))
      (ap (used Q w m ks g) q.is ∙ used_swap Q w m ks g ys (omega (arith, long_y)) l m A j
      ∙ ap (lay l m A) (ap (used Q w m ks g) p.is ∙ used_swap Q w m ks g xs k b m C (omega arith)))
      ∙ ap (lay b m f) (lay_lay l m A (lay b m C U) (omega (arith, v, fits_l)) g ∙ lay_swap b m C l m g U i (omega (arith, u, fits_l)))
      ∙ lay_lay b m C (lay l m g U) (omega (arith, x, fits_b)) f

  pub reaching : (Q : ℕ → (ℕ → Bool) → ℕ → Bool) (op : ℕ → (ℕ → Bool) → (ℕ → Bool) → ℕ → Bool) (moves : ℕ → (ℕ → Bool) → ℕ → Bool) (ks : List ℕ) {refused : Bool} {us : List ℕ}
      → refused ≡ false → Reaches refused Q op moves ks (l - b) (w - b) part us
      → put_mid b wide zs us ≡ worked Q b l w m ks (op m (bit_at (register a m xs)) (bit_at (register c m xs))) (moves m (bit_at (register a m xs))) xs
  unfolding worked
  reaching Q F G ks fine r =
      let i = h.result in
      let j = h.copy in
      let e : third (w - b) part ≡ m = omega (arith, long_p) in
      let at : b + (l - b) ≡ l = omega arith in
      let x : bit_at (register (l - b) m part) ≡ bit_at (register a m xs) =
      ap bit_at (register_part b wide (l - b) m zs room (omega arith) ∙ ap (λ (i : ℕ). register i m zs) at) ∙ left
      in
      let y : bit_at (register 0 m part) ≡ bit_at (register c m xs) =
      ap bit_at (register_part b wide 0 m zs room (omega arith) ∙ ap (λ (i : ℕ). register i m zs) (add-zero b)) ∙ right
      in
      let A : ℕ → Bool = bit_at (register a m xs) in
      ap (put_mid b wide zs)
      (r fine three
      ∙ ap (λ (k : ℕ). worked Q 0 (l - b) (w - b) k ks (F k (bit_at (register (l - b) k part)) (bit_at (register 0 k part))) (G k (bit_at (register (l - b) k part))) part) e
      ∙ ap₂ (λ (f g : ℕ → Bool). worked Q 0 (l - b) (w - b) m ks (F m f g) (G m f) part) x y)
      ∙ lifted Q ks (F m A (bit_at (register c m xs))) (G m A) ∙ loads_gone Q ks (F m A (bit_at (register c m xs))) (G m A)

-- ---- what U and R leave in a part
module _ (lo hi : ℕ) {d e : ℕ} {xs us : List ℕ} where
  pub until_reaches : us ≡ pick (bad_interval lo hi || misplaced d e (length xs)) xs (until_later d e lo hi xs)
      → Reaches (bad_interval lo hi) all (λ k f g. until (64 * k) lo hi f g) (λ k f t. f (t + lo)) (parts (hi - lo)) d e xs us
  unfolding until_later worked
  until_reaches r fine h = r ∙ ap (λ (t : Bool). pick t xs (until_later d e lo hi xs)) (ap₂ ◌||◌ fine (three_fits h))

  pub whole_release_reaches : us ≡ pick (bad_interval lo hi || misplaced d e (length xs)) xs (whole_release_later d e lo hi xs)
      → Reaches (bad_interval lo hi) any (λ k. whole_release lo hi) (λ k f t. f (t + lo)) (parts (hi - lo)) d e xs us
  unfolding whole_release_later worked
  whole_release_reaches r fine h = r ∙ ap (λ (t : Bool). pick t xs (whole_release_later d e lo hi xs)) (ap₂ ◌||◌ fine (three_fits h))

  pub release_reaches : (n : ℕ) → us ≡ pick (bad_interval lo hi || misplaced d e (length xs)) xs (release_later d e lo hi n xs)
      → Reaches (bad_interval lo hi) all (λ k f g. below n (opposite (until (64 * k) lo hi (λ t. ltb t n && not (f t)) (λ t. ltb t n && not (g t)))))
      (λ k f t. bit_at (pack k (λ u. ltb u n && not (f u))) (t + lo)) (parts (hi - lo)) d e xs us
  unfolding release_later worked
  release_reaches n r fine h = r ∙ ap (λ (t : Bool). pick t xs (release_later d e lo hi n xs)) (ap₂ ◌||◌ fine (three_fits h))
