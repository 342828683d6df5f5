-- F, G and `whole` on words: windows of 2 ^ k bits by doubling, joined with themselves by what is left over, and begun later. Assumes nothing.
use mathlib.Core.Path.{◌≡◌, refl, sym, ap, ap₂, ◌∙◌, fun_ext}
use mathlib.Core.Logic.{⊎_elim}
use mathlib.Core.Bool.{Bool, true, false, not, ◌&&◌}
use mathlib.Core.List.{List, [], ◌∷◌, ◌++◌, map-append}
use Prim.Native.Nat.{ℕ, zero, suc, ◌+◌, ◌-◌, ◌*◌, ◌%◌, ◌^◌, ◌≤◌, ◌<◌}
use native.Mathlib.Nat.{le_of_suc-le-suc}
use native.Mathlib.Numerals.{add-one}
use native.Mathlib.Omega.{arith}
use borrow.Author.Tests.{le-ltb}
use lib.Dec.{ltb}
use lib.ListN.{length, get_or, take, get_or-append, length-take}
use lib.Pow.{pow_pos, pow_mono}
use lib.Seq.{take-suc, take_at, take_all, get_or-take}
use Rattle.lists.specs.Bits.{bit_at, pack, below}
use Rattle.lists.specs.Sequence.{sum, padded}
use Rattle.lists.proofs.Tests.{lt_or_le}
use Rattle.lists.proofs.Columns.{bit_at_past, bit_at_pack, length_pack, pack_is, pack_ext}
use Rattle.mltl.specs.Mltl.{eventually, until, opposite}
use Rattle.mltl.proofs.Readings.{until_by}
use Rattle.mltl.proofs.Operators.{ever, eventually_at, eventually_past}
use Rattle.interval.specs.Parts.{Splitting, parts, splitting, bad_interval}
use Rattle.interval.specs.Doubling.{Doubling, doubling}
use Rattle.interval.proofs.Laws.{total, parts_total, parts_12, interval_fits}
use Rattle.interval.proofs.Doublings.{Overlapping, overlapping}
use Rattle.column.specs.Column.{Turned, flipped}
use Rattle.moves.specs.Moves.{moved}
use Rattle.column.proofs.Words.{mask}
use Rattle.column.proofs.Registers.{bit_at_pack_all}
use Rattle.windows.specs.Windows.{span, all_later}
use Rattle.windows.specs.Code.Steps.{width_of}
use Rattle.windows.proofs.Laws.{Unary, twice}

-- ---- what was turned
module _ {f : ℕ → Bool} {xs ys : List ℕ} (r : Turned f xs ys) where
  pub turned_length : length ys ≡ length xs
  turned_length = ap length r.is ∙ length_pack (length xs) f

  turned_bit : ((t : ℕ) → span xs ≤ t → f t ≡ false) → (t : ℕ) → bit_at ys t ≡ f t
  turned_bit z t = ap (λ (l : List ℕ). bit_at l t) r.is ∙ bit_at_pack_all (length xs) f z t

turned_then : {g : ℕ → Bool} (h : ℕ → Bool) {xs ys zs : List ℕ} → length ys ≡ length xs → Turned g ys zs
    → ((t : ℕ) → t < span xs → g t ≡ h t) → Turned h xs zs
turned_then {g = g} h {xs} l q e = record { is = q.is ∙ ap (λ (m : ℕ). pack m g) l ∙ pack_ext (length xs) g h e }

-- ---- an operator of one operand on the whole list
module _ {W : ℕ → ℕ → ℕ → (ℕ → Bool) → ℕ → Bool} {join : Bool → Bool → Bool} (laws : Unary W join) {xs : List ℕ} where
  pub window_start : ((w : ℕ) → get_or xs w 0 < 2 ^ 64) → Turned (W (span xs) 0 (2 ^ 0 - 1) (bit_at xs)) xs xs
  window_start h = record { is = pack_is xs (length xs) _ refl h (λ t l. sym (laws.now (span xs) (bit_at xs) t l)) }

  -- joined with itself moved down; a window of 2 ^ j bits by as many
  pub window_joined : (u by : ℕ) {ys zs : List ℕ} → by ≤ u + 1 → Turned (W (span xs) 0 u (bit_at xs)) xs ys
      → Turned (λ t. join (bit_at ys t) (bit_at ys (t + by))) ys zs → Turned (W (span xs) 0 (by + u) (bit_at xs)) xs zs
  window_joined u by {ys} h p q =
      let own : (t : ℕ) → bit_at ys t ≡ W (span xs) 0 u (bit_at xs) t = turned_bit p (laws.ends (span xs) u (bit_at xs) (bit_at_past xs)) in
      turned_then _ (turned_length p) q λ t l. ap₂ join (own t) (own (t + by)) ∙ laws.joined (span xs) u by (bit_at xs) t h

  pub window_twice : (j : ℕ) {ys zs : List ℕ} → j < 64 → Turned (W (span xs) 0 (2 ^ j - 1) (bit_at xs)) xs ys
      → Turned (λ t. join (bit_at ys t) (bit_at ys (t + 1 * 2 ^ j % 2 ^ 64))) ys zs → Turned (W (span xs) 0 (2 ^ (j + 1) - 1) (bit_at xs)) xs zs
  window_twice j h p q =
      let e : 2 ^ j + (2 ^ j - 1) ≡ 2 ^ (j + 1) - 1 = omega (arith, twice j, pow_pos j) in
      rw e at (window_joined (2 ^ j - 1) (2 ^ j) (omega (arith, pow_pos j)) p (rw (mask j h) at q))

  -- a window that begins later
  window_later : (lo hi u : ℕ) {ys zs : List ℕ} → lo ≤ hi → u ≡ hi - lo → Turned (moved lo xs) xs ys → Turned (W (span ys) 0 u (bit_at ys)) ys zs
      → Turned (W (span xs) lo hi (bit_at xs)) xs zs
  window_later lo hi u {ys} h e p q =
      let own : bit_at ys ≡ moved lo xs = fun_ext (turned_bit p (λ t l. bit_at_past xs (t + lo) (omega arith))) in
      turned_then (W (span xs) lo hi (bit_at xs)) (turned_length p) q λ t l.
      ap₂ (λ (n : ℕ) (f : ℕ → Bool). W (64 * n) 0 u f t) (turned_length p) own ∙ laws.moved (span xs) lo u (bit_at xs) (bit_at_past xs) t
      ∙ ap (λ (v : ℕ). W (span xs) lo v (bit_at xs) t) (omega arith)

-- by what `interval::double` answers: moved down by lo, doubled and, with a leftover, joined once more
module _ {W : ℕ → ℕ → ℕ → (ℕ → Bool) → ℕ → Bool} {join : Bool → Bool → Bool} (laws : Unary W join) (lo hi : ℕ) {d : Doubling} (fit : bad_interval lo hi ≡ false)
    (e : d ≡ doubling lo hi) {xs ys zs : List ℕ} (p : Turned (moved lo xs) xs ys) (q : Turned (W (span ys) 0 (2 ^ d.exponent - 1) (bit_at ys)) ys zs) where
  o : Overlapping (hi - lo) d
  o = overlapping lo hi fit e

  pub with_leftover : {us : List ℕ} → Turned (λ t. join (bit_at zs t) (bit_at zs (t + d.leftover))) zs us → Turned (W (span xs) lo hi (bit_at xs)) xs us
  with_leftover r =
      window_later laws lo hi _ (interval_fits lo hi fit).0 o.whole p (window_joined laws (2 ^ d.exponent - 1) d.leftover o.gapless q r)

  pub without_leftover : d.leftover ≤ 0 → Turned (W (span xs) lo hi (bit_at xs)) xs zs
  without_leftover z = window_later laws lo hi (2 ^ d.exponent - 1) (interval_fits lo hi fit).0 (omega (arith, o.whole)) p q

pub exponent_small : (lo hi : ℕ) {d : Doubling} → bad_interval lo hi ≡ false → d ≡ doubling lo hi → d.exponent < 64
exponent_small lo hi fit e = omega (arith, (overlapping lo hi fit e).small)

-- ---- sums of parts
sum_append : (a b : List ℕ) → sum (a ++ b) ≡ sum a + sum b
sum_append [] b = omega arith
sum_append (k ∷ a) b = rw (sum_append a b) (omega arith)

pub width_more : (ks : List ℕ) (i : ℕ) → i < length ks → width_of (i + 1) ks ≡ (2 ^ get_or ks i 0 - 1) + width_of i ks
width_more ks i h = rw (add-one i, take-suc ks i 0, map-append, sum_append) (omega arith)

part_le : (l : List ℕ) (i : ℕ) → i < length l → 2 ^ get_or l i 0 - 1 ≤ total l
part_le [] i h = absurd (omega arith)
part_le (k ∷ l) zero h = omega arith
part_le (k ∷ l) (suc i) h = let r = part_le l i (le_of_suc-le-suc h) in omega arith

small : (k : ℕ) → 2 ^ k - 1 ≤ 4095 → k < 64
small k h =
    ⊎_elim (λ (l : k < 64). l) (λ (l : 64 ≤ k). let p : 2 ^ 64 ≤ 2 ^ k = pow_mono l in absurd (omega arith)) (lt_or_le k 64)

-- ---- what `interval::split` answers
module _ (lo hi : ℕ) (a : lo ≤ hi) (b : hi ≤ 4095) {r : Splitting} (e : r ≡ splitting lo hi) where
  is : r ≡ record { number = 0; parts = padded 0 12 (parts (hi - lo)); count = length (parts (hi - lo)) }
  unfolding splitting
  is = e ∙ simp (le-ltb hi lo a, le-ltb 4095 hi b)

  cut_count : r.count ≡ length (parts (hi - lo))
  cut_count = ap (λ (c : Splitting). c.count) is

  cut_list : r.parts ≡ padded 0 12 (parts (hi - lo))
  cut_list = ap (λ (c : Splitting). c.parts) is

  pub cut_12 : r.count ≤ 12
  cut_12 = omega (arith, cut_count, parts_12 (hi - lo) (omega arith))

  pub cut_small : (i : ℕ) → i < r.count → get_or r.parts i 0 < 64
  cut_small i h =
      let l : i < length (parts (hi - lo)) = omega (arith, cut_count) in
      let g : get_or r.parts i 0 ≡ get_or (parts (hi - lo)) i 0 = ap (λ (x : List ℕ). get_or x i 0) cut_list ∙ get_or-append (parts (hi - lo)) _ 0 i l in
      rw g (small (get_or (parts (hi - lo)) i 0) (omega (arith, part_le (parts (hi - lo)) i l, parts_total (hi - lo))))

  pub cut_parts : take r.count r.parts ≡ parts (hi - lo)
  cut_parts = ap₂ (λ (n : ℕ) (l : List ℕ). take n l) cut_count cut_list ∙ take_at (parts (hi - lo)) _ (length (parts (hi - lo))) refl

  -- the parts as a list of their own
  pub cut_all : let ks : List ℕ = take r.count r.parts in take (length ks) ks ≡ parts (hi - lo)
  cut_all = take_all (length (take r.count r.parts)) (take r.count r.parts) (omega arith) ∙ cut_parts

  pub cut_width : let ks : List ℕ = take r.count r.parts in width_of (length ks) ks ≡ hi - lo
  cut_width = ap total cut_all ∙ parts_total (hi - lo)

  pub cut_each : let ks : List ℕ = take r.count r.parts in (i : ℕ) → i < length ks → get_or ks i 0 < 64
  cut_each i h =
      let l : i < r.count = omega (arith, h, length-take r.count r.parts) in
      rw (get_or-take r.count r.parts i 0 l) (cut_small i l)

-- ---- the operators go by their operands below n alone, where the right one is clear past n
module _ (n N lo hi : ℕ) (a b A B : ℕ → Bool) (h : n ≤ N) (inside : (i : ℕ) → i < N → b i ≡ true → i < n) (e : (i : ℕ) → i < n → a i ≡ A i)
    (f : (i : ℕ) → i < n → b i ≡ B i) where
  pub until_same : (t : ℕ) → until N lo hi a b t ≡ until n lo hi A B t
  until_same t =
      until_by
      (λ r.
      let i = inside r.at r.inside r.right in
      record { at = r.at; late = r.late; early = r.early; inside = i; right = sym (f r.at i) ∙ r.right; left = λ j x y. sym (e j (omega arith)) ∙ r.left j x y })
      (λ r. record {
        at = r.at;
        late = r.late;
        early = r.early;
        inside = omega arith;
        right = f r.at r.inside ∙ r.right;
        left = λ j x y. e j (omega arith) ∙ r.left j x y;
      })

pub until_ext : (n lo hi : ℕ) (a b a' b' : ℕ → Bool) → ((i : ℕ) → i < n → a i ≡ a' i) → ((i : ℕ) → i < n → b i ≡ b' i)
    → (t : ℕ) → until n lo hi a b t ≡ until n lo hi a' b' t
until_ext n lo hi a b a' b' e f = until_same n n lo hi a b a' b' (omega arith) (λ i h k. h) e f

eventually_ext : (n lo hi : ℕ) (b b' : ℕ → Bool) → ((i : ℕ) → i < n → b i ≡ b' i) → (t : ℕ) → eventually n lo hi b t ≡ eventually n lo hi b' t
eventually_ext n lo hi b b' f t =
    eventually_at n lo hi b t ∙ until_ext n lo hi (ever true) b (ever true) b' (λ i h. refl) f t ∙ sym (eventually_at n lo hi b' t)

-- flipped, then some, then flipped
pub all_is : (lo hi n : ℕ) {xs ys zs us : List ℕ} → Turned (flipped n xs) xs ys → Turned (eventually (span ys) lo hi (bit_at ys)) ys zs → Turned (flipped n zs) zs us
    → us ≡ all_later lo hi n xs
unfolding opposite all_later
all_is lo hi n {xs} {ys} {zs} p q r =
    (turned_then (below n (opposite (eventually (span xs) lo hi (flipped n xs)))) {xs = xs} (turned_length q ∙ turned_length p) r (λ t h.
    ap (λ (b : Bool). ltb t n && not b)
    (turned_bit q (λ u k. eventually_past (span ys) lo hi (bit_at ys) u (omega arith)) t
    ∙ ap (λ (m : ℕ). eventually (64 * m) lo hi (bit_at ys) t) (turned_length p)
    ∙ eventually_ext (span xs) lo hi (bit_at ys) (flipped n xs) (λ i k. ap (λ (l : List ℕ). bit_at l i) p.is ∙ bit_at_pack (length xs) (flipped n xs) i k) t))
    ).is
