-- The laws of the parts of v:
--     parts_total     the sum of 2^k - 1 over the parts is v
--     parts_greedy    each part is the largest that fits in what is left
--     parts_count     if 2^b ≤ v + 1 < 2^(b + 1), there are at most b + 1
-- Assumes nothing.
use mathlib.Core.Path.{◌≡◌, refl, sym, ap, subst, ◌∙◌}
use mathlib.Core.Bool.{true, false}
use mathlib.Core.Logic.{⊎_elim}
use mathlib.Core.List.{List, [], ◌∷◌, map}
use Prim.Native.Nat.{ℕ, zero, suc, ◌+◌, ◌-◌, ◌*◌, ◌%◌, ◌^◌, ◌≤◌, ◌<◌}
use native.Mathlib.Nat.{eq-or-lt_of_le, eq-zero-or-pos, pow-succ', sub-zero, zero-sub, suc-sub-suc, zero-add}
use native.Mathlib.Numerals.{add-one}
use native.Mathlib.Omega.{arith}
use borrow.Author.Tests.{le-leb, lt-leb, ltb-false}
use lib.Dec.{ltb}
use lib.Count.{count_leading_zeros, leading_top}
use lib.Pow.{pow_mono, pow_pos, shl_exact}
use lib.ListN.{length, set, drop, replicate}
use lib.Seq.{sets, sets-eq}
use Rattle.lists.specs.Sequence.{padded, sum}
use Rattle.lists.proofs.Tests.{lt_or_le, or_left, or_right, true_or_false}
use Rattle.std.specs.Prelude.{Ok, Err}
use Rattle.refusals.specs.declared.Refusal.{Refusal}
use Rattle.refusals.proofs.Positive.{refusal_above}
use Rattle.interval.specs.declared.Parts.{Parts}
use Rattle.interval.specs.Parts.{Splitting, split_told, largest_to, top, left, parts_to, parts, splitting, bad_interval}

-- k is the largest with 2^k at most v + 1
pub record Largest (v k : ℕ) : Type 0 where
  pub low : 2 ^ k ≤ v + 1
  pub high : v + 1 < 2 * 2 ^ k

-- a search from b down that starts at k or above finds k
pub largest_is : (b v k : ℕ) → k ≤ b → Largest v k → largest_to b v ≡ k
unfolding largest_to
largest_is zero v k h l = omega arith
largest_is (suc b) v k h l =
    ⊎_elim
    (λ (e : k ≡ suc b). rw (le-leb (2 ^ suc b) (v + 1) (subst (λ (j : ℕ). 2 ^ j ≤ v + 1) e l.low)) (sym e))
    (λ (lt : k < suc b).
    let p : 2 ^ suc k ≤ 2 ^ suc b = pow_mono lt in
    let q : v + 1 < 2 ^ suc b = omega (arith, pow-succ' 2 k, l.high) in
    rw (lt-leb (2 ^ suc b) (v + 1) q) (largest_is b v k (omega arith) l))
    (eq-or-lt_of_le h)

-- n is below 2^n
below_pow : (n : ℕ) → n < 2 ^ n
below_pow zero = omega arith
below_pow (suc n) = let h = below_pow n in omega (arith, pow-succ' 2 n)

-- 2^i below 2 * 2^j has i at most j
pub pow_le : (i j : ℕ) → 2 ^ i < 2 * 2 ^ j → i ≤ j
pow_le i j h =
    ⊎_elim
    (λ (lt : j < i). let p : 2 ^ suc j ≤ 2 ^ i = pow_mono lt in absurd (omega (arith, pow-succ' 2 j)))
    (λ (le : i ≤ j). le)
    (lt_or_le j i)

-- the top of v is what a count of leading zeros in w bits gives, if v + 1 fits
pub top_is : (w v : ℕ) → v + 1 < 2 ^ w → (count_leading_zeros w (v + 1) + suc (top v) ≡ w) × Largest v (top v)
top_is w v h =
    let t = leading_top w (v + 1) (omega arith) h in
    let k : ℕ = t.0 in
    let l : Largest v k = record { low = t.2; high = omega (arith, t.3, pow-succ' 2 k) } in
    let small : k ≤ v = omega (arith, below_pow k, t.2) in
    let e : top v ≡ k = largest_is v v k small l in
    (rw e t.1, rw e l)

pub top_largest : (v : ℕ) → Largest v (top v)
top_largest v = (top_is (v + 1) v (below_pow (v + 1))).1

-- what is at most 4095 has a top of at most 12
pub top_12 : (v : ℕ) → v ≤ 4095 → top v ≤ 12
top_12 v h = pow_le (top v) 12 (omega (arith, (top_largest v).low))

-- what is 1 or more has a top of 1 or more
pub top_pos : (v : ℕ) → 0 < v → 1 ≤ top v
top_pos v h =
    ⊎_elim
    (λ (z : top v ≡ 0). let t : v + 1 < 2 * 2 ^ top v = (top_largest v).high in absurd (omega (arith, rw z at t)))
    (λ (p : 0 < top v). p)
    (eq-zero-or-pos (top v))

-- what is left of v is less than v, and with the largest part it is v
module _ (v : ℕ) where
  left_sum : (2 ^ top v - 1) + left v ≡ v
  unfolding left
  left_sum = omega (arith, (top_largest v).low, pow_pos (top v))

  pub left_le : left v ≤ v
  left_le = omega (arith, left_sum)

  pub left_lt : 0 < v → left v < v
  unfolding left
  left_lt h = omega (arith, (top_largest v).high, (top_largest v).low)

-- as many places as v are enough
enough : (f g v : ℕ) → v ≤ f → v ≤ g → parts_to f v ≡ parts_to g v
unfolding parts_to
enough zero zero v p q = refl
enough zero (suc g) zero p q = refl
enough zero (suc g) (suc w) p q = absurd (omega arith)
enough (suc f) zero zero p q = refl
enough (suc f) zero (suc w) p q = absurd (omega arith)
enough (suc f) (suc g) zero p q = refl
enough (suc f) (suc g) (suc w) p q =
    let r = left_lt (suc w) (omega arith) in
    ap (λ (l : List ℕ). top (suc w) ∷ l) (enough f g (left (suc w)) (omega arith) (omega arith))

pub parts_zero : parts 0 ≡ []
unfolding parts parts_to
parts_zero = refl

-- the parts of v: its top, and those of what is left
pub parts_step : (v : ℕ) → 0 < v → parts v ≡ top v ∷ parts (left v)
unfolding parts parts_to
parts_step zero h = absurd (omega arith)
parts_step (suc w) h =
    let r = left_lt (suc w) h in
    ap (λ (l : List ℕ). top (suc w) ∷ l) (enough w (left (suc w)) (left (suc w)) (omega arith) (omega arith))

-- the parts' sum is v
abbrev pub total : List ℕ → ℕ
total ks = sum (map (λ k. 2 ^ k - 1) ks)

total_to : (f v : ℕ) → v ≤ f → total (parts v) ≡ v
total_to zero zero h = rw parts_zero
total_to zero (suc w) h = absurd (omega arith)
total_to (suc f) zero h = rw parts_zero
total_to (suc f) (suc w) h =
    let r = left_lt (suc w) (omega arith) in
    rw (parts_step (suc w) (omega arith), total_to f (left (suc w)) (omega arith)) (left_sum (suc w))

pub parts_total : (v : ℕ) → total (parts v) ≡ v
parts_total v = total_to v v (omega arith)

-- each part is the largest k ≥ 1 with 2^k - 1 at most what is left
pub data Greedy : ℕ → List ℕ → Type 0 where
  none : Greedy 0 []
  next : {v k : ℕ} {ks : List ℕ} → 1 ≤ k → 2 ^ k - 1 ≤ v → v < 2 ^ (k + 1) - 1 → Greedy (v - (2 ^ k - 1)) ks → Greedy v (k ∷ ks)

greedy_to : (f v : ℕ) → v ≤ f → Greedy v (parts v)
unfolding left
greedy_to zero zero h = rw parts_zero none
greedy_to zero (suc w) h = absurd (omega arith)
greedy_to (suc f) zero h = rw parts_zero none
greedy_to (suc f) (suc w) h =
    let r = left_lt (suc w) (omega arith) in
    let t = top_largest (suc w) in
    let p : 2 ^ (top (suc w) + 1) ≡ 2 * 2 ^ top (suc w) = rw add-one (pow-succ' 2 (top (suc w))) in
    rw (parts_step (suc w) (omega arith))
    (next {v = suc w} (top_pos (suc w) (omega arith)) (omega (arith, t.low)) (omega (arith, t.high, p)) (greedy_to f (left (suc w)) (omega arith)))

pub parts_greedy : (v : ℕ) → Greedy v (parts v)
parts_greedy v = greedy_to v v (omega arith)

-- a part of 2^k - 1 alone
parts_ones : (k : ℕ) → 0 < k → parts (2 ^ k - 1) ≡ k ∷ []
unfolding left
parts_ones k h =
    let p = pow_mono {i = 1} {j = k} h in
    let e : top (2 ^ k - 1) ≡ k =
    largest_is (2 ^ k - 1) (2 ^ k - 1) k (omega (arith, below_pow k)) (record { low = omega (arith, p); high = omega (arith, p) })
    in
    let z : 2 ^ k - 1 - (2 ^ k - 1) ≡ 0 = omega arith in
    rw (parts_step (2 ^ k - 1) (omega (arith, p)), e, z, parts_zero)

-- the top k and what is left, from a count of those of what is left
count_step : (v k b : ℕ) → 0 < v → top v ≡ k → v + 1 < 2 * 2 ^ b
    → ((j : ℕ) → left v + 1 < 2 * 2 ^ j → length (parts (left v)) ≤ j + 1) → length (parts v) ≤ b + 1
count_step v zero b h e l ih =
    let t : v + 1 < 2 * 2 ^ top v = (top_largest v).high in
    absurd (omega (arith, rw e at t))
count_step v (suc i) b h e l ih =
    let t : Largest v (suc i) = rw e at (top_largest v) in
    let s : (2 ^ suc i - 1) + left v ≡ v = rw e at (left_sum v) in
    let p : 2 ^ suc i ≡ 2 * 2 ^ i = pow-succ' 2 i in
    let kb : suc i ≤ b = pow_le (suc i) b (omega (arith, t.low)) in
    rw (parts_step v h)
    (⊎_elim
    (λ (lt : left v + 1 < 2 ^ suc i). omega (arith, ih i (omega arith)))
    (λ (le : 2 ^ suc i ≤ left v + 1).
    let q : left v ≡ 2 ^ suc i - 1 = omega (arith, t.high, t.low) in
    rw (q, parts_ones (suc i) (omega arith)) (omega arith))
    (lt_or_le (left v + 1) (2 ^ suc i)))

-- v + 1 below 2^(b + 1) has at most b + 1 parts
count_to : (f v b : ℕ) → v ≤ f → v + 1 < 2 * 2 ^ b → length (parts v) ≤ b + 1
count_to zero zero b h l = rw parts_zero (omega arith)
count_to zero (suc w) b h l = absurd (omega arith)
count_to (suc f) zero b h l = rw parts_zero (omega arith)
count_to (suc f) (suc w) b h l =
    let r = left_lt (suc w) (omega arith) in
    count_step (suc w) (top (suc w)) b (omega arith) refl l (λ j. count_to f (left (suc w)) j (omega arith))

count_below : (v b : ℕ) → v + 1 < 2 ^ (b + 1) → length (parts v) ≤ b + 1
count_below v b h =
    let h' : v + 1 < 2 ^ suc b = rw (add-one b) at h in
    count_to v v b (omega arith) (omega (arith, pow-succ' 2 b))

pub parts_count : (v b : ℕ) → 2 ^ b ≤ v + 1 → v + 1 < 2 ^ (b + 1) → length (parts v) ≤ b + 1
parts_count v b l h = count_below v b h

-- so what is at most 4095 has at most 12: 4095 itself has one
pub parts_12 : (v : ℕ) → v ≤ 4095 → length (parts v) ≤ 12
parts_12 v h =
    ⊎_elim
    (λ (e : v ≡ 4095). rw (e, parts_ones 12 (omega arith)) (omega arith))
    (λ (lt : v < 4095). count_below v 11 (omega arith))
    (eq-or-lt_of_le h)

-- 1 shifted by the top of v, in 32 bits
pub shifted : (v k : ℕ) → v ≤ 4095 → k ≡ top v → (1 * 2 ^ k) % 2 ^ 32 ≡ 2 ^ top v
shifted v k h e = rw e (shl_exact {a = 1} 1 (top v) 32 (omega arith) (omega (arith, top_12 v h)) ∙ omega arith)

-- ---- what `fill` writes

pub fill_none : (r n : ℕ) (ks : List ℕ) → r ≡ 0 → (ks ≡ sets ks n (parts r)) × (n ≡ n + length (parts r))
fill_none r n ks e = let z : parts r ≡ [] = rw (e, parts_zero) in (rw z, rw z (omega arith))

pub fill_length : (r : ℕ) → 0 < r → length (parts r) ≡ 1 + length (parts (left r))
fill_length r h = rw (parts_step r h) (omega arith)

pub fill_more : (r k w n m : ℕ) (ks out : List ℕ) → 0 < r → k ≡ top r → w ≡ left r
    → (out ≡ sets (set ks n k) (n + 1) (parts w)) × (m ≡ n + 1 + length (parts w))
    → (out ≡ sets ks n (parts r)) × (m ≡ n + length (parts r))
fill_more r k w n m ks out h ek ew (eo, em) =
    (eo ∙ rw (parts_step r h, ek, ew, add-one n), omega (arith, fill_length r h, rw ew at em))

-- ---- what `split` returns

drop_zeros : (m n : ℕ) → drop {A = ℕ} m (replicate n 0) ≡ replicate (n - m) 0
drop_zeros zero n = rw (sub-zero n)
drop_zeros (suc m) zero = rw (zero-sub (suc m))
drop_zeros (suc m) (suc n) = drop_zeros m n ∙ rw (suc-sub-suc n m)

fill_padded : (l : List ℕ) → length l ≤ 12 → sets (replicate 12 0) 0 l ≡ padded 0 12 l
fill_padded l h = sets-eq l (replicate 12 0) 0 (omega arith) ∙ rw (zero-add (length l), drop_zeros (length l) 12)

pub interval_fits : (lo hi : ℕ) → bad_interval lo hi ≡ false → (lo ≤ hi) × (hi ≤ 4095)
interval_fits lo hi e = (ltb-false hi lo (or_left (ltb hi lo) (ltb 4095 hi) e), ltb-false 4095 hi (or_right (ltb hi lo) (ltb 4095 hi) e))

pub splitting_is : (lo hi n : ℕ) (ks : List ℕ) → bad_interval lo hi ≡ false
    → (ks ≡ sets (replicate 12 0) 0 (parts (hi - lo))) × (n ≡ 0 + length (parts (hi - lo)))
    → ◌≡◌ {A = Splitting} (record { number = 0; parts = ks; count = n }) (splitting lo hi)
unfolding splitting
splitting_is lo hi n ks e (ek, en) =
    let f = interval_fits lo hi e in
    let p = ek ∙ fill_padded (parts (hi - lo)) (parts_12 (hi - lo) (omega arith)) in
    let q : n ≡ length (parts (hi - lo)) = omega arith in
    simp (e, p, q)

pub splitting_count : (lo hi : ℕ) → (splitting lo hi).count ≤ 12
unfolding splitting
splitting_count lo hi =
    ⊎_elim (λ (e : bad_interval lo hi ≡ true). simp e (omega arith))
    (λ (e : bad_interval lo hi ≡ false). let f = interval_fits lo hi e in simp e (parts_12 (hi - lo) (omega arith)))
    (true_or_false (bad_interval lo hi))

-- ---- what the answer says of the interval
pub split_refused : (lo hi : ℕ) (e : Refusal) → split_told (Err e) ≡ splitting lo hi → bad_interval lo hi ≡ true
unfolding splitting
split_refused lo hi e p =
    ⊎_elim (λ (b : bad_interval lo hi ≡ true). b)
    (λ (b : bad_interval lo hi ≡ false). absurd (refusal_above e (ap (λ (x : Splitting). x.number) (simp b at p))))
    (true_or_false (bad_interval lo hi))

pub split_taken : (lo hi : ℕ) {r : Parts} → split_told (Ok r) ≡ splitting lo hi → bad_interval lo hi ≡ false
unfolding splitting
split_taken lo hi {r} p =
    ⊎_elim (λ (b : bad_interval lo hi ≡ true). absurd (let n : ◌≡◌ {A = ℕ} 0 6 = ap (λ (x : Splitting). x.number) (simp b at p) in omega arith))
    (λ (b : bad_interval lo hi ≡ false). b) (true_or_false (bad_interval lo hi))
