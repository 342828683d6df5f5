-- The tests for unfit calls, and what a caller reads off the contracts. Assumes nothing.
use mathlib.Core.Path.{◌≡◌, sym, ap, ◌∙◌}
use mathlib.Core.Bool.{Bool, true, false, ◌||◌}
use mathlib.Core.List.{List}
use Prim.Native.Nat.{ℕ, ◌≤◌, ◌-◌}
use native.Mathlib.Omega.{arith}
use borrow.Author.Tests.{le-ltb, ltb-false}
use lib.Dec.{ltb}
use lib.ListN.{length}
use Rattle.lists.specs.Bits.{bit_at, below}
use Rattle.lists.specs.Choice.{pick}
use Rattle.lists.proofs.Tests.{or_left, or_right}
use Rattle.mltl.specs.Mltl.{eventually, opposite}
use Rattle.mltl.specs.Known.{whole}
use Rattle.interval.specs.Parts.{bad_interval}
use Rattle.interval.proofs.Laws.{interval_fits as within}
use Rattle.column.specs.Column.{Turned, flipped}
use Rattle.windows.specs.Windows.{span, some_later, all_later, whole_later, misplaced, until_later, Three}

-- ---- by a test, a list as it was or another one
pub stays : (xs ys : List ℕ) {b : Bool} → b ≡ true → xs ≡ pick b xs ys
stays xs ys e = sym (ap (λ (b : Bool). pick b xs ys) e)

pub turns : (xs ys : List ℕ) {b : Bool} {zs : List ℕ} → b ≡ false → zs ≡ ys → zs ≡ pick b xs ys
turns xs ys e q = q ∙ sym (ap (λ (b : Bool). pick b xs ys) e)

turned : (xs ys : List ℕ) {b : Bool} {zs : List ℕ} → b ≡ false → zs ≡ pick b xs ys → zs ≡ ys
turned xs ys e q = q ∙ ap (λ (b : Bool). pick b xs ys) e

-- ---- the tests
module _ {lo hi : ℕ} where
  pub interval_is : bad_interval lo hi ≡ false → (lo ≤ hi) × (hi ≤ 4095)
  interval_is e = within lo hi e

  pub interval_fits : lo ≤ hi → hi ≤ 4095 → bad_interval lo hi ≡ false
  interval_fits a b = rw (le-ltb hi lo a, le-ltb 4095 hi b)

module _ {d e : ℕ} {xs : List ℕ} where
  three_is : misplaced d e (length xs) ≡ false → Three d e xs
  three_is q =
      let n : ℕ = length xs in
      let q₁ = or_left (ltb e d || ltb n e || ltb d (n - e)) (ltb (e - d) (n - e)) q in
      let q₂ = or_left (ltb e d || ltb n e) (ltb d (n - e)) q₁ in
      let a : d ≤ e = ltb-false e d (or_left (ltb e d) (ltb n e) q₂) in
      let b : e ≤ n = ltb-false n e (or_right (ltb e d) (ltb n e) q₂) in
      let c : n - e ≤ d = ltb-false d (n - e) (or_right (ltb e d || ltb n e) (ltb d (n - e)) q₁) in
      let f : n - e ≤ e - d = ltb-false (e - d) (n - e) (or_right (ltb e d || ltb n e || ltb d (n - e)) (ltb (e - d) (n - e)) q) in
      record { low = b; high = omega arith; apart = omega arith }

  pub three_fits : Three d e xs → misplaced d e (length xs) ≡ false
  three_fits h =
      let i = h.low in
      let j = h.high in
      let k = h.apart in
      rw (le-ltb e d (omega arith), le-ltb (length xs) e i, le-ltb d (length xs - e) (omega arith), le-ltb (e - d) (length xs - e) (omega arith))

  pub three_kept : {ys : List ℕ} → length ys ≡ length xs → Three d e xs → Three d e ys
  three_kept l h = let i = h.low in let j = h.high in let k = h.apart in record { low = omega arith; high = omega arith; apart = omega arith }

-- both tests
module _ {lo hi d e : ℕ} {xs : List ℕ} where
  pub fit_is : (bad_interval lo hi || misplaced d e (length xs)) ≡ false → ((lo ≤ hi) × (hi ≤ 4095)) × Three d e xs
  fit_is q = (interval_is (or_left (bad_interval lo hi) (misplaced d e (length xs)) q), three_is (or_right (bad_interval lo hi) (misplaced d e (length xs)) q))

  fits : (lo ≤ hi) × (hi ≤ 4095) → Three d e xs → (bad_interval lo hi || misplaced d e (length xs)) ≡ false
  fits i h = rw (interval_fits i.0 i.1, three_fits h)

  pub until_all : (ys : List ℕ) {zs : List ℕ} → (lo ≤ hi) × (hi ≤ 4095) → length ys ≡ length xs → Three d e xs
      → zs ≡ pick (bad_interval lo hi || misplaced d e (length ys)) ys (until_later d e lo hi ys) → zs ≡ until_later d e lo hi ys
  until_all ys i l h q =
      turned ys (until_later d e lo hi ys) (ap (λ (n : ℕ). bad_interval lo hi || misplaced d e n) l ∙ fits i h) q

-- ---- what a fit call leaves
module _ {lo hi : ℕ} (a : lo ≤ hi) (b : hi ≤ 4095) where
  pub some_turned : {xs ys : List ℕ} → ys ≡ pick (bad_interval lo hi) xs (some_later lo hi xs) → Turned (eventually (span xs) lo hi (bit_at xs)) xs ys
  unfolding some_later
  some_turned {xs} q = record { is = turned xs (some_later lo hi xs) (interval_fits a b) q }

  pub whole_turned : {xs ys : List ℕ} → ys ≡ pick (bad_interval lo hi) xs (whole_later lo hi xs) → Turned (whole lo hi (bit_at xs)) xs ys
  unfolding whole_later
  whole_turned {xs} q = record { is = turned xs (whole_later lo hi xs) (interval_fits a b) q }

  pub all_turned : (n : ℕ) {xs ys : List ℕ} → ys ≡ pick (bad_interval lo hi) xs (all_later lo hi n xs)
      → Turned (below n (opposite (eventually (span xs) lo hi (flipped n xs)))) xs ys
  unfolding all_later
  all_turned n {xs} q = record { is = turned xs (all_later lo hi n xs) (interval_fits a b) q }
