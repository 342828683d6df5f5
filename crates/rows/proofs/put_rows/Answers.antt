-- Rows are put where they fit. Assumes nothing.
use native.Mathlib.Omega.{arith}
use Prim.Native.Nat.{ℕ, ◌+◌, ◌-◌, ◌^◌, ◌≤◌, ◌<◌}
use mathlib.Core.Path.{◌≡◌, sym, ap, ◌∙◌}
use mathlib.Core.Bool.{Bool, false, ◌||◌}
use borrow.Author.Rules.{rules}
use borrow.Author.Tests.{ltb-false}
use lib.Dec.{ltb}
use lib.ListN.{length}
use Rattle.io.specs.Digits.{IsDigitCount}
use Rattle.lists.proofs.Tests.{or_left, or_right}
use Rattle.rows.proofs.Laws.{put_none, put_fitting, past_last, decimal_is, places_most}
use Rattle.rows.proofs.put_rows.Goals as goal

module _ (tick count : ℕ) (h : tick < 2 ^ 64) where
  -- the test of the code is that of the definition
  test : (ltb 4096 count || ltb (18446744073709551615 - tick) count) ≡ (ltb 4096 count || ltb 18446744073709551615 (tick + count))
  test = ap (λ (b : Bool). ltb 4096 count || b) (past_last tick count h)

  -- where it is false
  fits : (ltb 4096 count || ltb (18446744073709551615 - tick) count) ≡ false → (count ≤ 4096) × (tick + count ≤ 18446744073709551615)
  fits d =
      let e = sym test ∙ d in
      (ltb-false 4096 count (or_left (ltb 4096 count) (ltb 18446744073709551615 (tick + count)) e), ltb-false 18446744073709551615 (tick + count) (or_right (ltb 4096 count) (ltb 18446744073709551615 (tick + count)) e))

-- the digits of the name
few : (name k : ℕ) → name < 2 ^ 16 → IsDigitCount 10 1 name k → k ≤ 5
few name k h = places_most 5 name k (omega arith) (omega arith)

pub returns-then-count-tick : goal.returns-then-count-tick
returns-then-count-tick c =
    let a = c.args in
    put_none a.name a.tick a.words.now a.count a.text.now (sym (test a.tick a.count c.ranges.tick.fits) ∙ c.if-count-tick.true)

pub put_each-requires : goal.put_each-requires
put_each-requires c =
    let a = c.args in
    let d = c.decimal-k in
    let f = fits a.tick a.count c.ranges.tick.fits c.if-count-tick.false in
    let n : 131072 ≡ length a.text.now = search rules in
    let m : 64 ≡ length a.words.now = search rules in
    (omega (arith, n, f.0), omega (arith, d.ensures.in_bounds, few a.name d.result c.ranges.name.fits d.ensures.len), omega (arith, m, f.0), omega (arith, f.1))

pub returns : goal.returns
returns c =
    let a = c.args in
    let d = c.decimal-k in
    let p = d.ensures.digits ∙ decimal_is a.name d.result (omega (arith, few a.name d.result c.ranges.name.fits d.ensures.len)) d.ensures.len in
    put_fitting a.name a.tick a.words.now a.count a.text.now c.put_each.new.out c.put_each.result _ (sym (test a.tick a.count c.ranges.tick.fits) ∙ c.if-count-tick.false) p c.put_each.ensures
