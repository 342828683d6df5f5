-- `rows::put_each` meets its contract. The invariant: i rows are in the buffer, and the front of the next row is there. Assumes nothing.
use Prim.Native.Nat.{ℕ, ◌+◌, ◌-◌}
use native.Mathlib.Omega.{arith}
use mathlib.Core.Path.{◌≡◌, refl, sym, ◌∙◌}
use mathlib.Core.List.{List}
use lib.ListN.{length, take}
use lib.Seq.{length-take-le}
use Rattle.lists.proofs.Bits.{digit_lt}
use Rattle.lists.specs.Bits.{bit_at}
use Rattle.rows.proofs.Laws.{rows_more, rows_none, put_length}
use Rattle.rows.specs.Code.Steps.{Fronted}
use Rattle.rows.proofs.put_each.Goals as goal

-- the front is in its buffer
front_length : {name buffer : List ℕ} {tick k : ℕ} → Fronted name tick buffer k → length (take k buffer) ≡ k
front_length f = length-take-le _ _ (omega (arith, f.short, f.within))

pub loop-i-init : goal.loop-i-init
loop-i-init c =
    let a = c.args in
    let e : a.tick + 0 ≡ a.tick = omega arith in
    (rows_none _ _ _ (bit_at a.words.now), omega arith, rw e c.put_front-k.ensures, omega arith, refl)

pub slice_bounds-put_row-end-in-loop-i : goal.slice_bounds-put_row-end-in-loop-i
slice_bounds-put_row-end-in-loop-i c = sym (front_length c.loop-i.invariant.2)

pub put_row-at-requires : goal.put_row-at-requires
put_row-at-requires c =
    let i = c.loop-i.invariant in
    (omega (arith, c.requires.0, i.1, i.4, c.loop-i-test.true), rw (front_length i.2) i.2.short, rw c.verdict_at.ensures (digit_lt (bit_at c.args.words.now c.loop-i.i)))

pub renew-k-requires : goal.renew-k-requires
renew-k-requires c =
    let p = c.loop-i in
    let f = p.invariant.2 in
    let e : c.args.tick + p.i + 1 - 1 ≡ c.args.tick + p.i = omega arith in
    (f.within, c.requires.1, omega arith, rw e f)

pub loop-i-preserved : goal.loop-i-preserved
loop-i-preserved c =
    let p = c.loop-i in
    let a = c.args in
    let e : a.tick + (p.i + 1) ≡ a.tick + p.i + 1 = omega arith in (
      rows_more a.name.now a.out.now p.out c.put_row-at.new.out a.tick p.at c.put_row-at.result p.i (bit_at a.words.now) (omega (arith, c.requires.3, c.loop-i-test.true)) p.invariant.0 _ _ p.invariant.2.bytes c.verdict_at.ensures c.put_row-at.ensures.put,
      omega (arith, c.put_row-at.ensures.upper_bound, p.invariant.1),
      rw e c.renew-k.ensures,
      omega arith,
      put_length c.put_row-at.ensures.put ∙ p.invariant.4,
    )

pub returns : goal.returns
returns c =
    let e : c.loop-i.i ≡ c.args.count = omega (arith, c.loop-i.invariant.3, c.loop-i-test.false) in
    rw e at c.loop-i.invariant.0
