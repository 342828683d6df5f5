-- A no is found, and its tick counted; or there is none. Assumes nothing.
use native.Mathlib.Omega.{arith}
use Prim.Native.Nat.{◌<◌}
use mathlib.Core.Path.{◌≡◌, sym}
use borrow.Author.Tests.{lt-ltb, le-ltb}
use Rattle.lists.specs.Bits.{bit_at}
use Rattle.table.specs.Nodes.{wait_of}
use Rattle.noted.specs.Noted.{given}
use Rattle.noted.proofs.Outcomes.{given_is, with_no, without_no}
use Rattle.noted.proofs.verdicts_of.Goals as goal

pub overflow_add-result : goal.overflow_add-result
overflow_add-result c =
    let l : c.first_no-place.result < c.args.count = c.if-place-count.true in
    let k = c.requires (omega arith) in
    let g : c.given_by.result ≡ given (wait_of c.args.old) c.args.s = given_is c.args.old c.args.s c.given_by.ensures.0 k.0 in
    omega (arith, k.1 c.given_by.ensures.1)

pub returns-then-place-count : goal.returns-then-place-count
returns-then-place-count c =
    let a = c.args in
    let l : c.first_no-place.result < a.count = c.if-place-count.true in λ k.
    with_no k 0 (bit_at a.words.now) a.count (given (wait_of a.old) a.s) c.first_no-place.ensures l
    (given_is a.old a.s c.given_by.ensures.0 (c.requires (omega arith)).0)

pub returns-then-count-gt0 : goal.returns-then-count-gt0
returns-then-count-gt0 c =
    let a = c.args in λ k.
    without_no k 0 (bit_at a.words.now) a.count (given (wait_of a.old) a.s) c.first_no-place.ensures (sym (lt-ltb 0 a.count (omega arith))) c.if-place-count.false

pub returns-else-count-gt0 : goal.returns-else-count-gt0
returns-else-count-gt0 c =
    let a = c.args in λ k.
    without_no k 0 (bit_at a.words.now) a.count (given (wait_of a.old) a.s) c.first_no-place.ensures (sym (le-ltb 0 a.count (omega arith))) c.if-place-count.false
