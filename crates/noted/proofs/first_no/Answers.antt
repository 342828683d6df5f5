-- A search that has passed w words by. Assumes nothing.
use Prim.Native.Nat.{ℕ, ◌+◌, ◌*◌}
use native.Mathlib.Omega.{arith}
use mathlib.Core.Path.{◌≡◌, sym, ap, ◌∙◌, subst}
use lib.ListN.{length}
use borrow.Author.Rules.{rules}
use Rattle.noted.proofs.Scan.{Passed, passed_none, passed_all, found_few, found_last, pass}
use Rattle.noted.proofs.first_no.Goals.{then-yes-lt64-via-then-yes-lt64, then-yes-lt64-via-else-yes-lt64+then-left-le64}
use Rattle.noted.proofs.first_no.Goals as goal

pub loop-w-init : goal.loop-w-init
loop-w-init c = let a = c.args in (omega arith, passed_none a.words.now a.count)

pub returns-then-yes-lt64 : goal.returns-then-yes-lt64
returns-then-yes-lt64 c =
    let a = c.args in
    let w = c.loop-w in
    ap (λ (n : ℕ). 64 * w.w + n) c.min.ensures
    ∙ elim c.then-yes-lt64.branch [
      | then-yes-lt64-via-then-yes-lt64 b ↦ found_few a.words.now a.count w.w (search rules) c.trailing_ones-yes.ensures w.invariant.1 b.if-yes-lt64.true
      | then-yes-lt64-via-else-yes-lt64+then-left-le64 b ↦ found_last a.words.now a.count w.w (search rules) c.trailing_ones-yes.ensures w.invariant.1 b.if-left-le64.true
    ]

pub loop-w-preserved : goal.loop-w-preserved
loop-w-preserved c =
    let a = c.args in
    let w = c.loop-w in
    (omega arith, pass a.words.now a.count w.w (search rules) c.trailing_ones-yes.ensures w.invariant.1 (omega arith) (omega arith))

pub returns : goal.returns
returns c =
    let l = c.loop-w in
    let a = c.args in
    let e : l.w ≡ length a.words.now = omega arith in
    sym (passed_all a.words.now a.count (subst (Passed a.words.now a.count) e l.invariant.1))
