-- No line ends between i and the place. Assumes nothing.
use native.Mathlib.Omega.{arith}
use Prim.Native.Nat.{◌+◌, ◌-◌}
use mathlib.Core.Path.{◌≡◌, sym, ◌∙◌}
use Rattle.message.proofs.Laws.{start_here, start_before, start_first}
use Rattle.message.proofs.line_start.Goals as goal

pub returns-then-before-i-eq10 : goal.returns-then-before-i-eq10
returns-then-before-i-eq10 c =
    let i = c.loop-i.i in
    let e : i - 1 + 1 ≡ i = omega arith in
    (start_here c.args.before.now (i - 1) c.if-before-i-eq10.true ∙ rw e (sym c.loop-i.invariant.1), omega (arith, c.loop-i.invariant.0))

pub loop-i-preserved : goal.loop-i-preserved
loop-i-preserved c =
    let i = c.loop-i.i in
    (omega (arith, c.loop-i.invariant.0), c.loop-i.invariant.1 ∙ start_before c.args.before.now (i - 1) i (omega arith) c.if-before-i-eq10.false)

pub returns : goal.returns
returns c =
    let e : c.loop-i.i ≡ 0 = omega arith in
    (start_first c.args.before.now c.loop-i.i e ∙ sym c.loop-i.invariant.1, omega arith)
