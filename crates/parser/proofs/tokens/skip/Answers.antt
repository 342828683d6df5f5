-- A loop over spaces. Assumes nothing.
use native.Mathlib.Omega.{arith}
use Rattle.grammar.specs.Grammar.{none}
use Rattle.parser.proofs.Laws.{skip_more}
use Rattle.parser.proofs.tokens.skip.Goals as goal

pub loop-i-init : goal.loop-i-init
loop-i-init c = (omega arith, omega arith, none)

pub loop-i-preserved : goal.loop-i-preserved
loop-i-preserved c =
    let h = c.is_at.ensures.inside c.loop-i-test.true in
    (omega arith, omega arith, skip_more c.args.text.now c.args.at c.loop-i.i c.loop-i.invariant.2 h (c.is_at.ensures.byte c.loop-i-test.true))
