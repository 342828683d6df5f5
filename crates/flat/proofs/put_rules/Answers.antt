-- A loop over the rules that writes the bytes behind the first ones, a rule at a time. Assumes nothing.
use mathlib.Core.Path.{◌≡◌, ◌∙◌}
use native.Mathlib.Omega.{arith}
use borrow.Author.Rules.{rules}
use Rattle.flat.proofs.Laws.{over_from, over_all, rule_put}
use Rattle.flat.proofs.put_rules.Goals as goal

pub loop-i-init : goal.loop-i-init
loop-i-init c = (search rules, over_from _ _ 514 c.requires)

pub loop-i-preserved : goal.loop-i-preserved
loop-i-preserved c =
    let a = c.args in
    let l = c.loop-i in
    let o = rule_put a.t a.out.now (search rules) l.i (omega arith) (omega arith) (c.copy_from_slice.ensures.after ∙ c.rule_bytes.ensures) l.invariant.1 in
    (omega arith, o)

pub returns : goal.returns
returns c =
    let l = c.loop-i in
    let e : l.i ≡ 8 = omega arith in
    over_all _ _ 546 (search rules) (rw e at l.invariant.1)
