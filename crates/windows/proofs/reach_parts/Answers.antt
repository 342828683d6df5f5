-- `windows::reach_parts` meets its contract. The invariant: the windows are widened by the parts so far. Assumes nothing.
use borrow.Author.Rules.{rules}
use lib.ListN.{get_or, take}
use Rattle.windows.proofs.Threes.{parts_more, parts_none, turn_is}
use Rattle.windows.specs.Code.Steps.{width_of}
use Rattle.windows.proofs.reach_parts.Goals as goal

pub loop-k-init : goal.loop-k-init
loop-k-init g c = λ W Q k. let a = c.args in parts_none k a.d a.e a.ks.now a.s.now c.requires.three (λ w. search rules)

pub loop-k-preserved : goal.loop-k-preserved
loop-k-preserved g c = λ W Q k.
    let a = c.args in
    let i = c.loop-k.k-index in
    let ks = a.ks.now in
    parts_more k a.d a.e ks i a.s.now c.loop-k-test.true
    (turn_is k c.requires.three (width_of i ks) (take i ks) (c.loop-k.invariant W Q k) c.copy_into.ensures _ (get_or ks i 0) (c.reach_within.ensures W Q k))
