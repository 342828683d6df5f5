-- Either way the states from place `by` on go down. Assumes nothing.
use mathlib.Core.Path.{◌∙◌}
use native.Mathlib.Omega.{arith}
use Rattle.session.proofs.History.{moved_down}
use Rattle.session.proofs.shift.Goals as goal

pub returns-then-by-eq-MAX_BLOCK : goal.returns-then-by-eq-MAX_BLOCK
returns-then-by-eq-MAX_BLOCK c =
    let a = c.args in
    rw c.if-by-eq-MAX_BLOCK.true (c.copy_within.ensures.after ∙ moved_down a.s.now 1024 a.m (omega arith))

pub returns-else-by-eq-MAX_BLOCK : goal.returns-else-by-eq-MAX_BLOCK
returns-else-by-eq-MAX_BLOCK c = let a = c.args in c.copy_within-else-by-eq-MAX_BLOCK.ensures.after ∙ moved_down a.s.now a.by a.m c.requires
