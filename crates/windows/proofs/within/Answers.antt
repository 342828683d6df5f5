-- `windows::within` meets its contract. The invariant: the windows are of 2 ^ j bits. Assumes nothing.
use native.Mathlib.Nat.{le_antisymm}
use borrow.Author.Rules.{rules}
use Rattle.windows.proofs.Windows.{window_start, window_twice}
use Rattle.windows.proofs.within.Goals as goal

pub loop-j-init : goal.loop-j-init
loop-j-init g c = ((λ W k. window_start k (λ j. search rules)), search rules)

pub loop-j-preserved : goal.loop-j-preserved
loop-j-preserved g c = ((λ W k. window_twice k c.loop-j.j (search rules) (c.loop-j.invariant.0 W k) c.join_moved.ensures), search rules)

pub returns : goal.returns
returns g c = λ W k. rw (← le_antisymm c.loop-j.invariant.1 c.loop-j-test.false) (c.loop-j.invariant.0 W k)
