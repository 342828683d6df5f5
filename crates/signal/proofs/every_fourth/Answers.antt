-- `signal::every_fourth` meets its contract. The invariant: x has the first k of the eight bits. Assumes nothing.
use Prim.Native.Nat.{◌+◌}
use borrow.Author.Rules.{rules}
use Rattle.lists.proofs.Numbers.{number_none, number_done}
use Rattle.signal.specs.Signal.{signal_column}
use Rattle.signal.proofs.Signals.{fourths_more}
use Rattle.signal.proofs.every_fourth.Goals as goal

pub loop-k-init : goal.loop-k-init
loop-k-init c = (number_none _, search rules)

pub loop-k-preserved : goal.loop-k-preserved
loop-k-preserved c =
    let l = c.loop-k in
    let a = c.args in
    (fourths_more l.k (λ j. signal_column a.i a.states.now (a.from + j)) (search rules) l.invariant.0 c.digit_of.ensures, search rules)

pub returns : goal.returns
returns c = number_done _ c.loop-k.invariant.0 (search rules) (search rules)
