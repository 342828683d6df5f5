-- `signal::part_word` meets its contract. The invariant: x has the first j bits. Assumes nothing.
use Prim.Native.Nat.{◌+◌}
use borrow.Author.Rules.{rules}
use Rattle.lists.proofs.Numbers.{number_none, number_more, number_done}
use Rattle.signal.specs.Signal.{signal_column}
use Rattle.signal.proofs.part_word.Goals as goal

pub loop-j-init : goal.loop-j-init
loop-j-init c = (number_none _, search rules)

pub loop-j-preserved : goal.loop-j-preserved
loop-j-preserved c =
    let l = c.loop-j in
    let a = c.args in
    (number_more 64 l.j (λ k. signal_column a.i a.states.now (a.from + k)) (search rules) l.invariant.0 c.digit_of.ensures, search rules)

pub returns : goal.returns
returns c = number_done _ c.loop-j.invariant.0 c.loop-j.invariant.1 c.loop-j-test.false
