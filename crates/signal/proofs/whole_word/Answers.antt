-- `signal::whole_word` meets its contract. Assumes nothing.
use native.Mathlib.Omega.{arith}
use Rattle.signal.specs.Signal.{signal_column}
use Rattle.signal.proofs.Signals.{fourths_both, fourths_all}
use Rattle.signal.proofs.whole_word.Goals as goal

pub returns : goal.returns
returns c =
    let l = c.lanes_from-l.ensures in
    let a = c.args in
    let f = signal_column a.i a.states.now in
    fourths_all f a.from
    (fourths_both f _ _ (omega arith) c.both.ensures (l.low 0 (omega arith)) (l.high 0 (omega arith)))
    (fourths_both f _ _ (omega arith) c.both-2.ensures (l.low 1 (omega arith)) (l.high 1 (omega arith)))
    (fourths_both f _ _ (omega arith) c.both-3.ensures (l.low 2 (omega arith)) (l.high 2 (omega arith)))
    (fourths_both f _ _ (omega arith) c.both-4.ensures (l.low 3 (omega arith)) (l.high 3 (omega arith)))
