-- `signal::lanes_from` meets its contract. The invariant: the first k lanes of each half are made. Assumes nothing.
use borrow.Author.Rules.{rules}
use Rattle.signal.proofs.Signals.{lanes_none, lanes_more, lanes_done}
use Rattle.signal.proofs.lanes_from.Goals as goal

pub loop-k-init : goal.loop-k-init
loop-k-init c = (lanes_none, search rules, search rules)

pub loop-k-preserved : goal.loop-k-preserved
loop-k-preserved c = let l = c.loop-k in (lanes_more l.invariant.0 (search rules) l.invariant.2 c.every_fourth.ensures c.every_fourth-in-loop-k.ensures, search rules, search rules)

pub returns : goal.returns
returns c = let l = c.loop-k in lanes_done l.invariant.0 l.invariant.1 c.loop-k-test.false
