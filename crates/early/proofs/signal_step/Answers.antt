-- `early::signal_step` meets its contract. Assumes nothing.
use Rattle.early.proofs.Both.{signal}
use Rattle.early.proofs.signal_step.Goals as goal

pub returns : goal.returns
returns c =
    let p = c.requires in
    let e = c.places-p.ensures in
    signal p.0 c.args.states.now c.put_signal.new.s c.put_not.new.s p.1 (rw e at c.put_signal.ensures) c.put_signal.auto.s (rw e at c.put_not.ensures)
