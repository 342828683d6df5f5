-- `early::not_step` meets its contract. Assumes nothing.
use Rattle.early.proofs.Both.{negated}
use Rattle.early.proofs.not_step.Goals as goal

pub returns : goal.returns
returns c states =
    let p = c.requires in
    let e = c.places-p.ensures in
    negated p.0 states c.put_copy.new.s c.put_copy-2.new.s p.1 (rw e at c.put_copy.ensures) c.put_copy.auto.s (rw e at c.put_copy-2.ensures)
