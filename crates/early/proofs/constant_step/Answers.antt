-- `early::constant_step` meets its contract. Assumes nothing.
use Rattle.early.proofs.Both.{of_constant, few_bits}
use Rattle.early.proofs.constant_step.Goals as goal

pub overflow_sub-n : goal.overflow_sub-n
overflow_sub-n c = few_bits c.args.x c.args.n c.bits_of-yes.ensures

pub returns : goal.returns
returns c states =
    let p = c.requires in
    let e = c.places-p.ensures in
    of_constant p.0 states c.put_fill.new.s c.put_fill-2.new.s c.bits_of-yes.result p.1 c.bits_of-yes.ensures
    (rw e at c.put_fill.ensures) c.put_fill.auto.s (rw e at c.put_fill-2.ensures)
