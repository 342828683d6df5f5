-- `needed::mark_operand` meets its contract. Assumes nothing.
use Rattle.needed.proofs.mark_operand.Goals as goal

pub returns-then-used-k : goal.returns-then-used-k
returns-then-used-k c = rw c.if-used-k.true c.mark.ensures

pub returns : goal.returns
returns c = rw c.if-used-k.false
