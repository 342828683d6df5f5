-- What the callees ensure, put together. Assumes nothing.
use Rattle.needed.proofs.mark_operands.Goals as goal

pub returns : goal.returns
returns c = cc
