-- By what the test says. Assumes nothing.
use mathlib.Core.Path.{sym, ◌∙◌}
use Rattle.needed.proofs.mark_node.Goals as goal

pub returns-then-is_marked : goal.returns-then-is_marked
returns-then-is_marked c = rw (sym c.is_marked.ensures ∙ c.if-is_marked.true) c.mark_operands.ensures

pub returns : goal.returns
returns c = rw (sym c.is_marked.ensures ∙ c.if-is_marked.false)
