-- A node that is there, or one more. Assumes nothing.
use mathlib.Core.Path.{◌∙◌, sym}
use Rattle.simplify.proofs.Steps.{enter_new}
use Rattle.simplify.proofs.Build.found.Goals as goal

pub returns-in-None : goal.returns-in-None
returns-in-None c =
    let s = c.new_nodes.ensures in
    enter_new c.args.self.now c.args.n (rw (← s.nodes) s.count) (rw (← s.nodes) (sym c.in-None.is ∙ c.find.ensures))
