-- A loop that takes one node after another. Assumes nothing.
use Rattle.simplify.specs.Code.Passes.{no_build, step_of}
use Rattle.lists.proofs.Loops.{Folded}
use Rattle.simplify.proofs.rebuild.Given as goal

abbrev pub invariant-loop-n : goal.invariant-loop-n
invariant-loop-n l = Folded step_of no_build l.n-items l.b l.n-index
