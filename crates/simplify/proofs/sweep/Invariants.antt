-- A loop that takes one node after another. Assumes nothing.
use Rattle.simplify.specs.Code.Passes.{no_build, keep_by}
use Rattle.lists.proofs.Loops.{Folded}
use Rattle.simplify.proofs.sweep.Given as goal

abbrev pub invariant-loop-n : goal.invariant-loop-n
invariant-loop-n l = Folded (keep_by l.marks) no_build l.nodes l.b l.n-index
