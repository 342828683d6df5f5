-- The next step may begin.
use Rattle.watch.specs.Steps.{Ready}
use Rattle.watch.proofs.run.Given as goal

abbrev pub invariant-loop : goal.invariant-loop
invariant-loop g l = Ready l.p

abbrev pub invariant-loop-2 : goal.invariant-loop-2
invariant-loop-2 g l = Ready l.p
