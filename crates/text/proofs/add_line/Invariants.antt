-- The nodes of the tape one after the other, then the rule. Assumes nothing.
use Prim.Native.Nat.{◌-◌}
use Rattle.text.proofs.Growing.{Grown}
use Rattle.text.proofs.add_line.Given as goal

abbrev pub invariant-loop-k : goal.invariant-loop-k
invariant-loop-k l = Grown l.initial.u l.cells l.count l.base l.u l.ds l.k

abbrev pub decreases-loop-k : goal.decreases-loop-k
decreases-loop-k l = l.count - l.k
