-- `watch::consume` meets its contract. The invariant: the next step may begin, and the bytes so far were read. Assumes nothing.
use Prim.Native.Nat.{◌-◌}
use lib.ListN.{length}
use Rattle.watch.specs.Steps.{Ready}
use Rattle.watch.proofs.Laws.{Through}
use Rattle.watch.proofs.consume.Given as goal

abbrev pub invariant-loop-at : goal.invariant-loop-at
invariant-loop-at g l = Ready l.p × Through l.initial.p l.part l.initial.buffers.history l.initial.buffers.block l.at l.p l.buffers.history l.buffers.block

abbrev pub decreases-loop-at : goal.decreases-loop-at
decreases-loop-at g l = length l.part - l.at
