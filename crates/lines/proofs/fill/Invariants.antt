-- `lines::fill` meets its contract. The invariant: some lines were read, and the rest is still to be read. Assumes nothing.
use Prim.Native.Nat.{◌-◌}
use lib.ListN.{length}
use Rattle.lines.proofs.Laws.{Reached}
use Rattle.lines.proofs.fill.Given as goal

abbrev pub invariant-loop-i : goal.invariant-loop-i
invariant-loop-i l = Reached l.part l.initial.block l.at l.count l.initial.l l.block l.i l.l l.k

abbrev pub decreases-loop-i : goal.decreases-loop-i
decreases-loop-i l = length l.part - l.i
