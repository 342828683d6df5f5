-- A loop over the nodes that writes the bytes behind the first ones, a node at a time. Assumes nothing.
use Prim.Native.Nat.{◌+◌, ◌*◌, ◌≤◌, ◌-◌}
use Rattle.lists.proofs.Loops.{Over}
use Rattle.flat.specs.Flat.{table_byte}
use Rattle.flat.proofs.put_nodes.Given as goal

abbrev pub invariant-loop-i : goal.invariant-loop-i
invariant-loop-i l = (l.i ≤ 64) × Over (table_byte l.t) l.initial.out l.out (2 + 8 * l.i)

abbrev pub decreases-loop-i : goal.decreases-loop-i
decreases-loop-i l = 64 - l.i
