-- A loop over the rules that writes the bytes behind the first ones, a rule at a time. Assumes nothing.
use Prim.Native.Nat.{◌+◌, ◌*◌, ◌≤◌, ◌-◌}
use Rattle.lists.proofs.Loops.{Over}
use Rattle.flat.specs.Flat.{table_byte}
use Rattle.flat.proofs.put_rules.Given as goal

abbrev pub invariant-loop-i : goal.invariant-loop-i
invariant-loop-i l = (l.i ≤ 8) × Over (table_byte l.t) l.initial.out l.out (514 + 4 * l.i)

abbrev pub decreases-loop-i : goal.decreases-loop-i
decreases-loop-i l = 8 - l.i
