-- `rows::put_each` meets its contract. The invariant: i rows are in the buffer, and the front of the next row is there. Assumes nothing.
use Prim.Native.Nat.{◌+◌, ◌-◌, ◌*◌, ◌≤◌}
use mathlib.Core.Path.{◌≡◌}
use lib.ListN.{length}
use Rattle.lists.specs.Sequence.{ticks}
use Rattle.lists.specs.Bits.{bit_at}
use Rattle.rows.specs.Rows.{Put, rows_from}
use Rattle.rows.specs.Code.Steps.{Fronted}
use Rattle.rows.proofs.put_each.Given as goal

abbrev pub invariant-loop-i : goal.invariant-loop-i
invariant-loop-i l = Put l.initial.out 0 (rows_from l.name l.tick (ticks (bit_at l.words) l.i)) l.out l.at × (l.at ≤ 32 * l.i) × Fronted l.name (l.tick + l.i) l.front l.k × (l.i ≤ l.count) × (length l.out ≡ length l.initial.out)

abbrev pub decreases-loop-i : goal.decreases-loop-i
decreases-loop-i l = l.count - l.i
