-- `verdict::run` meets its contract. The invariant: the columns of the first i nodes that are marked are there. Assumes nothing.
use Prim.Native.Nat.{◌+◌, ◌-◌, ◌≤◌}
use mathlib.Core.List.{◌++◌}
use mathlib.Core.Path.{◌≡◌}
use lib.ListN.{length}
use Rattle.verdict.specs.Code.Steps.{Columns}
use Rattle.verdict.proofs.run.Given as goal

abbrev pub invariant-loop-i : goal.invariant-loop-i
invariant-loop-i l = Columns l.i l.t.nodes l.marks (l.older ++ l.newer) l.initial.s l.s × (length l.s ≡ length l.initial.s) × (l.i ≤ l.upto) × (length l.t.nodes ≡ 64) × (l.n ≡ length l.older + length l.newer)

abbrev pub decreases-loop-i : goal.decreases-loop-i
decreases-loop-i l = l.upto - l.i
