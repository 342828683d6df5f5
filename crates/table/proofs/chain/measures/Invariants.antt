-- A loop that fills an array with the values of a chain. Assumes nothing.
use mathlib.Core.Path.{◌≡◌}
use Prim.Native.Nat.{◌≤◌}
use lib.ListN.{length}
use Rattle.lists.proofs.Loops.{Made}
use Rattle.table.specs.Nodes.{cap, step_over}
use Rattle.table.proofs.chain.measures.Given as goal

abbrev pub invariant-loop-i : goal.invariant-loop-i
invariant-loop-i g l = (l.i ≤ 64) × (length l.t.nodes ≡ 64) × (length l.ms ≡ 64) × Made (step_over (g.M.Measure.step l.m)) cap l.t.nodes l.ms l.i
