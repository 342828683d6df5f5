-- A loop from the last node to the first. Assumes nothing.
use Prim.Native.Nat.{◌≤◌}
use mathlib.Core.Path.{◌≡◌}
use lib.ListN.{length, take}
use Rattle.needed.proofs.Marking.{Marking}
use Rattle.needed.proofs.needed.Given as goal

abbrev pub invariant-loop-i : goal.invariant-loop-i
invariant-loop-i l =
    (l.i ≤ l.count) × (l.i ≤ 64) × (length l.nodes ≡ 64) × Marking l.seed (take l.count l.nodes) l.m l.i
