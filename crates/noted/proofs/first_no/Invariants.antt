-- A search that has passed w words by. Assumes nothing.
use Prim.Native.Nat.{◌-◌, ◌≤◌}
use lib.ListN.{length}
use Rattle.noted.proofs.Scan.{Passed}
use Rattle.noted.proofs.first_no.Given as goal

abbrev pub invariant-loop-w : goal.invariant-loop-w
invariant-loop-w l = (l.w ≤ length l.words) × Passed l.words l.count l.w

abbrev pub decreases-loop-w : goal.decreases-loop-w
decreases-loop-w l = length l.words - l.w
