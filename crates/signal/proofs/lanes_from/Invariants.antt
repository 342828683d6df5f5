-- `signal::lanes_from` meets its contract. The invariant: the first k lanes of each half are made. Assumes nothing.
use mathlib.Core.Path.{◌≡◌}
use Prim.Native.Nat.{◌-◌, ◌≤◌}
use lib.ListN.{length}
use Rattle.signal.specs.Signal.{signal_column}
use Rattle.signal.specs.Code.Steps.{Lanes}
use Rattle.signal.proofs.lanes_from.Given as goal

abbrev pub invariant-loop-k : goal.invariant-loop-k
invariant-loop-k l = Lanes (signal_column l.i l.states) l.from l.k l.l × (l.k ≤ 4) × (length l.l ≡ 8)

abbrev pub decreases-loop-k : goal.decreases-loop-k
decreases-loop-k l = 4 - l.k
