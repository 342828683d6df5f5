-- `signal::every_fourth` meets its contract. The invariant: x has the first k of the eight bits. Assumes nothing.
use mathlib.Core.Path.{◌≡◌}
use Prim.Native.Nat.{◌+◌, ◌-◌, ◌*◌, ◌≤◌}
use Rattle.lists.specs.Bits.{number}
use Rattle.signal.specs.Signal.{signal_column}
use Rattle.signal.specs.Code.Steps.{fourths}
use Rattle.signal.proofs.every_fourth.Given as goal

abbrev pub invariant-loop-k : goal.invariant-loop-k
invariant-loop-k l = (l.x ≡ number (4 * l.k) (fourths (λ j. signal_column l.i l.states (l.from + j)))) × (l.k ≤ 8)

abbrev pub decreases-loop-k : goal.decreases-loop-k
decreases-loop-k l = 8 - l.k
