-- `signal::part_word` meets its contract. The invariant: x has the first j bits. Assumes nothing.
use mathlib.Core.Path.{◌≡◌}
use Prim.Native.Nat.{◌+◌, ◌-◌, ◌≤◌}
use Rattle.lists.specs.Bits.{number}
use Rattle.signal.specs.Signal.{signal_column}
use Rattle.signal.proofs.part_word.Given as goal

abbrev pub invariant-loop-j : goal.invariant-loop-j
invariant-loop-j l = (l.x ≡ number l.j (λ k. signal_column l.i l.states (l.from + k))) × (l.j ≤ l.count)

abbrev pub decreases-loop-j : goal.decreases-loop-j
decreases-loop-j l = l.count - l.j
