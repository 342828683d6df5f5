-- Line by line, as the definition has it. Assumes nothing.
use mathlib.Core.Path.{◌≡◌}
use Prim.Native.Nat.{◌+◌, ◌*◌, ◌-◌, ◌≤◌}
use lib.ListN.{length}
use Rattle.builder.specs.Built.{Delays}
use Rattle.text.proofs.Reading.{Going}
use Rattle.text.proofs.read.Given as goal

-- a line has two bytes at least, so that their count fits
abbrev pub invariant-loop-i : goal.invariant-loop-i
invariant-loop-i l = (length l.cells ≡ 325) × (l.i ≤ length l.text) × (2 * l.line ≤ l.i + 2) × Delays l.t l.ds × Going l.text l.t l.i l.line

abbrev pub decreases-loop-i : goal.decreases-loop-i
decreases-loop-i l = length l.text - l.i
