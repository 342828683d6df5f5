-- `lines::scan_line` meets its contract. The invariant: what is scanned from here is what was to be scanned from the start. Assumes nothing.
use mathlib.Core.Path.{◌≡◌}
use Prim.Native.Nat.{◌-◌}
use lib.ListN.{length, drop}
use Rattle.lines.specs.Code.Steps.{scanned}
use Rattle.lines.proofs.scan_line.Given as goal

abbrev pub invariant-loop-i : goal.invariant-loop-i
invariant-loop-i l = scanned (drop l.i l.part) l.i l.l ≡ scanned (drop l.initial.i l.part) l.initial.i l.initial.l

abbrev pub decreases-loop-i : goal.decreases-loop-i
decreases-loop-i l = length l.part - l.i
