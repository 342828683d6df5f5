-- The prefixes from k on are on the tape, the last one first. Assumes nothing.
use Prim.Native.Nat.{◌-◌, ◌≤◌}
use Rattle.grammar.specs.Tape.{tape}
use Rattle.parser.proofs.Ring.{Put}
use Rattle.parser.proofs.tape.apply.Given as goal

abbrev pub invariant-loop-k : goal.invariant-loop-k
invariant-loop-k l = (l.k ≤ l.n) × (l.n - 65 ≤ l.k) × Put l.ring l.n (tape l.initial.cells l.count) l.k (tape l.cells l.c)
