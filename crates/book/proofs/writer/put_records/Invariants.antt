-- A loop over the records. Assumes nothing.
use Prim.Native.Nat.{◌+◌, ◌≤◌, ◌-◌}
use Rattle.book.specs.Writing.{many, entry_for}
use Rattle.book.proofs.Writes.{Put}
use Rattle.book.proofs.writer.put_records.Given as goal

abbrev pub invariant-loop-k : goal.invariant-loop-k
invariant-loop-k l = (l.k ≤ 1 + many l.t) × Put (entry_for l.t) l.initial.out l.out l.k

abbrev pub decreases-loop-k : goal.decreases-loop-k
decreases-loop-k l = l.n - l.k
