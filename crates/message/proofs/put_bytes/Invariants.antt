-- The invariant: the bytes that were taken are put. Assumes nothing.
use Prim.Native.Nat.{◌+◌}
use lib.ListN.{get_or}
use Rattle.lists.specs.Sequence.{ticks}
use Rattle.message.specs.Message.{shown_byte}
use Rattle.message.specs.Code.Steps.{PutInRoom}
use Rattle.message.proofs.put_bytes.Given as goal

abbrev pub invariant-loop-b : goal.invariant-loop-b
invariant-loop-b l = PutInRoom l.initial.out l.at (ticks (λ j. shown_byte (get_or l.text (l.from + j) 0)) l.b-index) l.out l.next
