-- `pair::into_second` meets its contract. The invariant: the first w words of the second register are written. Assumes nothing.
use mathlib.Core.Bool.{Bool}
use Rattle.column.specs.Column.{Bitwise}
use Rattle.pair.specs.Pair.{both}
use Rattle.pair.proofs.Pairs.{Into}
use Rattle.pair.proofs.into_second.Given as goal

abbrev pub invariant-loop-w : goal.invariant-loop-w
invariant-loop-w g l = (op : Bool → Bool → Bool) → Bitwise (λ x y z. goal.F-post g l.f x y z) op → Into (both op) l.d l.d 0 l.words l.w l.initial.s l.s
