-- `column::mask` meets its contract. The invariant: the first w words are written. Assumes nothing.
use Prim.Native.Nat.{◌≤◌}
use mathlib.Core.Bool.{Bool}
use Rattle.column.specs.Column.{Swept, Bitwise, masked, register}
use Rattle.column.proofs.mask.Given as goal

abbrev pub invariant-loop-w : goal.invariant-loop-w
invariant-loop-w g l =
    ((op : Bool → Bool → Bool) → Bitwise (λ x y z. goal.F-post g l.f x y z) op → Swept 0 (masked op l.n (register 0 l.w-end l.initial.s)) l.w l.initial.s l.s) × (l.w ≤ l.w-end)
