-- What the operators ask for holds of a node that can be computed. Assumes nothing.
use mathlib.Core.Path.{◌≡◌, sym, ap, subst}
use mathlib.Core.Bool.{true, false, not, ◌&&◌}
use mathlib.Core.List.{List}
use Prim.Native.Nat.{ℕ, ◌+◌, ◌*◌, ◌≤◌, ◌<◌}
use native.Mathlib.Omega.{arith}
use lib.ListN.{length}
use Rattle.limits.specs.Limits.{register_words, scratch_words}
use Rattle.lists.specs.Bits.{words}
use Rattle.lists.proofs.Tests.{◌also◌}
use Rattle.interval.specs.Parts.{bad_interval}
use Rattle.table.specs.Nodes.{Op, op_of, uses_of}
use Rattle.table.specs.Sound.{fits}
use Rattle.table.specs.declared.Node.{Node}
use Rattle.table.specs.declared.Uses.{Uses}
use Rattle.table.proofs.Soundness.{fits_iff}
use Rattle.windows.proofs.Results.{interval_fits}
use Rattle.operators.specs.Operators.{one_fits, four_fit, Operand}
use Rattle.operators.proofs.Fits.{one_fits_lem, four_fit_lem}
use Rattle.layout.specs.Layout.{left_place, work_place, Place, Computable}
use Rattle.layout.proofs.Steps.{operand_of, four_of}

-- ---- a node that keeps its limits, by the fields that its kind uses
pub record Fitting (u : Uses) (i : ℕ) (x : Node) : Type 0 where
  pub ordered : x.lo ≤ x.hi
  pub interval : u.interval ≡ true → x.hi < 4096
  pub left : u.left ≡ true → x.left < i
  pub right : u.right ≡ true → x.right < i

pub fit_as : {o : Op} (i : ℕ) (x : Node) → o ≡ op_of x.kind → fits i x ≡ true → Fitting (uses_of o) i x
fit_as i x e h =
    let f = (fits_iff i x).0 h in
    subst (λ (o : Op). Fitting (uses_of o) i x) (sym e)
    (record { ordered = f.ordered; interval = f.interval.limited; left = f.left.limited; right = f.right.limited })

pub place_of : {i n : ℕ} {x : Node} {xs : List ℕ} → Computable scratch_words i n x xs → Place (register_words * i) (words n) xs
place_of c = let i = c.place in let s = c.short in record { node = omega arith; small = omega arith; enough = c.enough }

-- an operand's register lies below the node's
pub apart : {l i : ℕ} → l < i → register_words * l + register_words ≤ register_words * i
apart h = omega arith

module _ {i n : ℕ} {x : Node} {xs : List ℕ} (h : Computable scratch_words i n x xs) where
  abbrev own : ℕ
  own = register_words * i

  abbrev left : ℕ
  left = register_words * x.left

  abbrev right : ℕ
  right = register_words * x.right

  abbrev m : ℕ
  m = words n

  module _ {o : Op} (e : o ≡ op_of x.kind) where
    pub left_fits : (uses_of o).left ≡ true → Operand left own m xs
    left_fits u = operand_of (place_of h) (apart ((fit_as i x e h.fitting).left u))

    pub right_fits : (uses_of o).right ≡ true → Operand right own m xs
    right_fits u = operand_of (place_of h) (apart ((fit_as i x e h.fitting).right u))

    pub fine : (uses_of o).interval ≡ true → bad_interval x.lo x.hi ≡ false
    fine u = let w = fit_as i x e h.fitting in let l = w.interval u in interval_fits w.ordered (omega arith)

    pub one_window : (uses_of o).left ≡ true → (uses_of o).interval ≡ true → (one_fits left own m (length xs) && not (bad_interval x.lo x.hi)) ≡ true
    one_window u v = one_fits_lem (left_fits u) also ap not (fine v)

    pub two_window : (uses_of o).left ≡ true → (uses_of o).right ≡ true → (uses_of o).interval ≡ true
        → (four_fit left right own left_place work_place m (length xs) && not (bad_interval x.lo x.hi)) ≡ true
    two_window u v r =
        let w = fit_as i x e h.fitting in four_fit_lem (four_of (place_of h) (apart (w.left u)) (apart (w.right v))) also ap not (fine r)
