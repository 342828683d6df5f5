-- The near distance is a measure. Assumes nothing.
use Prim.Native.Nat.{ℕ}
use native.Mathlib.Omega.{arith}
use mathlib.Core.Path.{◌≡◌, refl}
use Rattle.mltl.specs.Mltl.{Formula, near}
use Rattle.table.specs.declared.Node.{Node}
use Rattle.table.specs.Nodes.{Op, Unknown, Signal, Top, Bottom, Not, And, Or, Finally, Globally, Until, Release, formula_as, Measured, MeasureLaws, cap}
use Rattle.reach.specs.declared.Near.{Near}
use Rattle.reach.specs.Code.Steps.{near_as, near_measure, near_step}

near_as_lem : (o : Op) (n : Node) (a b : Formula) → near (formula_as o n a b) ≡ near_as o n.lo n.hi (near a) (near b)
unfolding near
near_as_lem Unknown n a b = refl
near_as_lem Signal n a b = refl
near_as_lem Top n a b = refl
near_as_lem Bottom n a b = refl
near_as_lem Not n a b = refl
near_as_lem And n a b = refl
near_as_lem Or n a b = refl
near_as_lem Finally n a b = refl
near_as_lem Globally n a b = refl
near_as_lem Until n a b = refl
near_as_lem Release n a b = refl

pub near_measured : Measured near near_as
unfolding near
near_measured = record { nothing = refl; node = near_as_lem }

-- one that is too long stays too long
through : (o : Op) (lo hi a b : ℕ) → cap (near_as o lo hi (cap a) (cap b)) ≡ cap (near_as o lo hi a b)
through Unknown lo hi a b = refl
through Signal lo hi a b = refl
through Top lo hi a b = refl
through Bottom lo hi a b = refl
through Not lo hi a b = omega arith
through And lo hi a b = omega arith
through Or lo hi a b = omega arith
through Finally lo hi a b = omega arith
through Globally lo hi a b = omega arith
through Until lo hi a b = omega arith
through Release lo hi a b = omega arith

pub near_laws : (m : Near) → MeasureLaws (near_measure m) (near_step m)
near_laws m = record { measured = near_measured; through = through }
