-- The delay is a measure, of today and as it was before A5. Assumes nothing.
use Prim.Native.Nat.{ℕ, ◌+◌, ◌-◌, ◌≤◌, ◌<◌, max}
use native.Mathlib.Omega.{arith}
use mathlib.Core.Path.{◌≡◌, refl, ◌∙◌}
use mathlib.Core.Bool.{Bool, true, false}
use mathlib.Core.Logic.{⊎_elim}
use Rattle.lists.proofs.Tests.{lt_or_le}
use Rattle.mltl.specs.Mltl.{Formula, delay_by}
use Rattle.mltl.proofs.Until.{until_early, until_once}
use Rattle.table.specs.declared.Node.{Node}
use Rattle.table.specs.declared.chain.Delay.{Delay}
use Rattle.table.specs.Nodes.{Op, Unknown, Signal, Top, Bottom, Not, And, Or, Finally, Globally, Until, Release, formula_as, Measured, MeasureLaws, until_delay_of, wait_of, delay_as, cap}
use Rattle.table.specs.Code.Steps.{delay_measure, delay_step}

-- ---- delays, by how long U and R wait
module _ (u : ℕ → ℕ → ℕ → ℕ → ℕ) where
  delay_as_lem : (o : Op) (n : Node) (a b : Formula) → delay_by u (formula_as o n a b) ≡ delay_as u o n.lo n.hi (delay_by u a) (delay_by u b)
  unfolding delay_by
  delay_as_lem Unknown n a b = refl
  delay_as_lem Signal n a b = refl
  delay_as_lem Top n a b = refl
  delay_as_lem Bottom n a b = refl
  delay_as_lem Not n a b = refl
  delay_as_lem And n a b = refl
  delay_as_lem Or n a b = refl
  delay_as_lem Finally n a b = refl
  delay_as_lem Globally n a b = refl
  delay_as_lem Until n a b = refl
  delay_as_lem Release n a b = refl

  pub measured : Measured (delay_by u) (delay_as u)
  unfolding delay_by
  measured = record { nothing = refl; node = delay_as_lem }

-- a delay that is too long stays too long
through_right : (hi x b : ℕ) → cap (hi + max x (cap b)) ≡ cap (hi + max x b)
through_right hi x b = omega arith

-- one less of a delay that is too long is not, but hi makes up for it
through_left : (hi a y : ℕ) → 0 < hi → cap (hi + max (cap a - 1) y) ≡ cap (hi + max (a - 1) y)
through_left hi a y h =
    ⊎_elim (λ (l : a < 4097). let e : cap a ≡ a = omega arith in rw e) (λ (l : 4097 ≤ a). let e : cap a ≡ 4096 = omega arith in rw e (omega arith)) (lt_or_le a 4097)

through_until : (old : Bool) (lo hi a b : ℕ) → cap (until_delay_of old lo hi (cap a) (cap b)) ≡ cap (until_delay_of old lo hi a b)
through_until true lo hi a b = omega arith
through_until false lo hi a b =
    ⊎_elim
    (λ (l : lo < hi). rw (until_early lo hi (cap a) (cap b) l, until_early lo hi a b l) (through_right hi (cap a - 1) b ∙ through_left hi a b (omega arith)))
    (λ (l : hi ≤ lo). rw (until_once lo hi (cap a) (cap b) l, until_once lo hi a b l) (omega arith)) (lt_or_le lo hi)

module _ (old : Bool) where
  pub wait_measured : Measured (wait_of old) (delay_as (until_delay_of old))
  wait_measured = measured (until_delay_of old)

  pub through : (o : Op) (lo hi a b : ℕ) → cap (delay_as (until_delay_of old) o lo hi (cap a) (cap b)) ≡ cap (delay_as (until_delay_of old) o lo hi a b)
  through Unknown lo hi a b = refl
  through Signal lo hi a b = refl
  through Top lo hi a b = refl
  through Bottom lo hi a b = refl
  through Not lo hi a b = omega arith
  through And lo hi a b = omega arith
  through Or lo hi a b = omega arith
  through Finally lo hi a b = omega arith
  through Globally lo hi a b = omega arith
  through Until lo hi a b = through_until old lo hi a b
  through Release lo hi a b = through_until old lo hi a b

pub delay_laws : (d : Delay) → MeasureLaws (delay_measure d) (delay_step d)
delay_laws d = record { measured = wait_measured d.old; through = through d.old }
