-- The ticks from s - d to s - c. Assumes nothing.
use Prim.Native.Nat.{ℕ, ◌-◌, ◌≤◌, ◌<◌}
use native.Mathlib.Omega.{arith}
use mathlib.Core.Path.{◌≡◌}
use mathlib.Core.Logic.{◌↔◌}
use mathlib.Core.Bool.{Bool, true, false}
use borrow.Author.Tests.{ltb-true, ltb-false}
use lib.Dec.{ltb}
use Rattle.lists.specs.Choice.{pick}
use Rattle.mltl.specs.Mltl.{InReach}
use Rattle.reach.specs.Reach.{empty, ticks, Among, Inside}

module _ (c d n s : ℕ) (h : s < n) where
  pub within_iff : (b : Bool) → ltb s c ≡ b → (i : ℕ) → Among (pick b empty (ticks (s - d) (s - c))) i ↔ ((i < n) × InReach c d s i)
  within_iff true e i = (λ x. absurd x, λ x. let l = ltb-true s c e in let k = x.1.to in absurd (omega arith))
  within_iff false e i =
      let l = ltb-false s c e in (
        λ x. (omega arith, record { from = omega arith; to = omega arith }),
        λ x. let p = x.1.from in let q = x.1.to in (omega arith, omega arith),
      )

  pub within_inside : (b : Bool) → ltb s c ≡ b → c ≤ d → Inside n (pick b empty (ticks (s - d) (s - c)))
  within_inside true e l = tt
  within_inside false e l = let k = ltb-false s c e in (omega arith, omega arith)
