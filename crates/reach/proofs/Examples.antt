-- Values worked by hand, by computation. Assumes nothing.
use Prim.Native.Nat.{ℕ}
use mathlib.Core.Path.{◌≡◌, refl}
use mathlib.Core.Bool.{true, false}
use Rattle.mltl.specs.Mltl.{Formula, signal, const, and, F, U, delay_by, delay, near}
use Rattle.reach.specs.Reach.{Reached, empty, ticks, ticks_within}

-- how far the state of tick s reaches
abbrev range : Formula → ℕ → Reached
range f s = ticks_within (near f) (delay f) s

-- F[1,3] s0 has the near distance 1 and the delay 3: its whole range, one that is cut at tick 0, and none
whole : range (F 1 3 (signal 0)) 5 ≡ ticks 2 4
unfolding near delay_by
whole = refl

cut : range (F 1 3 (signal 0)) 2 ≡ ticks 0 1
unfolding near delay_by
cut = refl

none : range (F 1 3 (signal 0)) 0 ≡ empty
unfolding near delay_by
none = refl

-- (F[0,3] s2) U[1,2] s1: the left operand reads from tick 1 ahead on, and to tick 4
both : range (U 1 2 (F 0 3 (signal 2)) (signal 1)) 9 ≡ ticks 5 8
unfolding near delay_by
both = refl

-- what the simplifier makes of a formula has another range: F[2,3] s0 & true becomes F[2,3] s0, and F[2,3] false becomes false
constant_left : range (and (F 2 3 (signal 0)) (const true)) 9 ≡ ticks 6 9
unfolding near delay_by
constant_left = refl

constant_gone : range (F 2 3 (signal 0)) 9 ≡ ticks 6 7
unfolding near delay_by
constant_gone = refl

interval_left : range (F 2 3 (const false)) 9 ≡ ticks 6 7
unfolding near delay_by
interval_left = refl

interval_gone : range (const false) 9 ≡ ticks 9 9
unfolding near delay_by
interval_gone = refl
