-- No part of a formula waits longer than it did before A5. Assumes nothing.
use Prim.Native.Nat.{◌≤◌}
use native.Mathlib.Omega.{arith}
use Rattle.mltl.specs.Mltl.{Formula, signal, const, neg, and, or, F, G, U, R, old_delay}
use Rattle.mltl.proofs.Delays.{delay_sooner}
use Rattle.text.specs.Accepted.{longest_by, longest}

pub longest_sooner : (f : Formula) → longest f ≤ longest_by old_delay f
unfolding longest_by
longest_sooner (signal n) = delay_sooner (signal n)
longest_sooner (const b) = delay_sooner (const b)
longest_sooner (neg a) = omega (arith, delay_sooner (neg a), longest_sooner a)
longest_sooner (and a b) = omega (arith, delay_sooner (and a b), longest_sooner a, longest_sooner b)
longest_sooner (or a b) = omega (arith, delay_sooner (or a b), longest_sooner a, longest_sooner b)
longest_sooner (F lo hi a) = omega (arith, delay_sooner (F lo hi a), longest_sooner a)
longest_sooner (G lo hi a) = omega (arith, delay_sooner (G lo hi a), longest_sooner a)
longest_sooner (U lo hi a b) = omega (arith, delay_sooner (U lo hi a b), longest_sooner a, longest_sooner b)
longest_sooner (R lo hi a b) = omega (arith, delay_sooner (R lo hi a b), longest_sooner a, longest_sooner b)
