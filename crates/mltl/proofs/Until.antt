-- The two cases of how long U and R wait. Assumes nothing.
use Prim.Native.Nat.{ℕ, ◌+◌, ◌-◌, ◌≤◌, ◌<◌, max}
use mathlib.Core.Path.{◌≡◌}
use borrow.Author.Tests.{lt-ltb, le-ltb}
use Rattle.mltl.specs.Mltl.{until_delay}

pub until_early : (lo hi a b : ℕ) → lo < hi → until_delay lo hi a b ≡ hi + max (a - 1) b
until_early lo hi a b l = rw (lt-ltb lo hi l)

pub until_once : (lo hi a b : ℕ) → hi ≤ lo → until_delay lo hi a b ≡ hi + b
until_once lo hi a b l = rw (le-ltb lo hi l)
