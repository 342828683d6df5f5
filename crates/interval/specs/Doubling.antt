-- The shorter splitting, for F and G: an interval's length as a power of two and what is left over (document 000's footnote, A7).
use Rattle.std.specs.Prelude.{ℕ, ◌+◌, ◌-◌, ◌^◌, eqb, Result, Ok, Err}
use Rattle.refusals.specs.Numbers.{INTERVAL}
use Rattle.lists.specs.Choice.{pick}
use Rattle.interval.specs.Parts.{top, bad_interval}
use Rattle.refusals.specs.Refusals.{number_of}
use Rattle.refusals.specs.declared.Refusal.{Refusal}
use Rattle.interval.specs.declared.Moves.{Moves}

-- ---- of an interval with hi - lo = v: its length is m = v + 1, and the largest power of two w ≤ m is 2 ^ top v
-- the leftover, m - w
unfoldable pub leftover : ℕ → ℕ
leftover v = (v + 1) - 2 ^ top v

-- how many moves there are: k doublings and, with a leftover, one move more
unfoldable pub moves_for : ℕ → ℕ → ℕ
moves_for k left = pick (eqb left 0) k (k + 1)

unfoldable pub move_count : ℕ → ℕ
move_count v = moves_for (top v) (leftover v)

-- an answer: the number of the refusal or 0, the exponent of w, the leftover and the count
pub record Doubling : Type 0 where
  pub number : ℕ
  pub exponent : ℕ
  pub leftover : ℕ
  pub count : ℕ

-- what an answer of the code says
abbrev pub double_told : Result Moves Refusal → Doubling
double_told (Ok m) = record { number = 0; exponent = m.exponent; leftover = m.leftover; count = m.count }
double_told (Err e) = record { number = number_of e; exponent = 0; leftover = 0; count = 0 }

-- the answer for [lo, hi]: the exponent of w, the leftover and the count; or the number of the refusal and zeros
unfoldable pub doubling : ℕ → ℕ → Doubling
doubling lo hi =
    pick (bad_interval lo hi)
    (record { number = INTERVAL; exponent = 0; leftover = 0; count = 0 })
    (record { number = 0; exponent = top (hi - lo); leftover = leftover (hi - lo); count = move_count (hi - lo) })
