-- The splitting of an interval (document 000, function d).
use Rattle.std.specs.Prelude.{ℕ, zero, suc, ◌+◌, ◌-◌, ◌^◌, Bool, ◌||◌, List, [], ◌∷◌, ltb, leb, length, replicate, Result, Ok, Err}
use Rattle.limits.specs.Limits.{max_interval, max_parts}
use Rattle.refusals.specs.Numbers.{INTERVAL}
use Rattle.lists.specs.Choice.{pick}
use Rattle.lists.specs.Sequence.{padded}
use Rattle.refusals.specs.Refusals.{number_of}
use Rattle.refusals.specs.declared.Refusal.{Refusal}
use Rattle.interval.specs.declared.Parts.{Parts}

-- the largest k, up to b, with 2^k - 1 at most v
unfoldable pub largest_to : ℕ → ℕ → ℕ
largest_to zero v = 0
largest_to (suc b) v = pick (leb (2 ^ suc b) (v + 1)) (suc b) (largest_to b v)

-- the largest k with 2^k - 1 at most v: it is at most v
abbrev pub top : ℕ → ℕ
top v = largest_to v v

-- what is left of v without its largest part
unfoldable pub left : ℕ → ℕ
left v = v - (2 ^ top v - 1)

-- the parts of v, at most f of them: the largest k, and then the parts of what is left
unfoldable pub parts_to : ℕ → ℕ → List ℕ
parts_to zero v = []
parts_to (suc f) zero = []
parts_to (suc f) (suc w) = top (suc w) ∷ parts_to f (left (suc w))

-- the parts of v: each takes 1 or more, so that v of them are enough
unfoldable pub parts : ℕ → List ℕ
parts v = parts_to v v

-- an interval that is refused: lo above hi, or hi above the largest
abbrev pub bad_interval : ℕ → ℕ → Bool
bad_interval lo hi = ltb hi lo || ltb max_interval hi

-- an answer: the number of the refusal or 0, the parts, and their count
pub record Splitting : Type 0 where
  pub number : ℕ
  pub parts : List ℕ
  pub count : ℕ

-- what an answer of the code says
abbrev pub split_told : Result Parts Refusal → Splitting
split_told (Ok p) = record { number = 0; parts = p.ks; count = p.count }
split_told (Err e) = record { number = number_of e; parts = replicate max_parts 0; count = 0 }

-- the answer for [lo, hi]: the parts, zeros up to as many places as there can be parts, and the count; or the number of the refusal and zeros
unfoldable pub splitting : ℕ → ℕ → Splitting
splitting lo hi =
    pick (bad_interval lo hi)
    (record { number = INTERVAL; parts = replicate max_parts 0; count = 0 })
    (record { number = 0; parts = padded 0 max_parts (parts (hi - lo)); count = length (parts (hi - lo)) })
