-- Which record is served next: the first that waits after the place served last, wrapping round (A9).
use Rattle.std.specs.Prelude.{ℕ, zero, suc, ◌+◌, ◌-◌, Bool, List, length, ltb}
use Rattle.lists.specs.Choice.{pick}
use Rattle.records.specs.declared.Record.{Record}
use Rattle.records.specs.Records.{record_at}

-- the least j below m with f j, or m
unfoldable pub least : (ℕ → Bool) → ℕ → ℕ
least f zero = 0
least f (suc m) = pick (f 0) 0 (suc (least (λ i. f (suc i)) m))

-- where a search begins among n places: after the place served last, and at 0 if that is outside the list
abbrev pub start_of : ℕ → ℕ → ℕ
start_of n from = pick (ltb from n) (from + 1) 0

-- the place j steps on from `start`, wrapping round
abbrev pub stepped : ℕ → ℕ → ℕ → ℕ
stepped n start j = pick (ltb (start + j) n) (start + j) (start + j - n)

-- a block waits with the record at a place
abbrev pub waits_at : List Record → ℕ → Bool
waits_at rs i = ltb 0 (record_at rs i).waiting

-- of n places, how many are passed by before one where f holds; all if there is none
unfoldable pub passed : (ℕ → Bool) → ℕ → ℕ → ℕ
passed f n from = least (λ j. f (stepped n (start_of n from) j)) n

-- the first place after `from`, wrapping round, where f holds; n if there is none
unfoldable pub next : (ℕ → Bool) → ℕ → ℕ → ℕ
next f n from = pick (ltb (passed f n from) n) (stepped n (start_of n from) (passed f n from)) n

-- the place of the record to serve, and the number of records if none waits
abbrev pub next_waiting : List Record → ℕ → ℕ
next_waiting rs from = next (waits_at rs) (length rs) from
