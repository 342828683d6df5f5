-- The lines that the program watch writes (document 01, Program and C entry), as lists of bytes; what is put into a buffer.
use Rattle.std.specs.Prelude.{◌≡◌, Bool, ◌||◌, List, [], ◌∷◌, ◌++◌, ℕ, zero, suc, ◌+◌, ◌*◌, ◌^◌, ◌≤◌, ◌<◌, ltb, length}
use Rattle.std.proofs.lemmas.List.Edits.{sets}
use Rattle.limits.specs.Limits.{close_words}
use Rattle.io.specs.Digits.{last_digits}
use Rattle.lists.specs.Ascii.{ascii}
use Rattle.lists.specs.Choice.{pick}
use Rattle.lists.specs.Sequence.{ticks}
use Rattle.lists.specs.Bits.{bit_at, digit}

-- ---- a number below 10^20 in decimal, with no zero in front
-- how many digits n has, at least k, by a search of f steps
unfoldable pub places_from : ℕ → ℕ → ℕ → ℕ
places_from zero k n = k
places_from (suc f) k n = pick (ltb n (10 ^ k)) k (places_from f (k + 1) n)

unfoldable pub decimal : ℕ → List ℕ
decimal n = last_digits 10 (places_from 19 1 n) n

-- ---- a row: name, tick and verdict, 1 or 0, with single spaces between; every line ends in byte 10
unfoldable pub row : List ℕ → ℕ → ℕ → List ℕ
row name tick verdict = name ++ (32 ∷ decimal tick ++ (32 ∷ (48 + verdict) ∷ 10 ∷ []))

-- the rows of verdicts, from a tick on
unfoldable pub rows_from : List ℕ → ℕ → List Bool → List ℕ
rows_from name tick [] = []
rows_from name tick (v ∷ vs) = row name tick (digit v) ++ rows_from name (tick + 1) vs

abbrev pub rows_named : ℕ → ℕ → List Bool → List ℕ
rows_named name = rows_from (decimal name)

-- the most rows of one text: those of a close
abbrev pub max_rows : ℕ
max_rows = 64 * close_words

-- the largest tick that fits its type
abbrev pub max_tick : ℕ
max_tick = 18446744073709551615

-- the rows of the first `count` verdicts of some words; none where they would not fit
abbrev pub fitting : ℕ → ℕ → List ℕ → ℕ → List ℕ
fitting name tick words count = pick (ltb max_rows count || ltb max_tick (tick + count)) [] (rows_named name tick (ticks (bit_at words) count))

-- ---- `book NUMBER RECORD`, `bad line N`, `feed NUMBER`
abbrev pub book_line : ℕ → ℕ → List ℕ
book_line number place = ascii "book " ++ (decimal number ++ (32 ∷ (decimal place ++ (10 ∷ []))))

abbrev pub bad_line : ℕ → List ℕ
bad_line n = ascii "bad line " ++ (decimal n ++ (10 ∷ []))

abbrev pub feed_line : ℕ → List ℕ
feed_line number = ascii "feed " ++ (decimal number ++ (10 ∷ []))

-- ---- xs was put into old at a place: what the buffer holds now, and the place after it
pub record Put (old : List ℕ) (at : ℕ) (xs : List ℕ) (new : List ℕ) (next : ℕ) : Type 0 where
  pub list : new ≡ sets old at xs
  pub place : next ≡ at + length xs
  pub room : at + length xs ≤ length old

-- ---- the same if there is room for all of xs, and nothing otherwise
pub record PutIfRoom (old : List ℕ) (at : ℕ) (xs : List ℕ) (new : List ℕ) (next : ℕ) : Type 0 where
  pub put : at + length xs ≤ length old → Put old at xs new next
  pub left : length old < at + length xs → (new ≡ old) × (next ≡ at)
