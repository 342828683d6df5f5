-- What is relied on of writing (document 02, A3): which calls are refused, and that a written book reads as the table that it was written from.
use Rattle.std.specs.Prelude.{ℕ, suc, ◌≤◌, ◌≡◌, ◌↔◌, List, [], ◌∷◌, length, take, drop}
use Rattle.limits.specs.Limits.{written_bytes}
use Rattle.lists.specs.Sequence.{ticks}
use Rattle.table.specs.Sound.{Sound}
use Rattle.table.specs.declared.Table.{Table}
use Rattle.book.specs.Entries.{Bytes, entry_of}
use Rattle.book.specs.Reading.{reading, accepted}
use Rattle.book.specs.Keeps.{Along}
use Rattle.book.specs.Writing.{many, book_of, book_length, writing, written_into}

-- the book that a call leaves in an output: as many of its first bytes as the call answers
abbrev pub book_in : Table → List ℕ → List ℕ
book_in t out = take (writing t (length out)).length (written_into t out)

-- after a call that is accepted
pub record Back (t : Table) (out : List ℕ) : Type 0 where
  pub is : book_in t out ≡ book_of t
  pub answers : (writing t (length out)).length ≡ book_length t
  pub size : length (book_in t out) ≡ book_length t
  pub beyond : drop (book_length t) (written_into t out) ≡ drop (book_length t) out
  pub bytes : Bytes (book_in t out)
  -- the chain is 1, 2, 3 up to the last record: none is spare
  pub chain : Along (book_in t out) (0 ∷ []) (entry_of (book_in t out) 0).next (ticks suc (many t))
  pub reads : reading (book_in t out) ≡ accepted t
  -- written again, from what was read, it is the same bytes
  pub again : (other : List ℕ) → book_length t ≤ length other → book_in (reading (book_in t out)).table other ≡ book_in t out

pub record Relied : Type 0 where
  pub accepted_exactly : (t : Table) (n : ℕ) → ((writing t n).number ≡ 0) ↔ (Sound t × (book_length t ≤ n))
  pub refused : (t : Table) (out : List ℕ) → ¬ ((writing t (length out)).number ≡ 0) → ((writing t (length out)).length ≡ 0) × (written_into t out ≡ out)
  pub back : (t : Table) (out : List ℕ) → (writing t (length out)).number ≡ 0 → Back t out
  -- so long an output is enough for every sound table
  pub enough : (t : Table) → Sound t → book_length t ≤ written_bytes
  pub short : (t : Table) (n : ℕ) → (writing t n).length ≤ written_bytes
  -- a book that is accepted, and the book of its table, read as the same
  pub same_table : (s : List ℕ) → Bytes s → (reading s).number ≡ 0 → reading (book_of (reading s).table) ≡ reading s
