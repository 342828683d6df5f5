-- What C programs rely on of `juntreak_write`, whose answer is one number: `juntreak_read` gives back, from the book that it wrote, the bytes of the
-- table; and a session's bytes begin with those of the table that it runs.
use Rattle.std.specs.Prelude.{ℕ, ◌/◌, ◌%◌, ◌≡◌, Bool, List, length, take, drop}
use Rattle.limits.specs.Limits.{table_bytes, session_bytes}
use Rattle.book.specs.Entries.{Bytes}
use Rattle.book.specs.Reading.{reading, code_of}
use Rattle.book.specs.Writing.{writing, written_into}
use Rattle.flat.specs.Flat.{table_from, written}
use Rattle.flat.specs.Sessions.{session_from}
use Rattle.shell.specs.Answers.{leaves, write_answer}
use Rattle.acts.specs.World.{Width}
use Rattle.foreign.specs.Demand.{Call, Calls, Start}

-- what a call answers on the bytes of a table and an output; the number and the length that the answer holds
abbrev pub write_for : List ℕ → List ℕ → ℕ
write_for table out = write_answer (writing (table_from table) (length out))

abbrev pub written_number : List ℕ → List ℕ → ℕ
written_number table out = write_for table out % 65536

abbrev pub written_length : List ℕ → List ℕ → ℕ
written_length table out = write_for table out / 65536

-- the output after it, and the book that it begins with
abbrev pub out_after : List ℕ → List ℕ → List ℕ
out_after table out = written_into (table_from table) out

abbrev pub book_after : List ℕ → List ℕ → List ℕ
book_after table out = take (written_length table out) (out_after table out)

-- an accepted call on 546 bytes
pub record WrittenBack (table out : List ℕ) : Type 0 where
  -- juntreak_read accepts the book, and leaves the same 546 bytes in any buffer
  pub accepted : code_of (reading (book_after table out)) ≡ 0
  pub same_bytes : (old : List ℕ) → length old ≡ table_bytes
      → leaves (reading (book_after table out)).number (written (reading (book_after table out)).table old) old ≡ table
  pub beyond : drop (written_length table out) (out_after table out) ≡ drop (written_length table out) out

pub record ForeignWritten : Type 0 where
  pub back : (table out : List ℕ) → Bytes table → length table ≡ table_bytes → written_number table out ≡ 0 → WrittenBack table out
  pub refused : (table out : List ℕ) → ¬ (written_number table out ≡ 0) → (written_length table out ≡ 0) × (out_after table out ≡ out)
  -- at any time the first 546 bytes of a session that was opened are those of the simplified table, which it runs
  pub running : (m : Start) (width width' : Width) (cs : List Call) (b h : List ℕ) (ended : Bool) → Calls width m.session m.history cs width' b h ended
      → take table_bytes b ≡ m.simple
  -- and of one that nobody opened they hold the table that its calls run
  pub of_session : (session : List ℕ) → length session ≡ session_bytes → table_from (take table_bytes session) ≡ (session_from session).table
