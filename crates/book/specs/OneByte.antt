-- The reader before A11, when a name had one byte: `readingBy OneByte`, with its rows, its table and its soundness as they were; document 02
-- calls it the reader in boxes already sold. What it makes of books, those with larger names among them.
use Rattle.std.specs.Prelude.{ℕ, ◌≤◌, ◌<◌, ◌≡◌, false, ◌↔◌}
use mathlib.Core.List.{List, [], ◌∷◌, ◌++◌, Memᴰ}
use Rattle.refusals.specs.Numbers.{FORM}
use Rattle.table.specs.Nodes.{rule_at}
use Rattle.table.specs.Sound.{Sound}
use Rattle.table.specs.declared.Table.{Table}
use Rattle.book.specs.Entries.{OneByte, Bytes, entry_of, name_of}
use Rattle.book.specs.Reading.{Reading, link_fault, refused, reading_by, reading}
use Rattle.book.specs.Keeps.{Keeps}
use Rattle.book.specs.Chain.{OnChain, ReadBy}
use Rattle.book.specs.Writing.{YieldedBy}

abbrev pub one_byte_reading : List ℕ → Reading
one_byte_reading s = reading_by OneByte s

-- a table that was sound: the largest name was 255
pub record OneByteSound (t : Table) : Type 0 where
  pub sound : Sound t
  pub small : (q : ℕ) → q < t.rule_count → (rule_at t q).name ≤ 255

-- the record r is a rule with a name that takes two bytes
pub record Large (s : List ℕ) (r : ℕ) : Type 0 where
  pub rule : (entry_of s r).kind ≡ 11
  pub above : 255 < name_of (entry_of s r)

abbrev pub NoneLarge : List ℕ → Type 0
NoneLarge s = (r : ℕ) → OnChain s r → ¬ (Large s r)

-- no check before the form of the record r finds a fault: none at the head, none at the records before it, and its link is right
pub record FormTried (s before : List ℕ) (r : ℕ) : Type 0 where
  pub read : ReadBy OneByte s before r
  pub later : ¬ (r ≡ 0)
  pub link : link_fault s (before ++ (r ∷ [])) (entry_of s r) ≡ false

-- the first record on the chain with a large name is the one that is refused
pub record FirstRefused (s : List ℕ) : Type 0 where
  pub before : List ℕ
  pub at : ℕ
  pub tried : FormTried s before at
  pub large : Large s at
  pub first : (q : ℕ) → Memᴰ q before → ¬ (Large s q)
  pub answer : one_byte_reading s ≡ refused FORM at

pub record OneByteReader : Type 0 where
  -- a book without a large name on its chain reads the same under both
  pub same : (s : List ℕ) → Bytes s → NoneLarge s → one_byte_reading s ≡ reading s
  -- one with a large name on its chain is refused
  pub refuses : (s : List ℕ) (r : ℕ) → Bytes s → OnChain s r → Large s r → ¬ ((one_byte_reading s).number ≡ 0)
  -- with 4, at the record that has it, if no check before finds a fault
  pub form : (s before : List ℕ) (r : ℕ) → FormTried s before r → Large s r → Bytes s → one_byte_reading s ≡ refused FORM r
  -- so a book that is accepted now is refused at the first record that has one
  pub accepted_now : (s : List ℕ) (r : ℕ) → Bytes s → (reading s).number ≡ 0 → OnChain s r → Large s r → FirstRefused s
  -- accepted was a book exactly where it keeps the rules and has no large name, and sound a table exactly where such a book yielded it
  pub accepted_exactly : (s : List ℕ) → Bytes s → ((one_byte_reading s).number ≡ 0) ↔ (Keeps s × NoneLarge s)
  pub sound_exactly : (t : Table) → OneByteSound t ↔ YieldedBy OneByte t
