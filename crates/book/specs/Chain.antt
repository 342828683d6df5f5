-- The chain of a book, and how far it is read.
use Rattle.std.specs.Prelude.{ℕ, ◌+◌, ◌*◌, ◌<◌, ◌≡◌, List, [], ◌∷◌, ◌++◌, length, get_or}
use Rattle.limits.specs.Limits.{record_bytes}
use Rattle.book.specs.Entries.{Naming, TwoBytes, entry_of}
use Rattle.book.specs.Reading.{fault_by, head_fault}

-- following next from the head gives the chain
pub data OnChain (s : List ℕ) : ℕ → Type 0 where
  head : OnChain s 0
  next : {r : ℕ} → OnChain s r → OnChain s (entry_of s r).next

-- the record r is read after the records before: the head is, and what it links to where no row fits it, and so on from each record
pub data ReadBy (names : Naming) (s : List ℕ) : List ℕ → ℕ → Type 0 where
  start : ReadBy names s [] 0
  linked : head_fault s ≡ 0 → ReadBy names s (0 ∷ []) (entry_of s 0).next
  then : {before : List ℕ} {r : ℕ} → ReadBy names s before r → ¬ (r ≡ 0) → fault_by names s before r ≡ 0
      → ReadBy names s (before ++ (r ∷ [])) (entry_of s r).next

abbrev pub Read : List ℕ → List ℕ → ℕ → Type 0
Read s before r = ReadBy TwoBytes s before r

-- the bytes of the record r are the same in two books
pub record SameRecord (s u : List ℕ) (r : ℕ) : Type 0 where
  pub bytes : (i : ℕ) → i < record_bytes → get_or s (record_bytes * r + i) 0 ≡ get_or u (record_bytes * r + i) 0

-- two books of one length with the same records on the chain of the first
pub record SameChain (s u : List ℕ) : Type 0 where
  pub size : length s ≡ length u
  pub records : (r : ℕ) → OnChain s r → SameRecord s u r

-- two books of one length with the same records where the first is read
pub record SameRead (s u : List ℕ) : Type 0 where
  pub size : length s ≡ length u
  pub records : (before : List ℕ) (r : ℕ) → Read s before r → SameRecord s u r
