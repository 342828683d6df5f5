-- The book of a table (document 02, A3): the head, then the nodes, then the rules, each linked to the one after it; and what writing it answers and
-- leaves in an output.
use Rattle.std.specs.Prelude.{ℕ, suc, ◌+◌, ◌-◌, ◌*◌, ◌/◌, ◌%◌, ◌≡◌, not, List, [], ◌∷◌, ◌++◌, ltb, leb, eqb, length, drop, Result, Ok, Err}
use Rattle.limits.specs.Limits.{record_bytes}
use Rattle.refusals.specs.Numbers.{UNSOUND, OUTPUT}
use Rattle.refusals.specs.Refusals.{number_of}
use Rattle.refusals.specs.declared.Refusal.{Refusal}
use Rattle.lists.specs.Choice.{Row, pick, ◌if◌, first}
use Rattle.lists.specs.Sequence.{ticks}
use Rattle.table.specs.Nodes.{node_at, rule_at}
use Rattle.table.specs.declared.Node.{Node}
use Rattle.table.specs.declared.Rule.{Rule}
use Rattle.table.specs.declared.Table.{Table}
use Rattle.table.specs.Sound.{is_sound}
use Rattle.book.specs.declared.Entry.{Entry}
use Rattle.book.specs.Entries.{Naming, TwoBytes, Bytes, uses_in}
use Rattle.book.specs.Reading.{reading_by, accepted}

-- the 12 bytes of an entry before those of s
abbrev pub bytes_of : Entry → List ℕ → List ℕ
bytes_of e s =
    e.kind ∷ e.arg ∷ e.lo % 256 ∷ e.lo / 256 ∷ e.hi % 256 ∷ e.hi / 256 ∷ e.left ∷ e.right ∷ e.next ∷ e.upper ∷ e.tail0 ∷ e.tail1 ∷ s

abbrev pub bytes : List Entry → List ℕ
bytes [] = []
bytes (e ∷ es) = bytes_of e (bytes es)

-- ---- the records: 0 is the head, 1 + p the node at place p, and 1 + nodes + q the rule at place q
-- one without an interval and a right operand; its name, 0 where it has none, in two bytes
abbrev pub plain_entry : ℕ → ℕ → ℕ → ℕ → Entry
plain_entry kind name left to = record {
  kind = kind;
  arg = name % 256;
  lo = 0;
  hi = 0;
  left = left;
  right = 0;
  next = to;
  upper = name / 256;
  tail0 = 0;
  tail1 = 0;
}

abbrev pub head_entry : ℕ → Entry
head_entry to = plain_entry 0 0 0 to

abbrev pub node_entry : Node → ℕ → Entry
node_entry n to = record {
  kind = n.kind;
  arg = n.arg;
  lo = n.lo;
  hi = n.hi;
  left = pick (uses_in n.kind).left (n.left + 1) 0;
  right = pick (uses_in n.kind).right (n.right + 1) 0;
  next = to;
  upper = 0;
  tail0 = 0;
  tail1 = 0;
}

abbrev pub rule_entry : Rule → ℕ → Entry
rule_entry r to = plain_entry 11 r.name (r.watched + 1) to

-- how many records there are behind the head
abbrev pub many : Table → ℕ
many t = t.node_count + t.rule_count

-- the record after k, and 0 after the last
abbrev pub link_after : Table → ℕ → ℕ
link_after t k = pick (ltb k (many t)) (k + 1) 0

abbrev pub entry_for : Table → ℕ → Entry
entry_for t k =
    pick (eqb k 0) (head_entry (link_after t k))
    (pick (leb k t.node_count) (node_entry (node_at t (k - 1)) (link_after t k))
    (rule_entry (rule_at t (k - 1 - t.node_count)) (link_after t k)))

unfoldable pub book_of : Table → List ℕ
book_of t = bytes (ticks (entry_for t) (suc (many t)))

-- its length in bytes
abbrev pub book_length : Table → ℕ
book_length t = record_bytes * (1 + many t)

-- ---- writing it into an output of n bytes
abbrev pub write_rows : Table → ℕ → List Row
write_rows t n = (UNSOUND if not (is_sound t)) ∷ (OUTPUT if ltb n (book_length t)) ∷ []

abbrev pub write_number : Table → ℕ → ℕ
write_number t n = first (write_rows t n)

-- an answer: the number of the refusal and 0, or 0 and the length of the book in bytes
pub record Writing : Type 0 where
  pub number : ℕ
  pub length : ℕ

-- what an answer of the code says
abbrev pub writing_told : Result ℕ Refusal → Writing
writing_told (Ok n) = record { number = 0; length = n }
writing_told (Err e) = record { number = number_of e; length = 0 }

-- the number, and where it is 0 the length of the book
unfoldable pub writing : Table → ℕ → Writing
writing t n = record { number = write_number t n; length = pick (eqb (write_number t n) 0) (book_length t) 0 }

-- the output after it: bytes beyond the book stay, and where the call is refused all do
unfoldable pub written_into : Table → List ℕ → List ℕ
written_into t out = pick (eqb (write_number t (length out)) 0) (book_of t ++ drop (book_length t) out) out

-- some book of bytes is accepted, and yields the table
pub record YieldedBy (names : Naming) (t : Table) : Type 0 where
  pub book : List ℕ
  pub bytes : Bytes book
  pub reads : reading_by names book ≡ accepted t

abbrev pub Yielded : Table → Type 0
Yielded t = YieldedBy TwoBytes t
