-- Books and what reading them yields: each computes. Assumes nothing.
use mathlib.Core.Path.{◌≡◌, refl}
use mathlib.Core.List.{List, [], ◌∷◌}
use Prim.Native.Nat.{ℕ, ◌+◌, ◌*◌}
use Rattle.lists.specs.Sequence.{chain, padded}
use Rattle.mltl.specs.Mltl.{delay_by}
use Rattle.table.specs.Nodes.{no_node, no_rule}
use Rattle.table.specs.declared.Table.{Table}
use Rattle.book.specs.declared.Entry.{Entry}
use Rattle.book.specs.Entries.{OneByte, uses_in}
use Rattle.book.specs.Reading.{reading, reading_by, head_fault, fault_by, along_by, accepted, code_of}
use Rattle.book.specs.Writing.{bytes, plain_entry, head_entry, book_of}

-- the fields of a record from its kind to its next
abbrev entry : ℕ → ℕ → ℕ → ℕ → ℕ → ℕ → ℕ → Entry
entry k a l h x y n = record { kind = k; arg = a; lo = l; hi = h; left = x; right = y; next = n; upper = 0; tail0 = 0; tail1 = 0 }

-- signal 0; a second node; a rule with a name that watches a record; the last record's next
abbrev book : Entry → ℕ → ℕ → ℕ → List ℕ
book second name watched next = bytes (head_entry 1 ∷ entry 1 0 0 0 0 0 2 ∷ second ∷ plain_entry 11 name watched next ∷ [])

-- F[lo,hi] of record 1, which links to record 3
abbrev finally : ℕ → ℕ → Entry
finally lo hi = entry 7 0 lo hi 1 0 3

-- document 01's own book, its table, and the book that is written of the table
abbrev own_table : Table
own_table = record {
  nodes = padded no_node 64 (record { kind = 1; arg = 0; lo = 0; hi = 0; left = 0; right = 0 } ∷ record { kind = 7; arg = 0; lo = 1; hi = 3; left = 0; right = 0 } ∷ []);
  node_count = 2;
  rules = padded no_rule 8 (record { name = 7; watched = 1 } ∷ []);
  rule_count = 1;
}

own_book : reading (book (finally 1 3) 7 2 0) ≡ accepted own_table
unfolding reading_by head_fault fault_by along_by uses_in chain delay_by
own_book = refl

own_written : book_of own_table ≡ book (finally 1 3) 7 2 0
unfolding book_of uses_in
own_written = refl

-- ---- the corners of document 01
delay_4095 : code_of (reading (book (finally 0 4095) 7 2 0)) ≡ 0
unfolding reading_by head_fault fault_by along_by uses_in chain delay_by
delay_4095 = refl

-- F[0,1] over F[0,4095]
delay_4096 : code_of (reading (bytes (head_entry 1 ∷ entry 1 0 0 0 0 0 2 ∷ finally 0 4095 ∷ entry 7 0 0 1 2 0 4 ∷ entry 11 7 0 0 3 0 0 ∷ []))) ≡ 9 + 256 * 3
unfolding reading_by head_fault fault_by along_by uses_in chain delay_by
delay_4096 = refl

-- a record above 0 whose next is its own number, and a kind that is no kind too: 3 comes before 4
itself : code_of (reading (book (finally 1 3) 7 2 3)) ≡ 3 + 256 * 3
unfolding reading_by head_fault fault_by along_by uses_in chain delay_by
itself = refl

itself_first : code_of (reading (book (entry 12 0 0 0 0 0 2) 7 1 0)) ≡ 3 + 256 * 2
unfolding reading_by head_fault fault_by along_by uses_in chain delay_by
itself_first = refl

-- ---- one book for each other number
nothing : code_of (reading []) ≡ 1
unfolding reading_by head_fault
nothing = refl

head_set : code_of (reading (bytes (entry 1 0 0 0 0 0 0 ∷ []))) ≡ 2
unfolding reading_by head_fault
head_set = refl

kind_12 : code_of (reading (book (entry 12 0 0 0 0 0 3) 7 1 0)) ≡ 4 + 256 * 2
unfolding reading_by head_fault fault_by along_by uses_in chain delay_by
kind_12 = refl

no_name : code_of (reading (book (finally 1 3) 0 2 0)) ≡ 5 + 256 * 3
unfolding reading_by head_fault fault_by along_by uses_in chain delay_by
no_name = refl

-- the largest name, whose halves are 255 and 255, and a name whose lower half is 0: they take two bytes, and were refused when a name had one
largest_name : code_of (reading (book (finally 1 3) 65535 2 0)) ≡ 0
unfolding reading_by head_fault fault_by along_by uses_in chain delay_by
largest_name = refl

name_256 : code_of (reading (book (finally 1 3) 256 2 0)) ≡ 0
unfolding reading_by head_fault fault_by along_by uses_in chain delay_by
name_256 = refl

name_256_before : code_of (reading_by OneByte (book (finally 1 3) 256 2 0)) ≡ 4 + 256 * 3
unfolding reading_by head_fault fault_by along_by uses_in chain delay_by
name_256_before = refl

-- byte 9 of a node
half_of_no_name : code_of (reading (book (plain_entry 4 256 1 3) 7 2 0)) ≡ 4 + 256 * 2
unfolding reading_by head_fault fault_by along_by uses_in chain delay_by
half_of_no_name = refl

upside_down : code_of (reading (book (finally 3 1) 7 2 0)) ≡ 6 + 256 * 2
unfolding reading_by head_fault fault_by along_by uses_in chain delay_by
upside_down = refl

watches_itself : code_of (reading (book (finally 1 3) 7 3 0)) ≡ 7 + 256 * 3
unfolding reading_by head_fault fault_by along_by uses_in chain delay_by
watches_itself = refl

-- a rule may stand between nodes; its name is used again
name_twice : code_of (reading (book (entry 11 7 0 0 1 0 3) 7 1 0)) ≡ 10 + 256 * 3
unfolding reading_by head_fault fault_by along_by uses_in chain delay_by
name_twice = refl

no_rule_lem : code_of (reading (bytes (head_entry 1 ∷ entry 2 0 0 0 0 0 0 ∷ []))) ≡ 11
unfolding reading_by head_fault fault_by along_by uses_in chain delay_by
no_rule_lem = refl
