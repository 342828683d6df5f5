-- The records of a book (document 01: 12 bytes each, numbered from 0), and the tests of one record by itself. An entry is what a record
-- holds; a book is the list of its bytes.
use Rattle.std.specs.Prelude.{ℕ, ◌+◌, ◌*◌, ◌%◌, ◌<◌, Bool, true, false, ◌&&◌, ◌||◌, not, List, get_or, length, ltb, leb, eqb}
use Rattle.limits.specs.Limits.{max_signal, record_bytes, book_bytes}
use Rattle.lists.specs.Choice.{pick}
use Rattle.lists.specs.Sequence.{pair_of, pair_at}
use Rattle.table.specs.Nodes.{op_of, uses, uses_of}
use Rattle.table.specs.declared.Uses.{Uses}
use Rattle.book.specs.declared.Entry.{Entry}

-- every element of the list is a byte
pub record Bytes (s : List ℕ) : Type 0 where
  pub byte : (i : ℕ) → i < length s → get_or s i 0 < 256

-- ---- the fields of a record
-- the bytes of a record from i on: kind, argument, lo, hi, left, right, next, the upper half of a rule's name, and two that are to be zero
abbrev pub entry_from : List ℕ → ℕ → Entry
entry_from s i = record {
  kind = get_or s i 0;
  arg = get_or s (i + 1) 0;
  lo = pair_at s (i + 2);
  hi = pair_at s (i + 4);
  left = get_or s (i + 6) 0;
  right = get_or s (i + 7) 0;
  next = get_or s (i + 8) 0;
  upper = get_or s (i + 9) 0;
  tail0 = get_or s (i + 10) 0;
  tail1 = get_or s (i + 11) 0;
}

-- the entry of the record r
abbrev pub entry_of : List ℕ → ℕ → Entry
entry_of s r = entry_from s (record_bytes * r)

-- ---- the kinds: 1 to 10 are nodes, and 11 is a rule, which uses its argument, the name, and left, what it watches
abbrev pub is_node : ℕ → Bool
is_node k = leb 1 k && leb k 10

abbrev pub is_rule : ℕ → Bool
is_rule k = eqb k 11

-- ---- how a rule's name is written: in two bytes, the argument the lower half and byte 9 the upper; before A11 in the argument alone
pub data Naming : Type 0 where
  OneByte TwoBytes : Naming

-- the name of a rule's record
abbrev pub name_by : Naming → Entry → ℕ
name_by OneByte e = e.arg
name_by TwoBytes e = pair_of e.arg e.upper

abbrev pub name_of : Entry → ℕ
name_of e = name_by TwoBytes e

-- the kinds whose byte 9 is half of a name
abbrev pub uses_upper : Naming → ℕ → Bool
uses_upper OneByte k = false
uses_upper TwoBytes k = is_rule k

unfoldable pub uses_in : ℕ → Uses
uses_in k = pick (is_rule k) (uses true false true false) (uses_of (op_of k))

-- ---- the tests of a record by itself
-- its kind is 1 to 11, and no field is set that is not used; `upper` says whether byte 9 is
abbrev pub formed_by : Uses → Bool → Entry → Bool
formed_by used upper e =
    leb 1 e.kind && leb e.kind 11 && (used.arg || eqb e.arg 0) && (used.interval || (eqb e.lo 0 && eqb e.hi 0))
    && (used.left || eqb e.left 0) && (used.right || eqb e.right 0)
    && (upper || eqb e.upper 0) && eqb e.tail0 0 && eqb e.tail1 0

abbrev pub formed : Entry → Bool
formed e = formed_by (uses_in e.kind) (uses_upper TwoBytes e.kind) e

-- each of these is true where the book is to be refused
abbrev pub bad_form_by : Naming → Entry → Bool
bad_form_by names e = not (formed_by (uses_in e.kind) (uses_upper names e.kind) e)

abbrev pub bad_form : Entry → Bool
bad_form e = bad_form_by TwoBytes e

-- a signal above the largest, or a name of 0
abbrev pub bad_arg_by : Naming → Entry → Bool
bad_arg_by names e = (eqb e.kind 1 && ltb max_signal e.arg) || (is_rule e.kind && eqb (name_by names e) 0)

abbrev pub bad_arg : Entry → Bool
bad_arg e = bad_arg_by TwoBytes e

-- ---- the tests of the head
-- a length in bytes that is not that of 1 to 255 records
abbrev pub bad_length : ℕ → Bool
bad_length n = not (eqb (n % record_bytes) 0 && leb record_bytes n && leb n book_bytes)

-- the head has a byte set that is not its next
abbrev pub bad_head : Entry → Bool
bad_head e =
    not (eqb e.kind 0 && eqb e.arg 0 && eqb e.lo 0 && eqb e.hi 0 && eqb e.left 0 && eqb e.right 0
    && eqb e.upper 0 && eqb e.tail0 0 && eqb e.tail1 0)
