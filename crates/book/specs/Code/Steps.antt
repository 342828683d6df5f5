-- The steps of the code: the state of its walk along the chain, and what each function does with it.
use Rattle.std.specs.Prelude.{ℕ, ◌+◌, ◌-◌, ◌*◌, Bool, true, ◌&&◌, ◌||◌, not, List, [], ◌∷◌, ◌++◌, get_or, set, replicate, ltb, leb, eqb}
use Rattle.std.specs.Prelude.{Result, Ok, Err}
use Rattle.limits.specs.Limits.{record_bytes}
use Rattle.refusals.specs.Numbers.{LINK, FORM, RULELESS}
use Rattle.refusals.specs.Refusals.{number_of}
use Rattle.refusals.specs.declared.Refusal.{Refusal}
use Rattle.lists.specs.Choice.{Row, pick, ◌if◌, first}
use Rattle.table.specs.Nodes.{op_of, uses_of, no_table}
use Rattle.table.specs.declared.Node.{Node}
use Rattle.table.specs.declared.Rule.{Rule}
use Rattle.builder.specs.Adding.{add_node_rows, add_rule_rows, with_node, with_rule}
use Rattle.book.specs.declared.Entry.{Entry}
use Rattle.book.specs.declared.Walk.{Walk}
use Rattle.book.specs.Entries.{is_node, name_of, bad_form}
use Rattle.book.specs.Reading.{Reading, accepted, unless}

-- ---- the state of the walk: the table so far, and of each record of the book
-- 0 if it is not passed, 1 if it is passed and no node, and 2 + p if it is the node at place p
abbrev pub seen_at : Walk → ℕ → ℕ
seen_at w r = get_or w.seen r 0

abbrev pub entered : Walk → ℕ → Walk
entered w r = record { table = w.table; seen = set w.seen r 1 }

-- what stands for the place of a record that is no node: 255, which is no place, or 0 where no place is asked for
abbrev pub no_place : Bool → ℕ
no_place used = pick used 255 0

-- the place of the node that the record r is
abbrev pub place_by : Walk → Bool → ℕ → ℕ
place_by w used r = pick (ltb (seen_at w r) 2) (no_place used) (seen_at w r - 2)

-- the node, and the rule, of an entry, with the places of its operands
abbrev pub node_by : Walk → Entry → Node
node_by w e = record {
  kind = e.kind;
  arg = e.arg;
  lo = e.lo;
  hi = e.hi;
  left = place_by w (uses_of (op_of e.kind)).left e.left;
  right = place_by w (uses_of (op_of e.kind)).right e.right;
}

abbrev pub rule_by : Walk → Entry → Rule
rule_by w e = record { name = name_of e; watched = place_by w true e.left }

-- the walk with the record r, which holds e, added
abbrev pub node_added : Walk → ℕ → Entry → Walk
node_added w r e = record { table = with_node w.table (node_by w e); seen = set w.seen r (2 + w.table.node_count) }

abbrev pub rule_added : Walk → Entry → Walk
rule_added w e = record { table = with_rule w.table (rule_by w e); seen = w.seen }

abbrev pub added : Walk → ℕ → Entry → Walk
added w r e = pick (is_node e.kind) (node_added w r e) (rule_added w e)

-- ---- the rows: the link and the form are about the record itself, and the others those of the builder
-- it links beyond a book of n bytes, or to a record that is passed; 0 is the end
abbrev pub bad_link : ℕ → Walk → Entry → Bool
bad_link n w e = not (eqb e.next 0) && (leb n (record_bytes * e.next) || ltb 0 (seen_at w e.next))

abbrev pub record_rows : ℕ → Walk → Entry → List Row
record_rows n w e = (LINK if bad_link n w e) ∷ (FORM if bad_form e) ∷ []

abbrev pub builder_rows : Walk → Entry → List Row
builder_rows w e = pick (is_node e.kind) (add_node_rows w.table (node_by w e)) (add_rule_rows w.table (rule_by w e))

unfoldable pub walk_fault : ℕ → Walk → Entry → ℕ
walk_fault n w e = first (record_rows n w e ++ builder_rows w e)

-- ---- a record tried: the walk v where the number is 0, and otherwise the number of the refusal
abbrev pub answer_by : {A : Type 0} → ℕ → A → Result A ℕ
answer_by number v = pick (eqb number 0) (Ok v) (Err number)

-- what an answer of the code says
abbrev pub walk_told : Result Walk Refusal → Result Walk ℕ
walk_told (Ok w) = Ok w
walk_told (Err e) = Err (number_of e)

abbrev pub node_step : Walk → ℕ → Entry → Result Walk ℕ
node_step w r e = answer_by (first (add_node_rows w.table (node_by w e))) (node_added w r e)

abbrev pub rule_step : Walk → Entry → Result Walk ℕ
rule_step w e = answer_by (first (add_rule_rows w.table (rule_by w e))) (rule_added w e)

abbrev pub stepped : ℕ → Walk → ℕ → Entry → Result Walk ℕ
stepped n w r e = answer_by (walk_fault n w e) (added w r e)

-- ---- the start and the end
-- the head is passed, and nothing else
abbrev pub begun : Walk
begun = record { table = no_table; seen = set (replicate 256 0) 0 1 }

-- the end of the chain, which is refused where it had no rule
abbrev pub walk_ended : Walk → Reading
walk_ended w = unless (first ((RULELESS if eqb w.table.rule_count 0) ∷ [])) 0 (accepted w.table)
