-- What reading a book yields (document 01, The book and Refusals 1 to 11). The records of the chain are read one after the other. What
-- is known at a record are the book s and the records `before` on the chain, the head first; a record is its number. `names` says how a
-- rule's name is written; without it, in two bytes.
use Rattle.std.specs.Prelude.{ℕ, zero, suc, ◌+◌, ◌*◌, Bool, ◌&&◌, ◌||◌, not, List, [], ◌∷◌, ◌++◌, map, length, ltb, leb, eqb, Result, Ok, Err}
use Rattle.limits.specs.Limits.{max_nodes, max_rules, max_delay, record_bytes, max_records}
use Rattle.refusals.specs.Numbers.{LENGTH, HEAD, LINK, FORM, ARGUMENT, INTERVAL, OPERAND, FULL, LONG, NAME, RULELESS}
use Rattle.refusals.specs.Refusals.{number_of}
use Rattle.lists.specs.Choice.{Row, pick, ◌if◌, first}
use Rattle.lists.specs.Sequence.{among, padded}
use Rattle.interval.specs.Parts.{bad_interval}
use Rattle.table.specs.Nodes.{no_node, no_rule, no_table, delay_over, delays}
use Rattle.table.specs.declared.Node.{Node}
use Rattle.table.specs.declared.Rule.{Rule}
use Rattle.table.specs.declared.Table.{Table}
use Rattle.book.specs.declared.Entry.{Entry}
use Rattle.book.specs.declared.Fault.{Fault}
use Rattle.book.specs.Entries.{Naming, TwoBytes, entry_of, uses_in, is_node, is_rule, name_by, bad_form_by, bad_arg_by, bad_length, bad_head}

-- ---- the records that are nodes, and those that are rules
abbrev pub filter : (ℕ → Bool) → List ℕ → List ℕ
filter p [] = []
filter p (x ∷ xs) = pick (p x) (x ∷ filter p xs) (filter p xs)

abbrev pub is_node_at : List ℕ → ℕ → Bool
is_node_at s r = is_node (entry_of s r).kind

abbrev pub is_rule_at : List ℕ → ℕ → Bool
is_rule_at s r = is_rule (entry_of s r).kind

abbrev pub nodes_in : List ℕ → List ℕ → List ℕ
nodes_in s before = filter (is_node_at s) before

abbrev pub rules_in : List ℕ → List ℕ → List ℕ
rules_in s before = filter (is_rule_at s) before

-- ---- the table: nodes in chain order, their operands as places in it; rules likewise; free places all zero
abbrev pub index : List ℕ → ℕ → ℕ
index [] k = 0
index (x ∷ xs) k = pick (eqb k x) 0 (suc (index xs k))

-- the place of the record k among the nodes, and 0 where it is none of them
abbrev pub place : List ℕ → ℕ → ℕ
place nodes k = pick (among k nodes) (index nodes k) 0

-- the node, and the rule, of an entry whose operands stand among the records `nodes`
abbrev pub node_of : List ℕ → Entry → Node
node_of nodes e = record {
  kind = e.kind;
  arg = e.arg;
  lo = e.lo;
  hi = e.hi;
  left = place nodes e.left;
  right = place nodes e.right;
}

abbrev pub rule_of_by : Naming → List ℕ → Entry → Rule
rule_of_by names nodes e = record { name = name_by names e; watched = place nodes e.left }

abbrev pub rule_of : List ℕ → Entry → Rule
rule_of nodes e = rule_of_by TwoBytes nodes e

-- f of each record that p picks, with those before it
abbrev pub collect : {A : Type 0} → (ℕ → Bool) → (List ℕ → ℕ → A) → List ℕ → List ℕ → List A
collect p f before [] = []
collect p f before (r ∷ rs) =
    pick (p r) (f before r ∷ collect p f (before ++ (r ∷ [])) rs) (collect p f (before ++ (r ∷ [])) rs)

abbrev pub nodes : List ℕ → List ℕ → List Node
nodes s chain = collect (is_node_at s) (λ before r. node_of (nodes_in s before) (entry_of s r)) [] chain

abbrev pub rules_by : Naming → List ℕ → List ℕ → List Rule
rules_by names s chain = collect (is_rule_at s) (λ before r. rule_of_by names (nodes_in s before) (entry_of s r)) [] chain

abbrev pub rules : List ℕ → List ℕ → List Rule
rules s chain = rules_by TwoBytes s chain

abbrev pub table_of_by : Naming → List ℕ → List ℕ → Table
table_of_by names s chain = record {
  nodes = padded no_node max_nodes (nodes s chain);
  node_count = length (nodes s chain);
  rules = padded no_rule max_rules (rules_by names s chain);
  rule_count = length (rules_by names s chain);
}

abbrev pub table_of : List ℕ → List ℕ → Table
table_of s chain = table_of_by TwoBytes s chain

-- ---- the tests of an entry where it stands, each true where the book is to be refused
-- next is beyond the book, or a record that is passed, the record itself among them; 0 is the end
abbrev pub link_fault : List ℕ → List ℕ → Entry → Bool
link_fault s passed e = not (eqb e.next 0) && (leb (length s) (record_bytes * e.next) || among e.next passed)

-- an operand, or what a rule watches, is no earlier node
abbrev pub operand_fault : List ℕ → Entry → Bool
operand_fault nodes e =
    ((uses_in e.kind).left && not (among e.left nodes)) || ((uses_in e.kind).right && not (among e.right nodes))

-- the 65th node, or the 9th rule
abbrev pub count_fault : List ℕ → List ℕ → Entry → Bool
count_fault s before e =
    (is_node e.kind && leb max_nodes (length (nodes_in s before))) || (is_rule e.kind && leb max_rules (length (rules_in s before)))

-- a node's delay is above the longest
abbrev pub delay_fault : List ℕ → List ℕ → Entry → Bool
delay_fault s before e = is_node e.kind && ltb max_delay (delay_over (delays (nodes s before)) (node_of (nodes_in s before) e))

-- an earlier rule has the name
abbrev pub name_fault_by : Naming → List ℕ → List ℕ → Entry → Bool
name_fault_by names s before e = is_rule e.kind && among (name_by names e) (map (λ q. name_by names (entry_of s q)) (rules_in s before))

abbrev pub name_fault : List ℕ → List ℕ → Entry → Bool
name_fault s before e = name_fault_by TwoBytes s before e

-- the rows of document 01's table that can fit the record r, which holds e, and those that can fit the head
abbrev pub rows_by : Naming → List ℕ → List ℕ → ℕ → Entry → List Row
rows_by names s before r e =
    (LINK if link_fault s (before ++ (r ∷ [])) e) ∷ (FORM if bad_form_by names e) ∷ (ARGUMENT if bad_arg_by names e) ∷
    (INTERVAL if bad_interval e.lo e.hi) ∷ (OPERAND if operand_fault (nodes_in s before) e) ∷ (FULL if count_fault s before e) ∷
    (LONG if delay_fault s before e) ∷ (NAME if name_fault_by names s before e) ∷ []

abbrev pub rows : List ℕ → List ℕ → ℕ → Entry → List Row
rows s before r e = rows_by TwoBytes s before r e

abbrev pub head_rows : List ℕ → List Row
head_rows s =
    (LENGTH if bad_length (length s)) ∷ (HEAD if bad_head (entry_of s 0)) ∷ (LINK if link_fault s (0 ∷ []) (entry_of s 0)) ∷ []

-- the number of the first row that fits, or 0
unfoldable pub fault_by : Naming → List ℕ → List ℕ → ℕ → ℕ
fault_by names s before r = first (rows_by names s before r (entry_of s r))

abbrev pub fault : List ℕ → List ℕ → ℕ → ℕ
fault s before r = fault_by TwoBytes s before r

unfoldable pub head_fault : List ℕ → ℕ
head_fault s = first (head_rows s)

-- ---- reading: the number of the refusal, the record that it is about and no table, or 0, 0 and the table
pub record Reading : Type 0 where
  pub number : ℕ
  pub «record» : ℕ
  pub table : Table

abbrev pub refused : ℕ → ℕ → Reading
refused n r = record { number = n; «record» = r; table = no_table }

abbrev pub accepted : Table → Reading
accepted t = record { number = 0; «record» = 0; table = t }

-- what an answer of the code says
abbrev pub reading_told : Result Table Fault → Reading
reading_told (Ok t) = accepted t
reading_told (Err f) = refused (number_of f.refusal) f.«record»

-- the refusal n at the record r, or, where n is 0, what else there is
abbrev pub unless : ℕ → ℕ → Reading → Reading
unless n r x = pick (eqb n 0) x (refused n r)

-- the end of a chain, which is refused where it had no rule
abbrev pub finished_by : Naming → List ℕ → List ℕ → Reading
finished_by names s chain = unless (first ((RULELESS if eqb (length (rules_by names s chain)) 0) ∷ [])) 0 (accepted (table_of_by names s chain))

abbrev pub finished : List ℕ → List ℕ → Reading
finished s chain = finished_by TwoBytes s chain

-- the record r of the chain, 0 at its end, and those that it leads to; f is how many there can be
unfoldable pub along_by : Naming → List ℕ → ℕ → List ℕ → ℕ → Reading
along_by names s zero before r = finished_by names s before
along_by names s (suc f) before r =
    pick (eqb r 0) (finished_by names s before)
    (unless (fault_by names s before r) r (along_by names s f (before ++ (r ∷ [])) (entry_of s r).next))

abbrev pub along : List ℕ → ℕ → List ℕ → ℕ → Reading
along s f before r = along_by TwoBytes s f before r

unfoldable pub reading_by : Naming → List ℕ → Reading
reading_by names s = unless (head_fault s) 0 (along_by names s max_records (0 ∷ []) (entry_of s 0).next)

abbrev pub reading : List ℕ → Reading
reading s = reading_by TwoBytes s

-- a reading as one number: 0 if the book is accepted
abbrev pub code_of : Reading → ℕ
code_of x = x.number + 256 * x.«record»
