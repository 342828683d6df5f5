-- What adding a node or a rule to a table answers (document 01, Refusals 5 to 10): the first row that fits and the table as it came, or
-- 0 and the table with it in the first free place.
use Rattle.std.specs.Prelude.{ℕ, ◌+◌, Bool, ◌&&◌, ◌||◌, not, List, [], ◌∷◌, set, ltb, leb, eqb, Result, Ok, Err}
use Rattle.limits.specs.Limits.{max_nodes, max_rules, max_signal, max_name, max_delay}
use Rattle.refusals.specs.Numbers.{ARGUMENT, INTERVAL, OPERAND, FULL, LONG, NAME}
use Rattle.refusals.specs.Refusals.{number_of}
use Rattle.refusals.specs.declared.Refusal.{Refusal}
use Rattle.lists.specs.Choice.{Row, pick, ◌if◌, first}
use Rattle.lists.specs.Sequence.{every}
use Rattle.interval.specs.Parts.{bad_interval}
use Rattle.table.specs.Nodes.{op_of, uses_of, delay_over, delays}
use Rattle.table.specs.Sound.{differs}
use Rattle.table.specs.declared.Node.{Node}
use Rattle.table.specs.declared.Rule.{Rule}
use Rattle.table.specs.declared.Table.{Table}

-- ---- the tests of a node, each true where it is to be refused
-- a signal above the largest
abbrev pub bad_signal : Node → Bool
bad_signal n = eqb n.kind 1 && ltb max_signal n.arg

-- an operand that the kind uses is no place of an earlier node, of which there are `count`
abbrev pub operand_past : ℕ → Node → Bool
operand_past count n = ((uses_of (op_of n.kind)).left && leb count n.left) || ((uses_of (op_of n.kind)).right && leb count n.right)

abbrev pub bad_operand : Table → Node → Bool
bad_operand t n = operand_past t.node_count n

-- the node's delay is above the longest
abbrev pub too_long : Table → Node → Bool
too_long t n = ltb max_delay (delay_over (delays t.nodes) n)

-- the rows of a node behind `count` nodes, with the delay d
abbrev pub node_rows_by : ℕ → ℕ → Node → List Row
node_rows_by count d n =
    (ARGUMENT if bad_signal n) ∷ (INTERVAL if bad_interval n.lo n.hi) ∷ (OPERAND if operand_past count n) ∷ (FULL if leb max_nodes count) ∷
    (LONG if ltb max_delay d) ∷ []

abbrev pub add_node_rows : Table → Node → List Row
add_node_rows t n = node_rows_by t.node_count (delay_over (delays t.nodes) n) n

-- ---- the tests of a rule
-- a name of 0, or above the largest
abbrev pub bad_name : Rule → Bool
bad_name r = eqb r.name 0 || ltb max_name r.name

-- one of the first `count` rules has the name
abbrev pub used_before : List Rule → ℕ → Rule → Bool
used_before rules count r = not (every (differs count r.name) 0 rules)

abbrev pub name_used : Table → Rule → Bool
name_used t r = used_before t.rules t.rule_count r

-- the rows; an operand of a rule is what it watches, which is to be the place of a node
abbrev pub rule_rows_by : ℕ → List Rule → ℕ → Rule → List Row
rule_rows_by nodes rules count r =
    (ARGUMENT if bad_name r) ∷ (OPERAND if leb nodes r.watched) ∷ (FULL if leb max_rules count) ∷ (NAME if used_before rules count r) ∷ []

abbrev pub add_rule_rows : Table → Rule → List Row
add_rule_rows t r = rule_rows_by t.node_count t.rules t.rule_count r

-- ---- the table with one more
abbrev pub with_node : Table → Node → Table
with_node t n = record {
  nodes = set t.nodes t.node_count n;
  node_count = t.node_count + 1;
  rules = t.rules;
  rule_count = t.rule_count;
}

abbrev pub with_rule : Table → Rule → Table
with_rule t r = record {
  nodes = t.nodes;
  node_count = t.node_count;
  rules = set t.rules t.rule_count r;
  rule_count = t.rule_count + 1;
}

-- ---- the answer: the number of a refusal and the table as it came, or 0 and the table with the node or the rule added
pub record Added : Type 0 where
  pub number : ℕ
  pub table : Table

-- what an answer of the code says about the table t
abbrev pub added_told : Table → Result Table Refusal → Added
added_told t (Ok longer) = record { number = 0; table = longer }
added_told t (Err e) = record { number = number_of e; table = t }

abbrev pub added_by : ℕ → Table → Table → Added
added_by number t longer = record { number = number; table = pick (eqb number 0) longer t }

unfoldable pub adding_node : Table → Node → Added
adding_node t n = added_by (first (add_node_rows t n)) t (with_node t n)

unfoldable pub adding_rule : Table → Rule → Added
adding_rule t r = added_by (first (add_rule_rows t r)) t (with_rule t r)
