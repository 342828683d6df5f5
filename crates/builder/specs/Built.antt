-- Tables by the nodes and rules that they hold, and tables that are built by adding.
use Rattle.std.specs.Prelude.{ℕ, ◌≤◌, ◌<◌, ◌≡◌, false, List, length, get_or}
use Rattle.limits.specs.Limits.{max_nodes, max_rules}
use Rattle.lists.specs.Sequence.{padded}
use Rattle.table.specs.Nodes.{op_of, uses_of, no_node, no_rule, no_table, delays, cap}
use Rattle.table.specs.declared.Node.{Node}
use Rattle.table.specs.declared.Rule.{Rule}
use Rattle.table.specs.declared.Table.{Table}
use Rattle.builder.specs.Adding.{adding_node, adding_rule}

-- the table of these nodes and these rules, its free places all zero
abbrev pub table_holding : List Node → List Rule → Table
table_holding ns rs = record {
  nodes = padded no_node max_nodes ns;
  node_count = length ns;
  rules = padded no_rule max_rules rs;
  rule_count = length rs;
}

-- a kind that is a node's, and no field set that it does not use
pub record NodeForm (n : Node) : Type 0 where
  pub known : 1 ≤ n.kind
  pub node : n.kind ≤ 10
  pub arg : (uses_of (op_of n.kind)).arg ≡ false → n.arg ≡ 0
  pub hi : (uses_of (op_of n.kind)).interval ≡ false → n.hi ≡ 0
  pub left : (uses_of (op_of n.kind)).left ≡ false → n.left ≡ 0
  pub right : (uses_of (op_of n.kind)).right ≡ false → n.right ≡ 0

-- no table, and what accepted additions make of it
pub data Built : Table → Type 0 where
  none : Built no_table
  node : {t : Table} (n : Node) → Built t → NodeForm n → (adding_node t n).number ≡ 0 → Built (adding_node t n).table
  rule : {t : Table} (r : Rule) → Built t → (adding_rule t r).number ≡ 0 → Built (adding_rule t r).table

-- ds holds, in their places, the delays of the table's nodes, capped
pub record Delays (t : Table) (ds : List ℕ) : Type 0 where
  pub places : length ds ≡ max_nodes
  pub node_places : length t.nodes ≡ max_nodes
  pub node : (k : ℕ) → k < t.node_count → get_or ds k 0 ≡ cap (get_or (delays t.nodes) k 0)
