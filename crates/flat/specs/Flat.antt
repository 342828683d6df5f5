-- A table as 546 bytes, as C programs hold it: byte 0 the node count, byte 1 the rule count, from 2 the 64 nodes of 8 bytes,
-- from 514 the 8 rules of 4 bytes. Numbers of two bytes have the low one first.
use Rattle.std.specs.Prelude.{ℕ, ◌+◌, ◌-◌, ◌*◌, ◌/◌, ◌%◌, Bool, ◌&&◌, List, [], ◌∷◌, ◌++◌, length, get_or, drop, ltb, leb, eqb}
use Rattle.limits.specs.Limits.{max_nodes, max_rules, table_bytes}
use Rattle.lists.specs.Choice.{pick}
use Rattle.lists.specs.Sequence.{ticks, pair_at}
use Rattle.table.specs.Nodes.{no_table, node_at, rule_at}
use Rattle.table.specs.declared.Node.{Node}
use Rattle.table.specs.declared.Rule.{Rule}
use Rattle.table.specs.declared.Table.{Table}

-- ---- to bytes
abbrev pub node_byte : Node → ℕ → ℕ
node_byte n k =
    get_or (n.kind ∷ n.arg ∷ n.lo % 256 ∷ n.lo / 256 ∷ n.hi % 256 ∷ n.hi / 256 ∷ n.left ∷ n.right ∷ []) k 0

abbrev pub rule_byte : Rule → ℕ → ℕ
rule_byte r k = get_or (r.name % 256 ∷ r.name / 256 ∷ r.watched ∷ 0 ∷ []) k 0

-- the byte at place j
abbrev pub table_byte : Table → ℕ → ℕ
table_byte t j =
    pick (ltb j 2) (get_or (t.node_count % 256 ∷ t.rule_count % 256 ∷ []) j 0)
    (pick (ltb j 514) (node_byte (node_at t ((j - 2) / 8)) ((j - 2) % 8)) (rule_byte (rule_at t ((j - 514) / 4)) ((j - 514) % 4)))

abbrev pub bytes_holding : Table → List ℕ
bytes_holding t = ticks (table_byte t) table_bytes

-- a buffer with the table's bytes in its first places, if it has room for them
unfoldable pub written : Table → List ℕ → List ℕ
written t out = pick (leb table_bytes (length out)) (bytes_holding t ++ drop table_bytes out) out

-- ---- from bytes
abbrev pub byte_at : List ℕ → ℕ → ℕ
byte_at b i = get_or b i 0

abbrev pub node_from : List ℕ → ℕ → Node
node_from b i = record {
  kind = byte_at b (2 + 8 * i);
  arg = byte_at b (2 + 8 * i + 1);
  lo = pair_at b (2 + 8 * i + 2);
  hi = pair_at b (2 + 8 * i + 4);
  left = byte_at b (2 + 8 * i + 6);
  right = byte_at b (2 + 8 * i + 7);
}

abbrev pub rule_from : List ℕ → ℕ → Rule
rule_from b i = record { name = pair_at b (514 + 4 * i); watched = byte_at b (514 + 4 * i + 2) }

-- the bytes behind the rules are zero
abbrev pub unpadded : List ℕ → Bool
unpadded b =
    eqb (byte_at b 517) 0 && eqb (byte_at b 521) 0 && eqb (byte_at b 525) 0 && eqb (byte_at b 529) 0
    && eqb (byte_at b 533) 0 && eqb (byte_at b 537) 0 && eqb (byte_at b 541) 0 && eqb (byte_at b 545) 0

-- bytes that are too few, or of which one behind a rule is set, are no table's: they give 'no table', which is not sound
unfoldable pub table_from : List ℕ → Table
table_from b =
    pick (leb table_bytes (length b))
    (pick (unpadded b)
    (record { nodes = ticks (node_from b) max_nodes; node_count = byte_at b 0; rules = ticks (rule_from b) max_rules; rule_count = byte_at b 1 })
    no_table)
    no_table
