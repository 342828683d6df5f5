-- What one node does to the marks.
use Rattle.std.specs.Prelude.{ℕ, Bool, ◌&&◌, ltb}
use Rattle.lists.specs.Bits.{bit}
use Rattle.lists.specs.Choice.{pick}
use Rattle.table.specs.Nodes.{op_of, uses_of}
use Rattle.table.specs.declared.Node.{Node}
use Rattle.needed.specs.Marks.{mark}

-- an operand at k is marked, where its node at place i uses it and stands after it
abbrev pub mark_operand : ℕ → ℕ → Bool → ℕ → ℕ
mark_operand ms i used k = pick (used && ltb k i) (mark ms k) ms

-- both operands of the node n at place i
abbrev pub mark_operands : ℕ → ℕ → Node → ℕ
mark_operands ms i n =
    mark_operand (mark_operand ms i (uses_of (op_of n.kind)).left n.left) i (uses_of (op_of n.kind)).right n.right

-- the same, where the node is marked
abbrev pub mark_node : ℕ → ℕ → Node → ℕ
mark_node ms i n = pick (bit ms i) (mark_operands ms i n) ms
