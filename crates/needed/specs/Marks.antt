-- Marks of the 64 places of nodes as the bits of one number: bit j is set where place j is marked. What is needed: all that is marked at first, and of
-- each node that is needed the operands before it.
use Rattle.std.specs.Prelude.{ℕ, suc, ◌+◌, ◌≤◌, ◌<◌, ◌≡◌, Bool, true, ◌&&◌, ◌||◌, List, [], ◌∷◌, ltb, eqb, get_or, take}
use Rattle.limits.specs.Limits.{max_nodes}
use Rattle.lists.specs.Bits.{bit, number}
use Rattle.lists.specs.Choice.{pick}
use Rattle.table.specs.Nodes.{op_of, uses_of, no_node}
use Rattle.table.specs.declared.Node.{Node}

-- the marks ms with one more at place k, if that is below 64
abbrev pub mark : ℕ → ℕ → ℕ
mark ms k = number max_nodes (λ j. bit ms j || eqb k j)

-- place i is marked
abbrev pub marked : ℕ → ℕ → Bool
marked marks i = bit marks i

-- j is a place of an operand that the kind of n uses
abbrev pub has_operand : Node → ℕ → Bool
has_operand n j = ((uses_of (op_of n.kind)).left && eqb n.left j) || ((uses_of (op_of n.kind)).right && eqb n.right j)

-- place j is needed, by the marks f at first and the nodes ns from place i on: it is marked at first, or a later node is needed and has it
-- as an operand
unfoldable pub is_needed : (ℕ → Bool) → ℕ → List Node → ℕ → Bool
is_needed f i [] j = f j
is_needed f i (n ∷ ns) j = is_needed f (suc i) ns j || (is_needed f (suc i) ns i && (ltb j i && has_operand n j))

-- the marks of all that is needed
unfoldable pub needed : ℕ → List Node → ℕ
needed seed ns = number max_nodes (is_needed (bit seed) 0 ns)

-- those of what node k needs, itself included; none from place 64 on
unfoldable pub needed_for : ℕ → List Node → ℕ
needed_for k ns = pick (ltb k max_nodes) (needed (mark 0 k) (take (k + 1) ns)) 0

-- ---- what an evaluator asks of marks
-- of the marked node j an operand that it uses is marked
abbrev pub MarksOperand : ℕ → ℕ → Bool → ℕ → Type 0
MarksOperand marks j used operand = marked marks j ≡ true → used ≡ true → operand < j → marked marks operand ≡ true

-- node k is marked, and of each marked node up to k the operands
pub record Needs (nodes : List Node) (k marks : ℕ) : Type 0 where
  pub top : marked marks k ≡ true
  pub left : (j : ℕ) → j ≤ k → MarksOperand marks j (uses_of (op_of (get_or nodes j no_node).kind)).left (get_or nodes j no_node).left
  pub right : (j : ℕ) → j ≤ k → MarksOperand marks j (uses_of (op_of (get_or nodes j no_node).kind)).right (get_or nodes j no_node).right
