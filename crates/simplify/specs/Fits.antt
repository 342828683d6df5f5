-- Where a law of document 01, Simplifying, fits a table: a constructor a law, in the order of that paragraph.
use Rattle.std.specs.Prelude.{ℕ, ◌≤◌, ◌<◌, ◌≡◌, ◌⊎◌, false}
use Rattle.table.specs.Nodes.{Op, Top, Bottom, Not, And, Or, Finally, Globally, Until, Release, op_of, node_at, rule_at}
use Rattle.table.specs.declared.Node.{Node}
use Rattle.table.specs.declared.Table.{Table}
use Rattle.needed.specs.Marks.{has_operand}

abbrev pub op : Node → Op
op n = op_of n.kind

-- true or false
abbrev pub Constant : Node → Type 0
Constant n = (op n ≡ Top) ⊎ (op n ≡ Bottom)

-- the interval [0,0]
pub record Now (n : Node) : Type 0 where
  pub lo : n.lo ≡ 0
  pub hi : n.hi ≡ 0

-- the interval of l lies inside that of r
pub record Inside (l r : Node) : Type 0 where
  pub from : r.lo ≤ l.lo
  pub to : l.hi ≤ r.hi

-- l and r are of one operand, and the interval of one lies inside that of the other
pub record Nested (l r : Node) : Type 0 where
  pub operand : l.left ≡ r.left
  pub intervals : Inside l r ⊎ Inside r l

-- ---- a law fits the node n, whose left operand is l and whose right operand is r
pub data LawFits (n l r : Node) : Type 0 where
  -- not not
  not_not : op n ≡ Not → op l ≡ Not → LawFits n l r
  -- F, G, U, R at [0,0]
  F_now : op n ≡ Finally → Now n → LawFits n l r
  G_now : op n ≡ Globally → Now n → LawFits n l r
  U_now : op n ≡ Until → Now n → LawFits n l r
  R_now : op n ≡ Release → Now n → LawFits n l r
  -- F of F, G of G
  F_F : op n ≡ Finally → op l ≡ Finally → LawFits n l r
  G_G : op n ≡ Globally → op l ≡ Globally → LawFits n l r
  -- nested intervals: where the inner stays, and where the outer stays
  F_and_F : op n ≡ And → op l ≡ Finally → op r ≡ Finally → Nested l r → LawFits n l r
  G_or_G : op n ≡ Or → op l ≡ Globally → op r ≡ Globally → Nested l r → LawFits n l r
  F_or_F : op n ≡ Or → op l ≡ Finally → op r ≡ Finally → Nested l r → LawFits n l r
  G_and_G : op n ≡ And → op l ≡ Globally → op r ≡ Globally → Nested l r → LawFits n l r
  -- not of a constant
  not_constant : op n ≡ Not → Constant l → LawFits n l r
  -- and, or with a constant on either side
  and_constant : op n ≡ And → Constant l ⊎ Constant r → LawFits n l r
  or_constant : op n ≡ Or → Constant l ⊎ Constant r → LawFits n l r
  -- and, or with both operands one node
  and_same : op n ≡ And → n.left ≡ n.right → LawFits n l r
  or_same : op n ≡ Or → n.left ≡ n.right → LawFits n l r
  -- F false, U with right false; G true, R with right true (F true and G false stay)
  F_false : op n ≡ Finally → op l ≡ Bottom → LawFits n l r
  U_false : op n ≡ Until → op r ≡ Bottom → LawFits n l r
  G_true : op n ≡ Globally → op l ≡ Top → LawFits n l r
  R_true : op n ≡ Release → op r ≡ Top → LawFits n l r

-- ---- a law fits a table
pub data Fits (t : Table) : Type 0 where
  -- at the node of some place
  law_at : (i : ℕ) → i < t.node_count → LawFits (node_at t i) (node_at t (node_at t i).left) (node_at t (node_at t i).right) → Fits t
  -- two nodes equal in every field
  copies : (i j : ℕ) → i < j → j < t.node_count → node_at t i ≡ node_at t j → Fits t
  -- a node that nothing uses: it is no operand, and no rule watches it
  unused : (i : ℕ) → i < t.node_count → ((j : ℕ) → j < t.node_count → has_operand (node_at t j) i ≡ false)
      → ((r : ℕ) → r < t.rule_count → (rule_at t r).watched ≡ i → ⊥) → Fits t
