-- The registers of a table's nodes in a scratch, and what a step at a node leaves there.
use Rattle.std.specs.Prelude.{◌≡◌, Bool, true, List, ℕ, ◌+◌, ◌-◌, ◌*◌, ◌≤◌, ◌<◌, length, get_or, take, drop}
use Rattle.limits.specs.Limits.{max_nodes, max_trace, register_words, scratch_words}
use Rattle.lists.specs.Bits.{pack, words}
use Rattle.operators.specs.declared.Places.{Places}
use Rattle.column.specs.Column.{register}
use Rattle.table.specs.Nodes.{no_node}
use Rattle.table.specs.Sound.{fits}
use Rattle.table.specs.declared.Node.{Node}
use Rattle.needed.specs.Marks.{Needs}

-- ---- where they lie
-- node i's begins at register_words * i; after those of 64 nodes, for U and R: the register of the left operand, and one to work in
abbrev pub left_place : ℕ
left_place = max_nodes * register_words

abbrev pub work_place : ℕ
work_place = left_place + register_words

-- the registers of node x at place i, and of its operands, for columns of n bits
abbrev pub places : Node → ℕ → ℕ → Places
places x i n = record {
  left = register_words * x.left;
  right = register_words * x.right;
  result = register_words * i;
  copy = left_place;
  work = work_place;
  words = words n;
}

-- a node's register at b, of which m words are used, in a scratch with room for all
pub record Place (b m : ℕ) (xs : List ℕ) : Type 0 where
  pub node : b + register_words ≤ left_place
  pub small : m ≤ register_words
  pub enough : scratch_words ≤ length xs

-- ---- what stands in them
-- ys holds the column f in its register at b; below b, and from the end of the registers on, it is xs
pub record Step (b m : ℕ) (f : ℕ → Bool) (xs ys : List ℕ) : Type 0 where
  pub here : register b m ys ≡ pack m f
  pub low : take b ys ≡ take b xs
  pub high : drop scratch_words ys ≡ drop scratch_words xs

-- a node that can be computed at place i, in a scratch of `size` words or more
pub record Computable (size i n : ℕ) (x : Node) (xs : List ℕ) : Type 0 where
  pub place : i < max_nodes
  pub short : n ≤ max_trace
  pub enough : size ≤ length xs
  pub fitting : fits i x ≡ true

-- the first k nodes can be, and the marks are those of what the last of them needs
pub record Runnable (size k : ℕ) (nodes : List Node) (marks : ℕ) (states xs : List ℕ) : Type 0 where
  pub some : 0 < k
  pub places : k ≤ max_nodes
  pub fitting : (i : ℕ) → i < k → fits i (get_or nodes i no_node) ≡ true
  pub short : length states ≤ max_trace
  pub enough : size ≤ length xs
  pub needs : Needs nodes (k - 1) marks
