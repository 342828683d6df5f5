-- What the functions that write the nodes' registers leave in the scratch.
use Rattle.std.specs.Prelude.{◌≡◌, Bool, true, ◌||◌, ◌&&◌, List, ℕ, ◌+◌, ◌*◌, ◌≤◌, ◌<◌, length, get_or, drop}
use Rattle.limits.specs.Limits.{max_nodes, max_trace, register_words, scratch_words}
use Rattle.lists.specs.Bits.{words, bit_at, packed, below}
use Rattle.mltl.specs.Mltl.{holds, eventually, opposite}
use Rattle.column.specs.Column.{register, filled, flipped}
use Rattle.pair.specs.Pair.{both}
use Rattle.signal.specs.Signal.{signal_column}
use Rattle.table.specs.Nodes.{Op, Unknown, Signal, Top, Bottom, Not, And, Or, Finally, Globally, Until, Release, op_of, no_node, formula_at}
use Rattle.table.specs.Sound.{fits}
use Rattle.table.specs.declared.Node.{Node}
use Rattle.windows.specs.Windows.{until_of, release_of}
use Rattle.needed.specs.Marks.{marked}

-- ---- what stands in them
-- the column of a node by its kind, its operands' registers c and d, and the n states
abbrev pub node_column : Op → Node → ℕ → List ℕ → List ℕ → List ℕ → ℕ → Bool
node_column Unknown x n states c d = filled 0
node_column Signal x n states c d = signal_column x.arg states
node_column Top x n states c d = filled n
node_column Bottom x n states c d = filled 0
node_column Not x n states c d = flipped n c
node_column And x n states c d = both ◌&&◌ c d
node_column Or x n states c d = both ◌||◌ c d
node_column Finally x n states c d = eventually (64 * words n) x.lo x.hi (bit_at c)
node_column Globally x n states c d = below n (opposite (eventually (64 * words n) x.lo x.hi (flipped n c)))
node_column Until x n states c d = until_of x.lo x.hi (words n) c d
node_column Release x n states c d = release_of n x.lo x.hi (words n) c d

-- the column of node x in a scratch xs
unfoldable pub column_in : Node → ℕ → List ℕ → List ℕ → ℕ → Bool
column_in x n states xs = node_column (op_of x.kind) x n states (register (register_words * x.left) (words n) xs) (register (register_words * x.right) (words n) xs)

-- the register of each marked one of the first k nodes holds its formula's verdicts, and from the end of the registers on ys is xs
pub record Columns (k : ℕ) (nodes : List Node) (marks : ℕ) (trace xs ys : List ℕ) : Type 0 where
  pub at : (j : ℕ) → j < k → marked marks j ≡ true → register (register_words * j) (words (length trace)) ys ≡ packed (length trace) (holds (formula_at nodes j) trace)
  pub high : drop scratch_words ys ≡ drop scratch_words xs

-- the verdicts of node k at the first `count` ticks can be given
pub record Judgeable (ns : List Node) (k : ℕ) (trace : List ℕ) (count : ℕ) (scratch out : List ℕ) : Type 0 where
  pub place : k < max_nodes
  pub fitting : (i : ℕ) → i < k + 1 → fits i (get_or ns i no_node) ≡ true
  pub short : length trace ≤ max_trace
  pub ticks : count ≤ length trace
  pub scratch_fits : scratch_words ≤ length scratch
  pub out_fits : words count ≤ length out
