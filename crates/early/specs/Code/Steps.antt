-- The two columns of each node in the halves of the scratch, and what the functions that write them leave there.
use Rattle.std.specs.Prelude.{◌≡◌, Bool, true, false, not, ◌||◌, ◌&&◌, List, ℕ, ◌+◌, ◌*◌, ◌≤◌, ◌<◌, ltb, length, get_or, drop}
use Rattle.limits.specs.Limits.{max_nodes, max_trace, register_words, scratch_words, early_scratch_words}
use Rattle.lists.specs.Bits.{bit_at, words, packed}
use Rattle.mltl.specs.Mltl.{eventually}
use Rattle.mltl.specs.Known.{Value, no, undecided, yes, is_yes, is_no, known, whole, whole_release}
use Rattle.column.specs.Column.{register, filled}
use Rattle.pair.specs.Pair.{both}
use Rattle.signal.specs.Signal.{signal_column}
use Rattle.table.specs.Nodes.{Op, Unknown, Signal, Top, Bottom, Not, And, Or, Finally, Globally, Until, Release, op_of, no_node, formula_at}
use Rattle.table.specs.Sound.{fits}
use Rattle.table.specs.declared.Node.{Node}
use Rattle.needed.specs.Marks.{marked}
use Rattle.windows.specs.Windows.{until_of}
use Rattle.layout.specs.Layout.{Step}

-- ---- the halves
-- the one that begins at p
abbrev pub half : ℕ → List ℕ → List ℕ
half p xs = register p scratch_words xs

-- node i's register in it
abbrev pub in_half : ℕ → ℕ → ℕ → List ℕ → List ℕ
in_half p i n xs = register (register_words * i) (words n) (half p xs)

-- ---- operators
-- those with operands, but not
abbrev pub operates : Op → Bool
operates Unknown = false
operates Signal = false
operates Top = false
operates Bottom = false
operates Not = false
operates And = true
operates Or = true
operates Finally = true
operates Globally = true
operates Until = true
operates Release = true

-- true, false, and what is none
abbrev pub constant : Op → Bool
constant Unknown = true
constant Signal = false
constant Top = true
constant Bottom = true
constant Not = false
constant And = false
constant Or = false
constant Finally = false
constant Globally = false
constant Until = false
constant Release = false

-- ---- one half: a column by the class of the operator (and, or; F, G; U, R), from the operands' registers c and d; clear for any other operator
abbrev pub join_column : Op → Node → ℕ → List ℕ → List ℕ → ℕ → Bool
join_column Unknown x n c d = filled 0
join_column Signal x n c d = filled 0
join_column Top x n c d = filled 0
join_column Bottom x n c d = filled 0
join_column Not x n c d = filled 0
join_column And x n c d = both ◌||◌ c d
join_column Or x n c d = both ◌||◌ c d
join_column Finally x n c d = eventually (64 * words n) x.lo x.hi (bit_at c)
join_column Globally x n c d = eventually (64 * words n) x.lo x.hi (bit_at c)
join_column Until x n c d = until_of x.lo x.hi (words n) c d
join_column Release x n c d = until_of x.lo x.hi (words n) c d

abbrev pub meet_column : Op → Node → ℕ → List ℕ → List ℕ → ℕ → Bool
meet_column Unknown x n c d = filled 0
meet_column Signal x n c d = filled 0
meet_column Top x n c d = filled 0
meet_column Bottom x n c d = filled 0
meet_column Not x n c d = filled 0
meet_column And x n c d = both ◌&&◌ c d
meet_column Or x n c d = both ◌&&◌ c d
meet_column Finally x n c d = whole x.lo x.hi (bit_at c)
meet_column Globally x n c d = whole x.lo x.hi (bit_at c)
meet_column Until x n c d = whole_release x.lo x.hi (bit_at c) (bit_at d)
meet_column Release x n c d = whole_release x.lo x.hi (bit_at c) (bit_at d)

-- those of node x in a half xs
unfoldable pub join_column_in : Node → ℕ → List ℕ → ℕ → Bool
join_column_in x n xs = join_column (op_of x.kind) x n (register (register_words * x.left) (words n) xs) (register (register_words * x.right) (words n) xs)

unfoldable pub meet_column_in : Node → ℕ → List ℕ → ℕ → Bool
meet_column_in x n xs = meet_column (op_of x.kind) x n (register (register_words * x.left) (words n) xs) (register (register_words * x.right) (words n) xs)

-- the half that is joined
abbrev pub join_place : Op → ℕ
join_place Unknown = scratch_words
join_place Signal = scratch_words
join_place Top = scratch_words
join_place Bottom = scratch_words
join_place Not = scratch_words
join_place And = scratch_words
join_place Or = 0
join_place Finally = 0
join_place Globally = scratch_words
join_place Until = 0
join_place Release = scratch_words

-- ---- both halves: the yes and the no column of a node, from the yes and the no registers of its operands
abbrev pub yes_column : Op → Node → ℕ → List ℕ → List ℕ → List ℕ → List ℕ → List ℕ → ℕ → Bool
yes_column Unknown x n states ya na yb nb = filled 0
yes_column Signal x n states ya na yb nb = signal_column x.arg states
yes_column Top x n states ya na yb nb = filled n
yes_column Bottom x n states ya na yb nb = filled 0
yes_column Not x n states ya na yb nb = bit_at na
yes_column And x n states ya na yb nb = both ◌&&◌ ya yb
yes_column Or x n states ya na yb nb = both ◌||◌ ya yb
yes_column Finally x n states ya na yb nb = eventually (64 * words n) x.lo x.hi (bit_at ya)
yes_column Globally x n states ya na yb nb = whole x.lo x.hi (bit_at ya)
yes_column Until x n states ya na yb nb = until_of x.lo x.hi (words n) ya yb
yes_column Release x n states ya na yb nb = whole_release x.lo x.hi (bit_at ya) (bit_at yb)

abbrev pub no_column : Op → Node → ℕ → List ℕ → List ℕ → List ℕ → List ℕ → List ℕ → ℕ → Bool
no_column Unknown x n states ya na yb nb = filled n
no_column Signal x n states ya na yb nb = λ t. ltb t n && not (signal_column x.arg states t)
no_column Top x n states ya na yb nb = filled 0
no_column Bottom x n states ya na yb nb = filled n
no_column Not x n states ya na yb nb = bit_at ya
no_column And x n states ya na yb nb = both ◌||◌ na nb
no_column Or x n states ya na yb nb = both ◌&&◌ na nb
no_column Finally x n states ya na yb nb = whole x.lo x.hi (bit_at na)
no_column Globally x n states ya na yb nb = eventually (64 * words n) x.lo x.hi (bit_at na)
no_column Until x n states ya na yb nb = whole_release x.lo x.hi (bit_at na) (bit_at nb)
no_column Release x n states ya na yb nb = until_of x.lo x.hi (words n) na nb

unfoldable pub yes_in : Node → ℕ → List ℕ → List ℕ → ℕ → Bool
yes_in x n states xs =
    yes_column (op_of x.kind) x n states (in_half 0 x.left n xs) (in_half scratch_words x.left n xs) (in_half 0 x.right n xs) (in_half scratch_words x.right n xs)

unfoldable pub no_in : Node → ℕ → List ℕ → List ℕ → ℕ → Bool
no_in x n states xs =
    no_column (op_of x.kind) x n states (in_half 0 x.left n xs) (in_half scratch_words x.left n xs) (in_half 0 x.right n xs) (in_half scratch_words x.right n xs)

-- ---- steps
-- a step in each half, and from their end on ys is xs
pub record TwoSteps (b m : ℕ) (f g : ℕ → Bool) (xs ys : List ℕ) : Type 0 where
  pub yes_step : Step b m f (half 0 xs) (half 0 ys)
  pub no_step : Step b m g (half scratch_words xs) (half scratch_words ys)
  pub rest : drop early_scratch_words ys ≡ drop early_scratch_words xs

abbrev pub NodeStep : Node → ℕ → ℕ → List ℕ → List ℕ → List ℕ → Type 0
NodeStep x i n states xs ys = TwoSteps (register_words * i) (words n) (yes_in x n states xs) (no_in x n states xs) xs ys

-- the registers of each marked one of the first k nodes hold where its formula is yes and where it is no, and from the end of the halves on ys is xs
pub record Columns (k : ℕ) (nodes : List Node) (marks : ℕ) (states xs ys : List ℕ) : Type 0 where
  pub yeses : (j : ℕ) → j < k → marked marks j ≡ true → in_half 0 j (length states) ys ≡ packed (length states) (λ t. is_yes (known (formula_at nodes j) states t))
  pub noes : (j : ℕ) → j < k → marked marks j ≡ true → in_half scratch_words j (length states) ys ≡ packed (length states) (λ t. is_no (known (formula_at nodes j) states t))
  pub rest : drop early_scratch_words ys ≡ drop early_scratch_words xs

-- ---- the answer
-- the value whose yes and no bits these are
abbrev pub value_by : Bool → Bool → Value
value_by true n = yes
value_by false true = no
value_by false false = undecided

-- what is known of node k at a tick can be told
pub record Answerable (nodes : List Node) (k : ℕ) (states : List ℕ) (tick : ℕ) (scratch : List ℕ) : Type 0 where
  pub place : k < max_nodes
  pub fitting : (i : ℕ) → i < k + 1 → fits i (get_or nodes i no_node) ≡ true
  pub short : length states ≤ max_trace
  pub seen : tick < length states
  pub enough : early_scratch_words ≤ length scratch
