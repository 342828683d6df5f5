-- What the operators of a node's kind leave is a step. Assumes nothing.
use mathlib.Core.Path.{◌≡◌, refl, sym, subst}
use mathlib.Core.Bool.{Bool, true, false, false≢true, not, ◌&&◌, ◌||◌}
use mathlib.Core.List.{List}
use Prim.Native.Nat.{ℕ, ◌*◌}
use lib.ListN.{length}
use Rattle.limits.specs.Limits.{register_words, scratch_words}
use Rattle.lists.specs.Bits.{bit_at, words}
use Rattle.mltl.specs.Mltl.{eventually}
use Rattle.mltl.specs.Known.{whole, whole_release}
use Rattle.column.specs.Column.{register}
use Rattle.pair.specs.Pair.{both}
use Rattle.windows.specs.Windows.{until_of}
use Rattle.lists.specs.Choice.{pick}
use Rattle.interval.specs.Parts.{bad_interval}
use Rattle.table.specs.Nodes.{Op, Unknown, Signal, Top, Bottom, Not, And, Or, Finally, Globally, Until, Release, op_of, uses_of}
use Rattle.table.specs.declared.Node.{Node}
use Rattle.operators.specs.Operators.{one_fits, two_fit, four_fit, and_laid, or_laid, some_laid, whole_laid, until_laid, whole_release_laid}
use Rattle.operators.proofs.Fits.{two_fit_lem}
use Rattle.layout.specs.Layout.{left_place, work_place, Step, Computable}
use Rattle.layout.proofs.Steps.{laid_step, worked_step}
use Rattle.layout.proofs.Fitting.{place_of, left_fits, right_fits, one_window, two_window}
use Rattle.early.specs.Code.Steps.{join_column, meet_column, join_column_in, meet_column_in}

-- ---- operators with operands, but not, by their classes
abbrev pub pair : Op → Bool
pair Unknown = false
pair Signal = false
pair Top = false
pair Bottom = false
pair Not = false
pair And = true
pair Or = true
pair Finally = false
pair Globally = false
pair Until = false
pair Release = false

each_pair : (P : Op → Type 0) → P And → P Or → (o : Op) → pair o ≡ true → P o
each_pair P a b Unknown e = absurd (false≢true e)
each_pair P a b Signal e = absurd (false≢true e)
each_pair P a b Top e = absurd (false≢true e)
each_pair P a b Bottom e = absurd (false≢true e)
each_pair P a b Not e = absurd (false≢true e)
each_pair P a b And e = a
each_pair P a b Or e = b
each_pair P a b Finally e = absurd (false≢true e)
each_pair P a b Globally e = absurd (false≢true e)
each_pair P a b Until e = absurd (false≢true e)
each_pair P a b Release e = absurd (false≢true e)

abbrev pub window : Op → Bool
window Unknown = false
window Signal = false
window Top = false
window Bottom = false
window Not = false
window And = false
window Or = false
window Finally = true
window Globally = true
window Until = false
window Release = false

each_window : (P : Op → Type 0) → P Finally → P Globally → (o : Op) → window o ≡ true → P o
each_window P a b Unknown e = absurd (false≢true e)
each_window P a b Signal e = absurd (false≢true e)
each_window P a b Top e = absurd (false≢true e)
each_window P a b Bottom e = absurd (false≢true e)
each_window P a b Not e = absurd (false≢true e)
each_window P a b And e = absurd (false≢true e)
each_window P a b Or e = absurd (false≢true e)
each_window P a b Finally e = a
each_window P a b Globally e = b
each_window P a b Until e = absurd (false≢true e)
each_window P a b Release e = absurd (false≢true e)

abbrev pub reach : Op → Bool
reach Unknown = false
reach Signal = false
reach Top = false
reach Bottom = false
reach Not = false
reach And = false
reach Or = false
reach Finally = false
reach Globally = false
reach Until = true
reach Release = true

each_reach : (P : Op → Type 0) → P Until → P Release → (o : Op) → reach o ≡ true → P o
each_reach P a b Unknown e = absurd (false≢true e)
each_reach P a b Signal e = absurd (false≢true e)
each_reach P a b Top e = absurd (false≢true e)
each_reach P a b Bottom e = absurd (false≢true e)
each_reach P a b Not e = absurd (false≢true e)
each_reach P a b And e = absurd (false≢true e)
each_reach P a b Or e = absurd (false≢true e)
each_reach P a b Finally e = absurd (false≢true e)
each_reach P a b Globally e = absurd (false≢true e)
each_reach P a b Until e = a
each_reach P a b Release e = b

-- ---- one half
module _ {i n : ℕ} {x : Node} {xs : List ℕ} (h : Computable scratch_words i n x xs) where
  abbrev own : ℕ
  own = register_words * i

  abbrev left : ℕ
  left = register_words * x.left

  abbrev right : ℕ
  right = register_words * x.right

  abbrev m : ℕ
  m = words n

  abbrev A : List ℕ
  A = register left m xs

  abbrev B : List ℕ
  B = register right m xs

  -- the operator of the node, the fields that it uses, and its column
  module _ {o : Op} (e : o ≡ op_of x.kind) where
    module _ {ys : List ℕ} where
      by_join : Step own m (join_column o x n A B) xs ys → Step own m (join_column_in x n xs) xs ys
      unfolding join_column_in
      by_join s = subst (λ (p : Op). Step own m (join_column p x n A B) xs ys) e s

      by_meet : Step own m (meet_column o x n A B) xs ys → Step own m (meet_column_in x n xs) xs ys
      unfolding meet_column_in
      by_meet s = subst (λ (p : Op). Step own m (meet_column p x n A B) xs ys) e s

      or_by : (uses_of o).left ≡ true → (uses_of o).right ≡ true → join_column o x n A B ≡ both ◌||◌ A B
          → ys ≡ pick (two_fit left right own m (length xs)) (or_laid left right own m xs) xs → Step own m (join_column_in x n xs) xs ys
      unfolding join_column_in
      or_by l r c q = by_join (subst (λ (f : ℕ → Bool). Step own m f xs ys) (sym c) (laid_step (place_of h) (two_fit_lem (left_fits h e l) (right_fits h e r)) q))

      some_by : (uses_of o).left ≡ true → (uses_of o).interval ≡ true → join_column o x n A B ≡ eventually (64 * m) x.lo x.hi (bit_at A)
          → ys ≡ pick (one_fits left own m (length xs) && not (bad_interval x.lo x.hi)) (some_laid left own m x.lo x.hi xs) xs → Step own m (join_column_in x n xs) xs ys
      unfolding join_column_in
      some_by l i c q = by_join (subst (λ (f : ℕ → Bool). Step own m f xs ys) (sym c) (laid_step (place_of h) (one_window h e l i) q))

      until_by : (uses_of o).left ≡ true → (uses_of o).right ≡ true → (uses_of o).interval ≡ true → join_column o x n A B ≡ until_of x.lo x.hi m A B
          → ys ≡ pick (four_fit left right own left_place work_place m (length xs) && not (bad_interval x.lo x.hi)) (until_laid left right own left_place work_place m x.lo x.hi xs) xs → Step own m (join_column_in x n xs) xs ys
      unfolding join_column_in
      until_by l r i c q = by_join (subst (λ (f : ℕ → Bool). Step own m f xs ys) (sym c) (worked_step _ _ _ (place_of h) (two_window h e l r i) q))

      and_by : (uses_of o).left ≡ true → (uses_of o).right ≡ true → meet_column o x n A B ≡ both ◌&&◌ A B
          → ys ≡ pick (two_fit left right own m (length xs)) (and_laid left right own m xs) xs → Step own m (meet_column_in x n xs) xs ys
      unfolding meet_column_in
      and_by l r c q = by_meet (subst (λ (f : ℕ → Bool). Step own m f xs ys) (sym c) (laid_step (place_of h) (two_fit_lem (left_fits h e l) (right_fits h e r)) q))

      whole_by : (uses_of o).left ≡ true → (uses_of o).interval ≡ true → meet_column o x n A B ≡ whole x.lo x.hi (bit_at A)
          → ys ≡ pick (one_fits left own m (length xs) && not (bad_interval x.lo x.hi)) (whole_laid left own m x.lo x.hi xs) xs → Step own m (meet_column_in x n xs) xs ys
      unfolding meet_column_in
      whole_by l i c q = by_meet (subst (λ (f : ℕ → Bool). Step own m f xs ys) (sym c) (laid_step (place_of h) (one_window h e l i) q))

      whole_release_by : (uses_of o).left ≡ true → (uses_of o).right ≡ true → (uses_of o).interval ≡ true → meet_column o x n A B ≡ whole_release x.lo x.hi (bit_at A) (bit_at B)
          → ys ≡ pick (four_fit left right own left_place work_place m (length xs) && not (bad_interval x.lo x.hi)) (whole_release_laid left right own left_place work_place m x.lo x.hi xs) xs → Step own m (meet_column_in x n xs) xs ys
      unfolding meet_column_in
      whole_release_by l r i c q = by_meet (subst (λ (f : ℕ → Bool). Step own m f xs ys) (sym c) (worked_step _ _ _ (place_of h) (two_window h e l r i) q))

  module _ {ys : List ℕ} where
    pub or_step : pair (op_of x.kind) ≡ true → ys ≡ pick (two_fit left right own m (length xs)) (or_laid left right own m xs) xs → Step own m (join_column_in x n xs) xs ys
    or_step t q =
        each_pair (λ o. o ≡ op_of x.kind → Step own m (join_column_in x n xs) xs ys) (λ e. or_by e refl refl refl q) (λ e. or_by e refl refl refl q) (op_of x.kind) t refl

    pub some_step : window (op_of x.kind) ≡ true → ys ≡ pick (one_fits left own m (length xs) && not (bad_interval x.lo x.hi)) (some_laid left own m x.lo x.hi xs) xs → Step own m (join_column_in x n xs) xs ys
    some_step t q =
        each_window (λ o. o ≡ op_of x.kind → Step own m (join_column_in x n xs) xs ys) (λ e. some_by e refl refl refl q) (λ e. some_by e refl refl refl q) (op_of x.kind) t refl

    pub until_step : reach (op_of x.kind) ≡ true → ys ≡ pick (four_fit left right own left_place work_place m (length xs) && not (bad_interval x.lo x.hi)) (until_laid left right own left_place work_place m x.lo x.hi xs) xs → Step own m (join_column_in x n xs) xs ys
    until_step t q =
        each_reach (λ o. o ≡ op_of x.kind → Step own m (join_column_in x n xs) xs ys) (λ e. until_by e refl refl refl refl q) (λ e. until_by e refl refl refl refl q) (op_of x.kind) t refl

    pub and_step : pair (op_of x.kind) ≡ true → ys ≡ pick (two_fit left right own m (length xs)) (and_laid left right own m xs) xs → Step own m (meet_column_in x n xs) xs ys
    and_step t q =
        each_pair (λ o. o ≡ op_of x.kind → Step own m (meet_column_in x n xs) xs ys) (λ e. and_by e refl refl refl q) (λ e. and_by e refl refl refl q) (op_of x.kind) t refl

    pub whole_step : window (op_of x.kind) ≡ true → ys ≡ pick (one_fits left own m (length xs) && not (bad_interval x.lo x.hi)) (whole_laid left own m x.lo x.hi xs) xs → Step own m (meet_column_in x n xs) xs ys
    whole_step t q =
        each_window (λ o. o ≡ op_of x.kind → Step own m (meet_column_in x n xs) xs ys) (λ e. whole_by e refl refl refl q) (λ e. whole_by e refl refl refl q) (op_of x.kind) t refl

    pub whole_release_step : reach (op_of x.kind) ≡ true → ys ≡ pick (four_fit left right own left_place work_place m (length xs) && not (bad_interval x.lo x.hi)) (whole_release_laid left right own left_place work_place m x.lo x.hi xs) xs → Step own m (meet_column_in x n xs) xs ys
    whole_release_step t q =
        each_reach (λ o. o ≡ op_of x.kind → Step own m (meet_column_in x n xs) xs ys) (λ e. whole_release_by e refl refl refl refl q) (λ e. whole_release_by e refl refl refl refl q) (op_of x.kind) t refl
