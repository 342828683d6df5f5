-- What the operator of a node leaves is the node's step. Assumes nothing.
use mathlib.Core.Path.{◌≡◌, sym, refl, subst}
use mathlib.Core.Logic.{◌⊎◌, ⊎_elim}
use mathlib.Core.Bool.{not, ◌&&◌}
use mathlib.Core.List.{List}
use Prim.Native.Nat.{ℕ, ◌+◌, ◌*◌}
use lib.Dec.{leb}
use lib.ListN.{length}
use Rattle.limits.specs.Limits.{register_words, scratch_words}
use Rattle.lists.specs.Bits.{words}
use Rattle.lists.specs.Choice.{pick}
use Rattle.interval.specs.Parts.{bad_interval}
use Rattle.column.specs.Column.{register, filled}
use Rattle.table.specs.Nodes.{Op, Unknown, Signal, Top, Bottom, Not, And, Or, Finally, Globally, Until, Release, op_of}
use Rattle.table.specs.declared.Node.{Node}
use Rattle.operators.specs.Operators.{one_fits, two_fit, four_fit, signal_laid, fill_laid, not_laid, and_laid, or_laid, some_laid, all_laid, until_laid, release_laid}
use Rattle.operators.proofs.Fits.{one_fits_lem, two_fit_lem}
use Rattle.layout.specs.Layout.{left_place, work_place, Step, Computable}
use Rattle.layout.proofs.Steps.{place_fits, laid_step, signal_step, worked_step}
use Rattle.layout.proofs.Fitting.{place_of, left_fits, right_fits, one_window, two_window}
use Rattle.verdict.specs.Code.Steps.{node_column, column_in}

module _ {i n : ℕ} {x : Node} {xs : List ℕ} (h : Computable scratch_words i n x xs) where
  abbrev own : ℕ
  own = register_words * i

  abbrev left : ℕ
  left = register_words * x.left

  abbrev right : ℕ
  right = register_words * x.right

  abbrev m : ℕ
  m = words n

  -- ---- what they leave
  module _ {ys : List ℕ} (states : List ℕ) where
    by_op : {o : Op} → o ≡ op_of x.kind → Step own m (node_column o x n states (register left m xs) (register right m xs)) xs ys → Step own m (column_in x n states xs) xs ys
    unfolding column_in
    by_op e s = subst (λ (o : Op). Step own m (node_column o x n states (register left m xs) (register right m xs)) xs ys) e s

    pub of_signal : Signal ≡ op_of x.kind → ys ≡ pick (leb (own + m) (length xs)) (signal_laid own m states x.arg xs) xs → Step own m (column_in x n states xs) xs ys
    of_signal e q = by_op e (signal_step (place_of h) q)

    pub of_top : Top ≡ op_of x.kind → ys ≡ pick (leb (own + m) (length xs)) (fill_laid own m n xs) xs → Step own m (column_in x n states xs) xs ys
    of_top e q = by_op e (laid_step (place_of h) (place_fits (place_of h)) q)

    -- false, and a kind that is none
    pub of_none : op_of x.kind ≡ Bottom ⊎ op_of x.kind ≡ Unknown → ys ≡ pick (leb (own + m) (length xs)) (fill_laid own m 0 xs) xs → Step own m (column_in x n states xs) xs ys
    of_none e q = ⊎_elim (λ b. by_op (sym b) s) (λ u. by_op (sym u) s) e
      where
        s : Step own m (filled 0) xs ys
        s = laid_step (place_of h) (place_fits (place_of h)) q

    pub of_not : Not ≡ op_of x.kind → ys ≡ pick (one_fits left own m (length xs)) (not_laid left own m n xs) xs → Step own m (column_in x n states xs) xs ys
    of_not e q = by_op e (laid_step (place_of h) (one_fits_lem (left_fits h e refl)) q)

    pub of_and : And ≡ op_of x.kind → ys ≡ pick (two_fit left right own m (length xs)) (and_laid left right own m xs) xs → Step own m (column_in x n states xs) xs ys
    of_and e q = by_op e (laid_step (place_of h) (two_fit_lem (left_fits h e refl) (right_fits h e refl)) q)

    pub of_or : Or ≡ op_of x.kind → ys ≡ pick (two_fit left right own m (length xs)) (or_laid left right own m xs) xs → Step own m (column_in x n states xs) xs ys
    of_or e q = by_op e (laid_step (place_of h) (two_fit_lem (left_fits h e refl) (right_fits h e refl)) q)

    pub of_some : Finally ≡ op_of x.kind
        → ys ≡ pick (one_fits left own m (length xs) && not (bad_interval x.lo x.hi)) (some_laid left own m x.lo x.hi xs) xs → Step own m (column_in x n states xs) xs ys
    of_some e q = by_op e (laid_step (place_of h) (one_window h e refl refl) q)

    pub of_all : Globally ≡ op_of x.kind
        → ys ≡ pick (one_fits left own m (length xs) && not (bad_interval x.lo x.hi)) (all_laid left own m x.lo x.hi n xs) xs → Step own m (column_in x n states xs) xs ys
    of_all e q = by_op e (laid_step (place_of h) (one_window h e refl refl) q)

    pub of_until : Until ≡ op_of x.kind
        → ys ≡ pick (four_fit left right own left_place work_place m (length xs) && not (bad_interval x.lo x.hi))
        (until_laid left right own left_place work_place m x.lo x.hi xs) xs → Step own m (column_in x n states xs) xs ys
    of_until e q = by_op e (worked_step _ _ _ (place_of h) (two_window h e refl refl refl) q)

    pub of_release : Release ≡ op_of x.kind
        → ys ≡ pick (four_fit left right own left_place work_place m (length xs) && not (bad_interval x.lo x.hi))
        (release_laid left right own left_place work_place m x.lo x.hi n xs) xs → Step own m (column_in x n states xs) xs ys
    of_release e q = by_op e (worked_step _ _ _ (place_of h) (two_window h e refl refl refl) q)
