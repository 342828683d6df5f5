-- The columns of a node are where its formula is known to be yes, and no. Assumes nothing.
use mathlib.Core.Path.{◌≡◌, refl, sym, ap, ◌∙◌}
use mathlib.Core.Logic.{⊎_elim}
use mathlib.Core.Bool.{Bool, true, false, and-true, and-false}
use mathlib.Core.List.{List}
use Prim.Native.Nat.{ℕ, ◌+◌, ◌*◌, ◌≤◌, ◌<◌}
use native.Mathlib.Omega.{arith}
use borrow.Author.Tests.{le-ltb}
use lib.Dec.{ltb}
use lib.ListN.{length, get_or-eq_default}
use Rattle.lists.specs.Bits.{bit, bit_at, words, pack, packed, below}
use Rattle.lists.proofs.Tests.{lt_or_le}
use Rattle.lists.proofs.Bits.{bit_none}
use Rattle.lists.proofs.Columns.{pack_ext}
use Rattle.mltl.specs.Mltl.{Formula, eventually, until}
use Rattle.mltl.specs.Known.{Value, is_yes, is_no, known, whole, whole_release}
use Rattle.mltl.proofs.Known.{unseen}
use Rattle.mltl.proofs.KnownColumns.{TwoColumns, FormulaColumns, yes_ends, no_ends, signal_columns, const_columns, not_columns, and_columns, or_columns, F_columns, G_columns, U_columns, R_columns}
use Rattle.mltl.proofs.Whole.{whole_clear, whole_release_clear}
use Rattle.table.specs.Nodes.{Op, Unknown, Signal, Top, Bottom, Not, And, Or, Finally, Globally, Until, Release, uses_of, formula_as}
use Rattle.table.specs.declared.Node.{Node}
use Rattle.signal.specs.Signal.{signal_column}
use Rattle.layout.proofs.Columns.{below_past, below_in, bit_at_packed, until_below, eventually_below}
use Rattle.early.specs.Code.Steps.{yes_column, no_column}

-- ---- columns said otherwise
said : {n : ℕ} {a : ℕ → Value} {p q p' q' : ℕ → Bool} → ((t : ℕ) → p' t ≡ p t) → ((t : ℕ) → q' t ≡ q t) → TwoColumns n a p q → TwoColumns n a p' q'
said e f c = record { yeses = λ t. e t ∙ c.yeses t; noes = λ t. f t ∙ c.noes t; ends = c.ends }

-- a column that is clear from n on is cut at n
cut : (n : ℕ) (f : ℕ → Bool) → ((t : ℕ) → n ≤ t → f t ≡ false) → (t : ℕ) → f t ≡ below n f t
cut n f z t = ⊎_elim (λ (h : t < n). sym (below_in n f t h)) (λ (h : n ≤ t). z t h ∙ sym (below_past n f t h)) (lt_or_le t n)

-- ---- the operators over words, on columns that end with the states
module _ (n lo hi : ℕ) (p : ℕ → Bool) {q : ℕ → Bool} (z : (t : ℕ) → n ≤ t → q t ≡ false) (t : ℕ) where
  some_cut : eventually (64 * words n) lo hi q t ≡ below n (eventually n lo hi q) t
  some_cut = eventually_below n (64 * words n) lo hi q q (omega arith) (λ i h. refl) z t

  until_cut : until (64 * words n) lo hi p q t ≡ below n (until n lo hi p q) t
  until_cut = until_below n (64 * words n) lo hi p q p q (omega arith) (λ i h. refl) (λ i h. refl) z t

  whole_cut : lo ≤ hi → whole lo hi q t ≡ below n (whole lo hi q) t
  whole_cut l = cut n (whole lo hi q) (λ u h. whole_clear q u lo hi l (z (u + lo) (omega arith))) t

  whole_release_cut : lo ≤ hi → whole_release lo hi p q t ≡ below n (whole_release lo hi p q) t
  whole_release_cut l = cut n (whole_release lo hi p q) (λ u h. whole_release_clear p q u lo hi l (z (u + lo) (omega arith))) t

-- ---- a node's columns by those of its operands
module _ (x : Node) (states ya na yb nb : List ℕ) (fa fb : Formula) (ordered : x.lo ≤ x.hi) where
  abbrev n : ℕ
  n = length states

  abbrev Left : Type 0
  Left = FormulaColumns states fa (bit_at ya) (bit_at na)

  abbrev Right : Type 0
  Right = FormulaColumns states fb (bit_at yb) (bit_at nb)

  past : (t : ℕ) → n ≤ t → signal_column x.arg states t ≡ false
  past t h = ap (λ (v : ℕ). bit v x.arg) (get_or-eq_default states 0 {n = t} h) ∙ bit_none x.arg

  none : (t : ℕ) → ltb t 0 ≡ below n (λ t. false) t
  none t = le-ltb t 0 (omega arith) ∙ sym (and-false (ltb t n))

  all : (t : ℕ) → ltb t n ≡ below n (λ t. true) t
  all t = sym (and-true (ltb t n))

  pub node_columns : (o : Op) → ((uses_of o).left ≡ true → Left) → ((uses_of o).right ≡ true → Right)
      → FormulaColumns states (formula_as o x fa fb) (yes_column o x n states ya na yb nb) (no_column o x n states ya na yb nb)
  node_columns Unknown l r = said none all (const_columns states false)
  node_columns Signal l r = said (cut n (signal_column x.arg states) past) (λ t. refl) (signal_columns states x.arg)
  node_columns Top l r = said all none (const_columns states true)
  node_columns Bottom l r = said none all (const_columns states false)
  node_columns Not l r = not_columns states fa (l refl)
  node_columns And l r = and_columns states fa (l refl) fb (r refl)
  node_columns Or l r = or_columns states fa (l refl) fb (r refl)
  node_columns Finally l r =
      said (some_cut n x.lo x.hi (bit_at ya) (yes_ends (l refl))) (λ t. whole_cut n x.lo x.hi (bit_at na) (no_ends (l refl)) t ordered)
      (F_columns states fa (l refl) x.lo x.hi)
  node_columns Globally l r =
      said (λ t. whole_cut n x.lo x.hi (bit_at ya) (yes_ends (l refl)) t ordered) (some_cut n x.lo x.hi (bit_at na) (no_ends (l refl)))
      (G_columns states fa (l refl) x.lo x.hi)
  node_columns Until l r =
      said (until_cut n x.lo x.hi (bit_at ya) (yes_ends (r refl))) (λ t. whole_release_cut n x.lo x.hi (bit_at na) (no_ends (r refl)) t ordered)
      (U_columns states fa (l refl) fb (r refl) x.lo x.hi)
  node_columns Release l r =
      said (λ t. whole_release_cut n x.lo x.hi (bit_at ya) (yes_ends (r refl)) t ordered) (until_cut n x.lo x.hi (bit_at na) (no_ends (r refl)))
      (R_columns states fa (l refl) fb (r refl) x.lo x.hi)

-- ---- as registers
module _ (f : Formula) (states : List ℕ) where
  abbrev m : ℕ
  m = length states

  abbrev pub yes_words : List ℕ
  yes_words = packed m (λ t. is_yes (known f states t))

  abbrev pub no_words : List ℕ
  no_words = packed m (λ t. is_no (known f states t))

  yes_cut : (t : ℕ) → is_yes (known f states t) ≡ below m (λ t. is_yes (known f states t)) t
  yes_cut = cut m (λ t. is_yes (known f states t)) (λ t h. ap is_yes (unseen f states t h))

  no_cut : (t : ℕ) → is_no (known f states t) ≡ below m (λ t. is_no (known f states t)) t
  no_cut = cut m (λ t. is_no (known f states t)) (λ t h. ap is_no (unseen f states t h))

  -- registers that hold them are its columns
  pub held_columns : {y z : List ℕ} → y ≡ yes_words → z ≡ no_words → FormulaColumns states f (bit_at y) (bit_at z)
  held_columns e g = record {
    yeses = λ t. ap (λ (c : List ℕ). bit_at c t) e ∙ bit_at_packed m (λ t. is_yes (known f states t)) t ∙ sym (yes_cut t);
    noes = λ t. ap (λ (c : List ℕ). bit_at c t) g ∙ bit_at_packed m (λ t. is_no (known f states t)) t ∙ sym (no_cut t);
    ends = unseen f states;
  }

  -- its columns as words
  pub packed_columns : {p q : ℕ → Bool} → FormulaColumns states f p q → (pack (words m) p ≡ yes_words) × (pack (words m) q ≡ no_words)
  unfolding packed
  packed_columns c = (pack_ext (words m) _ _ (λ t h. c.yeses t ∙ yes_cut t), pack_ext (words m) _ _ (λ t h. c.noes t ∙ no_cut t))
