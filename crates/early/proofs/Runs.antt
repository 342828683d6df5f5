-- The columns of the nodes, one after the other. Assumes nothing.
use mathlib.Core.Path.{◌≡◌, refl, sym, ap, ◌∙◌, subst}
use mathlib.Core.Logic.{inl, inr, ⊎_elim}
use mathlib.Core.Bool.{true, false, false≢true}
use mathlib.Core.List.{List}
use Prim.Native.Nat.{ℕ, ◌+◌, ◌*◌, ◌≤◌, ◌<◌}
use native.Mathlib.Nat.{eq-or-lt_of_le}
use native.Mathlib.Omega.{arith}
use lib.ListN.{length, get_or, take}
use Rattle.limits.specs.Limits.{register_words, scratch_words, early_scratch_words}
use Rattle.lists.specs.Bits.{bit_at, words}
use Rattle.mltl.specs.Mltl.{Formula}
use Rattle.mltl.proofs.KnownColumns.{FormulaColumns}
use Rattle.table.specs.Nodes.{op_of, no_node, formula_at}
use Rattle.table.specs.Sound.{fits}
use Rattle.table.specs.declared.Node.{Node}
use Rattle.table.proofs.Delays.{formula_at_lem, formula_prefix}
use Rattle.needed.specs.Marks.{marked, Needs}
use Rattle.layout.proofs.Fitting.{fit_as}
use Rattle.layout.proofs.Runs.{held_more}
use Rattle.early.specs.Code.Steps.{half, in_half, yes_in, no_in, NodeStep, Columns}
use Rattle.early.proofs.Halves.{IsHalf, half_length}
use Rattle.early.proofs.Nodes.{yes_words, no_words, node_columns, held_columns, packed_columns}

pub run_start : (ns : List Node) (marks : ℕ) (states xs : List ℕ) → Columns 0 ns marks states xs xs
run_start ns marks states xs = record { yeses = λ j h m. absurd (omega arith); noes = λ j h m. absurd (omega arith); rest = refl }

-- a node that is not needed
pub run_past : {ns : List Node} {marks : ℕ} {states s₀ s : List ℕ} (i : ℕ) → marked marks i ≡ false → Columns i ns marks states s₀ s → Columns (i + 1) ns marks states s₀ s
run_past {marks = marks} i off r = record {
  yeses = λ j h m. before j h m (r.yeses j);
  noes = λ j h m. before j h m (r.noes j);
  rest = r.rest;
}
  where
    before : {P : Type 0} (j : ℕ) → j < i + 1 → marked marks j ≡ true → (j < i → marked marks j ≡ true → P) → P
    before j h m f =
        ⊎_elim (λ (q : j ≡ i). absurd (false≢true (sym off ∙ ap (marked marks) (sym q) ∙ m))) (λ (q : j < i). f q m) (eq-or-lt_of_le (omega arith))

-- a node that is
module _ {ns : List Node} {marks : ℕ} {states s₀ s s' : List ℕ} (top i : ℕ) (a : i < 64) (b : i < length ns) (bound : i ≤ top) (l : early_scratch_words ≤ length s)
    (k : length s' ≡ length s) (small : length states ≤ 5120) (fitting : fits i (get_or ns i no_node) ≡ true) (need : Needs ns top marks) (r : Columns i ns marks states s₀ s)
    (step : NodeStep (get_or ns i no_node) i (length states) states s s') where
  abbrev x : Node
  x = get_or ns i no_node

  abbrev n : ℕ
  n = length states

  -- in either half, below the node's register nothing changed
  kept : (p : ℕ) → IsHalf p → take (register_words * i) (half p s') ≡ take (register_words * i) (half p s)
  kept p at =
      ⊎_elim
      (λ e. subst (λ (q : ℕ). take (register_words * i) (half q s') ≡ take (register_words * i) (half q s)) (sym e) step.yes_step.low)
      (λ e. subst (λ (q : ℕ). take (register_words * i) (half q s') ≡ take (register_words * i) (half q s)) (sym e) step.no_step.low) at

  -- the node's own registers
  here : marked marks i ≡ true → (in_half 0 i n s' ≡ yes_words (formula_at ns i) states) × (in_half scratch_words i n s' ≡ no_words (formula_at ns i) states)
  unfolding yes_in no_in
  here m =
      let f = fit_as i x refl fitting in
      let operand : (j : ℕ) → j < i → marked marks j ≡ true → FormulaColumns states (formula_at (take i ns) j) (bit_at (in_half 0 j n s)) (bit_at (in_half scratch_words j n s)) =
      λ j h e. subst (λ (g : Formula). FormulaColumns states g (bit_at (in_half 0 j n s)) (bit_at (in_half scratch_words j n s))) (sym (formula_prefix ns i j h (omega arith)))
      (held_columns (formula_at ns j) states (r.yeses j h e) (r.noes j h e))
      in
      let fa : Formula = formula_at (take i ns) x.left in
      let fb : Formula = formula_at (take i ns) x.right in
      let c = node_columns x states (in_half 0 x.left n s) (in_half scratch_words x.left n s) (in_half 0 x.right n s) (in_half scratch_words x.right n s) fa fb f.ordered (op_of x.kind)
      (λ u. operand x.left (f.left u) (need.left i bound m u (f.left u)))
      (λ u. operand x.right (f.right u) (need.right i bound m u (f.right u)))
      in
      let w = packed_columns (formula_at ns i) states (subst (λ (g : Formula). FormulaColumns states g (yes_in x n states s) (no_in x n states s)) (sym (formula_at_lem ns i b)) c) in
      (step.yes_step.here ∙ w.0, step.no_step.here ∙ w.1)

  -- those of the nodes up to it, in either half
  upto : (p : ℕ) → IsHalf p → (W : Formula → List ℕ) → (marked marks i ≡ true → in_half p i n s' ≡ W (formula_at ns i))
      → ((j : ℕ) → j < i → marked marks j ≡ true → in_half p j n s ≡ W (formula_at ns j))
      → (j : ℕ) → j < i + 1 → marked marks j ≡ true → in_half p j n s' ≡ W (formula_at ns j)
  upto p at W own before =
      held_more i (words n) marks (λ j. W (formula_at ns j)) (half p s) (half p s') a (omega arith) (omega (arith, half_length p s at l)) (omega (arith, half_length p s' at (omega arith))) (kept p at) own before

  pub run_more : Columns (i + 1) ns marks states s₀ s'
  run_more = record {
    yeses = upto 0 (inl refl) (λ g. yes_words g states) (λ m. (here m).0) r.yeses;
    noes = upto scratch_words (inr refl) (λ g. no_words g states) (λ m. (here m).1) r.noes;
    rest = step.rest ∙ r.rest;
  }
