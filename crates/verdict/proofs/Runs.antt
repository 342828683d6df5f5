-- The columns of the nodes, one after the other. Assumes nothing.
use mathlib.Core.Path.{◌≡◌, refl, sym, ap, ◌∙◌, subst}
use mathlib.Core.Logic.{⊎_elim}
use mathlib.Core.Bool.{true, false, false≢true}
use mathlib.Core.List.{List}
use Prim.Native.Nat.{ℕ, ◌+◌, ◌*◌, ◌≤◌, ◌<◌}
use native.Mathlib.Nat.{eq-or-lt_of_le}
use native.Mathlib.Omega.{arith}
use lib.ListN.{length, get_or, take}
use Rattle.limits.specs.Limits.{register_words, scratch_words}
use Rattle.lists.specs.Bits.{words, packed}
use Rattle.mltl.specs.Mltl.{Formula, holds}
use Rattle.column.specs.Column.{register}
use Rattle.table.specs.Nodes.{op_of, no_node, formula_at}
use Rattle.table.specs.Sound.{fits}
use Rattle.table.specs.declared.Node.{Node}
use Rattle.table.proofs.Delays.{formula_at_lem, formula_prefix}
use Rattle.needed.specs.Marks.{marked, Needs}
use Rattle.layout.specs.Layout.{Step}
use Rattle.layout.proofs.Fitting.{fit_as}
use Rattle.layout.proofs.Runs.{held_more}
use Rattle.verdict.specs.Code.Steps.{Columns, column_in}
use Rattle.verdict.proofs.Nodes.{column_is}

-- ---- one node more
pub run_start : (ns : List Node) (marks : ℕ) (trace xs : List ℕ) → Columns 0 ns marks trace xs xs
run_start ns marks trace xs = record { at = λ j h m. absurd (omega arith); high = refl }

-- the count of states, as the code adds it up
pub step_by : {b n m : ℕ} {s s' : List ℕ} (x : Node) (trace : List ℕ) → n ≡ m → Step b (words n) (column_in x n trace s) s s' → Step b (words m) (column_in x m trace s) s s'
step_by {b} {s = s} {s' = s'} x trace e r = subst (λ (w : ℕ). Step b (words w) (column_in x w trace s) s s') e r

-- a node that is not needed
pub run_past : {ns : List Node} {marks : ℕ} {trace s₀ s : List ℕ} (i : ℕ) → marked marks i ≡ false → Columns i ns marks trace s₀ s → Columns (i + 1) ns marks trace s₀ s
run_past {marks = marks} i off r = record {
  at = λ j h m.
      ⊎_elim (λ (q : j ≡ i). absurd (false≢true (sym off ∙ ap (marked marks) (sym q) ∙ m))) (λ (q : j < i). r.at j q m)
      (eq-or-lt_of_le (omega arith));
  high = r.high;
}

-- a node that is
module _ {ns : List Node} {marks : ℕ} {trace s₀ s s' : List ℕ} (top i : ℕ) (a : i < 64) (b : i < length ns) (bound : i ≤ top) (l : scratch_words ≤ length s)
    (k : length s' ≡ length s) (small : length trace ≤ 5120) (fitting : fits i (get_or ns i no_node) ≡ true) (need : Needs ns top marks) (r : Columns i ns marks trace s₀ s)
    (step : Step (register_words * i) (words (length trace)) (column_in (get_or ns i no_node) (length trace) trace s) s s') where
  abbrev x : Node
  x = get_or ns i no_node

  abbrev n : ℕ
  n = length trace

  here : marked marks i ≡ true → register (register_words * i) (words n) s' ≡ packed n (holds (formula_at ns i) trace)
  unfolding column_in
  here m =
      let f = fit_as i x refl fitting in
      let operand : (j : ℕ) → j < i → marked marks j ≡ true → register (register_words * j) (words n) s ≡ packed n (holds (formula_at (take i ns) j) trace) =
      λ j h e. r.at j h e ∙ ap (λ (g : Formula). packed n (holds g trace)) (sym (formula_prefix ns i j h (omega arith)))
      in
      step.here
      ∙ column_is x i n trace (register (register_words * x.left) (words n) s) (register (register_words * x.right) (words n) s) (formula_at (take i ns) x.left)
      (formula_at (take i ns) x.right) refl (op_of x.kind)
      (λ u. operand x.left (f.left u) (need.left i bound m u (f.left u)))
      (λ u. operand x.right (f.right u) (need.right i bound m u (f.right u)))
      ∙ ap (λ (g : Formula). packed n (holds g trace)) (sym (formula_at_lem ns i b))

  pub run_more : Columns (i + 1) ns marks trace s₀ s'
  run_more =
      record {
        at = held_more i (words n) marks (λ j. packed n (holds (formula_at ns j) trace)) s s' a (omega arith) l (omega arith) step.low here r.at;
        high = step.high ∙ r.high;
      }
