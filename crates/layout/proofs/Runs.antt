-- A run over the nodes, one after the other: what it asks for, and what it leaves where only the last node's register was written. Assumes nothing.
use mathlib.Core.Path.{◌≡◌, sym, ◌∙◌, subst}
use mathlib.Core.Logic.{⊎_elim}
use mathlib.Core.Bool.{true}
use mathlib.Core.List.{List}
use Prim.Native.Nat.{ℕ, ◌+◌, ◌-◌, ◌*◌, ◌≤◌, ◌<◌}
use native.Mathlib.Nat.{eq-or-lt_of_le}
use native.Mathlib.Omega.{arith}
use lib.ListN.{length, get_or, take}
use Rattle.limits.specs.Limits.{max_nodes, max_trace, register_words, scratch_words}
use Rattle.column.specs.Column.{register}
use Rattle.column.proofs.Parts.{register_below}
use Rattle.needed.specs.Marks.{marked, Needs}
use Rattle.table.specs.Nodes.{no_node}
use Rattle.table.specs.Sound.{fits}
use Rattle.table.specs.declared.Node.{Node}
use Rattle.layout.specs.Layout.{Computable, Runnable}

-- ---- what a run asks for
-- all up to node k
pub runnable : {size k : ℕ} {ns : List Node} {marks : ℕ} {states xs : List ℕ} → k < max_nodes → ((i : ℕ) → i < k + 1 → fits i (get_or ns i no_node) ≡ true)
    → length states ≤ max_trace → size ≤ length xs → Needs ns k marks → Runnable size (k + 1) ns marks states xs
runnable {k = k} {ns = ns} {marks = marks} h f s l n =
    let e : k ≡ k + 1 - 1 = omega arith in
    record { some = omega arith; places = omega arith; fitting = f; short = s; enough = l; needs = subst (λ (w : ℕ). Needs ns w marks) e n }

-- each of them
pub computable : {size k : ℕ} {ns : List Node} {marks : ℕ} {states xs ys : List ℕ} → Runnable size k ns marks states xs → (i : ℕ) → i < k → length ys ≡ length xs
    → Computable size i (length states) (get_or ns i no_node) ys
computable r i h e =
    let p = r.places in let l = r.enough in
    record { place = omega arith; short = r.short; enough = omega arith; fitting = r.fitting i h }

-- ---- what it leaves: node j's register holds the words W j
module _ (i m marks : ℕ) (W : ℕ → List ℕ) (xs ys : List ℕ) (a : i < max_nodes) (small : m ≤ register_words) (l : scratch_words ≤ length xs) (k : scratch_words ≤ length ys)
    (low : take (register_words * i) ys ≡ take (register_words * i) xs) (own : marked marks i ≡ true → register (register_words * i) m ys ≡ W i) where
  pub held_more : ((j : ℕ) → j < i → marked marks j ≡ true → register (register_words * j) m xs ≡ W j)
      → (j : ℕ) → j < i + 1 → marked marks j ≡ true → register (register_words * j) m ys ≡ W j
  held_more before j h e =
      ⊎_elim (λ (q : j ≡ i). subst (λ (w : ℕ). marked marks w ≡ true → register (register_words * w) m ys ≡ W w) (sym q) own e)
      (λ (q : j < i).
      register_below (register_words * i) (register_words * j) m xs ys low (omega arith) (omega arith) (omega arith) ∙ before j q e) (eq-or-lt_of_le (omega arith))
