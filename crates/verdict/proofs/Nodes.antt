-- The column of a node is its formula's verdicts. Assumes nothing.
use mathlib.Core.Path.{◌≡◌, refl, sym, ap, ap₂, ◌∙◌}
use mathlib.Core.Logic.{⊎_elim}
use mathlib.Core.Bool.{Bool, true, false, not, ◌||◌, ◌&&◌, and-true, and-false}
use mathlib.Core.List.{List}
use Prim.Native.Nat.{ℕ, ◌*◌, ◌≤◌, ◌<◌}
use native.Mathlib.Omega.{arith}
use borrow.Author.Tests.{le-ltb}
use lib.Dec.{ltb}
use lib.ListN.{length, get_or, get_or-eq_default}
use Rattle.lists.specs.Bits.{bit, bit_at, words, pack, packed, below}
use Rattle.lists.proofs.Tests.{lt_or_le}
use Rattle.lists.proofs.Bits.{bit_none}
use Rattle.lists.proofs.Columns.{pack_ext}
use Rattle.mltl.specs.Mltl.{Formula, holds, eventually, until, opposite, always, release}
use Rattle.column.specs.Column.{flipped}
use Rattle.table.specs.Nodes.{Op, Unknown, Signal, Top, Bottom, Not, And, Or, Finally, Globally, Until, Release, uses_of, formula_as}
use Rattle.table.specs.declared.Node.{Node}
use Rattle.layout.proofs.Columns.{below_past, below_in, bit_at_packed, until_below, eventually_below}
use Rattle.verdict.specs.Code.Steps.{node_column}

and_twice : (l a : Bool) → l && not (l && a) ≡ l && not a
and_twice true a = refl
and_twice false a = refl

and_and : (l a b : Bool) → (l && a) && (l && b) ≡ l && (a && b)
and_and true a b = refl
and_and false a b = refl

or_and : (l a b : Bool) → (l && a) || (l && b) ≡ l && (a || b)
or_and true a b = refl
or_and false a b = refl

module _ (n : ℕ) (A : ℕ → Bool) {C : List ℕ} (e : C ≡ packed n A) where
  pub own : (t : ℕ) → bit_at C t ≡ below n A t
  own t = ap (λ (l : List ℕ). bit_at l t) e ∙ bit_at_packed n A t

  own_in : (t : ℕ) → t < n → bit_at C t ≡ A t
  own_in t h = own t ∙ below_in n A t h

  own_past : (t : ℕ) → n ≤ t → bit_at C t ≡ false
  own_past t h = own t ∙ below_past n A t h

  pub turned : (t : ℕ) → flipped n C t ≡ below n (opposite A) t
  unfolding opposite
  turned t = ap (λ (b : Bool). ltb t n && not b) (own t) ∙ and_twice (ltb t n) (A t)

  turned_in : (t : ℕ) → t < n → flipped n C t ≡ opposite A t
  turned_in t h = turned t ∙ below_in n (opposite A) t h

  turned_past : (t : ℕ) → n ≤ t → flipped n C t ≡ false
  turned_past t h = turned t ∙ below_past n (opposite A) t h

opposite_below : (n : ℕ) (f g : ℕ → Bool) → ((t : ℕ) → f t ≡ below n g t) → (t : ℕ) → below n (opposite f) t ≡ below n (opposite g) t
unfolding opposite
opposite_below n f g e t = ap (λ (b : Bool). ltb t n && not b) (e t) ∙ and_twice (ltb t n) (g t)

-- what a node's column is
module _ (x : Node) (i n : ℕ) (trace : List ℕ) (C D : List ℕ) (fa fb : Formula) (long : n ≡ length trace) where
  at : (o : Op) → ((uses_of o).left ≡ true → C ≡ packed n (holds fa trace)) → ((uses_of o).right ≡ true → D ≡ packed n (holds fb trace))
      → (t : ℕ) → node_column o x n trace C D t ≡ below n (holds (formula_as o x fa fb) trace) t
  unfolding holds always release
  at Unknown l r t = le-ltb t 0 (omega arith) ∙ sym (and-false (ltb t n))
  at Signal l r t =
      ⊎_elim
      (λ (h : t < n). sym (below_in n (λ t. bit (get_or trace t 0) x.arg) t h))
      (λ (h : n ≤ t). ap (λ (v : ℕ). bit v x.arg) (get_or-eq_default trace 0 {n = t} (omega arith)) ∙ bit_none x.arg
      ∙ sym (below_past n (λ t. bit (get_or trace t 0) x.arg) t h))
      (lt_or_le t n)
  at Top l r t = sym (and-true (ltb t n))
  at Bottom l r t = le-ltb t 0 (omega arith) ∙ sym (and-false (ltb t n))
  at Not l r t = ap (λ (b : Bool). ltb t n && not b) (own n (holds fa trace) (l refl) t) ∙ and_twice (ltb t n) (holds fa trace t)
  at And l r t = ap₂ ◌&&◌ (own n (holds fa trace) (l refl) t) (own n (holds fb trace) (r refl) t) ∙ and_and (ltb t n) (holds fa trace t) (holds fb trace t)
  at Or l r t = ap₂ ◌||◌ (own n (holds fa trace) (l refl) t) (own n (holds fb trace) (r refl) t) ∙ or_and (ltb t n) (holds fa trace t) (holds fb trace t)
  at Finally l r t =
      let A : ℕ → Bool = holds fa trace in
      eventually_below n (64 * words n) x.lo x.hi (bit_at C) A (omega arith) (own_in n A (l refl)) (own_past n A (l refl)) t
      ∙ ap (λ (m : ℕ). below n (eventually m x.lo x.hi A) t) long
  at Globally l r t =
      let A : ℕ → Bool = holds fa trace in
      opposite_below n _ (eventually n x.lo x.hi (opposite A))
      (eventually_below n (64 * words n) x.lo x.hi (flipped n C) (opposite A) (omega arith) (turned_in n A (l refl)) (turned_past n A (l refl))) t
      ∙ ap (λ (m : ℕ). below n (opposite (eventually m x.lo x.hi (opposite A))) t) long
  at Until l r t =
      let A : ℕ → Bool = holds fa trace in
      let B : ℕ → Bool = holds fb trace in
      until_below n (64 * words n) x.lo x.hi (bit_at C) (bit_at D) A B (omega arith) (own_in n A (l refl)) (own_in n B (r refl)) (own_past n B (r refl)) t
      ∙ ap (λ (m : ℕ). below n (until m x.lo x.hi A B) t) long
  at Release l r t =
      let A : ℕ → Bool = holds fa trace in
      let B : ℕ → Bool = holds fb trace in
      opposite_below n _ (until n x.lo x.hi (opposite A) (opposite B))
      (until_below n (64 * words n) x.lo x.hi (flipped n C) (flipped n D) (opposite A) (opposite B) (omega arith) (turned_in n A (l refl))
      (turned_in n B (r refl)) (turned_past n B (r refl))) t
      ∙ ap (λ (m : ℕ). below n (opposite (until m x.lo x.hi (opposite A) (opposite B))) t) long

  pub column_is : (o : Op) → ((uses_of o).left ≡ true → C ≡ packed n (holds fa trace)) → ((uses_of o).right ≡ true → D ≡ packed n (holds fb trace))
      → pack (words n) (node_column o x n trace C D) ≡ packed n (holds (formula_as o x fa fb) trace)
  unfolding packed
  column_is o l r = pack_ext (words n) _ _ (λ t h. at o l r t)
