-- What is marked, and why. Assumes nothing.
use Prim.Native.Nat.{ℕ, zero, suc, ◌+◌, ◌≤◌, ◌<◌}
use native.Mathlib.Nat.{add-zero, zero-add}
use native.Mathlib.Omega.{arith}
use mathlib.Core.Path.{◌≡◌, refl, sym, ap, ap₂, ◌∙◌}
use mathlib.Core.Logic.{◌⊎◌, inl, inr, ⊎_elim}
use mathlib.Core.Bool.{Bool, true, false, ◌&&◌, ◌||◌}
use mathlib.Core.List.{List, [], ◌∷◌}
use borrow.Author.Tests.{eq-eqb, le-ltb, lt-ltb, ltb-true}
use lib.Dec.{eqb, ltb}
use lib.ListN.{get_or, length, take}
use lib.Seq.{get_or-take, length-take-le}
use Rattle.lists.specs.Bits.{bit}
use Rattle.lists.proofs.Bits.{number_bit, bit_none}
use Rattle.lists.proofs.Tests.{◌also◌, or_split, true_left, true_right}
use Rattle.table.specs.Nodes.{no_node, op_of, uses_of}
use Rattle.table.specs.declared.Node.{Node}
use Rattle.needed.proofs.Bits.{mark_bit}
use Rattle.needed.specs.Marks.{has_operand, is_needed, needed, needed_for, mark, marked, Needs}

left_true : (a b : Bool) → a ≡ true → (a || b) ≡ true
left_true a b h = rw h

right_true : (a b : Bool) → b ≡ true → (a || b) ≡ true
right_true true b h = refl
right_true false b h = h

-- ---- the operands that a kind uses
module _ (n : Node) where
  pub used_left : (uses_of (op_of n.kind)).left ≡ true → has_operand n n.left ≡ true
  used_left h = left_true ((uses_of (op_of n.kind)).left && eqb n.left n.left) _ (h also eq-eqb n.left n.left refl)

  pub used_right : (uses_of (op_of n.kind)).right ≡ true → has_operand n n.right ≡ true
  used_right h = right_true ((uses_of (op_of n.kind)).left && eqb n.left n.right) _ (h also eq-eqb n.right n.right refl)

-- ---- what is marked by the nodes from place i on
record CauseFrom (i : ℕ) (ns : List Node) (g : ℕ → Bool) (j : ℕ) : Type 0 where
  by : ℕ
  in_list : by < length ns
  is_marked : g (i + by) ≡ true
  used : has_operand (get_or ns by no_node) j ≡ true
  before : j < i + by

record MarkedFrom (f : ℕ → Bool) (i : ℕ) (ns : List Node) (g : ℕ → Bool) : Type 0 where
  up : (j : ℕ) → f j ≡ true → g j ≡ true
  closed : (k : ℕ) → k < length ns → g (i + k) ≡ true → (j : ℕ) → j < i + k → has_operand (get_or ns k no_node) j ≡ true → g j ≡ true
  why : (j : ℕ) → g j ≡ true → (f j ≡ true) ⊎ CauseFrom i ns g j

module _ (f : ℕ → Bool) (i : ℕ) (n : Node) (ns : List Node) (g : ℕ → Bool) (m : MarkedFrom f (suc i) ns g) where
  abbrev uses : ℕ → Bool
  uses j = g i && (ltb j i && has_operand n j)

  abbrev next : ℕ → Bool
  next j = g j || uses j

  -- what a mark by the node n says
  by_node : (j : ℕ) → uses j ≡ true → (g i ≡ true) × (j < i) × (has_operand n j ≡ true)
  by_node j h =
      let r = true_right (g i) _ h in
      (true_left (g i) _ h, ltb-true j i (true_left (ltb j i) _ r), true_right (ltb j i) (has_operand n j) r)

  stays : (j : ℕ) → g j ≡ true → next j ≡ true
  stays j h = left_true (g j) (uses j) h

  back : (j : ℕ) → i ≤ j → next j ≡ true → g j ≡ true
  back j l h = ⊎_elim (λ x. x) (λ x. absurd (omega (arith, (by_node j x).1))) (or_split (g j) (uses j) h)

  more_closed : (k : ℕ) → k < length (n ∷ ns) → next (i + k) ≡ true → (j : ℕ) → j < i + k → has_operand (get_or (n ∷ ns) k no_node) j ≡ true
      → next j ≡ true
  more_closed zero l h j b u =
      let z : g i ≡ true = back i (omega arith) (rw add-zero at h) in
      right_true (g j) (uses j) (z also (lt-ltb j i (omega arith) also u))
  more_closed (suc k) l h j b u =
      let s : i + suc k ≡ suc i + k = omega arith in
      let z : g (i + suc k) ≡ true = back (i + suc k) (omega arith) h in
      stays j (m.closed k (omega arith) (rw s at z) j (omega arith) u)

  more_why : (j : ℕ) → next j ≡ true → (f j ≡ true) ⊎ CauseFrom i (n ∷ ns) next j
  more_why j h = ⊎_elim
      (λ x. ⊎_elim (λ y. inl y)
      (λ (y : CauseFrom (suc i) ns g j).
      let s : i + suc y.by ≡ suc i + y.by = omega arith in
      inr (record {
        by = suc y.by;
        in_list = omega (arith, y.in_list);
        is_marked = rw s (stays _ y.is_marked);
        used = y.used;
        before = omega (arith, y.before);
      }))
      (m.why j x))
      (λ x. let y = by_node j x in
      inr (record { by = 0; in_list = omega arith; is_marked = rw add-zero (stays i y.0); used = y.2; before = omega (arith, y.1) }))
      (or_split (g j) (uses j) h)

  more_marked : MarkedFrom f i (n ∷ ns) next
  more_marked = record { up = λ j h. stays j (m.up j h); closed = more_closed; why = more_why }

marked_from : (f : ℕ → Bool) (i : ℕ) (ns : List Node) → MarkedFrom f i ns (is_needed f i ns)
unfolding is_needed
marked_from f i [] = record { up = λ j h. h; closed = λ k l. absurd (omega arith); why = λ j h. inl h }
marked_from f i (n ∷ ns) = more_marked f i n ns (is_needed f (suc i) ns) (marked_from f (suc i) ns)

-- ---- what is marked by all nodes, as bits
-- a later node that is marked and has j as an operand
pub record Cause (ns : List Node) (marks j : ℕ) : Type 0 where
  pub by : ℕ
  pub in_list : by < length ns
  pub is_marked : bit marks by ≡ true
  pub used : has_operand (get_or ns by no_node) j ≡ true
  pub before : j < by

-- no mark of the seed goes, of each marked node the operands before it are marked, and each mark was in the seed or has a cause
pub record Marked (seed : ℕ) (ns : List Node) (marks : ℕ) : Type 0 where
  pub up : (j : ℕ) → j < 64 → bit seed j ≡ true → bit marks j ≡ true
  pub closed : (k : ℕ) → k < length ns → bit marks k ≡ true → (j : ℕ) → j < k → has_operand (get_or ns k no_node) j ≡ true → bit marks j ≡ true
  pub why : (j : ℕ) → j < 64 → bit marks j ≡ true → (bit seed j ≡ true) ⊎ Cause ns marks j

pub needed_bit : (seed : ℕ) (ns : List Node) (j : ℕ) → j < 64 → bit (needed seed ns) j ≡ is_needed (bit seed) 0 ns j
unfolding needed
needed_bit seed ns j h = number_bit 64 (is_needed (bit seed) 0 ns) j h

pub needed_marked : (seed : ℕ) (ns : List Node) → length ns ≤ 64 → Marked seed ns (needed seed ns)
needed_marked seed ns few = record {
  up = λ j l h. same j l ∙ m.up j h;
  closed = λ k l h j b u. same j (omega arith) ∙ m.closed k l (rw zero-add (sym (same k (omega arith)) ∙ h)) j (rw zero-add b) u;
  why = λ j l h. ⊎_elim (λ x. inl x) (λ (c : CauseFrom 0 ns (is_needed (bit seed) 0 ns) j). inr (cause j c)) (m.why j (sym (same j l) ∙ h));
}
  where
    m : MarkedFrom (bit seed) 0 ns (is_needed (bit seed) 0 ns)
    m = marked_from (bit seed) 0 ns

    same : (j : ℕ) → j < 64 → bit (needed seed ns) j ≡ is_needed (bit seed) 0 ns j
    same = needed_bit seed ns

    cause : (j : ℕ) → CauseFrom 0 ns (is_needed (bit seed) 0 ns) j → Cause ns (needed seed ns) j
    cause j c =
        let l : c.by < 64 = omega (arith, c.in_list) in
        record {
          by = c.by;
          in_list = c.in_list;
          is_marked = same c.by l ∙ (rw zero-add at c.is_marked);
          used = c.used;
          before = rw zero-add at c.before;
        }

-- ---- what one node needs
pub none_for : (ns : List Node) (k : ℕ) → 64 ≤ k → 0 ≡ needed_for k ns
unfolding needed_for
none_for ns k h = rw (le-ltb k 64 h)

module _ (ns : List Node) (k : ℕ) (h : k < 64) where
  pub found_for : {seed r : ℕ} → seed ≡ mark 0 k → r ≡ needed seed (take (k + 1) ns) → r ≡ needed_for k ns
  unfolding needed_for
  found_for e q = rw (lt-ltb k 64 h) (q ∙ ap (λ (s : ℕ). needed s (take (k + 1) ns)) e)

  module _ {r : ℕ} (is : r ≡ needed_for k ns) (l : length ns ≡ 64) where
    long : length (take (k + 1) ns) ≡ k + 1
    long = length-take-le (k + 1) ns (omega arith)

    found : Marked (mark 0 k) (take (k + 1) ns) r
    unfolding needed_for
    found = rw (is, lt-ltb k 64 h) (needed_marked (mark 0 k) (take (k + 1) ns) (omega (arith, long)))

    follows : (j m : ℕ) → j ≤ k → marked r j ≡ true → m < j → has_operand (get_or ns j no_node) m ≡ true → marked r m ≡ true
    follows j m b e a u =
        found.closed j (omega (arith, long)) e m a (ap (λ (x : Node). has_operand x m) (get_or-take (k + 1) ns j no_node (omega arith)) ∙ u)

    pub needs_by : Needs ns k r
    needs_by =
        record {
          top = found.up k h (mark_bit 0 k k h ∙ ap₂ ◌||◌ (bit_none k) (eq-eqb k k refl));
          left = λ j b e t a. follows j _ b e a (used_left (get_or ns j no_node) t);
          right = λ j b e t a. follows j _ b e a (used_right (get_or ns j no_node) t);
        }
