-- Tests of records: the length of a book, and what the code's parts put together. Assumes nothing.
use Prim.Native.Nat.{ℕ, ◌%◌, ◌≤◌}
use native.Mathlib.Omega.{arith}
use mathlib.Core.Path.{◌≡◌, refl}
use mathlib.Core.Bool.{Bool, true, false, ◌&&◌, ◌||◌}
use mathlib.Core.List.{List, [], ◌∷◌}
use borrow.Author.Tests.{eqb-true, leb-true, leb-false, le-leb, eq-eqb, ne_eqb, not-false}
use lib.Dec.{leb, eqb}
use lib.ListN.{length}
use Rattle.lists.proofs.Tests.{true_left, true_right, and_right}
use Rattle.lists.proofs.Rows.{no_row}
use Rattle.table.specs.Nodes.{op_of, uses, uses_of}
use Rattle.book.specs.declared.Entry.{Entry}
use Rattle.book.specs.Entries.{entry_of, uses_in, is_node, is_rule, bad_length, bad_head}
use Rattle.book.specs.Reading.{head_rows, link_fault, head_fault}

-- ---- tests from their parts
pub neither : {a b : Bool} → a ≡ false → b ≡ false → (a || b) ≡ false
neither p q = rw (p, q)

-- b holds where a does not
pub or_else : (a : Bool) {b : Bool} → (a ≡ false → b ≡ true) → (a || b) ≡ true
or_else true h = refl
or_else false h = h refl

-- b fails where a holds
pub not_and : (a : Bool) {b : Bool} → (a ≡ true → b ≡ false) → (a && b) ≡ false
not_and true h = h refl
not_and false h = refl

-- ---- a length that is right
pub record Sized (n : ℕ) : Type 0 where
  pub whole : n % 12 ≡ 0
  pub some : 12 ≤ n
  pub few : n ≤ 3060

pub sized : (n : ℕ) → bad_length n ≡ false → Sized n
sized n h =
    let t : (eqb (n % 12) 0 && leb 12 n && leb n 3060) ≡ true = not-false _ h in
    record {
      whole = eqb-true (n % 12) 0 (search (true_left, true_right));
      some = leb-true 12 n (search (true_left, true_right));
      few = leb-true n 3060 (search (true_left, true_right));
    }

-- ---- a head without a fault
pub record HeadClear (s : List ℕ) : Type 0 where
  pub size : Sized (length s)
  pub head : bad_head (entry_of s 0) ≡ false
  pub link : link_fault s (0 ∷ []) (entry_of s 0) ≡ false

pub head_clear : (s : List ℕ) → head_fault s ≡ 0 → HeadClear s
unfolding head_fault
head_clear s h = record {
  size = sized (length s) (no_row (head_rows s) refl h 0);
  head = no_row (head_rows s) refl h 1;
  link = no_row (head_rows s) refl h 2;
}

pub head_kind : (e : Entry) → bad_head e ≡ false → e.kind ≡ 0
head_kind e h = eqb-true e.kind 0 (search (true_left, not-false) depth 12)

-- ---- a kind that is known is a node's, or 11
pub other_kind : (k : ℕ) → 1 ≤ k → k ≤ 11 → is_node k ≡ false → k ≡ 11
other_kind k a b h = let t = leb-false k 10 (and_right (leb 1 k) _ h (le-leb 1 k a)) in omega arith

pub node_no_rule : (k : ℕ) → is_node k ≡ true → is_rule k ≡ false
node_no_rule k h = let t = leb-true k 10 (true_right (leb 1 k) _ h) in ne_eqb k 11 (λ p. omega arith)

-- ---- the fields that a kind uses
pub node_uses : (k : ℕ) → k ≤ 10 → uses_of (op_of k) ≡ uses_in k
unfolding uses_in
node_uses k h = rw (ne_eqb k 11 (λ e. omega arith))

pub rule_uses : (k : ℕ) → k ≡ 11 → uses_in k ≡ uses true false true false
unfolding uses_in
rule_uses k h = rw (eq-eqb k 11 h)

-- ---- a link, by what is seen of the record that it leads to
