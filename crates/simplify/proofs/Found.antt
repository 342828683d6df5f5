-- Equal nodes, the place of a node, and the search for it. Assumes nothing.
use Prim.Native.Nat.{◌+◌, ◌<◌, ◌≤◌, suc, zero, ℕ}
use native.Mathlib.Nat.{le_antisymm}
use native.Mathlib.Omega.{arith}
use mathlib.Core.Path.{◌∙◌, ◌≡◌, ap, refl, sym, subst}
use mathlib.Core.Bool.{Bool, false, false≢true, true, cond, not}
use mathlib.Core.List.{List, [], ◌∷◌}
use borrow.Author.Tests.{eq-eqb, eqb-true, ltb-false}
use lib.ListN.{length}
use lib.Dec.{ltb}
use Rattle.std.specs.Prelude.{Option, Some, None, IsNone}
use Rattle.std.specs.List.{position_or_len}
use Rattle.lists.specs.Choice.{pick}
use Rattle.table.specs.declared.Node.{Node}
use Rattle.simplify.specs.Code.Law.{node_within, same_node}
use Rattle.simplify.specs.Code.Passes.{find}
use Rattle.simplify.proofs.Cases.{both, by_test}

same_out : (a b : Node) → same_node a b ≡ true → a ≡ b
same_out a b h =
    let p = both _ _ h in
    let q = both _ _ p.0 in
    let r = both _ _ q.0 in
    let s = both _ _ r.0 in
    let t = both _ _ s.0 in
    λ i. record {
      kind = eqb-true a.kind b.kind t.0 i;
      arg = eqb-true a.arg b.arg t.1 i;
      lo = eqb-true a.lo b.lo s.1 i;
      hi = eqb-true a.hi b.hi r.1 i;
      left = eqb-true a.left b.left q.1 i;
      right = eqb-true a.right b.right p.1 i;
    }

same_in : (a : Node) → same_node a a ≡ true
same_in a = rw (
  eq-eqb a.kind _ refl,
  eq-eqb a.arg _ refl,
  eq-eqb a.lo _ refl,
  eq-eqb a.hi _ refl,
  eq-eqb a.left _ refl,
  eq-eqb
      a.right _ refl,
)

pub find_most : (ns : List Node) (m : Node) → find ns m ≤ length ns
unfolding find
find_most [] m = omega arith
find_most (n ∷ ns) m = by_test (λ k. k ≤ length (n ∷ ns)) (same_node n m) (λ _. omega arith) (λ _. omega (arith, find_most ns m))

pub find_at : (ns : List Node) (m : Node) → find ns m < length ns → node_within ns (find ns m) ≡ m
unfolding find
find_at [] m h = absurd (omega arith)
find_at (n ∷ ns) m h =
    by_test (λ k. k < length (n ∷ ns) → node_within (n ∷ ns) k ≡ m) (same_node n m) (λ e _. same_out n m e) (λ _ l. find_at ns m (omega arith)) h

pub find_none : (ns : List Node) (m : Node) → length ns ≤ find ns m → (k : ℕ) → k < length ns → node_within ns k ≡ m → ⊥
unfolding find
find_none [] m h = λ k l e. omega arith
find_none (n ∷ ns) m h =
    by_test (λ j. length (n ∷ ns) ≤ j → (k : ℕ) → k < length (n ∷ ns) → node_within (n ∷ ns) k ≡ m → ⊥) (same_node n m)
    (λ _ l. absurd (omega arith))
    (λ d l. other d (find_none ns m (omega arith)))
    h
  where
    other : same_node n m ≡ false → ((k : ℕ) → k < length ns → node_within ns k ≡ m → ⊥) → (k : ℕ) → k < length (n ∷ ns) → node_within (n ∷ ns) k ≡ m → ⊥
    other d f zero l e = false≢true (sym d ∙ ap (λ x. same_node x m) e ∙ same_in m)
    other d f (suc k) l e = f k (omega arith) e

-- ---- the search: what `position` finds, and where it finds none
pub find_position : (ns : List Node) (m : Node) → find ns m ≡ position_or_len (λ x. same_node x m) ns
unfolding find
find_position [] m = refl
find_position (n ∷ ns) m = go (same_node n m) (find_position ns m)
  where
    go : (b : Bool) → find ns m ≡ position_or_len (λ x. same_node x m) ns → pick b 0 (suc (find ns m)) ≡ cond (not b) (1 + position_or_len (λ x. same_node x m) ns) 0
    go true e = refl
    go false e = rw e (omega arith)

pub found_by : (ns : List Node) (m : Node) {r : Option ℕ}
    → r ≡ cond (ltb (position_or_len (λ x. same_node x m) ns) (length ns)) (Some (position_or_len (λ x. same_node x m) ns)) None
    → r ≡ cond (ltb (find ns m) (length ns)) (Some (find ns m)) None
found_by ns m e = rw find_position e

pub not_found : (ns : List Node) (m : Node) → None ≡ cond (ltb (find ns m) (length ns)) (Some (find ns m)) None → length ns ≡ find ns m
not_found ns m e = le_antisymm (ltb-false (find ns m) (length ns) (go (ltb (find ns m) (length ns)) e)) (find_most ns m)
  where
    go : (b : Bool) → None ≡ cond b (Some (find ns m)) None → b ≡ false
    go true h = absurd (false≢true (sym (subst IsNone h refl)))
    go false h = refl
