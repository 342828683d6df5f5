-- The outcome for a node that fits is a place before it, or a node that fits and that no law fits. Assumes nothing.
use Prim.Native.Nat.{ℕ, ◌≤◌, ◌<◌}
use native.Mathlib.Omega.{arith}
use mathlib.Core.Path.{◌≡◌, refl, sym, ap, ◌∙◌}
use mathlib.Core.Bool.{false, ◌||◌}
use mathlib.Core.List.{List}
use lib.ListN.{get_or, length}
use lib.Dec.{eqb}
use borrow.Author.Tests.{eqb-true}
use Rattle.mltl.specs.Mltl.{Formula, const, delay_by, delay}
use Rattle.table.specs.Nodes.{Op, Unknown, Signal, Top, Bottom, Not, And, Or, Finally, Globally, Until, Release, op_of, uses_of, formula_as, formula_over}
use Rattle.table.specs.Sound.{NodeFits}
use Rattle.table.specs.declared.Node.{Node}
use Rattle.table.specs.declared.Uses.{Uses}
use Rattle.simplify.specs.Fits.{op}
use Rattle.simplify.specs.Code.Law.{is, node_within, merged, left_stays, law, law_not, law_one, law_two, law_join, law_as}
use Rattle.simplify.specs.declared.Outcome.{Outcome}
use Rattle.simplify.specs.declared.Outcome.TheVariants.{Stay, At, Put}
use Rattle.simplify.proofs.Cases.{by_test}
use Rattle.simplify.proofs.Fields.{field_as, unused_field, used_field, left_before, right_before, constant_fits}
use Rattle.simplify.proofs.Staying.{one_free}
use Rattle.simplify.proofs.Chains.{AllFit}

module _ (ns : List Node) (fits : AllFit ns) (free : (k : ℕ) → k < length ns → law ns (node_within ns k) ≡ Stay) (fs : List Formula) where
  -- what is to be shown of an outcome; a node that it puts has a delay no longer than that of a table
  abbrev pub Placed : Outcome → Type 0
  Placed Stay = Unit
  Placed (At q) = q < length ns
  Placed (Put m) = (delay (formula_over fs m) ≤ 4095 → NodeFits (length ns) m) × (law ns m ≡ Stay)

  module _ (n : Node) (w : NodeFits (length ns) n) where
    abbrev l : Node
    l = node_within ns n.left

    abbrev r : Node
    r = node_within ns n.right

    join_placed : (neutral absorbing inner outer : ℕ) → n.left < length ns → n.right < length ns → Placed (law_join neutral absorbing inner outer n l r)
    join_placed neutral absorbing inner outer x y =
        by_test Placed (eqb n.left n.right || left_stays neutral absorbing inner outer l r) (λ _. x)
        (λ _. by_test Placed (left_stays neutral absorbing inner outer r l) (λ _. y) (λ _. tt))

    not_placed : op n ≡ Not → Placed (law_not l)
    not_placed e =
        let x = left_before (length ns) n w e refl in
        by_test Placed (is 4 l)
        (λ h. omega (arith, left_before n.left l (fits n.left x) (ap op_of {x = l.kind} {y = 4} (eqb-true l.kind 4 h)) refl))
        (λ _. by_test Placed (is 2 l) (λ _. (λ _. constant_fits (length ns) 3 (omega arith) (omega arith) refl, refl))
        (λ _. by_test Placed (is 3 l) (λ _. (λ _. constant_fits (length ns) 2 (omega arith) (omega arith) refl, refl))
        (λ _. tt)))

    two_placed : (fixed : ℕ) → n.right < length ns → Placed (law_two fixed n r)
    two_placed fixed x = by_test Placed (eqb n.hi 0 || is fixed r) (λ _. x) (λ _. tt)

    -- F, and G
    module _ (o : Op) (e : op n ≡ o) (fixed : ℕ) (as_F : uses_of o ≡ uses_of Finally) (law-o : (m l r : Node) → law_as m l r o ≡ law_one fixed m l)
        (long : (m : Node) (x y : Formula) → m.hi ≤ delay (formula_as o m x y)) where
      used : uses_of (op n) ≡ uses_of Finally
      used = ap uses_of e ∙ as_F

      x : n.left < length ns
      x = left_before (length ns) n w e (ap (λ (u : Uses). u.left) as_F)

      -- an operand of the same kind
      module _ (k : l.kind ≡ n.kind) where
        d : op l ≡ o
        d = ap op_of k ∙ e

        merged_fits : delay (formula_over fs (merged n l)) ≤ 4095 → NodeFits (length ns) (merged n l)
        merged_fits t =
            let y = left_before n.left l (fits n.left x) d (ap (λ (u : Uses). u.left) as_F) in
            let a = w.ordered in
            let b = (fits n.left x).ordered in
            record {
              known = w.known;
              node = w.node;
              arg = field_as (ap (λ (u : Uses). u.arg) used) (unused_field refl);
              ordered = omega arith;
              interval = field_as (ap (λ (u : Uses). u.interval) used)
                  (used_field (omega (arith, long (merged n l) (get_or fs l.left (const false)) (get_or fs 0 (const false)), rw e at t)));
              left = field_as (ap (λ (u : Uses). u.left) used) (used_field (omega (arith, x)));
              right = field_as (ap (λ (u : Uses). u.right) used) (unused_field refl);
            }

        merged_stays : law ns (merged n l) ≡ Stay
        merged_stays =
            let s : law_one fixed l (node_within ns l.left) ≡ Stay =
            sym (law-o l (node_within ns l.left) (node_within ns l.right)) ∙ (rw d at (free n.left x)) in
            let f = (one_free fixed l (node_within ns l.left)).0 s in
            rw (e, law-o) ((one_free fixed (merged n l) (node_within ns l.left)).1
            (record { later = λ z. f.later (omega arith); not_fixed = f.not_fixed; another = rw k at f.another }))

      one_placed : Placed (law_one fixed n l)
      one_placed =
          by_test Placed (eqb n.hi 0 || is fixed l) (λ _. x)
          (λ _. by_test Placed (is n.kind l)
          (λ h. let k : l.kind ≡ n.kind = eqb-true _ _ h in (merged_fits k, merged_stays k)) (λ _. tt))

    placed_as : (o : Op) → op n ≡ o → Placed (law_as n l r o)
    unfolding delay_by
    placed_as Unknown e = tt
    placed_as Signal e = tt
    placed_as Top e = tt
    placed_as Bottom e = tt
    placed_as Not e = not_placed e
    placed_as And e = join_placed 2 3 7 8 (left_before (length ns) n w e refl) (right_before (length ns) n w e refl)
    placed_as Or e = join_placed 3 2 8 7 (left_before (length ns) n w e refl) (right_before (length ns) n w e refl)
    placed_as Finally e = one_placed Finally e _ refl (λ m l r. refl) (λ m x y. omega arith)
    placed_as Globally e = one_placed Globally e 2 refl (λ m l r. refl) (λ m x y. omega arith)
    placed_as Until e = two_placed 3 (right_before (length ns) n w e refl)
    placed_as Release e = two_placed 2 (right_before (length ns) n w e refl)

    pub placed : Placed (law ns n)
    placed = placed_as (op n) refl
