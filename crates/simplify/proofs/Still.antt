-- Where nothing fits, the first pass leaves the nodes as they are. Assumes nothing.
use Prim.Native.Nat.{◌<◌, ℕ}
use native.Mathlib.Omega.{arith}
use mathlib.Core.Path.{◌∙◌, ◌≡◌, ap, refl, sym}
use mathlib.Core.Logic.{⊎_elim}
use mathlib.Core.List.{List, [], ◌++◌, ◌∷◌, foldl-append}
use borrow.Author.Tests.{le-ltb}
use lib.ListN.{get_or, length}
use Rattle.lists.proofs.Sequences.{each_place, length_snoc, snoc_ind}
use Rattle.lists.proofs.Tests.{lt_or_le}
use Rattle.table.specs.declared.Node.{Node}
use Rattle.table.specs.Nodes.{no_node}
use Rattle.table.specs.Sound.{NodeFits}
use Rattle.simplify.specs.declared.Outcome.TheVariants.{Stay}
use Rattle.simplify.specs.Code.Law.{law, node_within}
use Rattle.simplify.specs.Code.Passes.{find, renamed}
use Rattle.simplify.proofs.Chains.{fit_fewer, fit_last, law_kept, node_last, node_old}
use Rattle.simplify.proofs.Fields.{places_agree}
use Rattle.simplify.proofs.Found.{find_at, find_most}
use Rattle.simplify.proofs.Model.{Lists, applied_lists, no_lists, rebuilt, step_lists}
use Rattle.simplify.proofs.Places.{place_last, place_old}
use Rattle.simplify.proofs.Rebuilding.{Fine, Rebuilt, all_rebuilt, fine_fewer}

-- no law fits a node, and no two are equal
pub record Settled (ns : List Node) : Type 0 where
  pub free : (k : ℕ) → k < length ns → law ns (node_within ns k) ≡ Stay
  pub apart : (j k : ℕ) → j < k → k < length ns → node_within ns j ≡ node_within ns k → ⊥

-- the nodes are the old ones, each at its place
pub record Still (old : List Node) (s : Lists) : Type 0 where
  pub nodes : s.nodes ≡ old
  pub places : (i : ℕ) → i < length old → get_or s.places i 0 ≡ i

-- one more node that stays where it is
module _ (old : List Node) (x : Node) (s : Lists) (many : length s.places ≡ length old) (y : Still old s) where
  pub renamed_still : get_or s.places 0 0 ≡ 0 → NodeFits (length old) x → renamed s.places x ≡ x
  renamed_still first w = places_agree (λ i. get_or s.places i 0) (λ i. i) first (length old) y.places x w

  pub still_more : Still (old ++ (x ∷ [])) (record { nodes = old ++ (x ∷ []); places = s.places ++ (length old ∷ []) })
  still_more = record {
    nodes = refl;
    places = each_place old x (λ i. get_or (s.places ++ (length old ∷ [])) i 0 ≡ i)
        (λ k l. place_old s.places _ (length old) many k l ∙ y.places k l)
        (place_last s.places (length old) (length old) many);
  }

module _ (old : List Node) (x : Node) (f : Fine (old ++ (x ∷ []))) (t : Settled (old ++ (x ∷ []))) where
  settled_fewer : Settled old
  settled_fewer = record {
    free = λ k h. sym (law_kept old x k (node_within old k) (omega arith) (fit_fewer old x f.fits k h))
        ∙ (rw (node_old old x k h) at (t.free k (omega (arith, length_snoc old x no_node))));
    apart = λ j k i h e. t.apart j k i (omega (arith, length_snoc old x no_node)) (node_old old x j (omega arith) ∙ e ∙ sym (node_old old x k h));
  }

  stays_last : law old x ≡ Stay
  stays_last = sym (law_kept old x (length old) x (omega arith) (fit_last old x f.fits))
      ∙ (rw (node_last old x) at (t.free (length old) (omega (arith, length_snoc old x no_node))))

  new_last : find old x ≡ length old
  new_last = ⊎_elim
      (λ (h : find old x < length old). absurd
      (t.apart (find old x) (length old) h (omega (arith, length_snoc old x no_node)) (node_old old x _ h ∙ find_at old x h ∙ sym (node_last old x))))
      (λ h. omega (arith, find_most old x))
      (lt_or_le (find old x) (length old))

  step_still : (s : Lists) → Rebuilt old s → Still old s → Still (old ++ (x ∷ [])) (step_lists s x)
  step_still s v y =
      let e = renamed_still old x s v.many y v.first (fit_last old x f.fits) in
      let d : step_lists s x ≡ record { nodes = old ++ (x ∷ []); places = s.places ++ (length old ∷ []) } =
      ap (λ m. applied_lists s m (law s.nodes m)) e ∙ ap (λ v. applied_lists s x v) (ap (λ l. law l x) y.nodes ∙ stays_last)
      ∙ rw (y.nodes, new_last, le-ltb (length old) (length old) (omega arith)) in
      rw d (still_more old x s v.many y)

pub rebuilt_still : (old : List Node) → Fine old → Settled old → Still old (rebuilt old)
rebuilt_still = snoc_ind (λ old. Fine old → Settled old → Still old (rebuilt old))
    (λ f t. record { nodes = refl; places = λ i h. absurd (omega arith) })
    (λ old x y f t. rw (foldl-append step_lists no_lists old (x ∷ []))
    (step_still old x f t (rebuilt old) (all_rebuilt old (fine_fewer old x f)) (y (fine_fewer old x f) (settled_fewer old x f t))))
