-- Lists of nodes that keep the limits at their places: each means what its operands make of it, and one more node changes nothing before it. Assumes nothing.
use Prim.Native.Nat.{ℕ, ◌≤◌, ◌<◌}
use native.Mathlib.Omega.{arith}
use mathlib.Core.Path.{◌≡◌, sym, ◌∙◌}
use mathlib.Core.Bool.{false}
use mathlib.Core.Logic.{⊎_elim}
use mathlib.Core.List.{List, [], ◌∷◌, ◌++◌}
use lib.ListN.{length, get_or-eq_default}
use Rattle.lists.proofs.Tests.{lt_or_le}
use Rattle.lists.proofs.Sequences.{snoc_ind, length_snoc, at_last, at_old, each_place, length_chain, chain_old, chain_last}
use Rattle.mltl.specs.Mltl.{const}
use Rattle.table.specs.Nodes.{formula_over, formulas, formula_at, no_node}
use Rattle.table.specs.Sound.{NodeFits}
use Rattle.table.specs.declared.Node.{Node}
use Rattle.simplify.specs.Fits.{op}
use Rattle.simplify.specs.Code.Law.{node_within, law}
use Rattle.simplify.proofs.Better.{formula_agrees}
use Rattle.simplify.proofs.Fields.{law_agrees}

abbrev pub AllFit : List Node → Type 0
AllFit ns = (k : ℕ) → k < length ns → NodeFits k (node_within ns k)

-- one more node
module _ (ns : List Node) (n : Node) where
  pub formula_old : (k : ℕ) → k < length ns → formula_at (ns ++ (n ∷ [])) k ≡ formula_at ns k
  formula_old k h = chain_old formula_over (const false) ns n k h

  pub formula_last : formula_at (ns ++ (n ∷ [])) (length ns) ≡ formula_over (formulas ns) n
  formula_last = chain_last formula_over (const false) ns n

  pub node_old : (k : ℕ) → k < length ns → node_within (ns ++ (n ∷ [])) k ≡ node_within ns k
  node_old k h = at_old ns n no_node k h

  pub node_last : node_within (ns ++ (n ∷ [])) (length ns) ≡ n
  node_last = at_last ns n no_node

  pub fit_fewer : AllFit (ns ++ (n ∷ [])) → AllFit ns
  fit_fewer f k h = rw (node_old k h) at (f k (omega (arith, length_snoc ns n no_node)))

  pub fit_last : AllFit (ns ++ (n ∷ [])) → NodeFits (length ns) n
  fit_last f = rw node_last at (f (length ns) (omega (arith, length_snoc ns n no_node)))

  formula_kept : (k : ℕ) (x : Node) → k ≤ length ns → NodeFits k x → formula_over (formulas (ns ++ (n ∷ []))) x ≡ formula_over (formulas ns) x
  formula_kept k x h w =
      formula_agrees x x.left x.right (op x) _ _ _ _
      (λ u. formula_old _ (omega (arith, w.left.limited u))) (λ u. formula_old _ (omega (arith, w.right.limited u)))

  pub law_kept : (k : ℕ) (x : Node) → k ≤ length ns → NodeFits k x → law (ns ++ (n ∷ [])) x ≡ law ns x
  law_kept k x h w =
      law_agrees x (op x) (node_within (ns ++ (n ∷ [])) x.left) (node_within (ns ++ (n ∷ [])) x.right) (node_within ns x.left) (node_within ns x.right)
      (λ u. node_old _ (omega (arith, w.left.limited u))) (λ u. node_old _ (omega (arith, w.right.limited u)))

unrolled_in : (ns : List Node) → AllFit ns → (k : ℕ) → k < length ns → formula_at ns k ≡ formula_over (formulas ns) (node_within ns k)
unrolled_in = snoc_ind
    (λ ns. AllFit ns → (k : ℕ) → k < length ns → formula_at ns k ≡ formula_over (formulas ns) (node_within ns k))
    (λ f k h. absurd (omega arith))
    (λ ns n u f. each_place ns n (λ k. formula_at (ns ++ (n ∷ [])) k ≡ formula_over (formulas (ns ++ (n ∷ []))) (node_within (ns ++ (n ∷ [])) k))
    (λ k l. formula_old ns n k l ∙ u (fit_fewer ns n f) k l ∙ sym
    (rw (node_old ns n k l) (formula_kept ns n k (node_within ns k) (omega arith) (fit_fewer ns n f k l))))
    (rw (node_last ns n) (formula_last ns n ∙ sym (formula_kept ns n (length ns) n (omega arith) (fit_last ns n f)))))

-- past the list stand the free node and its formula
pub unrolled : (ns : List Node) → AllFit ns → (k : ℕ) → formula_at ns k ≡ formula_over (formulas ns) (node_within ns k)
unrolled ns f k = ⊎_elim (unrolled_in ns f k)
    (λ h. rw (get_or-eq_default ns no_node {n = k} h) (get_or-eq_default (formulas ns) (const false) {n = k} (rw (length_chain formula_over ns) h)))
    (lt_or_le k (length ns))
