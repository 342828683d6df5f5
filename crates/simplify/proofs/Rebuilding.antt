-- The first pass: the invariant that each node keeps. Assumes nothing.
use Prim.Native.Nat.{◌<◌, ◌≤◌, suc, ℕ}
use native.Mathlib.Omega.{arith}
use mathlib.Core.Path.{◌∙◌, ◌≡◌, ap, refl, sym}
use mathlib.Core.Logic.{⊎_elim}
use mathlib.Core.List.{List, [], ◌++◌, ◌∷◌, foldl-append}
use borrow.Author.Tests.{ltb-false, ltb-true}
use lib.Dec.{ltb}
use lib.ListN.{get_or-eq_default, get_or, length}
use Rattle.lists.proofs.Sequences.{each_place, length_snoc, snoc_ind}
use Rattle.lists.proofs.Tests.{lt_or_le}
use Rattle.mltl.specs.Mltl.{Formula, delay}
use Rattle.table.specs.declared.Node.{Node}
use Rattle.table.specs.Nodes.{formula_at, formula_over, formulas, no_node}
use Rattle.table.specs.Sound.{NodeFits}
use Rattle.simplify.specs.declared.Outcome.{Outcome}
use Rattle.simplify.specs.declared.Outcome.TheVariants.{At, Put, Stay}
use Rattle.simplify.specs.Fits.{op}
use Rattle.simplify.specs.Code.Law.{law, node_within}
use Rattle.simplify.specs.Code.Passes.{find, renamed}
use Rattle.simplify.proofs.Better.{Better, better_then, formula_better}
use Rattle.simplify.proofs.Cases.{by_test}
use Rattle.simplify.proofs.Chains.{AllFit, fit_fewer, fit_last, formula_last, formula_old, law_kept, node_last, node_old, unrolled}
use Rattle.simplify.proofs.Fields.{renamed_fits}
use Rattle.simplify.proofs.Found.{find_at, find_most, find_none}
use Rattle.simplify.proofs.Meaning.{meant, value}
use Rattle.simplify.proofs.Model.{Lists, entered, no_lists, nodes_by, place_by, rebuilt, step_lists}
use Rattle.simplify.proofs.Places.{place_count, place_first, place_last, place_old}
use Rattle.simplify.proofs.Placing.{Placed, placed}

-- a list of nodes to which no law applies, each short, no two equal
pub record Good (ns : List Node) : Type 0 where
  pub fits : AllFit ns
  pub free : (k : ℕ) → k < length ns → law ns (node_within ns k) ≡ Stay
  pub short : (k : ℕ) → k < length ns → delay (formula_at ns k) ≤ 4095
  pub apart : (j k : ℕ) → j < k → k < length ns → node_within ns j ≡ node_within ns k → ⊥

-- a list that has grown by at most a node, and a place in it with the formula f
pub record Entered (ns new : List Node) (q : ℕ) (f : Formula) : Type 0 where
  pub good : Good new
  pub longer : length ns ≤ length new
  pub most : length new ≤ suc (length ns)
  pub old : (k : ℕ) → k < length ns → formula_at new k ≡ formula_at ns k
  pub inside : q < length new
  pub has : formula_at new q ≡ f

module _ (ns : List Node) (g : Good ns) where
  good_more : (c : Node) → NodeFits (length ns) c → law ns c ≡ Stay → delay (formula_over (formulas ns) c) ≤ 4095 → length ns ≤ find ns c
      → Good (ns ++ (c ∷ []))
  good_more c w s d h = record {
    fits = each_place ns c (λ k. NodeFits k (node_within (ns ++ (c ∷ [])) k)) (λ k l. rw (node_old ns c k l) (g.fits k l)) (rw (node_last ns c) w);
    free = each_place ns c (λ k. law (ns ++ (c ∷ [])) (node_within (ns ++ (c ∷ [])) k) ≡ Stay)
        (λ k l. rw (node_old ns c k l) (law_kept ns c k (node_within ns k) (omega arith) (g.fits k l) ∙ g.free k l))
        (rw (node_last ns c) (law_kept ns c (length ns) c (omega arith) w ∙ s));
    short = each_place ns c (λ k. delay (formula_at (ns ++ (c ∷ [])) k) ≤ 4095) (λ k l. rw (formula_old ns c k l) (g.short k l)) (rw (formula_last ns c) d);
    apart = λ j k i l. each_place ns c (λ k. j < k → node_within (ns ++ (c ∷ [])) j ≡ node_within (ns ++ (c ∷ [])) k → ⊥)
        (λ k l i e. g.apart j k i l (sym (node_old ns c j (omega arith)) ∙ e ∙ node_old ns c k l))
        (λ i e. find_none ns c h j i (sym (node_old ns c j i) ∙ e ∙ node_last ns c)) k l i;
  }

  enter : (c : Node) → NodeFits (length ns) c → law ns c ≡ Stay → delay (formula_over (formulas ns) c) ≤ 4095
      → Entered ns (entered ns c) (find ns c) (formula_over (formulas ns) c)
  enter c w s d =
      by_test (λ new. Entered ns new (find ns c) (formula_over (formulas ns) c)) (ltb (find ns c) (length ns))
      (λ h. let l = ltb-true _ _ h in record {
        good = g;
        longer = omega arith;
        most = omega arith;
        old = λ k _. refl;
        inside = l;
        has = unrolled ns g.fits (find ns c) ∙ ap (formula_over (formulas ns)) (find_at ns c l);
      })
      (λ h.
      let l : length ns ≤ find ns c = ltb-false _ _ h in
      let e : find ns c ≡ length ns = omega (arith, find_most ns c) in
      let m = length_snoc ns c no_node in record {
        good = good_more c w s d l;
        longer = omega arith;
        most = omega arith;
        old = formula_old ns c;
        inside = omega arith;
        has = rw e (formula_last ns c);
      })

  by_outcome : (n : Node) → NodeFits (length ns) n → (v : Outcome) → law ns n ≡ v → Placed ns g.fits g.free (formulas ns) v
      → delay (value (formulas ns) (formula_over (formulas ns) n) v) ≤ 4095
      → Entered ns (nodes_by ns n v) (place_by ns n v) (value (formulas ns) (formula_over (formulas ns) n) v)
  by_outcome n w Stay e p d = enter n w e d
  by_outcome n w (At q) e p d = record { good = g; longer = omega arith; most = omega arith; old = λ k _. refl; inside = p; has = refl }
  by_outcome n w (Put m) e p d = enter m (p.0 d) p.1 d

ordered_at : (ns : List Node) → AllFit ns → (k : ℕ) → (node_within ns k).lo ≤ (node_within ns k).hi
ordered_at ns f k = ⊎_elim (λ h. (f k h).ordered) (λ h. rw (get_or-eq_default ns no_node {n = k} h) (omega arith)) (lt_or_le k (length ns))

-- nodes that fit and are short
pub record Fine (old : List Node) : Type 0 where
  pub fits : AllFit old
  pub short : (k : ℕ) → k < length old → delay (formula_at old k) ≤ 4095

-- the old nodes so far, and what has become of them
pub record Rebuilt (old : List Node) (s : Lists) : Type 0 where
  pub many : length s.places ≡ length old
  pub first : get_or s.places 0 0 ≡ 0
  pub inside : (i : ℕ) → i < length old → get_or s.places i 0 < length s.nodes
  pub better : (i : ℕ) → i < length old → Better (formula_at old i) (formula_at s.nodes (get_or s.places i 0))
  pub few : length s.nodes ≤ length old
  pub good : Good s.nodes

-- one place more
module _ (old : List Node) (x : Node) (s : Lists) (v : Rebuilt old s) (new : List Node) (q : ℕ) (f : Formula)
    (e : Entered s.nodes new q f) (b : Better (formula_over (formulas old) x) f) where
  old_place : (k : ℕ) → k < length old → get_or (s.places ++ (q ∷ [])) k 0 ≡ get_or s.places k 0
  old_place = place_old s.places q (length old) v.many

  last_place_lem : get_or (s.places ++ (q ∷ [])) (length old) 0 ≡ q
  last_place_lem = place_last s.places q (length old) v.many

  inv_more : Rebuilt (old ++ (x ∷ [])) (record { nodes = new; places = s.places ++ (q ∷ []) })
  inv_more = record {
    many = place_count s.places q (length old) v.many ∙ sym (length_snoc old x no_node);
    first = place_first s.places q (length old) v.many v.first (omega (arith, e.inside, e.most, v.few));
    inside = each_place old x (λ i. get_or (s.places ++ (q ∷ [])) i 0 < length new)
        (λ k l. rw (old_place k l) (omega (arith, v.inside k l, e.longer)))
        (rw last_place_lem e.inside);
    better = each_place old x (λ i. Better (formula_at (old ++ (x ∷ [])) i) (formula_at new (get_or (s.places ++ (q ∷ [])) i 0)))
        (λ k l. rw (old_place k l, formula_old old x k l, e.old _ (v.inside k l)) (v.better k l))
        (rw (last_place_lem, formula_last old x, e.has) b);
    few = omega (arith, length_snoc old x no_node, e.most, v.few);
    good = e.good;
  }

module _ (old : List Node) (x : Node) (f : Fine (old ++ (x ∷ []))) (s : Lists) (v : Rebuilt old s) where
  last_fits : NodeFits (length old) x
  last_fits = fit_last old x f.fits

  moved_fits : NodeFits (length s.nodes) (renamed s.places x)
  moved_fits = renamed_fits s.places v.first (length old) (length s.nodes) x (λ _. v.inside _) (λ _. v.inside _) last_fits

  moved_better : Better (formula_over (formulas old) x) (formula_over (formulas s.nodes) (renamed s.places x))
  moved_better =
      formula_better x (get_or s.places x.left 0) (get_or s.places x.right 0) (op x) _ _ _ _
      (λ u. v.better _ (last_fits.left.limited u)) (λ u. v.better _ (last_fits.right.limited u))

  law_better : Better (formula_over (formulas s.nodes) (renamed s.places x))
      (value (formulas s.nodes) (formula_over (formulas s.nodes) (renamed s.places x)) (law s.nodes (renamed s.places x)))
  law_better =
      meant (formulas s.nodes) (renamed s.places x) (node_within s.nodes (get_or s.places x.left 0))
      (node_within s.nodes (get_or s.places x.right 0))
      (unrolled s.nodes v.good.fits _) (unrolled s.nodes v.good.fits _) moved_fits.ordered (ordered_at s.nodes v.good.fits _)

  step_keeps : Rebuilt (old ++ (x ∷ [])) (step_lists s x)
  step_keeps =
      let b = better_then moved_better law_better in
      let l = rw (formula_last old x) at (f.short (length old) (omega (arith, length_snoc old x no_node))) in
      inv_more old x s v _ _ _
      (by_outcome s.nodes v.good (renamed s.places x) moved_fits (law s.nodes (renamed s.places x)) refl
      (placed s.nodes v.good.fits v.good.free (formulas s.nodes) (renamed s.places x) moved_fits)
      (omega (arith, b.short)))
      b

pub fine_fewer : (old : List Node) (x : Node) → Fine (old ++ (x ∷ [])) → Fine old
fine_fewer old x f = record {
  fits = fit_fewer old x f.fits;
  short = λ k l. rw (formula_old old x k l) at (f.short k (omega (arith, length_snoc old x no_node)));
}

pub all_rebuilt : (old : List Node) → Fine old → Rebuilt old (rebuilt old)
all_rebuilt = snoc_ind (λ old. Fine old → Rebuilt old (rebuilt old))
    (λ f. record {
      many = refl;
      first = refl;
      inside = λ i h. absurd (omega arith);
      better = λ i h. absurd (omega arith);
      few = omega arith;
      good = record {
        fits = λ i h. absurd (omega arith);
        free = λ i h. absurd (omega arith);
        short = λ i h. absurd
            (omega arith);
        apart = λ i j h k. absurd (omega arith);
      };
    })
    (λ old x v f. rw (foldl-append step_lists no_lists old (x ∷ [])) (step_keeps old x f (rebuilt old) (v (fine_fewer old x f))))
