-- Where each node is marked, the second pass leaves all as they are; and where each is used, each is marked. Assumes nothing.
use Prim.Native.Nat.{◌+◌, ◌<◌, ◌≤◌, suc, zero, ℕ}
use native.Mathlib.Omega.{arith}
use mathlib.Core.Path.{◌∙◌, ◌≡◌, ap, refl, sym}
use mathlib.Core.Bool.{false, false≢true, true}
use mathlib.Core.List.{List, [], ◌++◌, ◌∷◌, foldl-append}
use lib.ListN.{length}
use Rattle.lists.specs.Bits.{bit}
use Rattle.lists.specs.Choice.{pick}
use Rattle.lists.proofs.Sequences.{length_snoc, snoc_ind}
use Rattle.table.specs.declared.Node.{Node}
use Rattle.table.specs.declared.Rule.{Rule}
use Rattle.table.specs.Nodes.{no_node}
use Rattle.needed.proofs.Marked.{Marked}
use Rattle.needed.specs.Marks.{has_operand}
use Rattle.simplify.specs.Fits.{}
use Rattle.simplify.specs.Code.Law.{node_within}
use Rattle.simplify.specs.Code.Passes.{renamed}
use Rattle.simplify.proofs.Cases.{is_false, is_true}
use Rattle.simplify.proofs.Chains.{AllFit, fit_fewer, fit_last}
use Rattle.simplify.proofs.Watched.{Watched, watched_in}
use Rattle.simplify.proofs.Model.{Lists, keep_lists, no_lists, swept}
use Rattle.simplify.proofs.Still.{Still, renamed_still, still_more}
use Rattle.simplify.proofs.Sweeping.{Kept, all_kept}
use Rattle.simplify.proofs.Using.{used_before_lem}

module _ (ms : ℕ) (ns : List Node) (x : Node) (f : AllFit (ns ++ (x ∷ []))) (m : bit ms (length ns) ≡ true) (s : Lists) (k : Kept ms ns s)
    (y : Still ns s) where
  keep_still : Still (ns ++ (x ∷ [])) (keep_lists ms s x)
  keep_still =
      let e = renamed_still ns x s k.many y k.first (fit_last ns x f) in
      let d : keep_lists ms s x ≡ record { nodes = ns ++ (x ∷ []); places = s.places ++ (length ns ∷ []) } =
      ap (λ n. record {
        nodes = pick (bit ms n) (s.nodes ++ (renamed s.places x ∷ [])) s.nodes;
        places = s.places ++
            (length s.nodes ∷ []);
      }) k.many
      ∙ ap (λ b. record { nodes = pick b (s.nodes ++ (renamed s.places x ∷ [])) s.nodes; places = s.places ++ (length s.nodes ∷ []) }) m
      ∙ ap (λ n. record { nodes = s.nodes ++ (n ∷ []); places = s.places ++ (length s.nodes ∷ []) }) e
      ∙ ap (λ l. record { nodes = l ++ (x ∷ []); places = s.places ++ (length l ∷ []) }) y.nodes in
      rw d (still_more ns x s k.many y)

pub kept_still : (ms : ℕ) (ns : List Node) → AllFit ns → ((i : ℕ) → i < length ns → bit ms i ≡ true) → Still ns (swept ms ns)
kept_still ms = snoc_ind (λ ns. AllFit ns → ((i : ℕ) → i < length ns → bit ms i ≡ true) → Still ns (swept ms ns))
    (λ f m. record { nodes = refl; places = λ i h. absurd (omega arith) })
    (λ ns x y f m. rw (foldl-append (keep_lists ms) no_lists ns (x ∷ []))
    (keep_still ms ns x f (m (length ns) (omega (arith, length_snoc ns x no_node))) (swept ms ns) (all_kept ms ns (fit_fewer ns x f))
    (y (fit_fewer ns x f) (λ i l. m i (omega (arith, length_snoc ns x no_node))))))

module _ (ns : List Node) (f : AllFit ns) (rs : List Rule) (ms fs : ℕ) (few : length ns ≤ 64) (w : Watched rs ms) (m : Marked ms ns fs)
    (used : (i : ℕ) → i < length ns → ((j : ℕ) → j < length ns → has_operand (node_within ns j) i ≡ false)
    → ((r : ℕ) → r < length rs → watched_in rs r ≡ i → ⊥) → ⊥) where
  all_from : (d i : ℕ) → length ns ≤ i + d → i < length ns → bit fs i ≡ true
  all_from zero i h l = absurd (omega arith)
  all_from (suc d) i h l = is_true (bit fs i) λ no.
      used i l
      (λ j b. is_false (has_operand (node_within ns j) i) λ u.
      let v = used_before_lem (node_within ns j) j i (f j b) u in
      false≢true (sym no ∙ m.closed j b (all_from d j (omega arith) b) i v u))
      (λ r b e.
      let z : bit ms i ≡ true = rw e at (w.hit r b (omega arith)) in
      false≢true (sym no ∙ m.up i (omega arith) z))

  pub each_marked : (i : ℕ) → i < length ns → bit fs i ≡ true
  each_marked i l = all_from (length ns) i (omega arith) l
