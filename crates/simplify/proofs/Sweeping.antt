-- The second pass: the marked nodes, in order, under new places. Assumes nothing.
use Prim.Native.Nat.{◌<◌, ◌≤◌, ℕ}
use native.Mathlib.Omega.{arith}
use mathlib.Core.Path.{◌∙◌, ◌≡◌, refl, sym}
use mathlib.Core.Bool.{false, false≢true, true}
use mathlib.Core.List.{List, [], ◌++◌, ◌∷◌, foldl-append}
use lib.ListN.{get_or, length}
use Rattle.lists.specs.Bits.{bit}
use Rattle.lists.proofs.Sequences.{each_place, length_snoc, snoc_ind}
use Rattle.table.specs.declared.Node.{Node}
use Rattle.table.specs.Nodes.{no_node}
use Rattle.table.specs.Sound.{NodeFits}
use Rattle.simplify.specs.Code.Law.{node_within}
use Rattle.simplify.specs.Code.Passes.{renamed}
use Rattle.simplify.proofs.Cases.{by_test}
use Rattle.simplify.proofs.Chains.{AllFit, fit_fewer, fit_last, node_last, node_old}
use Rattle.simplify.proofs.Fields.{places_agree}
use Rattle.simplify.proofs.Model.{Lists, keep_lists, no_lists, swept}
use Rattle.simplify.proofs.Places.{place_count, place_first, place_last, place_old}

-- a marked place that has become q
pub record Origin (ms : ℕ) (n : ℕ) (ps : List ℕ) (q : ℕ) : Type 0 where
  pub place : ℕ
  pub in_list : place < n
  pub is_marked : bit ms place ≡ true
  pub becomes : get_or ps place 0 ≡ q

-- what has become of the nodes: all places, of which marked nodes keep the order, and the marked nodes under them
pub record Kept (ms : ℕ) (ns : List Node) (s : Lists) : Type 0 where
  pub many : length s.places ≡ length ns
  pub first : get_or s.places 0 0 ≡ 0
  pub few : length s.nodes ≤ length ns
  pub inside : (i : ℕ) → i < length ns → bit ms i ≡ true → get_or s.places i 0 < length s.nodes
  pub up : (i j : ℕ) → i < j → j < length ns → bit ms i ≡ true → get_or s.places i 0 < get_or s.places j 0
  pub from : (q : ℕ) → q < length s.nodes → Origin ms (length ns) s.places q
  pub moved : (i : ℕ) → i < length ns → bit ms i ≡ true → node_within s.nodes (get_or s.places i 0) ≡ renamed s.places (node_within ns i)

module _ (ms : ℕ) (ns : List Node) (x : Node) (f : AllFit (ns ++ (x ∷ []))) (s : Lists) (k : Kept ms ns s) where
  abbrev ps : List ℕ
  ps = s.places ++ (length s.nodes ∷ [])

  old : (i : ℕ) → i < length ns → get_or ps i 0 ≡ get_or s.places i 0
  old = place_old s.places (length s.nodes) (length ns) k.many

  last : get_or ps (length ns) 0 ≡ length s.nodes
  last = place_last s.places (length s.nodes) (length ns) k.many

  first : get_or ps 0 0 ≡ 0
  first = place_first s.places (length s.nodes) (length ns) k.many k.first k.few

  many : length ps ≡ length (ns ++ (x ∷ []))
  many = place_count s.places (length s.nodes) (length ns) k.many ∙ sym (length_snoc ns x no_node)

  up : (i j : ℕ) → i < j → j < length (ns ++ (x ∷ [])) → bit ms i ≡ true → get_or ps i 0 < get_or ps j 0
  up i j h l m = each_place ns x (λ j. i < j → get_or ps i 0 < get_or ps j 0)
      (λ j l h. rw (old i (omega arith), old j l) (k.up i j h l m))
      (λ h. rw (old i h, last) (k.inside i h m)) j l h

  -- the new places move a node as those before did
  same_moved : (p : ℕ) (y : Node) → p ≤ length ns → NodeFits p y → renamed s.places y ≡ renamed ps y
  same_moved p y h w = places_agree (λ i. get_or s.places i 0) (λ i. get_or ps i 0) (k.first ∙ sym first) p (λ i l. sym (old i (omega arith))) y w

  moved_old : (i : ℕ) → i < length ns → renamed s.places (node_within ns i) ≡ renamed ps (node_within (ns ++ (x ∷ [])) i)
  moved_old i h = rw (node_old ns x i h)
      (same_moved i (node_within ns i) (omega arith) (fit_fewer ns x f i h))

  from_old : (q : ℕ) → q < length s.nodes → Origin ms (length (ns ++ (x ∷ []))) ps q
  from_old q h =
      let o = k.from q h in
      let l = o.in_list in
      record { place = o.place; in_list = omega (arith, length_snoc ns x no_node); is_marked = o.is_marked; becomes = old o.place l ∙ o.becomes }

  abbrev grown : List Node
  grown = s.nodes ++ (renamed s.places x ∷ [])

  kept_more : bit ms (length ns) ≡ true → Kept ms (ns ++ (x ∷ [])) (record { nodes = grown; places = ps })
  kept_more m =
      let e = length_snoc s.nodes (renamed s.places x) no_node in
      let d = length_snoc ns x no_node in record {
        many = many;
        first = first;
        few = omega (arith, k.few);
        up = up;
        inside = each_place ns x (λ i. bit ms i ≡ true → get_or ps i 0 < length grown)
            (λ i l m. rw (old i l) (omega (arith, k.inside i l m))) (λ _. rw last (omega arith));
        from = each_place s.nodes (renamed s.places x) (Origin ms (length (ns ++ (x ∷ []))) ps) from_old
            (record { place = length ns; in_list = omega arith; is_marked = m; becomes = last });
        moved = each_place ns x (λ i. bit ms i ≡ true → node_within grown (get_or ps i 0) ≡ renamed ps (node_within (ns ++ (x ∷ [])) i))
            (λ i l m. rw (old i l) (node_old s.nodes _ _ (k.inside i l m) ∙ k.moved i l m ∙ moved_old i l))
            (λ _. rw (last, node_last ns x) (node_last s.nodes _
            ∙ same_moved (length ns) x (omega arith) (fit_last ns x f)));
      }

  kept_same : bit ms (length ns) ≡ false → Kept ms (ns ++ (x ∷ [])) (record { nodes = s.nodes; places = ps })
  kept_same m = let d = length_snoc ns x no_node in record {
    many = many;
    first = first;
    few = omega (arith, k.few);
    up = up;
    inside = each_place ns x (λ i. bit ms i ≡ true → get_or ps i 0 < length s.nodes)
        (λ i l m. rw (old i l) (k.inside i l m)) (λ t. absurd (false≢true (sym m ∙ t)));
    from = from_old;
    moved = each_place ns x (λ i. bit ms i ≡ true → node_within s.nodes (get_or ps i 0) ≡ renamed ps (node_within (ns ++ (x ∷ [])) i))
        (λ i l m. rw (old i l) (k.moved i l m ∙ moved_old i l)) (λ t. absurd (false≢true (sym m ∙ t)));
  }

  keep_keeps : Kept ms (ns ++ (x ∷ [])) (keep_lists ms s x)
  keep_keeps =
      by_test (λ new. Kept ms (ns ++ (x ∷ [])) (record { nodes = new; places = ps })) (bit ms (length s.places))
      (λ h. kept_more (rw k.many at h)) (λ h. kept_same (rw k.many at h))

pub all_kept : (ms : ℕ) (ns : List Node) → AllFit ns → Kept ms ns (swept ms ns)
all_kept ms = snoc_ind (λ ns. AllFit ns → Kept ms ns (swept ms ns))
    (λ f. record {
      many = refl;
      first = refl;
      few = omega arith;
      inside = λ i h. absurd (omega arith);
      up = λ i j h l. absurd (omega arith);
      from = λ q h. absurd (omega arith);
      moved = λ i h. absurd (omega arith);
    })
    (λ ns x k f. rw (foldl-append (keep_lists ms) no_lists ns (x ∷ [])) (keep_keeps ms ns x f (swept ms ns) (k (fit_fewer ns x f))))
