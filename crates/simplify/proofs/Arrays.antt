-- The code's arrays hold the lists of the passes. Assumes nothing.
use Prim.Native.Nat.{◌-◌, ◌<◌, ◌≤◌, suc, ℕ}
use native.Mathlib.Numerals.{add-one}
use native.Mathlib.Omega.{arith}
use mathlib.Core.Path.{◌∙◌, ◌≡◌, ap, ap₂, refl}
use mathlib.Core.Bool.{Bool, false, true}
use mathlib.Core.List.{List, [], ◌++◌, ◌∷◌, foldl, foldl-append}
use lib.Dec.{ltb}
use lib.ListN.{length, length-set, replicate, set, take}
use lib.Seq.{length-take-le, take-append_seam, take-suc-set}
use Rattle.lists.specs.Bits.{bit}
use Rattle.lists.specs.Choice.{pick}
use Rattle.lists.specs.Sequence.{padded}
use Rattle.lists.proofs.Sequences.{length_snoc, set_padded, snoc_ind}
use Rattle.table.specs.declared.Node.{Node}
use Rattle.table.specs.Nodes.{no_node}
use Rattle.simplify.specs.Code.Built.{Built}
use Rattle.simplify.specs.declared.Outcome.{Outcome}
use Rattle.simplify.specs.declared.Outcome.TheVariants.{At, Put, Stay}
use Rattle.simplify.specs.Code.Law.{law}
use Rattle.simplify.specs.Code.Passes.{applied, enter, enter_at, find, keep_by, keep_of, no_build, nodes_of, places_of, push_node, push_place, renamed, step_of}
use Rattle.simplify.proofs.Chains.{AllFit, fit_fewer}
use Rattle.simplify.proofs.Model.{Lists, applied_lists, entered, keep_lists, no_lists, rebuilt, step_lists, swept}
use Rattle.simplify.proofs.Rebuilding.{Fine, all_rebuilt, fine_fewer}
use Rattle.simplify.proofs.Result.{padded_law}
use Rattle.simplify.proofs.Sweeping.{all_kept}

pub record Sim (b : Built) (s : Lists) : Type 0 where
  pub nodes : b.nodes ≡ padded no_node 64 s.nodes
  pub count : b.count ≡ length s.nodes
  pub places : places_of b ≡ s.places
  pub done : b.done ≡ length s.places
  pub size : length b.places ≡ 64

sim_empty : Sim no_build no_lists
sim_empty = record { nodes = refl; count = refl; places = refl; done = refl; size = refl }

module _ (b : Built) (s : Lists) (m : Sim b s) where
  sim_place : length s.places < 64 → (p : ℕ) → Sim (push_place b p) (record { nodes = s.nodes; places = s.places ++ (p ∷ []) })
  sim_place h p = record {
    nodes = m.nodes;
    count = m.count;
    places = rw add-one (take-suc-set b.places b.done p (omega (arith, m.done, m.size)) ∙ ap (λ l. l ++ (p ∷ [])) m.places);
    done = omega (arith, m.done, length_snoc s.places p p);
    size = length-set b.places b.done p ∙ m.size;
  }

  sim_node : length s.nodes < 64 → (n : Node) → Sim (push_node b n) (record { nodes = s.nodes ++ (n ∷ []); places = s.places })
  sim_node h n = record {
    nodes = ap₂ (λ l i. set l i n) m.nodes m.count ∙ set_padded no_node 64 s.nodes n h;
    count = omega (arith, m.count, length_snoc s.nodes n n);
    places = m.places;
    done = m.done;
    size = m.size;
  }

  pub sim_nodes : nodes_of b ≡ s.nodes
  sim_nodes = ap₂ take m.count m.nodes ∙ take-append_seam s.nodes (replicate (64 - length s.nodes) no_node)

module _ (b : Built) (s : Lists) (m : Sim b s) (few : length s.nodes < 64) (room : length s.places < 64) where
  sim_pick : (n : Node) (t : Bool) (q : ℕ) → Sim (push_place (pick t b (push_node b n)) q)
      (record { nodes = pick t s.nodes (s.nodes ++ (n ∷ [])); places = s.places ++ (q ∷ []) })
  sim_pick n true q = sim_place b s m room q
  sim_pick n false q = sim_place (push_node b n) (record { nodes = s.nodes ++ (n ∷ []); places = s.places }) (sim_node b s m few n) room q

  sim_enter : (n : Node) → Sim (enter b n) (record { nodes = entered s.nodes n; places = s.places ++ (find s.nodes n ∷ []) })
  sim_enter n =
      let e : enter b n ≡ push_place (pick (ltb (find s.nodes n) (length s.nodes)) b (push_node b n)) (find s.nodes n) =
      ap (λ l. enter_at b n (find l n)) (sim_nodes b s m) ∙ ap (λ k. push_place (pick (ltb (find s.nodes n) k) b (push_node b n)) (find s.nodes n))
      m.count in
      rw e (sim_pick n (ltb (find s.nodes n) (length s.nodes)) (find s.nodes n))

  sim_applied : (n : Node) (v : Outcome) → Sim (applied b n v) (applied_lists s n v)
  sim_applied n Stay = sim_enter n
  sim_applied n (At p) = sim_place b s m room p
  sim_applied n (Put c) = sim_enter c

  law_same : (n : Node) → law b.nodes n ≡ law s.nodes n
  law_same n = ap (λ l. law l n) m.nodes ∙ padded_law s.nodes n

  sim_step : (x : Node) → Sim (step_of b x) (step_lists s x)
  sim_step x =
      let y : Node = renamed s.places x in
      let e : step_of b x ≡ applied b y (law s.nodes y) =
      ap (λ ps. applied b (renamed ps x) (law b.nodes (renamed ps x))) m.places ∙ ap (applied b y) (law_same y) in
      rw e (sim_applied y (law s.nodes y))

  sim_kept : (x : Node) (t : Bool) → Sim (push_place (pick t (push_node b x) b) (length s.nodes))
      (record { nodes = pick t (s.nodes ++ (x ∷ [])) s.nodes; places = s.places ++ (length s.nodes ∷ []) })
  sim_kept x true = sim_place (push_node b x) (record { nodes = s.nodes ++ (x ∷ []); places = s.places }) (sim_node b s m few x) room (length s.nodes)
  sim_kept x false = sim_place b s m room (length s.nodes)

  sim_keep : (ms : ℕ) (x : Node) → Sim (keep_by ms b x) (keep_lists ms s x)
  sim_keep ms x =
      let e : keep_by ms b x ≡ push_place (pick (bit ms (length s.places)) (push_node b (renamed s.places x)) b) (length s.nodes) =
      ap (λ d. keep_of b (bit ms d) x) m.done ∙ ap₂ (λ ps k. push_place (pick (bit ms (length s.places)) (push_node b (renamed ps x)) b) k)
      m.places m.count in
      rw e (sim_kept (renamed s.places x) (bit ms (length s.places)))

pub sim_rebuilt : (old : List Node) → Fine old → length old ≤ 64 → Sim (foldl step_of no_build old) (rebuilt old)
sim_rebuilt = snoc_ind (λ old. Fine old → length old ≤ 64 → Sim (foldl step_of no_build old) (rebuilt old)) (λ f h. sim_empty)
    (λ old x y f h.
    let g = fine_fewer old x f in
    let v = all_rebuilt old g in
    let l = length_snoc old x no_node in
    rw (foldl-append step_of no_build old (x ∷ []), foldl-append step_lists no_lists old (x ∷ []))
    (sim_step (foldl step_of no_build old) (rebuilt old) (y g (omega arith)) (omega (arith, v.few)) (omega (arith, v.many)) x))

pub sim_swept : (ms : ℕ) (ns : List Node) → AllFit ns → length ns ≤ 64 → Sim (foldl (keep_by ms) no_build ns) (swept ms ns)
sim_swept ms = snoc_ind (λ ns. AllFit ns → length ns ≤ 64 → Sim (foldl (keep_by ms) no_build ns) (swept ms ns)) (λ f h. sim_empty)
    (λ ns x y f h.
    let g = fit_fewer ns x f in
    let v = all_kept ms ns g in
    let l = length_snoc ns x no_node in
    rw (foldl-append (keep_by ms) no_build ns (x ∷ []), foldl-append (keep_lists ms) no_lists ns (x ∷ []))
    (sim_keep (foldl (keep_by ms) no_build ns) (swept ms ns) (y g (omega arith)) (omega (arith, v.few)) (omega (arith, v.many)) ms x))

-- the counts of the last pass, whatever the nodes are
pub record Counts (b : Built) (k : ℕ) : Type 0 where
  pub done : b.done ≡ k
  pub count : b.count ≤ k

keep_counts : (ms : ℕ) (ns : List Node) → Counts (foldl (keep_by ms) no_build ns) (length ns)
keep_counts ms = snoc_ind (λ ns. Counts (foldl (keep_by ms) no_build ns) (length ns)) (record { done = refl; count = omega arith })
    (λ ns x y. rw (foldl-append (keep_by ms) no_build ns (x ∷ []), length_snoc ns x x)
    (go (foldl (keep_by ms) no_build ns) (length ns) x (bit ms (foldl (keep_by ms) no_build ns).done) y))
  where
    go : (b : Built) (k : ℕ) (x : Node) (t : Bool) → Counts b k → Counts (keep_of b t x) (suc k)
    go b k x true c = record { done = omega (arith, c.done); count = omega (arith, c.count) }
    go b k x false c = record { done = omega (arith, c.done); count = omega (arith, c.count) }

pub counted : (ms : ℕ) (nodes : List Node) (i : ℕ) → i ≤ length nodes → {b : Built} → b ≡ foldl (keep_by ms) no_build (take i nodes) → Counts b i
counted ms nodes i h e = rw e (rw (length-take-le i nodes h) at (keep_counts ms (take i nodes)))
