-- At each turn of the first pass there is space, and no interval passes the limit of a table. Assumes nothing.
use Prim.Native.Nat.{◌<◌, ℕ}
use native.Mathlib.Omega.{arith}
use mathlib.Core.Path.{◌∙◌, ◌≡◌, ap}
use mathlib.Core.Logic.{⊎_elim}
use mathlib.Core.List.{List, foldl}
use lib.ListN.{get_or-eq_default, length, take}
use lib.Seq.{length-take-le}
use Rattle.lists.proofs.Tests.{lt_or_le}
use Rattle.table.specs.declared.Node.{Node}
use Rattle.table.specs.declared.Table.{Table}
use Rattle.table.specs.Nodes.{no_node, node_at}
use Rattle.table.specs.Sound.{NodeFits, Sound}
use Rattle.simplify.specs.Code.Built.{Built}
use Rattle.simplify.specs.Code.Law.{node_within}
use Rattle.simplify.specs.Code.Passes.{Bounded, no_build, step_of}
use Rattle.simplify.proofs.Arrays.{sim_rebuilt}
use Rattle.simplify.proofs.Chains.{AllFit}
use Rattle.simplify.proofs.Fields.{hi_limit}
use Rattle.simplify.proofs.Model.{rebuilt}
use Rattle.simplify.proofs.Rebuilding.{all_rebuilt}
use Rattle.simplify.proofs.Result.{fine_part, padded_node}

in_limit : (p : ℕ) (n : Node) → NodeFits p n → (n.lo < 4096) × (n.hi < 4096)
in_limit p n w = (omega (arith, w.ordered, hi_limit p n w), hi_limit p n w)

all_in_limit : (ns : List Node) → AllFit ns → (k : ℕ) → ((node_within ns k).lo < 4096) × ((node_within ns k).hi < 4096)
all_in_limit ns f k = ⊎_elim (λ h. in_limit k (node_within ns k) (f k h))
    (λ h. rw (get_or-eq_default ns no_node {n = k} h) (omega arith, omega arith)) (lt_or_le k (length ns))

pub ready : (t : Table) → Sound t → (i : ℕ) → i < t.node_count → {b : Built} → b ≡ foldl step_of no_build (take i t.nodes)
    → (b.done < 64) × Bounded b (node_at t i)
ready t sd i h {b} e =
    let c = sd.few_nodes in
    let p = sd.places in
    let old = take i t.nodes in
    let l : length old ≡ i = length-take-le i t.nodes (omega arith) in
    let f = fine_part t sd i (omega arith) in
    let v = all_rebuilt old f in
    let m = sim_rebuilt old f (omega arith) in
    let n = in_limit i (node_at t i) (sd.node i h) in
    let ks : (k : ℕ) → node_within (foldl step_of no_build old).nodes k ≡ node_within (rebuilt old).nodes k =
    λ k. ap (λ l. node_within l k) m.nodes ∙ padded_node (rebuilt old).nodes k in
    rw e (
      omega (arith, m.done, v.many),
      record {
        lo = n.0;
        hi = n.1;
        los = λ k. rw (ks k) (all_in_limit (rebuilt old).nodes v.good.fits k).0;
        his = λ k. rw (ks k) (all_in_limit (rebuilt old).nodes v.good.fits k).1;
      },
    )
