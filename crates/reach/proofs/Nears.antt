-- The near distances of the nodes of a table: as the code computes them, and beside the delays. Assumes nothing.
use Prim.Native.Nat.{ℕ, ◌≤◌, ◌<◌}
use native.Mathlib.Omega.{arith}
use mathlib.Core.Path.{◌≡◌, refl}
use mathlib.Core.Bool.{true, false}
use mathlib.Core.Logic.{⊎_elim}
use mathlib.Core.List.{List, [], map}
use borrow.Author.Tests.{le-leb}
use lib.ListN.{get_or, get_or-eq_default}
use Rattle.lists.specs.Sequence.{chain}
use Rattle.lists.proofs.Sequences.{chain_all}
use Rattle.lists.proofs.Tests.{lt_or_le, ◌also◌}
use Rattle.mltl.specs.Mltl.{Formula, const, delay, near, ordered}
use Rattle.mltl.proofs.Near.{near_within}
use Rattle.table.specs.declared.Node.{Node}
use Rattle.table.specs.declared.Table.{Table}
use Rattle.table.specs.Nodes.{Op, Unknown, Signal, Top, Bottom, Not, And, Or, Finally, Globally, Until, Release, op_of, no_node, node_at, rule_at, formula_as, formula_over, formula_at, watched_formula, measures, cap}
use Rattle.table.specs.Sound.{Sound}
use Rattle.table.proofs.Delays.{measures_chain, measure_found}
use Rattle.reach.specs.Code.Steps.{near_as, near_over}
use Rattle.reach.specs.Code.Laws.{near_measured}

-- the near distances along the nodes, each from those before it
pub nears_chain : (ns : List Node) → measures near ns ≡ chain near_over [] ns
nears_chain = measures_chain near near_as near_measured

-- ---- beside the delays
-- an interval that begins no later than it ends makes an ordered formula of ordered ones
ordered_as : (o : Op) (n : Node) (a b : Formula) → n.lo ≤ n.hi → ordered a ≡ true → ordered b ≡ true → ordered (formula_as o n a b) ≡ true
unfolding ordered
ordered_as Unknown n a b l p q = refl
ordered_as Signal n a b l p q = refl
ordered_as Top n a b l p q = refl
ordered_as Bottom n a b l p q = refl
ordered_as Not n a b l p q = p
ordered_as And n a b l p q = p also q
ordered_as Or n a b l p q = p also q
ordered_as Finally n a b l p q = le-leb n.lo n.hi l also p
ordered_as Globally n a b l p q = le-leb n.lo n.hi l also p
ordered_as Until n a b l p q = le-leb n.lo n.hi l also (p also q)
ordered_as Release n a b l p q = le-leb n.lo n.hi l also (p also q)

module _ (t : Table) (s : Sound t) where
  interval_ordered : (i : ℕ) → (node_at t i).lo ≤ (node_at t i).hi
  interval_ordered i =
      ⊎_elim (λ (h : i < t.node_count). (s.node i h).ordered)
      (λ (h : t.node_count ≤ i).
      ⊎_elim (λ (k : i < 64). rw (s.free_node i h k) (omega arith)) (λ (k : 64 ≤ i). rw (get_or-eq_default t.nodes no_node {n = i} (omega (arith, s.places))) (omega arith))
      (lt_or_le i 64))
      (lt_or_le i t.node_count)

  pub formulas_ordered : (k : ℕ) → ordered (formula_at t.nodes k) ≡ true
  unfolding ordered
  formulas_ordered k =
      chain_all formula_over (const false) no_node (λ f. ordered f ≡ true) (λ n. n.lo ≤ n.hi) refl
      (λ fs n h l. ordered_as (op_of n.kind) n (get_or fs n.left (const false)) (get_or fs n.right (const false)) l (h n.left) (h n.right))
      [] (λ j. refl) t.nodes interval_ordered k

  -- a rule's near distance is at most its delay
  pub near_first : (rule : ℕ) → near (watched_formula t rule) ≤ delay (watched_formula t rule)
  near_first rule = near_within (watched_formula t rule) (formulas_ordered (rule_at t rule).watched)

  -- so that it is found capped
  pub near_found : (rule : ℕ) {v : ℕ} → rule < t.rule_count → v ≡ get_or (map cap (measures near t.nodes)) (rule_at t rule).watched 0 → v ≡ near (watched_formula t rule)
  near_found rule h p =
      let w = s.short (rule_at t rule).watched (s.rule rule h).watched in
      measure_found near near_as near_measured t.nodes (rule_at t rule).watched (omega (arith, near_first rule)) p
