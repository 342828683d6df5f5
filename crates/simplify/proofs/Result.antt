-- What is promised of a simplified table, shown of the passes over lists. Assumes nothing.
use Prim.Native.Nat.{◌-◌, ◌<◌, ◌≤◌, ℕ}
use native.Mathlib.Omega.{arith}
use mathlib.Core.Path.{◌∙◌, ◌≡◌, ap, ap₂, refl, sym}
use mathlib.Core.Bool.{false, false≢true, true}
use mathlib.Core.Logic.{⊎_elim}
use mathlib.Core.List.{List, map, map-map}
use lib.ListN.{get_or-eq_default, get_or-map, get_or, length, length-map, replicate, take}
use lib.Seq.{ext_get_or, get_or-take, length-take-le}
use Rattle.lists.specs.Bits.{bit}
use Rattle.lists.specs.Sequence.{padded}
use Rattle.lists.proofs.Sequences.{chain_prefix, get_or_padded, length_padded, padded_is}
use Rattle.lists.proofs.Tests.{lt_or_le}
use Rattle.mltl.specs.Mltl.{const}
use Rattle.table.specs.declared.Node.{Node}
use Rattle.table.specs.declared.Rule.{Rule}
use Rattle.table.specs.declared.Table.{Table}
use Rattle.table.specs.Nodes.{formula_at, formula_over, no_node, no_rule, rule_at, watched_formula}
use Rattle.table.specs.Sound.{RuleFits, Sound}
use Rattle.table.proofs.Delays.{formula_prefix}
use Rattle.table.proofs.Soundness.{sound_iff}
use Rattle.needed.specs.Marks.{needed, has_operand}
use Rattle.needed.proofs.Marked.{Cause, Marked, needed_marked}
use Rattle.simplify.specs.Fits.{Fits, copies, law_at, op, unused}
use Rattle.simplify.specs.Code.Law.{law, law_as, node_within}
use Rattle.simplify.specs.Code.Passes.{mark_watched, renamed_rule}
use Rattle.simplify.specs.Promise.{Simpler}
use Rattle.simplify.proofs.Better.{Better}
use Rattle.simplify.proofs.Fitting.{moves, rests}
use Rattle.simplify.proofs.Watched.{Watched, watched_marked, watched_in}
use Rattle.simplify.proofs.Model.{Lists, rebuilt, simplified, swept}
use Rattle.simplify.proofs.Moved.{Live, formula_moved, good_moved}
use Rattle.simplify.proofs.Rebuilding.{Fine, Good, Rebuilt, all_rebuilt}
use Rattle.simplify.proofs.Still.{Settled, Still, rebuilt_still}
use Rattle.simplify.proofs.Sweeping.{Kept, all_kept}
use Rattle.simplify.proofs.Using.{used_before_lem, used_renamed}
use Rattle.simplify.proofs.Whole.{each_marked, kept_still}

-- ---- free places behind the nodes
module _ (ns : List Node) where
  pub padded_node : (k : ℕ) → node_within (padded no_node 64 ns) k ≡ node_within ns k
  padded_node k = get_or_padded no_node ns (64 - length ns) k

  padded_free : (k : ℕ) → length ns ≤ k → node_within (padded no_node 64 ns) k ≡ no_node
  padded_free k h = padded_node k ∙ get_or-eq_default ns no_node {n = k} h

  padded_formula : (k : ℕ) → k < length ns → formula_at (padded no_node 64 ns) k ≡ formula_at ns k
  padded_formula k h = chain_prefix formula_over (const false) ns (replicate (64 - length ns) no_node) k h

  pub padded_law : (n : Node) → law (padded no_node 64 ns) n ≡ law ns n
  padded_law n = ap₂ (λ l r. law_as n l r (op n)) (padded_node n.left) (padded_node n.right)

-- ---- renamed rules
module _ (ps : List ℕ) (first : get_or ps 0 0 ≡ 0) (rs : List Rule) where
  rule_renamed : (k : ℕ) → get_or (map (renamed_rule ps) rs) k no_rule ≡ renamed_rule ps (get_or rs k no_rule)
  rule_renamed k =
      let e : renamed_rule ps no_rule ≡ no_rule = λ i. record { name = 0; watched = first i } in
      ap (λ d. get_or (map (renamed_rule ps) rs) k d) (sym e) ∙ get_or-map (renamed_rule ps) rs k no_rule

-- the first i nodes of a sound table
pub fine_part : (t : Table) → Sound t → (i : ℕ) → i ≤ t.node_count → Fine (take i t.nodes)
fine_part t sd i h =
    let c = sd.few_nodes in
    let p = sd.places in
    let e : length (take i t.nodes) ≡ i = length-take-le i t.nodes (omega arith) in
    record {
      fits = λ k l. rw (get_or-take i t.nodes k no_node (omega arith)) (sd.node k (omega arith));
      short = λ k l. rw (formula_prefix t.nodes i k (omega arith) (omega arith)) (sd.short k (omega arith));
    }

module _ (t : Table) (sd : Sound t) where
  -- ---- the first pass
  abbrev old : List Node
  old = take t.node_count t.nodes

  length_old : length old ≡ t.node_count
  length_old = length-take-le t.node_count t.nodes (omega (arith, sd.few_nodes, sd.places))

  node_old : (k : ℕ) → k < t.node_count → node_within old k ≡ node_within t.nodes k
  node_old k h = get_or-take t.node_count t.nodes k no_node h

  fine : Fine old
  fine = fine_part t sd t.node_count (omega arith)

  abbrev one : Lists
  one = rebuilt old

  inv : Rebuilt old one
  inv = all_rebuilt old fine

  abbrev h1 : ℕ → ℕ
  h1 i = get_or one.places i 0

  abbrev rules1 : List Rule
  rules1 = map (renamed_rule one.places) t.rules

  -- ---- the marks, from the places that the rules in use watch
  abbrev active : List Rule
  active = take t.rule_count rules1

  abbrev seeds : ℕ
  seeds = mark_watched active

  watched_on : Watched active seeds
  watched_on = watched_marked active

  length_rules1 : length rules1 ≡ 8
  length_rules1 = length-map t.rules (renamed_rule one.places) ∙ sd.rule_places

  length_active : length active ≡ t.rule_count
  length_active = length-take-le t.rule_count rules1 (omega (arith, length_rules1, sd.few_rules))

  watched_active : (r : ℕ) → r < t.rule_count → watched_in active r ≡ h1 (rule_at t r).watched
  watched_active r h = ap (λ (x : Rule). x.watched) (get_or-take t.rule_count rules1 r no_rule h ∙ rule_renamed one.places inv.first t.rules r)

  abbrev ms : ℕ
  ms = needed seeds one.nodes

  few : length one.nodes ≤ t.node_count
  few = omega (arith, inv.few, length_old)

  used_on : Marked seeds one.nodes ms
  used_on = needed_marked seeds one.nodes (omega (arith, few, sd.few_nodes))

  closed : (i : ℕ) → i < length one.nodes → bit ms i ≡ true → (j : ℕ) → has_operand (node_within one.nodes i) j ≡ true → bit ms j ≡ true
  closed i h f j u = used_on.closed i h f j (used_before_lem (node_within one.nodes i) i j (inv.good.fits i h) u) u

  -- ---- the second pass
  abbrev two : Lists
  two = swept ms one.nodes

  kp : Kept ms one.nodes two
  kp = all_kept ms one.nodes inv.good.fits

  good2 : Good two.nodes
  good2 = good_moved ms one.nodes inv.good two kp closed

  abbrev h2 : ℕ → ℕ
  h2 i = get_or two.places i 0

  few2 : length two.nodes ≤ t.node_count
  few2 = omega (arith, kp.few, few)

  room2 : length two.nodes ≤ 64
  room2 = omega (arith, few2, sd.few_nodes)

  -- ---- the rules
  rule_twice : (k : ℕ) → rule_at (simplified t) k ≡ renamed_rule two.places (renamed_rule one.places (rule_at t k))
  rule_twice k = rule_renamed two.places kp.first rules1 k ∙ ap (renamed_rule two.places) (rule_renamed one.places inv.first t.rules k)

  watched_before : (r : ℕ) → r < t.rule_count → (rule_at t r).watched < t.node_count
  watched_before r h = (sd.rule r h).watched

  rule_live : (r : ℕ) → r < t.rule_count → Live ms one.nodes inv.good two kp closed (h1 (rule_at t r).watched)
  rule_live r h =
      let a : h1 (rule_at t r).watched < length one.nodes = inv.inside (rule_at t r).watched (omega (arith, watched_before r h, length_old)) in
      record {
        in_list = a;
        is_marked = used_on.up (h1 (rule_at t r).watched) (omega (arith, few, sd.few_nodes))
            (rw (watched_active r h) at (watched_on.hit r (omega (arith, length_active)) (rw (watched_active r h) (omega (arith, few, sd.few_nodes)))));
      }

  ruled : (r : ℕ) → r < t.rule_count → Better (watched_formula t r) (watched_formula (simplified t) r)
  ruled r h =
      let a = rule_live r h in
      let b = kp.inside (h1 (rule_at t r).watched) a.in_list a.is_marked in
      rw (
        ap (λ (x : Rule). x.watched) (rule_twice r),
        padded_formula two.nodes (h2 (h1 (rule_at t r).watched)) b,
        formula_moved ms one.nodes inv.good two kp closed (h1 (rule_at t r).watched) a,
        ← (formula_prefix t.nodes t.node_count (rule_at t r).watched (watched_before r h) (omega (arith, sd.few_nodes, sd.places))),
      )
      (inv.better (rule_at t r).watched (omega (arith, watched_before r h, length_old)))

  -- ---- the result is sound
  rule_fits : (k : ℕ) → k < t.rule_count → RuleFits (length two.nodes) (rule_at (simplified t) k)
  rule_fits k h =
      let a = rule_live k h in
      rw (rule_twice k) (record {
        named = (sd.rule k h).named;
        largest = (sd.rule k h).largest;
        watched = kp.inside (h1 (rule_at t k).watched) a.in_list a.is_marked;
      })

  name_kept : (k : ℕ) → (rule_at (simplified t) k).name ≡ (rule_at t k).name
  name_kept k = ap (λ (r : Rule). r.name) (rule_twice k)

  sound2 : Sound (simplified t)
  sound2 = record {
    places = length_padded no_node 64 two.nodes room2;
    rule_places = length-map rules1 (renamed_rule two.places) ∙ length_rules1;
    few_nodes = room2;
    some_rule = sd.some_rule;
    few_rules = sd.few_rules;
    node = λ k h. rw (padded_node two.nodes k) (good2.fits k h);
    free_node = λ k h _. padded_free two.nodes k h;
    short = λ k h. rw (padded_formula two.nodes k h) (good2.short k h);
    rule = rule_fits;
    distinct = λ i j h l e. sd.distinct i j h l (sym (name_kept i) ∙ e ∙ name_kept j);
    free_rule = λ k h l.
        rule_twice k ∙ ap (λ r. renamed_rule two.places (renamed_rule one.places r)) (sd.free_rule k h l)
        ∙ (λ i. record { name = 0; watched = (ap h2 inv.first ∙ kp.first) i });
  }

  names : map (λ (r : Rule). r.name) (simplified t).rules ≡ map (λ (r : Rule). r.name) t.rules
  names = map-map (λ (r : Rule). r.name) (renamed_rule two.places) rules1 ∙ map-map (λ (r : Rule). r.name) (renamed_rule one.places) t.rules

  -- ---- nothing is left to simplify
  used2 : (i : ℕ) → i < length two.nodes
      → ((j : ℕ) → j < length two.nodes → has_operand (node_within (padded no_node 64 two.nodes) j) i ≡ false)
      → ((r : ℕ) → r < t.rule_count → (rule_at (simplified t) r).watched ≡ i → ⊥) → ⊥
  used2 i h f g =
      let o = kp.from i h in
      let p = o.in_list in
      ⊎_elim
      (λ x.
      let r = watched_on.from o.place (omega (arith, few, sd.few_nodes)) x in
      let b : r.0 < t.rule_count = omega (arith, r.1, length_active) in
      g r.0 b (ap (λ (x : Rule). x.watched) (rule_twice r.0) ∙ ap h2 (sym (watched_active r.0 b) ∙ r.2) ∙ o.becomes))
      (λ (c : Cause one.nodes ms o.place).
      let k = c.is_marked in
      let q = kp.inside c.by c.in_list k in
      let u : has_operand (node_within (padded no_node 64 two.nodes) (h2 c.by)) i ≡ true =
      rw (padded_node two.nodes (h2 c.by), kp.moved c.by c.in_list k)
      (rw o.becomes at (used_renamed two.places (node_within one.nodes c.by) o.place c.used)) in
      false≢true (sym (f (h2 c.by) q) ∙ u))
      (used_on.why o.place (omega (arith, few, sd.few_nodes)) o.is_marked)

  none_fits : Fits (simplified t) → ⊥
  none_fits (law_at i h f) = moves _ _ _ f (rw (padded_node two.nodes i) (padded_law two.nodes (node_within two.nodes i) ∙ good2.free i h))
  none_fits (copies i j h l e) = good2.apart i j h l (sym (padded_node two.nodes i) ∙ e ∙ padded_node two.nodes j)
  none_fits (unused i h f g) = used2 i h f g

  -- ---- a table where nothing fits
  nodes_padded : padded no_node 64 old ≡ t.nodes
  nodes_padded = padded_is no_node t.node_count 64 t.nodes sd.few_nodes sd.places sd.free_node

  module _ (none : Fits t → ⊥) where
    settled_old : Settled old
    settled_old = record {
      free = λ k h.
          let l : k < t.node_count = omega (arith, length_old) in
          sym (padded_law old (node_within old k)) ∙ ap₂ law nodes_padded (node_old k l) ∙ rests _ _ _ (λ f. none (law_at k l f)) (sd.node k l).ordered;
      apart = λ j k h l e.
          let b : k < t.node_count = omega (arith, length_old) in
          none (copies j k h b (sym (node_old j (omega arith)) ∙ e ∙ node_old k b));
    }

    st1 : Still old one
    st1 = rebuilt_still old fine settled_old

    h1_same : (i : ℕ) → i < t.node_count → h1 i ≡ i
    h1_same i h = st1.places i (omega (arith, length_old))

    rule_same : (ps : List ℕ) → get_or ps 0 0 ≡ 0 → ((i : ℕ) → i < t.node_count → get_or ps i 0 ≡ i) → (k : ℕ) → k < 8
        → renamed_rule ps (rule_at t k) ≡ rule_at t k
    rule_same ps first each k h = ⊎_elim
        (λ l. let e = each (rule_at t k).watched (watched_before k l) in λ i. record { name = (rule_at t k).name; watched = e i })
        (λ l. rw (sd.free_rule k l h) (λ i. record { name = 0; watched = first i }))
        (lt_or_le k t.rule_count)

    rules_same : (ps : List ℕ) → get_or ps 0 0 ≡ 0 → ((i : ℕ) → i < t.node_count → get_or ps i 0 ≡ i) → map (renamed_rule ps) t.rules ≡ t.rules
    rules_same ps first each =
        let e = length-map t.rules (renamed_rule ps) in
        ext_get_or no_rule (map (renamed_rule ps) t.rules) t.rules e λ k h. rule_renamed ps first t.rules k ∙ rule_same ps first each k
        (omega (arith, sd.rule_places))

    rules1_same : rules1 ≡ t.rules
    rules1_same = rules_same one.places inv.first h1_same

    all : (i : ℕ) → i < length one.nodes → bit ms i ≡ true
    all = each_marked one.nodes inv.good.fits active seeds ms (omega (arith, few, sd.few_nodes)) watched_on used_on λ i h f g.
        let l : i < t.node_count = omega (arith, few) in
        let n = ap length st1.nodes in
        none (unused i l
        (λ j b. ap (λ x. has_operand x i) (sym (ap (λ l. node_within l j) st1.nodes ∙ node_old j b)) ∙ f j (omega (arith, length_old)))
        (λ r b e. g r (omega (arith, length_active)) (watched_active r b ∙ h1_same (rule_at t r).watched (watched_before r b) ∙ e)))

    st2 : Still one.nodes two
    st2 = kept_still ms one.nodes inv.good.fits all

    nodes_same : two.nodes ≡ old
    nodes_same = st2.nodes ∙ st1.nodes

    h2_same : (i : ℕ) → i < t.node_count → h2 i ≡ i
    h2_same i h = st2.places i (omega (arith, ap length st1.nodes, length_old))

    same : simplified t ≡ t
    same =
        let a = ap (padded no_node 64) nodes_same ∙ nodes_padded in
        let b = ap length nodes_same ∙ length_old in
        let c = ap (map (renamed_rule two.places)) rules1_same ∙ rules_same two.places kp.first h2_same in
        λ i. record { nodes = a i; node_count = b i; rules = c i; rule_count = t.rule_count }

  pub simpler : Simpler t (simplified t)
  simpler = record {
    sound = (sound_iff (simplified t)).1 sound2;
    rule_count = refl;
    names = names;
    verdicts = λ r h xs i l. sym ((ruled r h).same.at xs i l);
    delays = λ r h. (ruled r h).short;
    node_count = few2;
    none_fits = none_fits;
    unchanged = same;
  }
