-- A table that is built by adding and has a rule is sound. Assumes nothing.
use mathlib.Core.Path.{◌≡◌, refl, sym, ap, subst, ◌∙◌}
use mathlib.Core.Bool.{false, ◌&&◌}
use mathlib.Core.List.{List, [], ◌∷◌, ◌++◌}
use Prim.Native.Nat.{ℕ, zero, suc, ◌-◌, ◌≤◌, ◌<◌}
use native.Mathlib.Omega.{arith}
use borrow.Author.Tests.{eqb-false, ltb-false, leb-false}
use lib.Dec.{ltb, leb, eqb}
use lib.ListN.{length, get_or, replicate, get_or-eq_default}
use Rattle.limits.specs.Limits.{max_name}
use Rattle.lists.specs.Choice.{◌if◌, first}
use Rattle.lists.specs.Sequence.{among}
use Rattle.lists.proofs.Tests.{and_right, or_left, or_right}
use Rattle.lists.proofs.Rows.{no_row}
use Rattle.lists.proofs.Sequences.{length_snoc, at_last, at_old, each_place, get_or_padded, length_padded, chain_last, chain_old, chain_prefix}
use Rattle.mltl.specs.Mltl.{const, delay}
use Rattle.interval.specs.Parts.{bad_interval}
use Rattle.table.specs.Nodes.{op_of, uses_of, no_node, no_rule, formula_over, formulas, formula_at, delay_over, delays}
use Rattle.table.specs.Sound.{NodeFits, RuleFits, Sound}
use Rattle.table.specs.declared.Node.{Node}
use Rattle.table.specs.declared.Rule.{Rule}
use Rattle.table.specs.declared.Table.{Table}
use Rattle.table.specs.declared.Uses.{Uses}
use Rattle.table.proofs.ByKind.{uses_by_number}
use Rattle.table.proofs.Delays.{delay_of_lem}
use Rattle.builder.specs.Adding.{bad_signal, bad_operand, add_node_rows, bad_name, add_rule_rows, adding_node, adding_rule}
use Rattle.builder.specs.Built.{table_holding, NodeForm, Built, none, node, rule}
use Rattle.builder.proofs.Holding.{delay_held, names, name_held_lem, node_held, rule_held, node_taken, rule_taken}

-- ---- nodes and rules that a sound table may hold
pub record Good (ns : List Node) (rs : List Rule) : Type 0 where
  pub few_nodes : length ns ≤ 64
  pub few_rules : length rs ≤ 8
  pub node : (i : ℕ) → i < length ns → NodeFits i (get_or ns i no_node)
  pub short : (i : ℕ) → i < length ns → delay (formula_at ns i) ≤ 4095
  pub rule : (i : ℕ) → i < length rs → RuleFits (length ns) (get_or rs i no_rule)
  pub distinct : (i j : ℕ) → i < j → j < length rs → ¬ ((get_or rs i no_rule).name ≡ (get_or rs j no_rule).name)

pub good_none : Good [] []
good_none = record {
  few_nodes = omega arith;
  few_rules = omega arith;
  node = λ i h. absurd (omega arith);
  short = λ i h. absurd (omega arith);
  rule = λ i h. absurd (omega arith);
  distinct = λ i j l h. absurd (omega arith);
}

-- a node more
pub good_node : (ns : List Node) (rs : List Rule) (x : Node) → Good ns rs → length ns < 64 → NodeFits (length ns) x → delay_over (delays ns) x ≤ 4095
    → Good (ns ++ (x ∷ [])) rs
good_node ns rs x g room fits d = record {
  few_nodes = omega (arith, length_snoc ns x no_node);
  few_rules = g.few_rules;
  node =
      each_place ns x (λ i. NodeFits i (get_or (ns ++ (x ∷ [])) i no_node)) (λ k h. rw (at_old ns x no_node k h) (g.node k h))
      (rw (at_last ns x no_node) fits);
  short =
      each_place ns x (λ i. delay (formula_at (ns ++ (x ∷ [])) i) ≤ 4095) (λ k h. rw (chain_old formula_over (const false) ns x k h) (g.short k h))
      (rw (chain_last formula_over (const false) ns x, delay_of_lem (formulas ns) x) d);
  rule = λ i h.
      let r = g.rule i h in
      record { named = r.named; largest = r.largest; watched = omega (arith, r.watched, length_snoc ns x no_node) };
  distinct = g.distinct;
}

-- a rule more
pub good_rule : (ns : List Node) (rs : List Rule) (x : Rule) → Good ns rs → length rs < 8 → RuleFits (length ns) x
    → among x.name (names rs) ≡ false → Good ns (rs ++ (x ∷ []))
good_rule ns rs x g room fits new = record {
  few_nodes = g.few_nodes;
  few_rules = omega (arith, length_snoc rs x no_rule);
  node = g.node;
  short = g.short;
  rule =
      each_place rs x (λ i. RuleFits (length ns) (get_or (rs ++ (x ∷ [])) i no_rule)) (λ k h. rw (at_old rs x no_rule k h) (g.rule k h))
      (rw (at_last rs x no_rule) fits);
  distinct = λ i j l h.
      each_place rs x (λ k. i < k → ¬ ((get_or (rs ++ (x ∷ [])) i no_rule).name ≡ (get_or (rs ++ (x ∷ [])) k no_rule).name))
      (λ k h m p. g.distinct i k m h (rw (at_old rs x no_rule i (omega arith), at_old rs x no_rule k h) at p))
      (λ m p. other rs new i m (rw (at_old rs x no_rule i m, at_last rs x no_rule) at p))
      j h l;
}
  where
    -- a name that is not among those of the rules is at no place
    other : (qs : List Rule) → among x.name (names qs) ≡ false → (j : ℕ) → j < length qs → ¬ ((get_or qs j no_rule).name ≡ x.name)
    other [] h j l e = omega arith
    other (q ∷ qs) h zero l e = eqb-false x.name q.name (or_left _ _ h) (sym e)
    other (q ∷ qs) h (suc j) l e = other qs (or_right (eqb x.name q.name) _ h) j (omega arith) e

-- a table of such nodes and rules is sound, if it has a rule
pub good_sound : (ns : List Node) (rs : List Rule) → Good ns rs → 1 ≤ length rs → Sound (table_holding ns rs)
good_sound ns rs g some =
    let node_at : (i : ℕ) → get_or (table_holding ns rs).nodes i no_node ≡ get_or ns i no_node = get_or_padded no_node ns (64 - length ns) in
    let rule_at_lem : (i : ℕ) → get_or (table_holding ns rs).rules i no_rule ≡ get_or rs i no_rule = get_or_padded no_rule rs (8 - length rs) in
    record {
      places = length_padded no_node 64 ns g.few_nodes;
      rule_places = length_padded no_rule 8 rs g.few_rules;
      few_nodes = g.few_nodes;
      some_rule = some;
      few_rules = g.few_rules;
      node = λ i h. rw (node_at i) (g.node i h);
      free_node = λ i h l. node_at i ∙ get_or-eq_default ns no_node {n = i} h;
      short = λ i h. rw (chain_prefix formula_over (const false) ns (replicate (64 - length ns) no_node) i h) (g.short i h);
      rule = λ i h. rw (rule_at_lem i) (g.rule i h);
      distinct = λ i j l h p. g.distinct i j l h (rw (rule_at_lem i, rule_at_lem j) at p);
      free_rule = λ i h l. rule_at_lem i ∙ get_or-eq_default rs no_rule {n = i} h;
    }

-- ---- what no row refuses fits
pub uses_arg : (k : ℕ) → (uses_of (op_of k)).arg ≡ eqb k 1
uses_arg k = sym (ap (λ (u : Uses). u.arg) (uses_by_number k))

module _ (ns : List Node) (rs : List Rule) where
  abbrev t : Table
  t = table_holding ns rs

  module _ (x : Node) (h : first (add_node_rows t x) ≡ 0) where
    no_node_row : (i : ℕ) → (get_or (add_node_rows t x) i (0 if false)).test ≡ false
    no_node_row = no_row (add_node_rows t x) refl h

    pub node_fits : NodeForm x → NodeFits (length ns) x
    node_fits f =
        let signal : bad_signal x ≡ false = no_node_row 0 in
        let interval : bad_interval x.lo x.hi ≡ false = no_node_row 1 in
        let operand : bad_operand t x ≡ false = no_node_row 2 in
        let u = uses_of (op_of x.kind) in
        record {
          known = f.known;
          node = f.node;
          arg = record { limited = λ v. let e = ltb-false 31 x.arg (and_right (eqb x.kind 1) _ signal (sym (uses_arg x.kind) ∙ v)) in omega arith; unused = f.arg };
          ordered = ltb-false x.hi x.lo (or_left _ _ interval);
          interval = record { limited = λ v. let e = ltb-false 4095 x.hi (or_right (ltb x.hi x.lo) _ interval) in omega arith; unused = f.hi };
          left = record { limited = λ v. leb-false (length ns) x.left (and_right u.left _ (or_left _ _ operand) v); unused = f.left };
          right = record { limited = λ v. leb-false (length ns) x.right (and_right u.right _ (or_right (u.left && leb (length ns) x.left) _ operand) v); unused = f.right };
        }

    pub node_room : length ns < 64
    node_room = leb-false 64 (length ns) (no_node_row 3)

    pub node_short : delay_over (delays ns) x ≤ 4095
    node_short = subst (λ (d : ℕ). d ≤ 4095) (delay_held ns rs x) (ltb-false 4095 (delay_over (delays t.nodes) x) (no_node_row 4))

  module _ (x : Rule) (h : first (add_rule_rows t x) ≡ 0) where
    no_rule_row : (i : ℕ) → (get_or (add_rule_rows t x) i (0 if false)).test ≡ false
    no_rule_row = no_row (add_rule_rows t x) refl h

    pub rule_fits : RuleFits (length ns) x
    rule_fits =
        let name : bad_name x ≡ false = no_rule_row 0 in
        record {
          named = let z = eqb-false x.name 0 (or_left _ _ name) in omega arith;
          largest = ltb-false max_name x.name (or_right (eqb x.name 0) _ name);
          watched = leb-false (length ns) x.watched (no_rule_row 1);
        }

    pub rule_room : length rs < 8
    rule_room = leb-false 8 (length rs) (no_rule_row 2)

    pub rule_new : among x.name (names rs) ≡ false
    rule_new = sym (name_held_lem ns rs x) ∙ no_rule_row 3

-- ---- what a built table holds
pub record Held (t : Table) : Type 0 where
  pub nodes : List Node
  pub rules : List Rule
  pub is : t ≡ table_holding nodes rules
  pub good : Good nodes rules

more_node : (ns : List Node) (rs : List Rule) (n : Node) → Good ns rs → NodeForm n → (adding_node (table_holding ns rs) n).number ≡ 0
    → Held (adding_node (table_holding ns rs) n).table
unfolding adding_node
more_node ns rs n g f h = record {
  nodes = ns ++ (n ∷ []);
  rules = rs;
  is = node_taken (table_holding ns rs) n h ∙ node_held ns rs n (node_room ns rs n h);
  good = good_node ns rs n g (node_room ns rs n h) (node_fits ns rs n h f) (node_short ns rs n h);
}

more_rule : (ns : List Node) (rs : List Rule) (r : Rule) → Good ns rs → (adding_rule (table_holding ns rs) r).number ≡ 0
    → Held (adding_rule (table_holding ns rs) r).table
unfolding adding_rule
more_rule ns rs r g h = record {
  nodes = ns;
  rules = rs ++ (r ∷ []);
  is = rule_taken (table_holding ns rs) r h ∙ rule_held ns rs r (rule_room ns rs r h);
  good = good_rule ns rs r g (rule_room ns rs r h) (rule_fits ns rs r h) (rule_new ns rs r h);
}

held_node : {t : Table} (n : Node) → Held t → NodeForm n → (adding_node t n).number ≡ 0 → Held (adding_node t n).table
held_node {t} n k f =
    subst (λ (u : Table). (adding_node u n).number ≡ 0 → Held (adding_node u n).table) (sym k.is) (more_node k.nodes k.rules n k.good f)

held_rule : {t : Table} (r : Rule) → Held t → (adding_rule t r).number ≡ 0 → Held (adding_rule t r).table
held_rule {t} r k =
    subst (λ (u : Table). (adding_rule u r).number ≡ 0 → Held (adding_rule u r).table) (sym k.is) (more_rule k.nodes k.rules r k.good)

pub built_held : {t : Table} → Built t → Held t
built_held none = record { nodes = []; rules = []; is = refl; good = good_none }
built_held (node n b f h) = held_node n (built_held b) f h
built_held (rule r b h) = held_rule r (built_held b) h

-- THE LAW: a table that is built and has a rule is sound
pub built_sound : {t : Table} → Built t → 1 ≤ t.rule_count → Sound t
built_sound {t} b some =
    let k = built_held b in
    subst Sound (sym k.is) (good_sound k.nodes k.rules k.good (subst (λ (u : Table). 1 ≤ u.rule_count) k.is some))
