-- The table that holds given nodes and rules: the delays of its nodes, the names of its rules, and one more of each. Assumes nothing.
use mathlib.Core.Path.{◌≡◌, refl, sym, ◌∙◌}
use mathlib.Core.Bool.{Bool, true, false, ◌&&◌, ◌||◌, not}
use mathlib.Core.List.{List, [], ◌∷◌, ◌++◌, map, append-nil, append_assoc}
use Prim.Native.Nat.{ℕ, zero, suc, ◌+◌, ◌-◌, ◌≤◌, ◌<◌}
use native.Mathlib.Omega.{arith}
use borrow.Author.Tests.{eqb-true, eqb-false, eq-eqb, ne_eqb, lt-ltb, le-ltb}
use lib.Dec.{ltb, eqb}
use lib.ListN.{length, replicate}
use Rattle.lists.specs.Choice.{first}
use Rattle.lists.specs.Sequence.{among, every, padded, chain}
use Rattle.lists.proofs.Sequences.{length_snoc, get_or_padded, set_padded, chain_append}
use Rattle.table.specs.Nodes.{no_node, no_rule, delay_over, delays}
use Rattle.table.specs.Sound.{differs}
use Rattle.table.specs.declared.Node.{Node}
use Rattle.table.specs.declared.Rule.{Rule}
use Rattle.table.specs.declared.Table.{Table}
use Rattle.table.proofs.Delays.{delays_chain}
use Rattle.builder.specs.Adding.{add_node_rows, name_used, add_rule_rows, with_node, with_rule, adding_node, adding_rule}
use Rattle.builder.specs.Built.{table_holding}

-- ---- free places have no delay, and change none
chain_free : (made : List ℕ) (m : ℕ) → chain delay_over made (replicate m no_node) ≡ made ++ replicate m 0
unfolding chain
chain_free made zero = sym (append-nil made)
chain_free made (suc m) = chain_free (made ++ (0 ∷ [])) m ∙ append_assoc made (0 ∷ []) (replicate m 0)

pub delay_held : (ns : List Node) (rs : List Rule) (x : Node) → delay_over (delays (table_holding ns rs).nodes) x ≡ delay_over (delays ns) x
delay_held ns rs x =
    let m = 64 - length ns in
    let c = chain delay_over [] ns in
    let e : delays (padded no_node 64 ns) ≡ c ++ replicate m 0 =
    delays_chain (padded no_node 64 ns) ∙ chain_append delay_over [] ns (replicate m no_node) ∙ chain_free c m in
    rw (e, delays_chain ns, get_or_padded 0 c m x.left, get_or_padded 0 c m x.right)

-- ---- a name among those of the rules before the free places
eqb_comm : (a b : ℕ) → eqb a b ≡ eqb b a
eqb_comm a b = go (eqb b a) refl
  where
    go : (t : Bool) → eqb b a ≡ t → eqb a b ≡ t
    go true e = eq-eqb a b (sym (eqb-true b a e))
    go false e = ne_eqb a b (λ p. eqb-false b a e (sym p))

-- the names of rules
abbrev pub names : List Rule → List ℕ
names rs = map (λ (r : Rule). r.name) rs

module _ (c name : ℕ) where
  free_differs : (i m : ℕ) → c ≤ i → every (differs c name) i (replicate m no_rule) ≡ true
  unfolding every
  free_differs i zero h = refl
  free_differs i (suc m) h = rw (le-ltb i c h) (free_differs (suc i) m (omega arith))

  named : (i : ℕ) (rs : List Rule) (m : ℕ) → c ≡ i + length rs → not (every (differs c name) i (rs ++ replicate m no_rule)) ≡ among name (names rs)
  unfolding every
  named i [] m e = rw (free_differs i m (omega arith))
  named i (r ∷ rs) m e =
      go (eqb r.name name) (eqb_comm name r.name) (named (suc i) rs m (omega arith))
    where
      go : (t : Bool) → eqb name r.name ≡ t
          → not (every (differs c name) (suc i) (rs ++ replicate m no_rule)) ≡ among name (names rs)
          → not (not (ltb i c && t) && every (differs c name) (suc i) (rs ++ replicate m no_rule)) ≡ (eqb name r.name || among name (names rs))
      go true p h = rw (lt-ltb i c (omega arith), p)
      go false p h = rw (lt-ltb i c (omega arith), p) h

pub name_held_lem : (ns : List Node) (rs : List Rule) (x : Rule) → name_used (table_holding ns rs) x ≡ among x.name (names rs)
name_held_lem ns rs x = named (length rs) x.name 0 rs (8 - length rs) (omega arith)

-- ---- one more: it comes behind the others, which stay
module _ (ns : List Node) (rs : List Rule) where
  pub node_held : (x : Node) → length ns < 64 → with_node (table_holding ns rs) x ≡ table_holding (ns ++ (x ∷ [])) rs
  node_held x h =
      let l : length ns + 1 ≡ length (ns ++ (x ∷ [])) = omega (arith, length_snoc ns x no_node) in
      rw (set_padded no_node 64 ns x h, l)

  pub rule_held : (x : Rule) → length rs < 8 → with_rule (table_holding ns rs) x ≡ table_holding ns (rs ++ (x ∷ []))
  rule_held x h =
      let l : length rs + 1 ≡ length (rs ++ (x ∷ [])) = omega (arith, length_snoc rs x no_rule) in
      rw (set_padded no_rule 8 rs x h, l)

-- ---- an addition: its number, and the table where it is accepted
module _ (t : Table) (n : Node) where
  pub node_number : (adding_node t n).number ≡ first (add_node_rows t n)
  unfolding adding_node
  node_number = refl

  pub node_taken : (adding_node t n).number ≡ 0 → (adding_node t n).table ≡ with_node t n
  unfolding adding_node
  node_taken h = rw h

module _ (t : Table) (r : Rule) where
  pub rule_number_lem : (adding_rule t r).number ≡ first (add_rule_rows t r)
  unfolding adding_rule
  rule_number_lem = refl

  pub rule_taken : (adding_rule t r).number ≡ 0 → (adding_rule t r).table ≡ with_rule t r
  unfolding adding_rule
  rule_taken h = rw h
