-- The nodes and the rule of a line, added to a table. Assumes nothing.
use Prim.Native.Nat.{ℕ, ◌+◌, ◌≤◌, ◌<◌}
use native.Mathlib.Numerals.{add-one}
use native.Mathlib.Omega.{arith}
use mathlib.Core.Path.{◌≡◌, refl, sym, ap, ap₂, subst, ◌∙◌}
use mathlib.Core.List.{List, ◌∷◌}
use lib.Dec.{eqb}
use lib.ListN.{take, drop, set, drop_of_length-le}
use lib.Seq.{drop-cons}
use Rattle.refusals.specs.Refusals.{number_of}
use Rattle.refusals.specs.declared.Refusal.{Refusal}
use Rattle.refusals.proofs.Positive.{refuses}
use Rattle.lists.specs.Choice.{pick, first}
use Rattle.lists.proofs.Sequences.{length_ticks, get_or_ticks}
use Rattle.table.specs.declared.Node.{Node}
use Rattle.table.specs.declared.Rule.{Rule}
use Rattle.table.specs.declared.Table.{Table}
use Rattle.table.specs.Nodes.{cap, delay_over}
use Rattle.builder.specs.Adding.{Added, node_rows_by, add_node_rows, rule_rows_by, with_node, with_rule, adding_node, adding_rule}
use Rattle.builder.specs.Built.{Delays}
use Rattle.builder.proofs.Answers.{refused_is, accepted_is, node_place, rule_place_lem}
use Rattle.builder.proofs.Over.{number_over, accepted_delays}
use Rattle.grammar.specs.declared.Made.{Made}
use Rattle.text.specs.Typing.{node_of, added, grown, watching, ruled, line_added, made_at, mades_of}

-- ---- the nodes
ahead : (c : List ℕ) (count k : ℕ) → k < count → drop k (mades_of c count) ≡ made_at c k ∷ drop (k + 1) (mades_of c count)
ahead c count k h =
    let l = length_ticks (made_at c) count in
    let e = drop-cons (mades_of c count) k (made_at c 0) (omega arith) in
    e ∙ ap₂ (λ (x : Made) (n : ℕ). x ∷ drop n (mades_of c count)) (get_or_ticks (made_at c) count k (made_at c 0) h) (sym (add-one k))

-- k nodes are added, and what is left makes of the table u what all of them make of the one that came
pub record Grown (t : Table) (c : List ℕ) (count base : ℕ) (u : Table) (ds : List ℕ) (k : ℕ) : Type 0 where
  pub below : k ≤ count
  pub same : grown base t (mades_of c count) ≡ grown base u (drop k (mades_of c count))
  pub delays : Delays u ds

pub grown_none : {t : Table} {c : List ℕ} {count base : ℕ} {ds : List ℕ} → Delays t ds → Grown t c count base t ds 0
grown_none d = record { below = omega arith; same = refl; delays = d }

-- one node more, and its number
module _ {t : Table} {c : List ℕ} {count base : ℕ} {u : Table} {ds : List ℕ} {k : ℕ} (g : Grown t c count base u ds k) (h : k < count)
    {m : Made} {n : Node} {d f : ℕ} (i : m ≡ made_at c k) (j : n ≡ node_of base u.node_count m) (v : d ≡ cap (delay_over (take 64 ds) n))
    (e : f ≡ first (node_rows_by u.node_count d n)) where
  number_is : f ≡ first (add_node_rows u n)
  number_is = number_over u ds g.delays n e v

  one_more : (a : Added) → a ≡ adding_node u n → grown base t (mades_of c count) ≡ pick (eqb a.number 0) (grown base a.table (drop (k + 1) (mades_of c count))) a
  unfolding grown
  one_more a l =
      g.same ∙ ap (grown base u) (ahead c count k h)
      ∙ ap (λ (x : Made). grown base u (x ∷ drop (k + 1) (mades_of c count))) (sym i)
      ∙ ap (λ (x : Node). let b = adding_node u x in pick (eqb b.number 0) (grown base b.table (drop (k + 1) (mades_of c count))) b) (sym j)
      ∙ ap (λ (b : Added). pick (eqb b.number 0) (grown base b.table (drop (k + 1) (mades_of c count))) b) (sym l)

  pub grown_bad : (r : Refusal) → number_of r ≡ f → added (number_of r) u ≡ grown base t (mades_of c count)
  unfolding adding_node
  grown_bad r z = sym (one_more (added (number_of r) u) (refused_is u (with_node u n) r (z ∙ number_is)) ∙ (rw (refuses r)))

  pub node_room : 0 ≡ f → u.node_count < 64
  node_room z = node_place u.node_count d n e z

  pub grown_more : 0 ≡ f → Grown t c count base (with_node u n) (set ds u.node_count d) (k + 1)
  unfolding adding_node
  grown_more z =
      let taken : added 0 (with_node u n) ≡ adding_node u n = accepted_is u (with_node u n) (z ∙ number_is) in
      record {
        below = omega arith;
        same = one_more (added 0 (with_node u n)) taken;
        delays = rw v (subst (λ (a : Added). Delays a.table (set ds u.node_count (cap (delay_over (take 64 ds) n)))) (sym taken) (accepted_delays u ds n g.delays (sym (z ∙ number_is))));
      }

-- ---- the line
-- a line whose node is refused
pub line_bad : (t : Table) (ms : List Made) (name : ℕ) (r : Refusal) {u : Table} → added (number_of r) u ≡ grown t.node_count t ms
    → added (number_of r) u ≡ line_added t name ms
unfolding line_added
line_bad t ms name r {u} e = sym (rw (refuses r)) ∙ ap (λ (x : Added). ruled x name) e

-- the rule, behind all nodes
module _ {t : Table} {c : List ℕ} {count : ℕ} {u : Table} {ds : List ℕ} {k : ℕ} (g : Grown t c count t.node_count u ds k) (h : count ≤ k) (name : ℕ) {r : Rule} {f : ℕ}
    (i : r ≡ watching u.node_count name) (e : f ≡ first (rule_rows_by u.node_count u.rules u.rule_count r)) where
  all : added 0 u ≡ grown t.node_count t (mades_of c count)
  unfolding grown
  all =
      let l = length_ticks (made_at c) count in
      sym (g.same ∙ ap (grown t.node_count u) (drop_of_length-le (mades_of c count) {i = k} (omega arith)))

  then_is : adding_rule u r ≡ line_added t name (mades_of c count)
  unfolding line_added
  then_is = ap (adding_rule u) i ∙ ap (λ (x : Added). ruled x name) all

  pub rule_bad : (x : Refusal) → number_of x ≡ f → added (number_of x) u ≡ line_added t name (mades_of c count)
  unfolding adding_rule
  rule_bad x z = refused_is u (with_rule u r) x (z ∙ e) ∙ then_is

  pub rule_room : 0 ≡ f → u.rule_count < 8
  rule_room z = rule_place_lem u r e z

  pub line_done : 0 ≡ f → added 0 (with_rule u r) ≡ line_added t name (mades_of c count)
  unfolding adding_rule
  line_done z = accepted_is u (with_rule u r) (z ∙ e) ∙ then_is

  pub rule_delays : Delays (with_rule u r) ds
  rule_delays = let d = g.delays in record { places = d.places; node_places = d.node_places; node = d.node }
