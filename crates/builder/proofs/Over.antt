-- Where the delays of a table's nodes are at hand: the number of one more node, and its delay with theirs. Assumes nothing.
use Prim.Native.Nat.{ℕ, suc, ◌+◌, ◌≤◌, ◌<◌}
use native.Mathlib.Omega.{arith}
use mathlib.Core.Path.{◌≡◌, refl, sym, ap, subst, ◌∙◌}
use mathlib.Core.Logic.{⊎_elim}
use mathlib.Core.Bool.{Bool, true, false, ◌&&◌}
use mathlib.Core.List.{List, [], ◌∷◌, ◌++◌, map, append_assoc}
use borrow.Author.Tests.{leb-false}
use lib.Dec.{ltb, leb}
use lib.ListN.{length, get_or, take, drop, set, replicate, length-set, length-append, take-append-drop, get_or-map}
use lib.Seq.{take_all, set_split, get_or-set_same, get_or-set_other, length-take-le}
use Rattle.lists.specs.Choice.{first}
use Rattle.lists.specs.Sequence.{chain}
use Rattle.lists.proofs.Rows.{no_row}
use Rattle.lists.proofs.Sequences.{chain_prefix, chain_last}
use Rattle.lists.proofs.Tests.{or_left, or_right, and_right, lt_or_le}
use Rattle.table.specs.Nodes.{op_of, uses_of, no_table, delay_over, delays, cap}
use Rattle.table.specs.declared.Node.{Node}
use Rattle.table.specs.declared.Table.{Table}
use Rattle.table.proofs.Delays.{delay_used, delays_chain, delay_capped}
use Rattle.builder.specs.Adding.{operand_past, node_rows_by, add_node_rows, with_node, adding_node}
use Rattle.builder.specs.Built.{Delays}
use Rattle.builder.proofs.Answers.{long_cap, rows_capped}
use Rattle.builder.proofs.Holding.{node_taken}

-- two lists that hold the same below `count`
same_over : (xs ys : List ℕ) (count : ℕ) (n : Node) → operand_past count n ≡ false → ((k : ℕ) → k < count → get_or xs k 0 ≡ get_or ys k 0) → delay_over xs n ≡ delay_over ys n
same_over xs ys count n h e =
    let u = uses_of (op_of n.kind) in
    delay_used false (op_of n.kind) n.lo n.hi (get_or xs n.left 0) (get_or xs n.right 0) (get_or ys n.left 0) (get_or ys n.right 0)
    (λ l. e n.left (leb-false count n.left (and_right u.left _ (or_left _ _ h) l)))
    (λ r. e n.right (leb-false count n.right (and_right u.right _ (or_right (u.left && leb count n.left) _ h) r)))

capped_at : (ds : List ℕ) (k : ℕ) → get_or (map cap ds) k 0 ≡ cap (get_or ds k 0)
capped_at ds k = get_or-map cap ds k 0

module _ (t : Table) (ds : List ℕ) (d : Delays t ds) where
  abbrev real : List ℕ
  real = delays t.nodes

  whole : take 64 ds ≡ ds
  whole = take_all 64 ds (let l = d.places in omega arith)

  held : (k : ℕ) → k < t.node_count → get_or (take 64 ds) k 0 ≡ get_or (map cap real) k 0
  held k h = ap (λ (xs : List ℕ). get_or xs k 0) whole ∙ d.node k h ∙ sym (capped_at real k)

  -- the delay of one more node, capped
  pub delay_over_held : (n : Node) → operand_past t.node_count n ≡ false → cap (delay_over (take 64 ds) n) ≡ cap (delay_over real n)
  delay_over_held n h = ap cap (same_over (take 64 ds) (map cap real) t.node_count n h held) ∙ delay_capped false real n refl refl

  same_number : (n : Node) → first (node_rows_by t.node_count (delay_over (take 64 ds) n) n) ≡ first (node_rows_by t.node_count (delay_over real n) n)
  same_number n = go (operand_past t.node_count n) refl
    where
      go : (b : Bool) → operand_past t.node_count n ≡ b → first (node_rows_by t.node_count (delay_over (take 64 ds) n) n) ≡ first (node_rows_by t.node_count (delay_over real n) n)
      go true e = rw e
      go false e =
          let l : ltb 4095 (delay_over (take 64 ds) n) ≡ ltb 4095 (delay_over real n) = sym (long_cap (delay_over (take 64 ds) n)) ∙ ap (ltb 4095) (delay_over_held n e) ∙ long_cap (delay_over real n) in
          rw l

  -- THE LAW: over these delays a node has the number that it has over the table
  pub number_over : (n : Node) {v f : ℕ} → f ≡ first (node_rows_by t.node_count v n) → v ≡ cap (delay_over (take 64 ds) n) → f ≡ first (add_node_rows t n)
  number_over n e h = rows_capped t.node_count n (delay_over (take 64 ds) n) e h ∙ same_number n

  -- ---- the delays with one more
  module _ (n : Node) (room : t.node_count < 64) where
    abbrev count : ℕ
    count = t.node_count

    abbrev longer : List Node
    longer = set t.nodes count n

    abbrev front : List Node
    front = take count t.nodes

    below : length front ≡ count
    below = length-take-le count t.nodes (let l = d.node_places in omega arith)

    split : longer ≡ front ++ (n ∷ drop (suc count) t.nodes)
    split = set_split t.nodes count n (let l = d.node_places in omega arith)

    -- the delays of the first nodes are theirs, whatever follows
    old : (rest : List Node) (k : ℕ) → k < count → get_or (delays (front ++ rest)) k 0 ≡ get_or (delays front) k 0
    old rest k h =
        ap (λ (xs : List ℕ). get_or xs k 0) (delays_chain (front ++ rest))
        ∙ chain_prefix delay_over 0 front rest k (let l = below in omega arith)
        ∙ ap (λ (xs : List ℕ). get_or xs k 0) (sym (delays_chain front))

    was : (k : ℕ) → k < count → get_or real k 0 ≡ get_or (delays front) k 0
    was k h = ap (λ (ns : List Node). get_or (delays ns) k 0) (sym (take-append-drop count t.nodes)) ∙ old (drop count t.nodes) k h

    is : (k : ℕ) → k < count → get_or (delays longer) k 0 ≡ get_or (delays front) k 0
    is k h = ap (λ (ns : List Node). get_or (delays ns) k 0) split ∙ old (n ∷ drop (suc count) t.nodes) k h

    new : get_or (delays longer) count 0 ≡ delay_over (delays front) n
    new =
        let rest = drop (suc count) t.nodes in
        let l = length-append front (n ∷ []) in
        let b = below in
        ap (λ (xs : List ℕ). get_or xs count 0) (delays_chain longer)
        ∙ ap (λ (ns : List Node). get_or (chain delay_over [] ns) count 0) (split ∙ sym (append_assoc front (n ∷ []) rest))
        ∙ chain_prefix delay_over 0 (front ++ (n ∷ [])) rest count (omega arith)
        ∙ ap (λ (k : ℕ). get_or (chain delay_over [] (front ++ (n ∷ []))) k 0) (sym below)
        ∙ chain_last delay_over 0 front n
        ∙ ap (λ (xs : List ℕ). delay_over xs n) (sym (delays_chain front))

    pub delays_more : operand_past count n ≡ false → Delays (with_node t n) (set ds count (cap (delay_over (take 64 ds) n)))
    delays_more h = record { places = simp length-set d.places; node_places = simp length-set d.node_places; node = at }
      where
        v : ℕ
        v = cap (delay_over (take 64 ds) n)

        last : get_or (set ds count v) count 0 ≡ cap (get_or (delays longer) count 0)
        last =
            get_or-set_same ds count v 0 (let l = d.places in omega arith)
            ∙ delay_over_held n h
            ∙ ap cap (same_over real (delays front) count n h was ∙ sym new)

        at : (k : ℕ) → k < count + 1 → get_or (set ds count v) k 0 ≡ cap (get_or (delays longer) k 0)
        at k l = ⊎_elim early late (lt_or_le k count)
          where
            early : k < count → get_or (set ds count v) k 0 ≡ cap (get_or (delays longer) k 0)
            early m = get_or-set_other ds count k v 0 (λ e. omega arith) ∙ d.node k m ∙ ap cap (was k m ∙ sym (is k m))

            late : count ≤ k → get_or (set ds count v) k 0 ≡ cap (get_or (delays longer) k 0)
            late m = let e : k ≡ count = omega arith in rw e last

-- ---- an accepted node
pub accepted_delays : (t : Table) (ds : List ℕ) (n : Node) → Delays t ds → (adding_node t n).number ≡ 0
    → Delays (adding_node t n).table (set ds t.node_count (cap (delay_over (take 64 ds) n)))
unfolding adding_node
accepted_delays t ds n d z =
    subst (λ (u : Table). Delays u (set ds t.node_count (cap (delay_over (take 64 ds) n)))) (sym (node_taken t n z))
    (delays_more t ds d n (leb-false 64 t.node_count (no_row (add_node_rows t n) refl z 3)) (no_row (add_node_rows t n) refl z 2))

pub no_delays : Delays no_table (replicate 64 0)
no_delays = record { places = refl; node_places = refl; node = λ k h. absurd (omega arith) }
