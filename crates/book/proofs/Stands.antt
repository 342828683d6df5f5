-- The state of the code's walk, and the records that it passed: reading by the one is reading by the other. Assumes nothing.
use mathlib.Core.Path.{◌≡◌, refl, sym, ap, ◌∙◌}
use mathlib.Core.Bool.{Bool, true, false, ◌&&◌, ◌||◌, not, true≢false, or-false, or-true, and-false}
use mathlib.Core.List.{List, [], ◌∷◌, ◌++◌, map}
use Prim.Native.Nat.{ℕ, zero, suc, ◌+◌, ◌-◌, ◌*◌, ◌≤◌, ◌<◌}
use native.Mathlib.Nat.{le_of_suc-le-suc}
use native.Mathlib.Omega.{arith}
use borrow.Author.Tests.{eqb-true, ne_eqb, eq-eqb, lt-ltb, le-ltb, le-leb, lt-leb, not-false}
use lib.Dec.{ltb, leb, eqb}
use lib.ListN.{length, get_or, set, replicate, length-set}
use Rattle.lists.specs.Choice.{Row, pick, ◌if◌, first}
use Rattle.lists.specs.Sequence.{among}
use Rattle.lists.proofs.Rows.{row_more, no_row, row_same, row_none}
use Rattle.lists.proofs.Tests.{or_left, or_right}
use Rattle.lists.proofs.Sequences.{length_snoc, get_or_free}
use Rattle.table.specs.Nodes.{no_node, op_of, uses_of, delay_over, delays}
use Rattle.table.specs.declared.Node.{Node}
use Rattle.table.specs.declared.Rule.{Rule}
use Rattle.table.specs.declared.Table.{Table}
use Rattle.builder.specs.Adding.{bad_signal, bad_operand, too_long, add_node_rows, bad_name, name_used, add_rule_rows, with_node, with_rule}
use Rattle.builder.specs.Built.{table_holding}
use Rattle.builder.proofs.Holding.{delay_held, name_held_lem, node_held, rule_held}
use Rattle.book.specs.declared.Entry.{Entry}
use Rattle.book.specs.declared.Walk.{Walk}
use Rattle.limits.specs.Limits.{max_name}
use Rattle.interval.specs.Parts.{bad_interval}
use Rattle.book.specs.Entries.{Naming, TwoBytes, entry_of, uses_in, name_by, name_of, formed, bad_form, bad_arg, bad_length, bad_head}
use Rattle.book.specs.Code.Steps.{seen_at, entered, no_place, place_by, node_by, rule_by, node_added, rule_added, added, bad_link, builder_rows, walk_fault, begun, walk_ended}
use Rattle.book.specs.Reading.{index, place, is_node_at, is_rule_at, nodes_in, rules_in, node_of, rule_of_by, rule_of, nodes, rules_by, rules, link_fault, operand_fault, count_fault, delay_fault, name_fault, rows, fault, fault_by, head_fault, finished}
use Rattle.book.specs.Keeps.{Kept}
use Rattle.book.proofs.Tests.{other_kind, node_no_rule, node_uses, rule_uses}
use Rattle.book.proofs.Among.{eqb_suc, among_snoc, among_filter, filter_in, filter_out, collect_in, collect_out, collect_map, collect_length, index_old, index_new, index_lt}
use Rattle.book.proofs.Kept.{formed_is, node_iff, kept}

-- the node, and the rule, of a record
abbrev pub node_within : List ℕ → List ℕ → ℕ → Node
node_within s before r = node_of (nodes_in s before) (entry_of s r)

abbrev pub rule_within : List ℕ → List ℕ → ℕ → Rule
rule_within s before r = rule_of (nodes_in s before) (entry_of s r)

-- the names of rules are those of their records
pub names_of : (names : Naming) (s chain : List ℕ) → map (λ (x : Rule). x.name) (rules_by names s chain) ≡ map (λ q. name_by names (entry_of s q)) (rules_in s chain)
names_of names s chain =
    collect_map (is_rule_at s) (λ before r. rule_of_by names (nodes_in s before) (entry_of s r)) (λ (x : Rule). x.name) (λ q. name_by names (entry_of s q)) (λ b r. refl) [] chain

-- the table of the records before
abbrev table_before : List ℕ → List ℕ → Table
table_before s before = table_holding (nodes s before) (rules s before)

-- the rows of a record from 5 on
abbrev later_rows : List ℕ → List ℕ → Entry → List Row
later_rows s before e =
    (5 if bad_arg e) ∷ (6 if bad_interval e.lo e.hi) ∷ (7 if operand_fault (nodes_in s before) e) ∷
    (8 if count_fault s before e) ∷ (9 if delay_fault s before e) ∷ (10 if name_fault s before e) ∷ []

-- what the walk has seen of the record k
abbrev pub seen_of : List ℕ → List ℕ → ℕ → ℕ
seen_of s before k = pick (among k (nodes_in s before)) (2 + index (nodes_in s before) k) (pick (among k before) 1 0)

pub record Stands (s before : List ℕ) (w : Walk) : Type 0 where
  pub seen : (k : ℕ) → seen_at w k ≡ seen_of s before k
  pub sized : length w.seen ≡ 256
  pub table_is : w.table ≡ table_before s before
  pub few : length (nodes s before) ≤ 64

-- a list after a store
stored : (l : List ℕ) (i v k : ℕ) → i < length l → get_or (set l i v) k 0 ≡ pick (eqb k i) v (get_or l k 0)
stored [] i v k h = absurd (omega arith)
stored (x ∷ xs) zero v zero h = refl
stored (x ∷ xs) zero v (suc k) h = rw (ne_eqb (suc k) 0 (omega arith))
stored (x ∷ xs) (suc i) v zero h = rw (ne_eqb 0 (suc i) (omega arith))
stored (x ∷ xs) (suc i) v (suc k) h = rw (eqb_suc k i) (stored xs i v k (le_of_suc-le-suc h))

-- ---- the tests of what is seen, by whether it is a node, a, and passed, b
seen_some : (a b : Bool) (i : ℕ) → (b ≡ false → a ≡ false) → ltb 0 (pick a (2 + i) (pick b 1 0)) ≡ b
seen_some true true i h = lt-ltb 0 (2 + i) (omega arith)
seen_some true false i h = absurd (true≢false (h refl))
seen_some false true i h = refl
seen_some false false i h = refl

seen_node : (a b : Bool) (i : ℕ) → ltb (pick a (2 + i) (pick b 1 0)) 2 ≡ not a
seen_node true b i = le-ltb (2 + i) 2 (omega arith)
seen_node false true i = refl
seen_node false false i = refl

seen_place_lem : (u a b : Bool) (i : ℕ) → pick (ltb (pick a (2 + i) (pick b 1 0)) 2) (no_place u) (pick a (2 + i) (pick b 1 0) - 2) ≡ pick a i (no_place u)
seen_place_lem u true b i = rw (le-ltb (2 + i) 2 (omega arith)) (omega arith)
seen_place_lem u false true i = refl
seen_place_lem u false false i = refl

-- an operand, u where it is used, by whether it is a node, a; there are n nodes
operand_test : (u a : Bool) (n i : ℕ) → n ≤ 64 → (a ≡ true → i < n) → (u && leb n (pick a i (no_place u))) ≡ (u && not a)
operand_test false a n i h l = refl
operand_test true true n i h l = lt-leb n i (l refl)
operand_test true false n i h l = le-leb n 255 (omega arith)

operand_place : (u a : Bool) (i : ℕ) → (u && not a) ≡ false → pick a i (no_place u) ≡ pick a i 0
operand_place u true i h = refl
operand_place false false i h = refl
operand_place true false i h = absurd (true≢false h)

-- a name that is small enough is bad where it is 0
name_test : (n : ℕ) → n ≤ max_name → (eqb n 0 || ltb max_name n) ≡ eqb n 0
name_test n h = rw (le-ltb max_name n h) (or-false (eqb n 0))

module _ {s before : List ℕ} {w : Walk} (t : Stands s before w) (r : ℕ) (b : r < 256) (new : among r before ≡ false) where
  abbrev e : Entry
  e = entry_of s r

  abbrev ps : List ℕ
  ps = nodes_in s before

  no_node_passed : (k : ℕ) → among k before ≡ false → among k ps ≡ false
  no_node_passed k h = among_filter (is_node_at s) k before ∙ rw h (and-false (is_node_at s k))

  new_node : among r ps ≡ false
  new_node = no_node_passed r new

  pub new_seen : seen_at w r ≡ 0
  new_seen = t.seen r ∙ rw (new_node, new)

  -- after r is entered
  in_entered : (k : ℕ) → seen_at (entered w r) k ≡ pick (eqb k r) 1 (seen_of s before k)
  in_entered k = stored w.seen r 1 k (omega (arith, t.sized)) ∙ rw (t.seen k)

  some_entered : (k : ℕ) → ltb 0 (seen_at (entered w r) k) ≡ among k (before ++ (r ∷ []))
  some_entered k = rw (in_entered k, among_snoc k before r) (go (eqb k r))
    where
      go : (x : Bool) → ltb 0 (pick x 1 (seen_of s before k)) ≡ (among k before || x)
      go true = sym (or-true (among k before))
      go false = seen_some (among k ps) (among k before) (index ps k) (no_node_passed k) ∙ sym (or-false (among k before))

  place_entered : (u : Bool) (k : ℕ) → place_by (entered w r) u k ≡ pick (among k ps) (index ps k) (no_place u)
  place_entered u k = rw (in_entered k) (go (eqb k r) refl)
    where
      go : (x : Bool) → eqb k r ≡ x
          → pick (ltb (pick x 1 (seen_of s before k)) 2) (no_place u) (pick x 1 (seen_of s before k) - 2) ≡ pick (among k ps) (index ps k) (no_place u)
      go true i = let n : among k ps ≡ false = rw (eqb-true k r i) new_node in rw n
      go false i = seen_place_lem u (among k ps) (among k before) (index ps k)

  -- ---- the counts
  node_count : w.table.node_count ≡ length ps
  node_count = ap (λ (x : Table). x.node_count) t.table_is ∙ collect_length (is_node_at s) (node_within s) [] before

  rule_count : w.table.rule_count ≡ length (rules_in s before)
  rule_count = ap (λ (x : Table). x.rule_count) t.table_is ∙ collect_length (is_rule_at s) (rule_within s) [] before

  operand_same : (u : Bool) (k : ℕ) → (u && leb w.table.node_count (place_by (entered w r) u k)) ≡ (u && not (among k ps))
  operand_same u k =
      rw (node_count, place_entered u k)
      (operand_test u (among k ps) (length ps) (index ps k) (omega (arith, t.few, collect_length (is_node_at s) (node_within s) [] before)) (index_lt ps k))

  operand_in : (u : Bool) (k : ℕ) → (u && not (among k ps)) ≡ false → place_by (entered w r) u k ≡ place ps k
  operand_in u k h = place_entered u k ∙ operand_place u (among k ps) (index ps k) h

  -- ---- each test is the same
  pub link_same : bad_link (length s) (entered w r) e ≡ link_fault s (before ++ (r ∷ [])) e
  link_same = rw (some_entered e.next)

  module _ (n : is_node_at s r ≡ true) where
    used : uses_of (op_of e.kind) ≡ uses_in e.kind
    used = node_uses e.kind ((node_iff e.kind).0 n).high

    no_rule_lem : is_rule_at s r ≡ false
    no_rule_lem = node_no_rule e.kind n

    node_same : operand_fault ps e ≡ false → node_by (entered w r) e ≡ node_within s before r
    node_same h =
        rw (
          used,
          operand_in (uses_in e.kind).left e.left (or_left _ _ h),
          operand_in (uses_in e.kind).right e.right (or_right ((uses_in e.kind).left && not (among e.left ps)) _ h),
        )

    signal_same : bad_signal (node_by (entered w r) e) ≡ bad_arg e
    signal_same = rw no_rule_lem (sym (or-false _))

    operands_same : bad_operand w.table (node_by (entered w r) e) ≡ operand_fault ps e
    operands_same = rw (used, operand_same (uses_in e.kind).left e.left, operand_same (uses_in e.kind).right e.right)

    node_room_same : leb 64 w.table.node_count ≡ count_fault s before e
    node_room_same = rw (n, no_rule_lem, node_count) (sym (or-false _))

    delay_same : operand_fault ps e ≡ false → too_long w.table (node_by (entered w r) e) ≡ delay_fault s before e
    delay_same h =
        ap (λ (d : ℕ). ltb 4095 d)
        (ap (λ (x : Node). delay_over (delays w.table.nodes) x) (node_same h)
        ∙ ap (λ (x : Table). delay_over (delays x.nodes) (node_within s before r)) t.table_is
        ∙ delay_held (nodes s before) (rules s before) (node_within s before r))
        ∙ rw n

    node_rows : first (add_node_rows w.table (node_by (entered w r) e)) ≡ first (later_rows s before e)
    node_rows =
        row_same 5 (bad_arg e) signal_same λ a.
        row_same 6 (bad_interval e.lo e.hi) refl λ i.
        row_same 7 (operand_fault ps e) operands_same λ o.
        row_same 8 (count_fault s before e) node_room_same λ c.
        row_same 9 (delay_fault s before e) (delay_same o) λ d.
        rw no_rule_lem

  module _ (f : bad_form e ≡ false) (n : is_node_at s r ≡ false) where
    eleven : e.kind ≡ 11
    eleven = let k = formed_is e (not-false (formed e) f) in other_kind e.kind k.low k.high n

    rule_at_lem : is_rule_at s r ≡ true
    rule_at_lem = eq-eqb e.kind 11 eleven

    no_interval : bad_interval e.lo e.hi ≡ false
    no_interval =
        let k = formed_is e (not-false (formed e) f) in
        let u : (uses_in e.kind).interval ≡ false = rw (rule_uses e.kind eleven) in
        rw (k.lo u, k.hi u)

    name_same : name_of e ≤ max_name → bad_name (rule_by (entered w r) e) ≡ bad_arg e
    name_same h = name_test (name_of e) h ∙ rw eleven

    watched_same : leb w.table.node_count (place_by (entered w r) true e.left) ≡ operand_fault ps e
    watched_same = operand_same true e.left ∙ rw (rule_uses e.kind eleven) (sym (or-false _))

    rule_room_same : leb 8 w.table.rule_count ≡ count_fault s before e
    rule_room_same = rw (n, rule_at_lem, rule_count)

    used_same : name_used w.table (rule_by (entered w r) e) ≡ name_fault s before e
    used_same =
        ap (λ (x : Table). name_used x (rule_by (entered w r) e)) t.table_is
        ∙ name_held_lem (nodes s before) (rules s before) (rule_by (entered w r) e)
        ∙ ap (among (name_of e)) (names_of TwoBytes s before)
        ∙ rw rule_at_lem

    rule_rows_lem : name_of e ≤ max_name → first (add_rule_rows w.table (rule_by (entered w r) e)) ≡ first (later_rows s before e)
    rule_rows_lem h =
        row_same 5 (bad_arg e) (name_same h) λ a.
        row_none 6 (bad_interval e.lo e.hi) no_interval
        (row_same 7 (operand_fault ps e) watched_same λ o.
        row_same 8 (count_fault s before e) rule_room_same λ c.
        row_none 9 (delay_fault s before e) (rw n) (row_same 10 (name_fault s before e) used_same λ u. refl))

  later_same : name_of e ≤ max_name → bad_form e ≡ false → first (builder_rows (entered w r) e) ≡ first (later_rows s before e)
  later_same h f = go (is_node_at s r) refl
    where
      go : (x : Bool) → is_node_at s r ≡ x
          → first (pick x (add_node_rows w.table (node_by (entered w r) e)) (add_rule_rows w.table (rule_by (entered w r) e))) ≡ first (later_rows s before e)
      go true n = node_rows n
      go false n = rule_rows_lem f n h

  pub fault_same : name_of e ≤ max_name → walk_fault (length s) (entered w r) e ≡ fault s before r
  unfolding walk_fault fault_by
  fault_same h =
      row_same 3 (link_fault s (before ++ (r ∷ [])) e) link_same λ l.
      row_same 4 (bad_form e) refl (later_same h)

  -- ---- what is added
  module _ (c : fault s before r ≡ 0) where
    abbrev passed : List ℕ
    passed = before ++ (r ∷ [])

    keeps : Kept s before r e
    unfolding fault_by
    keeps = kept s before r e c

    form : bad_form e ≡ false
    unfolding fault_by
    form = no_row (rows s before r e) refl c 1

    operands : operand_fault ps e ≡ false
    unfolding fault_by
    operands = no_row (rows s before r e) refl c 4

    module _ (n : is_node_at s r ≡ true) where
      nodes_in_lem : nodes_in s passed ≡ ps ++ (r ∷ [])
      nodes_in_lem = filter_in (is_node_at s) before r n

      nodes_more : nodes s passed ≡ nodes s before ++ (node_within s before r ∷ [])
      nodes_more = collect_in (is_node_at s) (node_within s) before r n

      rules_kept : rules s passed ≡ rules s before
      rules_kept = collect_out (is_rule_at s) (rule_within s) before r (no_rule_lem n)

      room : length (nodes s before) < 64
      room = omega (arith, keeps.node_room ((node_iff e.kind).0 n), collect_length (is_node_at s) (node_within s) [] before)

      node_seen : (k : ℕ) → seen_at (node_added (entered w r) r (entry_of s r)) k ≡ seen_of s passed k
      node_seen k =
          stored (set w.seen r 1) r (2 + w.table.node_count) k (simp length-set (omega (arith, t.sized)))
          ∙ rw (in_entered k, nodes_in_lem, among_snoc k ps r, among_snoc k before r) (go (eqb k r) refl)
        where
          kept : (a : Bool) → among k ps ≡ a → pick a (2 + index ps k) (pick (among k before) 1 0) ≡ pick a (2 + index (ps ++ (r ∷ [])) k) (pick (among k before) 1 0)
          kept true i = rw (index_old ps (r ∷ []) k i)
          kept false i = refl

          go : (x : Bool) → eqb k r ≡ x
              → pick x (2 + w.table.node_count) (pick x 1 (seen_of s before k)) ≡ pick (among k ps || x) (2 + index (ps ++ (r ∷ [])) k) (pick (among k before || x) 1 0)
          go true i = rw (or-true (among k ps), eqb-true k r i, index_new ps r new_node, node_count)
          go false i = rw (or-false (among k ps), or-false (among k before)) (kept (among k ps) refl)

      node_table : with_node w.table (node_by (entered w r) e) ≡ table_before s passed
      node_table =
          ap (λ (x : Table). with_node x (node_by (entered w r) e)) t.table_is
          ∙ ap (λ (x : Node). with_node (table_before s before) x) (node_same n operands)
          ∙ node_held (nodes s before) (rules s before) (node_within s before r) room
          ∙ rw (nodes_more, rules_kept)

      pub node_stands : Stands s passed (node_added (entered w r) r e)
      node_stands = record {
        seen = node_seen;
        sized = simp length-set t.sized;
        table_is = node_table;
        few = rw nodes_more (omega (arith, room, length_snoc (nodes s before) (node_within s before r) no_node));
      }

    module _ (n : is_node_at s r ≡ false) where
      nodes_kept_in : nodes_in s passed ≡ ps
      nodes_kept_in = filter_out (is_node_at s) before r n

      nodes_kept : nodes s passed ≡ nodes s before
      nodes_kept = collect_out (is_node_at s) (node_within s) before r n

      rules_more : rules s passed ≡ rules s before ++ (rule_within s before r ∷ [])
      rules_more = collect_in (is_rule_at s) (rule_within s) before r (rule_at_lem form n)

      rule_room : length (rules s before) < 8
      rule_room = omega (arith, keeps.rule_room (eleven form n), collect_length (is_rule_at s) (rule_within s) [] before)

      rule_same : rule_by (entered w r) e ≡ rule_within s before r
      rule_same =
          let u : ((uses_in e.kind).left && not (among e.left ps)) ≡ false = or_left _ _ operands in
          rw (operand_in true e.left (rw (rule_uses e.kind (eleven form n)) at u))

      rule_seen : (k : ℕ) → seen_at (entered w r) k ≡ seen_of s passed k
      rule_seen k = rw (in_entered k, nodes_kept_in, among_snoc k before r) (go (eqb k r) refl)
        where
          go : (x : Bool) → eqb k r ≡ x → pick x 1 (seen_of s before k) ≡ pick (among k ps) (2 + index ps k) (pick (among k before || x) 1 0)
          go true i = let m : among k ps ≡ false = rw (eqb-true k r i) new_node in rw (m, or-true (among k before))
          go false i = rw (or-false (among k before))

      rule_table : with_rule w.table (rule_by (entered w r) e) ≡ table_before s passed
      rule_table =
          ap (λ (x : Table). with_rule x (rule_by (entered w r) e)) t.table_is
          ∙ ap (λ (x : Rule). with_rule (table_before s before) x) rule_same
          ∙ rule_held (nodes s before) (rules s before) (rule_within s before r) rule_room
          ∙ rw (nodes_kept, rules_more)

      pub rule_stands : Stands s passed (rule_added (entered w r) e)
      rule_stands = record {
        seen = rule_seen;
        sized = simp length-set t.sized;
        table_is = rule_table;
        few = rw nodes_kept t.few;
      }

    pub added_stands : Stands s passed (added (entered w r) r e)
    added_stands = go (is_node_at s r) refl
      where
        go : (x : Bool) → is_node_at s r ≡ x → Stands s passed (pick x (node_added (entered w r) r e) (rule_added (entered w r) e))
        go true n = node_stands n
        go false n = rule_stands n

-- ---- the two readings
pub ended_same : {s before : List ℕ} {w : Walk} → Stands s before w → walk_ended w ≡ finished s before
ended_same {s} {before} {w} t = rw t.table_is

-- ---- the head
begun_seen : (k : ℕ) → seen_at begun k ≡ pick (eqb k 0) 1 0
begun_seen k = stored (replicate 256 0) 0 1 k (omega arith) ∙ rw (get_or_free {A = ℕ} 0 256 k)

pub head_link_same : (s : List ℕ) → bad_link (length s) begun (entry_of s 0) ≡ link_fault s (0 ∷ []) (entry_of s 0)
head_link_same s = rw (begun_seen (entry_of s 0).next) (go (eqb (entry_of s 0).next 0))
  where
    go : (x : Bool) → (not x && (leb (length s) (12 * (entry_of s 0).next) || ltb 0 (pick x 1 0))) ≡ (not x && (leb (length s) (12 * (entry_of s 0).next) || (x || false)))
    go true = refl
    go false = refl

pub begun_stands : (s : List ℕ) → (entry_of s 0).kind ≡ 0 → Stands s (0 ∷ []) begun
begun_stands s h =
    let n : is_node_at s 0 ≡ false = rw h in
    let m : is_rule_at s 0 ≡ false = rw h in
    record {
      seen = λ k. begun_seen k ∙ rw (n, or-false (eqb k 0));
      sized = refl;
      table_is = rw (n, m);
      few = rw n (omega arith);
    }

-- the fault that the code finds
pub head_size : (s : List ℕ) {b : Bool} → b ≡ bad_length (length s) → b ≡ true → 1 ≡ head_fault s
unfolding head_fault
head_size s p q = let h : bad_length (length s) ≡ true = sym p ∙ q in rw h

pub head_is : (s : List ℕ) {b b2 b3 : Bool} {f r : ℕ} {e : Entry} {w : Walk} → b ≡ bad_length (length s) → b ≡ false
    → e ≡ entry_of s 0 → w ≡ begun → b3 ≡ bad_link (length s) w e → f ≡ pick b3 3 0 → b2 ≡ bad_head e → r ≡ pick b2 2 f
    → r ≡ head_fault s
unfolding head_fault
head_is s {b} {b2} {b3} {f} {r} {e} {w} p q i j l3 f3 h2 f2 =
    let h : bad_length (length s) ≡ false = sym p ∙ q in
    let l : b3 ≡ link_fault s (0 ∷ []) (entry_of s 0) = l3 ∙ rw (i, j) (head_link_same s) in
    let k : b2 ≡ bad_head (entry_of s 0) = h2 ∙ rw i in
    rw h (row_more 2 f2 k (row_more 3 f3 l refl))
