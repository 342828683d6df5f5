-- Each sound table has a book of bytes that reads as it: a table is sound exactly where some book yields it. Assumes nothing.
use mathlib.Core.Path.{◌≡◌, refl, sym, ap, subst, ◌∙◌}
use mathlib.Core.Bool.{Bool, true, false, true≢false, false≢true}
use mathlib.Core.List.{List, [], ◌∷◌, ◌++◌, append_assoc, append-nil}
use mathlib.Core.Logic.{◌↔◌, ⊎_elim}
use Prim.Native.Nat.{ℕ, zero, suc, ◌+◌, ◌-◌, ◌*◌, ◌/◌, ◌%◌, ◌≤◌, ◌<◌}
use native.Mathlib.Nat.{add-suc, add-zero, zero-add}
use native.Mathlib.Numerals.{add-one}
use native.Mathlib.Omega.{arith}
use borrow.Author.Tests.{ltb-true, lt-ltb, le-ltb}
use lib.Dec.{ltb}
use lib.ListN.{length, get_or, take, drop, length-take}
use lib.Seq.{take-suc}
use Rattle.lists.specs.Choice.{pick}
use Rattle.lists.specs.Sequence.{among, ticks, padded, pair_of}
use Rattle.lists.proofs.Tests.{lt_or_le}
use Rattle.lists.proofs.Sequences.{length_ticks, get_or_ticks, padded_is}
use Rattle.mltl.specs.Mltl.{Formula, delay}
use Rattle.table.specs.Nodes.{op_of, uses_of, no_node, no_rule, node_at, rule_at, formula_over, formulas}
use Rattle.table.specs.Sound.{NodeFits, RuleFits, Sound}
use Rattle.table.specs.declared.Node.{Node}
use Rattle.table.specs.declared.Table.{Table}
use Rattle.table.proofs.Delays.{formula_at_lem}
use Rattle.table.proofs.Soundness.{field_below}
use Rattle.builder.proofs.Sound.{uses_arg}
use Rattle.book.specs.declared.Entry.{Entry}
use Rattle.book.specs.Entries.{Bytes, entry_of, is_node, is_rule, name_of, uses_in}
use Rattle.book.specs.Reading.{Reading, is_node_at, is_rule_at, nodes_in, rules_in, node_of, rule_of, nodes, rules, table_of, accepted, reading}
use Rattle.book.specs.Keeps.{Head, Linked, Kept, Along, over, on, Keeps}
use Rattle.book.specs.Writing.{bytes, plain_entry, head_entry, node_entry, rule_entry, many, link_after, entry_for, book_of, Yielded}
use Rattle.book.proofs.Tests.{node_no_rule, node_uses}
use Rattle.book.proofs.Among.{among_not, filter_in, filter_out, collect_in, collect_out}
use Rattle.book.proofs.Stands.{node_within, rule_within}
use Rattle.book.proofs.Kept.{node_iff, earlier_iff, rule_among}
use Rattle.book.proofs.Accepts.{keeps_accepted, head_no_rule}
use Rattle.book.proofs.Sound.{accepted_sound}
use Rattle.book.proofs.Writes.{node_for, rule_for, entry_by, next_for, operands_small, watched_small, length_book}
use Rattle.book.proofs.Records.{two, entry_of_lem, listed, listed_none, listed_more, length_listed, ups, ones, first_up, among_ups, among_records, operand_place, Which, which}

module _ (t : Table) (z : Sound t) where
  n : ℕ
  n = t.node_count

  m : ℕ
  m = t.rule_count

  s : List ℕ
  s = book_of t

  -- ---- the records
  ent : (r : ℕ) → r ≤ many t → entry_of s r ≡ entry_for t r
  unfolding s book_of
  ent r h = entry_of_lem (ticks (entry_for t) (suc (many t))) r ∙ get_or_ticks (entry_for t) (suc (many t)) r (head_entry 0) (omega arith)

  size : length s ≡ 12 * suc (many t)
  unfolding s
  size = length_book t ∙ omega arith

  ent_head : entry_of s 0 ≡ head_entry (link_after t 0)
  ent_head = ent 0 (omega arith)

  head_next : (entry_of s 0).next ≡ link_after t 0
  head_next = ap (λ (e : Entry). e.next) ent_head

  ent_node : (k : ℕ) → k < n → entry_of s (suc k) ≡ node_entry (node_at t k) (link_after t (suc k))
  unfolding n
  ent_node k h =
      let d : suc k - 1 ≡ k = omega arith in
      ent (suc k) (omega arith) ∙ node_for t (suc k) (λ e. omega arith) (omega arith) ∙ rw d

  ent_rule : (j : ℕ) → j < m → entry_of s (suc (n + j)) ≡ rule_entry (rule_at t j) (link_after t (suc (n + j)))
  unfolding n m
  ent_rule j h =
      let d : suc (t.node_count + j) - 1 - t.node_count ≡ j = omega arith in
      ent (suc (t.node_count + j)) (omega arith) ∙ rule_for t (suc (t.node_count + j)) (omega arith) ∙ rw d

  -- ---- what is known of nodes and rules
  fits : (k : ℕ) → k < n → NodeFits k (node_at t k)
  unfolding n
  fits k h = z.node k h

  ruled : (j : ℕ) → j < m → RuleFits n (rule_at t j)
  unfolding n m
  ruled j h = z.rule j h

  other : (i j : ℕ) → i < j → j < m → ¬ ((rule_at t i).name ≡ (rule_at t j).name)
  unfolding m
  other i j l h = z.distinct i j l h

  few_rules : m ≤ 8
  unfolding m
  few_rules = z.few_rules

  in_many : (j : ℕ) → j < m → suc (n + j) ≤ many t
  unfolding n m
  in_many j h = omega arith

  -- the fields that the kind of a node uses
  used : (k : ℕ) → k < n → uses_of (op_of (node_at t k).kind) ≡ uses_in (node_at t k).kind
  used k h = node_uses (node_at t k).kind (fits k h).node

  node_short : (k : ℕ) → k < n → delay (formula_over (formulas (take k t.nodes)) (node_at t k)) ≤ 4095
  unfolding n
  node_short k h =
      let l : k < length t.nodes = omega (arith, z.few_nodes, z.places) in
      subst (λ (f : Formula). delay f ≤ 4095) (formula_at_lem t.nodes k l) (z.short k h)

  -- ---- the lists of the first c records: i nodes, and j rules
  abbrev rule_number : ℕ → ℕ
  rule_number q = suc (n + q)

  record Lists (c i j : ℕ) : Type 0 where
    nodes_in_lem : nodes_in s (ups c) ≡ ones i
    nodes_are : nodes s (ups c) ≡ take i t.nodes
    rules_in_lem : rules_in s (ups c) ≡ listed rule_number j
    rules_are : rules s (ups c) ≡ take j t.rules

  head_kind : (entry_of s 0).kind ≡ 0
  head_kind = ap (λ (e : Entry). e.kind) ent_head

  -- a node more
  module _ (k : ℕ) (h : k < n) (l : Lists (suc k) k 0) where
    is_node_lem : is_node_at s (suc k) ≡ true
    is_node_lem =
        ap (λ (x : Entry). is_node x.kind) (ent_node k h)
        ∙ (node_iff (node_at t k).kind).1 (record { low = (fits k h).known; high = (fits k h).node })

    node_from_lem : node_of (nodes_in s (ups (suc k))) (node_entry (node_at t k) (link_after t (suc k))) ≡ node_at t k
    node_from_lem =
        let f = fits k h in
        let u = used k h in
        rw (
          l.nodes_in_lem,
          operand_place (uses_in (node_at t k).kind).left k (node_at t k).left (rw u at f.left.limited) (rw u at f.left.unused),
          operand_place (uses_in (node_at t k).kind).right k (node_at t k).right (rw u at f.right.limited) (rw u at f.right.unused),
        )

    node_is : node_within s (ups (suc k)) (suc k) ≡ node_at t k
    node_is = ap (node_of (nodes_in s (ups (suc k)))) (ent_node k h) ∙ node_from_lem

    lists_more : Lists (suc (suc k)) (suc k) 0
    unfolding n
    lists_more =
        let b : k < length t.nodes = omega (arith, z.few_nodes, z.places) in
        let no_rule_lem : is_rule_at s (suc k) ≡ false = node_no_rule (entry_of s (suc k)).kind is_node_lem in
        record {
          nodes_in_lem = rw (listed_more (λ i. i) (suc k), listed_more suc k) (filter_in (is_node_at s) (ups (suc k)) (suc k) is_node_lem ∙ rw l.nodes_in_lem);
          nodes_are =
              rw (listed_more (λ i. i) (suc k))
              (collect_in (is_node_at s) (node_within s) (ups (suc k)) (suc k) is_node_lem ∙ rw (l.nodes_are, node_is, take-suc t.nodes k no_node b));
          rules_in_lem = rw (listed_more (λ i. i) (suc k)) (filter_out (is_rule_at s) (ups (suc k)) (suc k) no_rule_lem ∙ l.rules_in_lem);
          rules_are = rw (listed_more (λ i. i) (suc k)) (collect_out (is_rule_at s) (rule_within s) (ups (suc k)) (suc k) no_rule_lem ∙ l.rules_are);
        }

  lists_node : (k : ℕ) → k ≤ n → Lists (suc k) k 0
  lists_node zero h =
      let a : is_node_at s 0 ≡ false = rw head_kind in
      let b : is_rule_at s 0 ≡ false = rw head_kind in
      record {
        nodes_in_lem = rw (first_up, a, listed_none suc);
        nodes_are = rw (first_up, a);
        rules_in_lem = rw (first_up, b, listed_none rule_number);
        rules_are = rw (first_up, b);
      }
  lists_node (suc k) h = lists_more k (omega arith) (lists_node k (omega arith))

  -- a rule more
  module _ (j : ℕ) (h : j < m) (l : Lists (suc (n + j)) n j) where
    no_node_lem : is_node_at s (suc (n + j)) ≡ false
    no_node_lem = ap (λ (x : Entry). is_node x.kind) (ent_rule j h)

    is_rule_lem : is_rule_at s (suc (n + j)) ≡ true
    is_rule_lem = ap (λ (x : Entry). is_rule x.kind) (ent_rule j h)

    rule_is : rule_within s (ups (suc (n + j))) (suc (n + j)) ≡ rule_at t j
    rule_is =
        ap (rule_of (nodes_in s (ups (suc (n + j))))) (ent_rule j h)
        ∙ rw (two (rule_at t j).name, l.nodes_in_lem, operand_place true n (rule_at t j).watched (λ u. (ruled j h).watched) (λ u. absurd (true≢false u)))

    lists_rule_more : Lists (suc (suc (n + j))) n (suc j)
    unfolding m
    lists_rule_more =
        let b : j < length t.rules = omega (arith, z.few_rules, z.rule_places) in
        let c = suc (n + j) in
        record {
          nodes_in_lem = rw (listed_more (λ i. i) c) (filter_out (is_node_at s) (ups c) c no_node_lem ∙ l.nodes_in_lem);
          nodes_are = rw (listed_more (λ i. i) c) (collect_out (is_node_at s) (node_within s) (ups c) c no_node_lem ∙ l.nodes_are);
          rules_in_lem = rw (listed_more (λ i. i) c, listed_more rule_number j) (filter_in (is_rule_at s) (ups c) c is_rule_lem ∙ rw l.rules_in_lem);
          rules_are =
              rw (listed_more (λ i. i) c)
              (collect_in (is_rule_at s) (rule_within s) (ups c) c is_rule_lem ∙ rw (l.rules_are, rule_is, take-suc t.rules j no_rule b));
        }

  lists_rule : (j : ℕ) → j ≤ m → Lists (suc (n + j)) n j
  lists_rule zero h = rw add-zero (lists_node n (omega arith))
  lists_rule (suc j) h = rw add-suc (lists_rule_more j (omega arith) (lists_rule j (omega arith)))

  -- ---- each record keeps the rules
  linked_on : (k : ℕ) → k ≤ many t → Linked s (ups k ++ (k ∷ [])) (link_after t k)
  linked_on k h = go (ltb k (many t)) refl
    where
      go : (b : Bool) → ltb k (many t) ≡ b → Linked s (ups k ++ (k ∷ [])) (pick b (k + 1) 0)
      go true e = rw (add-one k) (record {
        inside = λ i. omega (arith, size, ltb-true k (many t) e);
        new = λ i.
            among_not (suc k) (ups k ++ (k ∷ []))
            (ap (among (suc k)) (sym (listed_more (λ i. i) k)) ∙ among_ups (suc k) (suc k) ∙ le-ltb (suc k) (suc k) (omega arith));
      })
      go false e = record { inside = λ i. absurd (i refl); new = λ i. absurd (i refl) }

  node_keeps : (k : ℕ) → k < n → Kept s (ups (suc k)) (suc k) (node_entry (node_at t k) (link_after t (suc k)))
  unfolding n
  node_keeps k h =
      let f = fits k h in
      let u = used k h in
      let l = lists_node k (omega arith) in
      let x = node_at t k in
      record {
        linked = linked_on (suc k) (omega arith);
        formed = record {
          low = f.known;
          high = omega (arith, f.node);
          arg = rw u at f.arg.unused;
          lo = λ v. let w : x.hi ≡ 0 = (rw u at f.interval.unused) v in omega (arith, f.ordered);
          hi = rw u at f.interval.unused;
          left = λ v. rw v;
          right = λ v. rw v;
          upper = λ v. refl;
          tail0 = refl;
          tail1 = refl;
        };
        signal = λ v. omega (arith, f.arg.limited (uses_arg x.kind ∙ rw v));
        name = λ v. absurd (omega (arith, f.node));
        ordered = f.ordered;
        limited = omega (arith, field_below 4096 f.interval (omega arith) (omega arith));
        left = λ v. (earlier_iff s (ups (suc k)) _).0 (rw (v, l.nodes_in_lem) (among_records x.left k ∙ lt-ltb x.left k ((rw u at f.left.limited) v)));
        right = λ v. (earlier_iff s (ups (suc k)) _).0 (rw (v, l.nodes_in_lem) (among_records x.right k ∙ lt-ltb x.right k ((rw u at f.right.limited) v)));
        node_room = λ v. rw (l.nodes_in_lem, length_listed suc k) (omega (arith, z.few_nodes));
        rule_room = λ v. absurd (omega (arith, f.node));
        delay = λ v. subst (λ (f : Formula). delay f ≤ 4095)
            (sym (ap (λ (y : Node). formula_over (formulas (nodes s (ups (suc k)))) y) (node_from_lem k h l) ∙ ap (λ (y : List Node). formula_over (formulas y) x) l.nodes_are))
            (node_short k h);
        own = λ v q i j p. omega (arith, f.node);
      }

  rule_keeps : (j : ℕ) → j < m → Kept s (ups (suc (n + j))) (suc (n + j)) (rule_entry (rule_at t j) (link_after t (suc (n + j))))
  unfolding uses_in
  rule_keeps j h =
      let f = ruled j h in
      let l = lists_rule j (omega arith) in
      let x = rule_at t j in
      record {
        linked = linked_on (suc (n + j)) (in_many j h);
        formed = record {
          low = omega arith;
          high = omega arith;
          arg = λ u. absurd (true≢false u);
          lo = λ u. refl;
          hi = λ u. refl;
          left = λ u. absurd (true≢false u);
          right = λ u. refl;
          upper = λ u. absurd (u refl);
          tail0 = refl;
          tail1 = refl;
        };
        signal = λ u. absurd (omega arith);
        name = λ u. omega (arith, f.named);
        ordered = omega arith;
        limited = omega arith;
        left = λ u. (earlier_iff s (ups (suc (n + j))) _).0 (rw l.nodes_in_lem (among_records x.watched n ∙ lt-ltb x.watched n f.watched));
        right = λ u. absurd (false≢true u);
        node_room = λ u. absurd (omega (arith, u.high));
        rule_room = λ u. rw (l.rules_in_lem, length_listed rule_number j) (omega (arith, few_rules));
        delay = λ u. absurd (omega (arith, u.high));
        own = λ u q i k p. apart q (which rule_number j q (rw l.rules_in_lem at (rule_among s (ups (suc (n + j))) q i k))) p;
      }
    where
      name_at : (i : ℕ) → i < m → name_of (entry_of s (rule_number i)) ≡ (rule_at t i).name
      name_at i l = ap name_of (ent_rule i l) ∙ two (rule_at t i).name

      apart : (q : ℕ) → Which rule_number j q → ¬ (name_of (entry_of s q) ≡ pair_of ((rule_at t j).name % 256) ((rule_at t j).name / 256))
      apart q w p =
          other w.at j w.small h
          (sym (name_at w.at (omega (arith, w.small))) ∙ ap (λ (x : ℕ). name_of (entry_of s x)) (sym w.is) ∙ p ∙ two (rule_at t j).name)

  -- ---- the chain: 1, 2, 3, ..
  node_kept : (k : ℕ) → k < n → Kept s (ups (suc k)) (suc k) (entry_of s (suc k))
  node_kept k h = subst (Kept s (ups (suc k)) (suc k)) (sym (ent_node k h)) (node_keeps k h)

  rule_kept : (j : ℕ) → j < m → Kept s (ups (suc (n + j))) (suc (n + j)) (entry_of s (suc (n + j)))
  rule_kept j h = subst (Kept s (ups (suc (n + j))) (suc (n + j))) (sym (ent_rule j h)) (rule_keeps j h)

  each_kept : (k : ℕ) → k < many t → Kept s (ups (suc k)) (suc k) (entry_of s (suc k))
  unfolding n m
  each_kept k h =
      ⊎_elim (node_kept k)
      (λ p.
      let i : k ≡ n + (k - n) = omega arith in
      subst (λ (x : ℕ). Kept s (ups (suc x)) (suc x) (entry_of s (suc x))) (sym i) (rule_kept (k - n) (omega arith)))
      (lt_or_le k n)

  each_next : (k : ℕ) → k < many t → (entry_of s (suc k)).next ≡ link_after t (suc k)
  each_next k h = ap (λ (e : Entry). e.next) (ent (suc k) (omega arith)) ∙ next_for t (suc k) (omega arith)

  from : ℕ → ℕ → List ℕ
  from k zero = []
  from k (suc d) = suc k ∷ from (suc k) d

  goes : (d k : ℕ) → k + d ≡ many t → Along s (ups (suc k)) (link_after t k) (from k d)
  unfolding from
  goes zero k h = rw (le-ltb k (many t) (omega arith)) over
  goes (suc d) k h =
      let b : k < many t = omega arith in
      let ne : ¬ (suc k ≡ 0) = λ p. omega arith in
      rw (lt-ltb k (many t) b, add-one k)
      (on {rest = from (suc k) d} ne (each_kept k b) (rw (each_next k b, ← (listed_more (λ i. i) (suc k))) (goes d (suc k) (omega arith))))

  all_ups : (d k : ℕ) → ups (suc k) ++ from k d ≡ ups (suc (k + d))
  unfolding from
  all_ups zero k = rw (append-nil, add-zero)
  all_ups (suc d) k =
      let e : suc k + d ≡ k + suc d = omega arith in
      sym (append_assoc (ups (suc k)) (suc k ∷ []) (from (suc k) d))
      ∙ ap (λ l. l ++ from (suc k) d) (sym (listed_more (λ i. i) (suc k))) ∙ all_ups d (suc k) ∙ ap (λ (x : ℕ). ups (suc x)) e

  -- ---- the table of the chain
  last : Lists (suc (many t)) n m
  unfolding n m
  last = lists_rule m (omega arith)

  table_back : table_of s (ups (suc (many t))) ≡ t
  unfolding n m
  table_back =
      let a : length (take n t.nodes) ≡ t.node_count = simp length-take (omega (arith, z.few_nodes, z.places)) in
      let b : length (take m t.rules) ≡ t.rule_count = simp length-take (omega (arith, z.few_rules, z.rule_places)) in
      let c : padded no_node 64 (take n t.nodes) ≡ t.nodes = padded_is no_node n 64 t.nodes z.few_nodes z.places z.free_node in
      let d : padded no_rule 8 (take m t.rules) ≡ t.rules = padded_is no_rule m 8 t.rules z.few_rules z.rule_places z.free_rule in
      rw (last.nodes_are, last.rules_are, c, d, a, b)

  whole_chain : 0 ∷ from 0 (many t) ≡ ups (suc (many t))
  whole_chain = ap (λ l. l ++ from 0 (many t)) (sym first_up) ∙ all_ups (many t) 0 ∙ ap (λ (x : ℕ). ups (suc x)) (zero-add (many t))

  head_linked : Linked s (0 ∷ []) (link_after t 0)
  head_linked = subst (λ l. Linked s l (link_after t 0)) (ap (λ l. l ++ (0 ∷ [])) (listed_none (λ i. i))) (linked_on 0 (omega arith))

  head_along : Along s (0 ∷ []) (link_after t 0) (from 0 (many t))
  head_along = subst (λ l. Along s l (link_after t 0) (from 0 (many t))) first_up (goes (many t) 0 (zero-add (many t)))

  keeps : Keeps s
  unfolding n m
  keeps =
      let h : Head (entry_of s 0) = rw ent_head (record { kind = refl; arg = refl; lo = refl; hi = refl; left = refl; right = refl; upper = refl; tail0 = refl; tail1 = refl }) in
      let b : length (take m t.rules) ≡ t.rule_count = simp length-take (omega (arith, z.few_rules, z.rule_places)) in
      let r : length (rules s (0 ∷ from 0 (many t))) ≡ t.rule_count = ap (λ (l : List ℕ). length (rules s l)) whole_chain ∙ rw last.rules_are b in
      record {
        size = record { records = suc (many t); bytes = size; some = omega arith; few = omega (arith, z.few_nodes, z.few_rules) };
        head = h;
        linked = rw head_next head_linked;
        chain = from 0 (many t);
        along = rw head_next head_along;
        ruled = omega (arith, head_no_rule s h (from 0 (many t)), z.some_rule);
      }

  up_chain : Along s (0 ∷ []) (entry_of s 0).next (ticks suc (many t))
  unfolding listed
  up_chain = subst (λ (l : List ℕ). Along s (0 ∷ []) (entry_of s 0).next l) (ap (drop 1) whole_chain) (rw head_next head_along)

  book_reads : reading s ≡ accepted t
  unfolding keeps
  book_reads = keeps_accepted s keeps ∙ ap accepted (ap (table_of s) whole_chain ∙ table_back)

-- ---- the book is bytes
record Small (e : Entry) : Type 0 where
  kind : e.kind < 256
  arg : e.arg < 256
  lo : e.lo < 65536
  hi : e.hi < 65536
  left : e.left < 256
  right : e.right < 256
  next : e.next < 256
  upper : e.upper < 256
  tail0 : e.tail0 < 256
  tail1 : e.tail1 < 256

infixr 5 ◌then◌
◌then◌ : {x : ℕ} {s : List ℕ} → x < 256 → Bytes s → Bytes (x ∷ s)
◌then◌ {x} {s} h b = record { byte = go }
  where
    go : (i : ℕ) → i < length (x ∷ s) → get_or (x ∷ s) i 0 < 256
    go zero l = h
    go (suc i) l = b.byte i (omega arith)

small_bytes : (es : List Entry) → ((r : ℕ) → r < length es → Small (get_or es r (head_entry 0))) → Bytes (bytes es)
small_bytes [] h = record { byte = λ i l. omega arith }
small_bytes (e ∷ es) h =
    let x = h 0 (omega arith) in
    x.kind then x.arg then omega arith then omega (arith, x.lo) then omega arith then omega (arith, x.hi)
    then x.left then x.right then x.next then x.upper then x.tail0 then x.tail1 then small_bytes es (λ r l. h (suc r) (omega arith))

after_small : (t : Table) (k : ℕ) → many t ≤ 72 → link_after t k < 256
after_small t k h = go (ltb k (many t)) refl
  where
    go : (b : Bool) → ltb k (many t) ≡ b → pick b (k + 1) 0 < 256
    go true e = omega (arith, ltb-true k (many t) e)
    go false e = omega arith

number_small : (b : Bool) (u : ℕ) → u < 64 → pick b (u + 1) 0 < 256
number_small true u h = omega arith
number_small false u h = omega arith

module _ (t : Table) (z : Sound t) where
  module _ (r : ℕ) where
    to : link_after t r < 256
    to = after_small t r (omega (arith, z.few_nodes, z.few_rules))

    node_small : (p : ℕ) → p < t.node_count → Small (node_entry (node_at t p) (link_after t r))
    unfolding n
    node_small p q =
        let y = z.node p q in
        let x = node_at t p in
        let k = node_keeps t z p q in
        let o = operands_small t z p q in
        record {
          kind = omega (arith, y.node);
          arg = field_below 256 y.arg (omega arith) (omega arith);
          lo = omega (arith, k.ordered, k.limited);
          hi = omega (arith, k.limited);
          left = number_small (uses_in x.kind).left x.left o.0;
          right = number_small (uses_in x.kind).right x.right o.1;
          next = to;
          upper = omega arith;
          tail0 = omega arith;
          tail1 = omega arith;
        }

    -- one without an interval and a right operand
    plain_small : (kind name left : ℕ) → kind < 256 → name < 65536 → left < 256 → Small (plain_entry kind name left (link_after t r))
    plain_small kind name left k n l = record {
      kind = k;
      arg = omega arith;
      lo = omega arith;
      hi = omega arith;
      left = l;
      right = omega arith;
      next = to;
      upper = omega arith;
      tail0 = omega arith;
      tail1 = omega arith;
    }

    entry_small : r ≤ many t → Small (entry_for t r)
    entry_small =
        entry_by t r Small (plain_small 0 0 0 (omega arith) (omega arith) (omega arith)) node_small λ q l.
        plain_small 11 (rule_at t q).name ((rule_at t q).watched + 1) (omega arith) (omega (arith, (z.rule q l).largest)) (omega (arith, watched_small t z q l))

-- THE LAWS: the book of a sound table is bytes, its chain is 1, 2, 3 up to the last record, and it reads as the table
pub sound_bytes : (t : Table) → Sound t → Bytes (book_of t)
unfolding book_of
sound_bytes t z =
    small_bytes (ticks (entry_for t) (suc (many t))) λ r l.
    let b : r < suc (many t) = rw (length_ticks (entry_for t) (suc (many t))) at l in
    rw (get_or_ticks (entry_for t) (suc (many t)) r (head_entry 0) b) (entry_small t z r (omega arith))

pub sound_reads : (t : Table) → Sound t → reading (book_of t) ≡ accepted t
unfolding s
sound_reads t z = book_reads t z

pub sound_chain : (t : Table) → Sound t → Along (book_of t) (0 ∷ []) (entry_of (book_of t) 0).next (ticks suc (many t))
unfolding s
sound_chain t z = up_chain t z

-- THE LAW: a table is sound exactly where some book of bytes yields it
pub sound_exactly : (t : Table) → Sound t ↔ Yielded t
sound_exactly t = (
  λ z. record { book = book_of t; bytes = sound_bytes t z; reads = sound_reads t z },
  λ y.
      subst Sound (ap (λ (x : Reading). x.table) y.reads) (accepted_sound y.book y.bytes (ap (λ (x : Reading). x.number) y.reads)),
)
