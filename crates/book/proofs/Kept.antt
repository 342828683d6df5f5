-- A record has no fault exactly where it keeps the rules. Assumes nothing.
use mathlib.Core.Path.{◌≡◌, refl, sym, ap, subst, ◌∙◌}
use mathlib.Core.Bool.{true, false, ◌&&◌, ◌||◌, not}
use mathlib.Core.List.{List, [], ◌∷◌, ◌++◌, Memᴰ}
use mathlib.Core.Logic.{◌↔◌}
use Prim.Native.Nat.{ℕ, ◌*◌, ◌≤◌}
use native.Mathlib.Omega.{arith}
use borrow.Author.Tests.{ltb-false, leb-true, leb-false, eqb-true, eqb-false, not-false, not-true, ne_eqb, le-leb, lt-leb, eq-eqb, le-ltb}
use lib.Dec.{ltb, leb, eqb}
use lib.ListN.{length, get_or}
use Rattle.lists.specs.Choice.{◌if◌, first}
use Rattle.lists.specs.Sequence.{among}
use Rattle.lists.proofs.Tests.{or_left, or_right, and_right, true_left, true_right, or_other, ◌also◌}
use Rattle.mltl.specs.Mltl.{delay}
use Rattle.table.specs.Nodes.{formula_over, formulas, delay_over, delays}
use Rattle.table.proofs.Delays.{delay_of_lem}
use Rattle.book.specs.declared.Entry.{Entry}
use Rattle.interval.specs.Parts.{bad_interval}
use Rattle.book.specs.Entries.{entry_of, uses_in, is_node, is_rule, name_of, formed, bad_form, bad_arg}
use Rattle.book.specs.Reading.{is_node_at, is_rule_at, nodes_in, rules_in, node_of, nodes, link_fault, operand_fault, count_fault, delay_fault, name_fault, rows}
use Rattle.book.specs.Keeps.{Linked, Formed, NodeKind, EarlierNode, Kept}
use Rattle.lists.proofs.Rows.{no_row}
use Rattle.book.proofs.Tests.{neither, or_else, not_and}
use Rattle.book.proofs.Among.{among_iff, among_not, not_among, among_filter, none_named, named_none}

-- ---- a record by itself
pub formed_is : (e : Entry) → formed e ≡ true → Formed e
formed_is e t =
    let interval : ((uses_in e.kind).interval || (eqb e.lo 0 && eqb e.hi 0)) ≡ true = search (true_left, true_right) depth 12 in
    record {
      low = leb-true 1 e.kind (search (true_left, true_right) depth 12);
      high = leb-true e.kind 11 (search (true_left, true_right) depth 12);
      arg = λ u. eqb-true e.arg 0 (or_other (uses_in e.kind).arg _ (search (true_left, true_right) depth 12) u);
      lo = λ u. eqb-true e.lo 0 (true_left _ _ (or_other (uses_in e.kind).interval _ interval u));
      hi = λ u. eqb-true e.hi 0 (true_right (eqb e.lo 0) _ (or_other (uses_in e.kind).interval _ interval u));
      left = λ u. eqb-true e.left 0 (or_other (uses_in e.kind).left _ (search (true_left, true_right) depth 12) u);
      right = λ u. eqb-true e.right 0 (or_other (uses_in e.kind).right _ (search (true_left, true_right) depth 12) u);
      upper = λ u. eqb-true e.upper 0 (or_other (is_rule e.kind) _ (search (true_left, true_right) depth 12) (ne_eqb e.kind 11 u));
      tail0 = eqb-true e.tail0 0 (search (true_left, true_right) depth 12);
      tail1 = eqb-true e.tail1 0 (search (true_left, true_right) depth 12);
    }

is_formed : (e : Entry) → Formed e → formed e ≡ true
is_formed e f =
    le-leb 1 e.kind f.low
    also le-leb e.kind 11 f.high
    also or_else (uses_in e.kind).arg (λ u. eq-eqb e.arg 0 (f.arg u))
    also or_else (uses_in e.kind).interval (λ u. eq-eqb e.lo 0 (f.lo u) also eq-eqb e.hi 0 (f.hi u))
    also or_else (uses_in e.kind).left (λ u. eq-eqb e.left 0 (f.left u))
    also or_else (uses_in e.kind).right (λ u. eq-eqb e.right 0 (f.right u))
    also or_else (is_rule e.kind) (λ u. eq-eqb e.upper 0 (f.upper (eqb-false e.kind 11 u)))
    also eq-eqb e.tail0 0 f.tail0
    also eq-eqb e.tail1 0 f.tail1

pub node_iff : (k : ℕ) → (is_node k ≡ true) ↔ NodeKind k
node_iff k = (
  λ h. record { low = leb-true 1 k (true_left _ _ h); high = leb-true k 10 (true_right (leb 1 k) _ h) },
  λ n. le-leb 1 k n.low also le-leb k 10 n.high,
)

-- a link without a fault
pub next_is : (s passed : List ℕ) (e : Entry) → link_fault s passed e ≡ false → Linked s passed e.next
next_is s passed e h = record {
  inside = λ z. leb-false (length s) (12 * e.next) (or_left _ _ (right z));
  new = λ z. among_not e.next passed (or_right (leb (length s) (12 * e.next)) _ (right z));
}
  where
    right : ¬ (e.next ≡ 0) → (leb (length s) (12 * e.next) || among e.next passed) ≡ false
    right z = and_right (not (eqb e.next 0)) _ h (ap not (ne_eqb e.next 0 z))

-- ---- a record where it stands
module _ (s before : List ℕ) where
  -- among the nodes before
  pub earlier_iff : (q : ℕ) → (among q (nodes_in s before) ≡ true) ↔ EarlierNode s before q
  earlier_iff q = (
    λ h.
        let a : (is_node_at s q && among q before) ≡ true = sym (among_filter (is_node_at s) q before) ∙ h in
        record { earlier = (among_iff q before).0 (true_right (is_node_at s q) _ a); node = (node_iff (entry_of s q).kind).0 (true_left _ _ a) },
    λ n. among_filter (is_node_at s) q before ∙ ((node_iff (entry_of s q).kind).1 n.node also (among_iff q before).1 n.earlier),
  )

  -- among the rules before
  pub rule_among : (q : ℕ) → Memᴰ q before → (entry_of s q).kind ≡ 11 → among q (rules_in s before) ≡ true
  rule_among q m k = among_filter (is_rule_at s) q before ∙ (eq-eqb (entry_of s q).kind 11 k also (among_iff q before).1 m)

  among_rule : (q : ℕ) → among q (rules_in s before) ≡ true → (is_rule_at s q && among q before) ≡ true
  among_rule q h = sym (among_filter (is_rule_at s) q before) ∙ h

  pub is_linked : (passed : List ℕ) (e : Entry) → Linked s passed e.next → link_fault s passed e ≡ false
  is_linked passed e l =
      not_and (not (eqb e.next 0)) λ u.
      let z = eqb-false e.next 0 (not-true _ u) in
      neither (lt-leb (length s) (12 * e.next) (l.inside z)) (not_among e.next passed (l.new z))

  module _ (r : ℕ) (e : Entry) where
    abbrev ps : List ℕ
    ps = nodes_in s before

    delay_is : delay (formula_over (formulas (nodes s before)) (node_of ps e)) ≡ delay_over (delays (nodes s before)) (node_of ps e)
    delay_is = delay_of_lem (formulas (nodes s before)) (node_of ps e)

    pub kept : first (rows s before r e) ≡ 0 → Kept s before r e
    kept h =
        let no : (i : ℕ) → (get_or (rows s before r e) i (0 if false)).test ≡ false = no_row (rows s before r e) refl h in
        let arg : bad_arg e ≡ false = no 2 in
        let interval : bad_interval e.lo e.hi ≡ false = no 3 in
        let operand : operand_fault ps e ≡ false = no 4 in
        let count : count_fault s before e ≡ false = no 5 in
        let node : NodeKind e.kind → is_node e.kind ≡ true = (node_iff e.kind).1 in
        let rule : e.kind ≡ 11 → is_rule e.kind ≡ true = eq-eqb e.kind 11 in
        record {
          linked = next_is s (before ++ (r ∷ [])) e (no 0);
          formed = formed_is e (not-false (formed e) (no 1));
          signal = λ u. ltb-false 31 e.arg (and_right (eqb e.kind 1) _ (or_left _ _ arg) (eq-eqb e.kind 1 u));
          name = λ u.
              let t = eqb-false (name_of e) 0 (and_right (is_rule e.kind) _ (or_right (eqb e.kind 1 && ltb 31 e.arg) _ arg) (rule u)) in
              omega arith;
          ordered = ltb-false e.hi e.lo (or_left _ _ interval);
          limited = ltb-false 4095 e.hi (or_right (ltb e.hi e.lo) _ interval);
          left = λ u. (earlier_iff e.left).0 (not-false _ (and_right (uses_in e.kind).left _ (or_left _ _ operand) u));
          right = λ u.
              (earlier_iff e.right).0
              (not-false _ (and_right (uses_in e.kind).right _ (or_right ((uses_in e.kind).left && not (among e.left ps)) _ operand) u));
          node_room = λ u. leb-false 64 (length ps) (and_right (is_node e.kind) _ (or_left _ _ count) (node u));
          rule_room = λ u.
              leb-false 8 (length (rules_in s before)) (and_right (is_rule e.kind) _ (or_right (is_node e.kind && leb 64 (length ps)) _ count) (rule u));
          delay = λ u. subst (λ (d : ℕ). d ≤ 4095) (sym delay_is) (ltb-false 4095 (delay_over (delays (nodes s before)) (node_of ps e)) (and_right (is_node e.kind) _ (no 6) (node u)));
          own = λ u q m k p.
              none_named (λ x. name_of (entry_of s x)) (name_of e) (rules_in s before) (and_right (is_rule e.kind) _ (no 7) (rule u)) q (rule_among q m k) p;
        }

    pub keeping : Kept s before r e → first (rows s before r e) ≡ 0
    keeping k =
        let link : link_fault s (before ++ (r ∷ [])) e ≡ false = is_linked (before ++ (r ∷ [])) e k.linked in
        let form : bad_form e ≡ false = ap not (is_formed e k.formed) in
        let arg : bad_arg e ≡ false =
        neither (not_and (eqb e.kind 1) (λ u. le-ltb 31 e.arg (k.signal (eqb-true e.kind 1 u))))
        (not_and (is_rule e.kind) (λ u. let t = k.name (eqb-true e.kind 11 u) in ne_eqb (name_of e) 0 (λ z. omega arith))) in
        let interval : bad_interval e.lo e.hi ≡ false = neither (le-ltb e.hi e.lo k.ordered) (le-ltb 4095 e.hi k.limited) in
        let operand : operand_fault ps e ≡ false =
        neither (not_and (uses_in e.kind).left (λ u. ap not ((earlier_iff e.left).1 (k.left u))))
        (not_and (uses_in e.kind).right (λ u. ap not ((earlier_iff e.right).1 (k.right u)))) in
        let count : count_fault s before e ≡ false =
        neither (not_and (is_node e.kind) (λ u. lt-leb 64 (length ps) (k.node_room ((node_iff e.kind).0 u))))
        (not_and (is_rule e.kind) (λ u. lt-leb 8 (length (rules_in s before)) (k.rule_room (eqb-true e.kind 11 u)))) in
        let delay : delay_fault s before e ≡ false =
        not_and (is_node e.kind) (λ u. le-ltb 4095 (delay_over (delays (nodes s before)) (node_of ps e)) (subst (λ (d : ℕ). d ≤ 4095) delay_is (k.delay ((node_iff e.kind).0 u)))) in
        let name : name_fault s before e ≡ false =
        not_and (is_rule e.kind) (λ u. named_none (λ x. name_of (entry_of s x)) (name_of e) (rules_in s before) λ q m.
        let a = among_rule q m in
        k.own (eqb-true e.kind 11 u) q ((among_iff q before).0 (true_right (is_rule_at s q) _ a)) (eqb-true (entry_of s q).kind 11 (true_left _ _ a))) in
        rw (link, form, arg, interval, operand, count, delay, name)
