-- A book is accepted exactly where it keeps the rules, and its table is that of its chain. Assumes nothing.
use mathlib.Core.Path.{◌≡◌, refl, sym, ap, ◌∙◌}
use mathlib.Core.Bool.{Bool, true, false, not}
use mathlib.Core.List.{List, [], ◌∷◌, ◌++◌, append-nil, append_assoc}
use mathlib.Core.Logic.{◌↔◌}
use Prim.Native.Nat.{ℕ, zero, suc, ◌/◌, ◌%◌, ◌≤◌}
use native.Mathlib.Omega.{arith}
use borrow.Author.Tests.{eqb-true, eqb-false, not-false, ne_eqb, eq-eqb, le-leb}
use lib.Dec.{eqb}
use lib.ListN.{length}
use Rattle.lists.specs.Choice.{pick}
use Rattle.lists.proofs.Tests.{true_left, true_right, ◌also◌}
use Rattle.mltl.specs.Mltl.{old_delay}
use Rattle.mltl.proofs.Delays.{delay_sooner}
use Rattle.table.specs.Nodes.{formula_over, formulas}
use Rattle.book.specs.declared.Entry.{Entry}
use Rattle.book.specs.declared.Walk.{Walk}
use Rattle.book.specs.Entries.{TwoBytes, entry_of, bad_length, bad_head}
use Rattle.book.specs.Code.Steps.{entered, added, begun}
use Rattle.book.specs.Reading.{Reading, accepted, unless, is_rule_at, nodes_in, rules_in, node_of, nodes, rules, table_of, fault, fault_by, head_fault, finished, along, along_by, reading}
use Rattle.book.specs.Keeps.{Size, Head, Linked, KeptBy, AlongBy, over, on, KeepsBy, Kept, Along, Keeps, StaysKept}
use Rattle.book.proofs.Tests.{Sized, head_clear}
use Rattle.book.proofs.Among.{collect_length}
use Rattle.book.proofs.Along.{none, reading_begins, head_none, along_ends, along_goes}
use Rattle.book.proofs.Going.{At, fuelled, starts, further}
use Rattle.book.proofs.Kept.{kept, keeping, is_linked, next_is}
use Rattle.book.proofs.Stands.{rule_within}

-- ---- the end
finished_is : (s chain : List ℕ) → 1 ≤ length (rules s chain) → finished s chain ≡ accepted (table_of s chain)
finished_is s chain h = rw (ne_eqb (length (rules s chain)) 0 (omega arith))

finished_some : (s chain : List ℕ) → (finished s chain).number ≡ 0 → 1 ≤ length (rules s chain)
finished_some s chain = go (eqb (length (rules s chain)) 0) refl
  where
    go : (b : Bool) → eqb (length (rules s chain)) 0 ≡ b → (unless (pick b 11 0) 0 (accepted (table_of s chain))).number ≡ 0 → 1 ≤ length (rules s chain)
    go true e h = absurd (omega arith)
    go false e h = let z = eqb-false (length (rules s chain)) 0 e in omega arith

module _ (s : List ℕ) where
  -- ---- what is accepted keeps the rules
  record Found (before : List ℕ) (r : ℕ) : Type 0 where
    chain : List ℕ
    way : Along s before r chain
    some : 1 ≤ length (rules s (before ++ chain))

  stop : (before : List ℕ) (r : ℕ) → r ≡ 0 → (finished s before).number ≡ 0 → Found before r
  stop before r z h = record { chain = []; way = rw z over; some = rw append-nil (finished_some s before h) }

  found : (f : ℕ) (before : List ℕ) (w : Walk) (r : ℕ) → At s f before w r → (along s f before r).number ≡ 0 → Found before r
  unfolding along_by fault_by
  found zero before w r a h = stop before r (at_end (eqb r 0) refl) h
    where
      at_end : (b : Bool) → eqb r 0 ≡ b → r ≡ 0
      at_end true e = eqb-true r 0 e
      at_end false e = absurd (omega (arith, fuelled a (eqb-false r 0 e)))
  found (suc f) before w r a h = go (eqb r 0) refl (λ b i. found f (before ++ (r ∷ [])) (added (entered w r) r (entry_of s r)) (entry_of s r).next b i) h
    where
      rest : Reading
      rest = along s f (before ++ (r ∷ [])) (entry_of s r).next

      go : (b : Bool) → eqb r 0 ≡ b
          → (At s f (before ++ (r ∷ [])) (added (entered w r) r (entry_of s r)) (entry_of s r).next → rest.number ≡ 0 → Found (before ++ (r ∷ [])) (entry_of s r).next)
          → (pick b (finished s before) (unless (fault s before r) r rest)).number ≡ 0 → Found before r
      go true e ih h = stop before r (eqb-true r 0 e) h
      go false e ih h =
          let n = none (fault s before r) r rest h in
          let z = eqb-false r 0 e in
          let k = kept s before r (entry_of s r) n in
          let o = ih (further a z n) (rw n at h) in
          record { chain = r ∷ o.chain; way = on z k o.way; some = rw append_assoc at o.some }

  -- ---- what keeps the rules is accepted
  taken : {before : List ℕ} {r : ℕ} {chain : List ℕ} {w : Walk} (f : ℕ) → Along s before r chain → At s f before w r → 1 ≤ length (rules s (before ++ chain))
      → along s f before r ≡ accepted (table_of s (before ++ chain))
  unfolding fault_by
  taken {before} f over a h = along_ends TwoBytes s before 0 f refl ∙ rw append-nil (finished_is s before (rw append-nil at h))
  taken zero (on z k l) a h = absurd (omega (arith, fuelled a z))
  taken {before} {r} (suc f) (on {rest = rest} z k l) a h =
      let ih = taken f l (further a z (keeping s before r (entry_of s r) k)) (rw (append_assoc before (r ∷ []) rest) h) in
      along_goes TwoBytes s before r f z (keeping s before r (entry_of s r) k) ∙ ih ∙ rw append_assoc

-- ---- the head
size_of : (n : ℕ) → Sized n → Size n
size_of n z = record { records = n / 12; bytes = omega (arith, z.whole); some = omega (arith, z.some, z.whole); few = omega (arith, z.few, z.whole) }

of_size : (n : ℕ) → Size n → bad_length n ≡ false
of_size n z =
    ap not
    (eq-eqb (n % 12) 0 (omega (arith, z.bytes)) also le-leb 12 n (omega (arith, z.bytes, z.some)) also le-leb n 3060 (omega (arith, z.bytes, z.few)))

pub head_of : (e : Entry) → bad_head e ≡ false → Head e
head_of e h = record {
  kind = eqb-true e.kind 0 (search (true_left, true_right, not-false) depth 12);
  arg = eqb-true e.arg 0 (search (true_left, true_right, not-false) depth 12);
  lo = eqb-true e.lo 0 (search (true_left, true_right, not-false) depth 12);
  hi = eqb-true e.hi 0 (search (true_left, true_right, not-false) depth 12);
  left = eqb-true e.left 0 (search (true_left, true_right, not-false) depth 12);
  right = eqb-true e.right 0 (search (true_left, true_right, not-false) depth 12);
  upper = eqb-true e.upper 0 (search (true_left, true_right, not-false) depth 12);
  tail0 = eqb-true e.tail0 0 (search (true_left, true_right, not-false) depth 12);
  tail1 = eqb-true e.tail1 0 (search (true_left, true_right, not-false) depth 12);
}

of_head : (e : Entry) → Head e → bad_head e ≡ false
of_head e h =
    rw (h.kind, h.arg, h.lo, h.hi, h.left, h.right, h.upper, h.tail0, h.tail1)

module _ (s : List ℕ) where
  headed : Size (length s) → Head (entry_of s 0) → Linked s (0 ∷ []) (entry_of s 0).next → head_fault s ≡ 0
  unfolding head_fault
  headed z h l = rw (of_size (length s) z, of_head (entry_of s 0) h, is_linked s [] (0 ∷ []) (entry_of s 0) l)

  -- the head is no rule
  pub head_no_rule : Head (entry_of s 0) → (chain : List ℕ) → length (rules s ((0 ∷ []) ++ chain)) ≡ length (rules_in s chain)
  head_no_rule h chain =
      let m : is_rule_at s 0 ≡ false = rw h.kind in
      collect_length (is_rule_at s) (rule_within s) [] (0 ∷ chain) ∙ rw m

  -- THE LAW: a book that is accepted keeps the rules
  pub accepted_keeps : (reading s).number ≡ 0 → Keeps s
  accepted_keeps h =
      let n = head_none TwoBytes s h in
      let k = head_clear s n in
      let e = head_of (entry_of s 0) k.head in
      let o = found s 255 (0 ∷ []) begun (entry_of s 0).next (starts s k) (ap (λ (x : Reading). x.number) (reading_begins TwoBytes s n) ∙ h) in
      record {
        size = size_of (length s) k.size;
        head = e;
        linked = next_is s (0 ∷ []) (entry_of s 0) k.link;
        chain = o.chain;
        along = o.way;
        ruled = omega (arith, head_no_rule e o.chain, o.some);
      }

  -- THE LAW: a book that keeps the rules is accepted, and its table is that of its chain
  pub keeps_accepted : (k : Keeps s) → reading s ≡ accepted (table_of s (0 ∷ k.chain))
  keeps_accepted k =
      let n = headed k.size k.head k.linked in
      sym (reading_begins TwoBytes s n) ∙ taken s 255 k.along (starts s (head_clear s n)) (omega (arith, head_no_rule k.head k.chain, k.ruled))

  -- THE LAW: accepted, exactly where the rules are kept
  pub accepted_exactly : ((reading s).number ≡ 0) ↔ Keeps s
  accepted_exactly = (accepted_keeps, λ k. ap (λ (x : Reading). x.number) (keeps_accepted k))

-- ---- when the delay was the one before A5
module _ (s : List ℕ) where
  entry_stays : {before : List ℕ} {r : ℕ} → KeptBy old_delay s before r (entry_of s r) → Kept s before r (entry_of s r)
  entry_stays {before} {r} k = record {
    linked = k.linked;
    formed = k.formed;
    signal = k.signal;
    name = k.name;
    ordered = k.ordered;
    limited = k.limited;
    left = k.left;
    right = k.right;
    node_room = k.node_room;
    rule_room = k.rule_room;
    delay = λ u. omega (arith, k.delay u, delay_sooner (formula_over (formulas (nodes s before)) (node_of (nodes_in s before) (entry_of s r))));
    own = k.own;
  }

  along_stays : {before : List ℕ} {r : ℕ} {chain : List ℕ} → AlongBy old_delay s before r chain → Along s before r chain
  along_stays over = over
  along_stays (on n k l) = on n (entry_stays k) (along_stays l)

  abbrev still_keeps : KeepsBy old_delay s → Keeps s
  still_keeps k = record { size = k.size; head = k.head; linked = k.linked; chain = k.chain; along = along_stays k.along; ruled = k.ruled }

  pub stays_kept : (k : KeepsBy old_delay s) → StaysKept s k
  stays_kept k = record { keeps = still_keeps k; read = keeps_accepted s (still_keeps k) }
