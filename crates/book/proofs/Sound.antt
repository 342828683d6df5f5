-- The table of an accepted book of bytes is sound, and that of a refused book is all zeros. Assumes nothing.
use mathlib.Core.Path.{◌≡◌, refl, sym, ap, subst, ◌∙◌}
use mathlib.Core.Bool.{Bool, true, false}
use mathlib.Core.List.{List, [], ◌∷◌, ◌++◌, append-nil, append_assoc}
use mathlib.Core.Logic.{⊎_elim}
use Prim.Native.Nat.{ℕ, zero, suc, ◌≤◌, ◌<◌}
use native.Mathlib.Omega.{arith}
use borrow.Author.Tests.{eqb-true, eq-eqb}
use lib.Dec.{eqb}
use lib.ListN.{length, get_or, get_or-eq_default}
use Rattle.lists.specs.Choice.{pick}
use Rattle.lists.specs.Sequence.{among}
use Rattle.lists.proofs.Tests.{lt_or_le, and_right}
use Rattle.lists.proofs.Rows.{no_row}
use Rattle.table.specs.Nodes.{no_table, formulas}
use Rattle.table.proofs.Delays.{delay_of_lem}
use Rattle.table.specs.Sound.{NodeFits, Sound}
use Rattle.table.specs.declared.Uses.{Uses}
use Rattle.builder.proofs.Holding.{names}
use Rattle.builder.proofs.Sound.{Good, good_none, good_node, good_rule, good_sound, uses_arg}
use Rattle.book.specs.declared.Entry.{Entry}
use Rattle.book.specs.Entries.{TwoBytes, Bytes, entry_of, name_of}
use Rattle.book.specs.Reading.{Reading, place, is_node_at, is_rule_at, nodes_in, node_of, rule_of, nodes, rules, table_of, rows, fault, head_fault, refused, accepted, unless, finished, along, along_by, reading, reading_by}
use Rattle.book.specs.Keeps.{Head, Kept, EarlierNode, Along, over, on}
use Rattle.book.proofs.Tests.{other_kind, node_no_rule, node_uses, rule_uses}
use Rattle.book.proofs.Among.{among_filter, collect_in, collect_out, collect_length, index_lt}
use Rattle.book.proofs.Stands.{node_within, rule_within, names_of}
use Rattle.book.proofs.Going.{name_small}
use Rattle.book.proofs.Kept.{node_iff, earlier_iff, keeping}
use Rattle.book.proofs.Accepts.{accepted_keeps, keeps_accepted, head_no_rule}

-- ---- places
place_in : (xs : List ℕ) (k : ℕ) → among k xs ≡ true → place xs k < length xs
place_in xs k h = rw h (index_lt xs k h)

pub byte_at : (s : List ℕ) → Bytes s → (i : ℕ) → get_or s i 0 < 256
byte_at s b i = ⊎_elim (b.byte i) (λ h. rw (get_or-eq_default s 0 {n = i} h) (omega arith)) (lt_or_le i (length s))

-- ---- the nodes and rules of the records before
module _ (s : List ℕ) (bytes : Bytes s) (head : Head (entry_of s 0)) where
  -- record 0 is no node, so an operand that is not used has place 0
  no_head : (before : List ℕ) → among 0 (nodes_in s before) ≡ false
  no_head before = let n : is_node_at s 0 ≡ false = rw head.kind in among_filter (is_node_at s) 0 before ∙ rw n

  begin : Good (nodes s (0 ∷ [])) (rules s (0 ∷ []))
  begin =
      let n : is_node_at s 0 ≡ false = rw head.kind in
      let m : is_rule_at s 0 ≡ false = rw head.kind in
      rw (n, m) good_none

  module _ {before : List ℕ} {r : ℕ} (g : Good (nodes s before) (rules s before)) (k : Kept s before r (entry_of s r)) where
    abbrev e : Entry
    e = entry_of s r

    abbrev ps : List ℕ
    ps = nodes_in s before

    count : length (nodes s before) ≡ length ps
    count = collect_length (is_node_at s) (node_within s) [] before

    operand_in : (o : ℕ) → EarlierNode s before o → place ps o < length (nodes s before)
    operand_in o h = omega (arith, place_in ps o ((earlier_iff s before o).1 h), count)

    operand_out : (o : ℕ) → o ≡ 0 → place ps o ≡ 0
    operand_out o h = rw (h, no_head before)

    node_fits : e.kind ≤ 10 → NodeFits (length (nodes s before)) (node_of ps e)
    node_fits h =
        let f = k.formed in
        let u = node_uses e.kind h in
        record {
          known = f.low;
          node = h;
          arg = record { limited = λ v. omega (arith, k.signal (eqb-true e.kind 1 (sym (uses_arg e.kind) ∙ v))); unused = rw u f.arg };
          ordered = k.ordered;
          interval = record { limited = λ v. omega (arith, k.limited); unused = rw u f.hi };
          left = record { limited = rw u (λ v. operand_in e.left (k.left v)); unused = rw u (λ v. operand_out e.left (f.left v)) };
          right = record { limited = rw u (λ v. operand_in e.right (k.right v)); unused = rw u (λ v. operand_out e.right (f.right v)) };
        }

    more_node : is_node_at s r ≡ true → Good (nodes s (before ++ (r ∷ []))) (rules s (before ++ (r ∷ [])))
    more_node n =
        let w = (node_iff e.kind).0 n in
        rw (collect_in (is_node_at s) (node_within s) before r n, collect_out (is_rule_at s) (rule_within s) before r (node_no_rule e.kind n))
        (good_node (nodes s before) (rules s before) (node_of ps e) g (omega (arith, k.node_room w, count)) (node_fits w.high) (subst (λ (d : ℕ). d ≤ 4095) (delay_of_lem (formulas (nodes s before)) (node_of ps e)) (k.delay w)))

    module _ (n : is_node_at s r ≡ false) where
      eleven : e.kind ≡ 11
      eleven = other_kind e.kind k.formed.low k.formed.high n

      rule_at_lem : is_rule_at s r ≡ true
      rule_at_lem = eq-eqb e.kind 11 eleven

      new_name : among (name_of e) (names (rules s before)) ≡ false
      new_name =
          ap (among (name_of e)) (names_of TwoBytes s before)
          ∙ and_right (is_rule_at s r) _ (no_row (rows s before r e) refl (keeping s before r e k) 7) rule_at_lem

      more_rule : Good (nodes s (before ++ (r ∷ []))) (rules s (before ++ (r ∷ [])))
      more_rule =
          rw (collect_out (is_node_at s) (node_within s) before r n, collect_in (is_rule_at s) (rule_within s) before r rule_at_lem)
          (good_rule (nodes s before) (rules s before) (rule_of ps e) g (omega (arith, k.rule_room eleven, collect_length (is_rule_at s) (rule_within s) [] before))
          (record {
            named = k.name eleven;
            largest = name_small s r refl (byte_at s bytes);
            watched = operand_in e.left (k.left (ap (λ (u : Uses). u.left) (rule_uses e.kind eleven)));
          })
          new_name)

    more : Good (nodes s (before ++ (r ∷ []))) (rules s (before ++ (r ∷ [])))
    more = go (is_node_at s r) refl
      where
        go : (b : Bool) → is_node_at s r ≡ b → Good (nodes s (before ++ (r ∷ []))) (rules s (before ++ (r ∷ [])))
        go true n = more_node n
        go false n = more_rule n

  good_along : {before : List ℕ} {r : ℕ} {chain : List ℕ} → Along s before r chain → Good (nodes s before) (rules s before)
      → Good (nodes s (before ++ chain)) (rules s (before ++ chain))
  good_along over g = rw append-nil g
  good_along {before} {r} (on {rest = rest} z k a) g = rw (append_assoc before (r ∷ []) rest) at (good_along a (more g k))

-- THE LAW: the table of an accepted book of bytes is sound
pub accepted_sound : (s : List ℕ) → Bytes s → (reading s).number ≡ 0 → Sound (reading s).table
accepted_sound s b h =
    let k = accepted_keeps s h in
    rw (keeps_accepted s k)
    (good_sound (nodes s (0 ∷ k.chain)) (rules s (0 ∷ k.chain)) (good_along s b k.head k.along (begin s b k.head)) (omega (arith, head_no_rule s k.head k.chain, k.ruled)))

-- ---- a refusal
Blank : Reading → Type 0
Blank x = ¬ (x.number ≡ 0) → x.table ≡ no_table

module _ (s : List ℕ) where
  or_refused : (n r : ℕ) (x : Reading) → Blank x → Blank (unless n r x)
  unfolding Blank
  or_refused n r x h = go (eqb n 0)
    where
      go : (b : Bool) → Blank (pick b x (refused n r))
      go true = h
      go false = λ z. refl

  last_blank : (chain : List ℕ) → Blank (finished s chain)
  unfolding Blank
  last_blank chain = go (eqb (length (rules s chain)) 0)
    where
      go : (b : Bool) → Blank (unless (pick b 11 0) 0 (accepted (table_of s chain)))
      go true = λ z. refl
      go false = λ z. absurd (z refl)

  blank_along : (f : ℕ) (before : List ℕ) (r : ℕ) → Blank (along s f before r)
  unfolding along_by
  blank_along zero before r = last_blank before
  blank_along (suc f) before r = go (eqb r 0) _ (or_refused (fault s before r) r _ (blank_along f (before ++ (r ∷ [])) (entry_of s r).next))
    where
      go : (b : Bool) (x : Reading) → Blank x → Blank (pick b (finished s before) x)
      go true x h = last_blank before
      go false x h = h

-- THE LAW: the table of a refused book is all zeros
pub refused_empty : (s : List ℕ) → ¬ ((reading s).number ≡ 0) → (reading s).table ≡ no_table
unfolding reading_by Blank
refused_empty s = or_refused s (head_fault s) 0 _ (blank_along s 255 (0 ∷ []) (entry_of s 0).next)
