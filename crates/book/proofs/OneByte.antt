-- The reader of one-byte names beside the reader: the same up to a large name, which it refuses. Assumes nothing.
use mathlib.Core.Path.{◌≡◌, refl, sym, ap, subst, ◌∙◌}
use mathlib.Core.Bool.{Bool, true, false, ◌&&◌, not, false≢true}
use mathlib.Core.List.Memᴰ
use mathlib.Core.List.{List, [], ◌∷◌, ◌++◌, map, Memᴰ}
use mathlib.Core.Logic.{◌⊎◌, inl, inr, ⊎_elim, ◌↔◌}
use Prim.Native.Nat.{ℕ, zero, suc, ◌+◌, ◌-◌, ◌*◌, ◌≤◌, ◌<◌}
use native.Mathlib.Omega.{arith}
use borrow.Author.Tests.{eqb-true, eqb-false, not-false}
use lib.Dec.{eqb}
use lib.ListN.{length, get_or, get_or-eq_default}
use Rattle.lists.specs.Sequence.{among, ticks}
use Rattle.lists.proofs.Tests.{lt_or_le, true_left, true_right, true_or_false}
use Rattle.lists.proofs.Rows.{no_row}
use Rattle.lists.proofs.Sequences.{length_ticks, get_or_ticks, get_or_padded}
use Rattle.table.specs.Nodes.{no_rule, rule_at}
use Rattle.table.specs.declared.Rule.{Rule}
use Rattle.table.specs.declared.Table.{Table}
use Rattle.table.specs.declared.Uses.{Uses}
use Rattle.book.specs.declared.Entry.{Entry}
use Rattle.book.specs.declared.Walk.{Walk}
use Rattle.book.specs.Entries.{OneByte, TwoBytes, Bytes, entry_of, uses_in, is_rule, name_by, name_of, formed_by, bad_form_by, bad_arg_by}
use Rattle.book.specs.Reading.{Reading, place, is_rule_at, nodes_in, rules_in, rule_of_by, rules_by, rules, table_of, name_fault_by, rows_by, rows, fault_by, fault, head_fault, refused, accepted, finished_by, along_by, reading_by, reading}
use Rattle.book.specs.Keeps.{Kept, Along, over, on, Keeps}
use Rattle.book.specs.Chain.{OnChain, head, next, ReadBy, start, linked, then}
use Rattle.book.specs.Code.Steps.{entered, added, begun}
use Rattle.book.specs.Writing.{head_entry, many, entry_for, book_of, YieldedBy}
use Rattle.book.specs.OneByte.{OneByteSound, Large, NoneLarge, FormTried, FirstRefused, OneByteReader}
use Rattle.book.proofs.Tests.{head_clear}
use Rattle.book.proofs.Among.{collect_each}
use Rattle.book.proofs.Kept.{keeping}
use Rattle.book.proofs.Stands.{rule_within, names_of}
use Rattle.book.proofs.Along.{reading_begins, head_none, along_ends, along_stops, along_goes}
use Rattle.book.proofs.Going.{At, fuelled, starts, further}
use Rattle.book.proofs.Accepts.{head_of, accepted_keeps, keeps_accepted}
use Rattle.book.proofs.Sound.{byte_at}
use Rattle.book.proofs.Writes.{entry_by}
use Rattle.book.proofs.Records.{entry_of_lem}
use Rattle.book.proofs.Complete.{sound_bytes, sound_reads, sound_exactly}
use Rattle.book.proofs.Chain.{All, all_none, all_at, all_snoc, collect_same, reading_alike, read_on_chain}

-- ---- a record whose byte 9 is zero, under either naming
named_same : (e : Entry) → e.upper ≡ 0 → name_by OneByte e ≡ name_by TwoBytes e
named_same e h = omega arith

form_by : (used : Uses) (e : Entry) (b : Bool) → (b ≡ true → e.upper ≡ 0) → formed_by used false e ≡ formed_by used b e
form_by used e true h = rw (h refl)
form_by used e false h = refl

and_same : (b : Bool) {x y : Bool} → (b ≡ true → x ≡ y) → (b && x) ≡ (b && y)
and_same true h = h refl
and_same false h = refl

-- its form is right under the old naming
plain_form : (e : Entry) → bad_form_by OneByte e ≡ false → e.upper ≡ 0
plain_form e h = let t = not-false (formed_by (uses_in e.kind) false e) h in eqb-true e.upper 0 (search (true_left, true_right) depth 12)

-- ---- along a book
module _ (s : List ℕ) where
  Plain : ℕ → Type 0
  Plain q = (entry_of s q).upper ≡ 0

  -- the records before have byte 9 zero
  module _ (b : List ℕ) (h : All Plain b) where
    rules_same : rules_by OneByte s b ≡ rules_by TwoBytes s b
    unfolding Plain
    rules_same =
        collect_same Plain (is_rule_at s) (is_rule_at s) (λ x o. refl) (λ c r. rule_of_by OneByte (nodes_in s c) (entry_of s r)) (λ c r. rule_of_by TwoBytes (nodes_in s c) (entry_of s r))
        (λ c hc r o. ap (λ (n : ℕ). record { name = n; watched = place (nodes_in s c) (entry_of s r).left }) (named_same (entry_of s r) o)) [] b (all_none Plain) h

    names_same : map (λ q. name_by OneByte (entry_of s q)) (rules_in s b) ≡ map (λ q. name_by TwoBytes (entry_of s q)) (rules_in s b)
    names_same = sym (names_of OneByte s b) ∙ ap (map (λ (x : Rule). x.name)) rules_same ∙ names_of TwoBytes s b

    finished_same : finished_by OneByte s b ≡ finished_by TwoBytes s b
    finished_same = rw rules_same

    -- a record that is no rule with a large name is tried alike
    module _ (r : ℕ) (small : is_rule_at s r ≡ true → Plain r) where
      abbrev e : Entry
      e = entry_of s r

      named : is_rule e.kind ≡ true → name_by OneByte e ≡ name_by TwoBytes e
      unfolding Plain
      named i = named_same e (small i)

      form_same : bad_form_by OneByte e ≡ bad_form_by TwoBytes e
      unfolding Plain
      form_same = ap not (form_by (uses_in e.kind) e (is_rule e.kind) small)

      arg_same : bad_arg_by OneByte e ≡ bad_arg_by TwoBytes e
      arg_same = rw (and_same (is_rule e.kind) (λ i. ap (λ (n : ℕ). eqb n 0) (named i)))

      name_same : name_fault_by OneByte s b e ≡ name_fault_by TwoBytes s b e
      name_same =
          and_same (is_rule e.kind) λ i.
          ap (λ (n : ℕ). among n (map (λ q. name_by OneByte (entry_of s q)) (rules_in s b))) (named i) ∙ ap (among (name_by TwoBytes e)) names_same

      tried_same : fault_by OneByte s b r ≡ fault_by TwoBytes s b r
      unfolding fault_by
      tried_same = rw (form_same, arg_same, name_same)

  -- what is read without a fault has byte 9 zero
  plain_tried : (b : List ℕ) (r : ℕ) → fault_by OneByte s b r ≡ 0 → Plain r
  unfolding fault_by Plain
  plain_tried b r n = plain_form (entry_of s r) (no_row (rows_by OneByte s b r (entry_of s r)) refl n 1)

  plain_head : head_fault s ≡ 0 → Plain 0
  unfolding Plain
  plain_head n = (head_of (entry_of s 0) (head_clear s n).head).upper

  plain_before : {b : List ℕ} {r : ℕ} → ReadBy OneByte s b r → All Plain b
  plain_before start = all_none Plain
  plain_before (linked n) = all_snoc Plain [] 0 (all_none Plain) (plain_head n)
  plain_before (then {before = b} {r = r} o z n) = all_snoc Plain b r (plain_before o) (plain_tried b r n)

  clear_now : {b : List ℕ} {r : ℕ} → ReadBy OneByte s b r → fault_by OneByte s b r ≡ 0 → fault s b r ≡ 0
  clear_now {b} {r} o n = sym (tried_same b (plain_before o) r (λ i. plain_tried b r n)) ∙ n

  -- ---- the reader comes to each record that is read, with fuel that is enough
  record Comes (b : List ℕ) (r : ℕ) : Type 0 where
    fuel : ℕ
    walk : Walk
    at : At s fuel b walk r
    same : along_by OneByte s fuel b r ≡ reading_by OneByte s

  comes : {b : List ℕ} {r : ℕ} → ReadBy OneByte s b r → ¬ (r ≡ 0) → Comes b r
  comes start z = absurd (z refl)
  comes (linked n) z = record { fuel = 255; walk = begun; at = starts s (head_clear s n); same = reading_begins OneByte s n }
  comes (then {before = b} {r = r} o y n) z = let c = comes o y in go c.fuel c.at c.same
    where
      go : (f : ℕ) {w : Walk} → At s f b w r → along_by OneByte s f b r ≡ reading_by OneByte s → Comes (b ++ (r ∷ [])) (entry_of s r).next
      go zero a m = absurd (omega (arith, fuelled a y))
      go (suc f) {w} a m =
          record { fuel = f; walk = added (entered w r) r (entry_of s r); at = further a y (clear_now o n); same = sym (along_goes OneByte s b r f y n) ∙ m }

  module _ {b : List ℕ} {r : ℕ} (o : ReadBy OneByte s b r) (z : ¬ (r ≡ 0)) where
    -- a fault that it finds is its answer
    stops : ¬ (fault_by OneByte s b r ≡ 0) → reading_by OneByte s ≡ refused (fault_by OneByte s b r) r
    stops q = let c = comes o z in sym c.same ∙ along_stops OneByte s b r c.fuel (fuelled c.at z) z q

    -- where it accepts, there is none
    none_found : (reading_by OneByte s).number ≡ 0 → fault_by OneByte s b r ≡ 0
    none_found h =
        let n = fault_by OneByte s b r in
        ⊎_elim (λ e. eqb-true n 0 e) (λ e. let q = eqb-false n 0 e in sym (ap (λ (x : Reading). x.number) (stops q)) ∙ h) (true_or_false (eqb n 0))

-- ---- a book of bytes: a name above 255 has byte 9 set
module _ (s : List ℕ) (bytes : Bytes s) where
  large_upper : {r : ℕ} → Large s r → ¬ (Plain s r)
  unfolding Plain
  large_upper {r} l h = omega (arith, l.above, byte_at s bytes (12 * r + 1))

  large_or_small : (r : ℕ) → Large s r ⊎ (is_rule_at s r ≡ true → Plain s r)
  unfolding Plain
  large_or_small r = go (is_rule_at s r) refl (eqb (entry_of s r).upper 0) refl
    where
      go : (a : Bool) → is_rule_at s r ≡ a → (b : Bool) → eqb (entry_of s r).upper 0 ≡ b → Large s r ⊎ (a ≡ true → (entry_of s r).upper ≡ 0)
      go true i false j =
          let z = eqb-false (entry_of s r).upper 0 j in
          inl (record { rule = eqb-true (entry_of s r).kind 11 i; above = omega arith })
      go true i true j = inr (λ e. eqb-true (entry_of s r).upper 0 j)
      go false i b j = inr (λ e. absurd (false≢true e))

  -- ---- with 4, if no check before finds a fault
  module _ {b : List ℕ} {r : ℕ} (t : FormTried s b r) (l : Large s r) where
    bad_form_lem : bad_form_by OneByte (entry_of s r) ≡ true
    unfolding Plain
    bad_form_lem = ⊎_elim (λ i. i) (λ i. absurd (large_upper l (plain_form (entry_of s r) i))) (true_or_false (bad_form_by OneByte (entry_of s r)))

    four : fault_by OneByte s b r ≡ 4
    unfolding fault_by
    four = rw (t.link, bad_form_lem)

    form : reading_by OneByte s ≡ refused 4 r
    form = stops s t.read t.later (λ z. omega (arith, four)) ∙ ap (λ (n : ℕ). refused n r) four

  -- ---- what it accepts has no large name on its chain
  record ReadAt (r : ℕ) : Type 0 where
    before : List ℕ
    read : ReadBy OneByte s before r

  module _ (h : (reading_by OneByte s).number ≡ 0) where
    chain_read : {r : ℕ} → OnChain s r → ReadAt r
    chain_read head = record { before = []; read = start }
    chain_read (next {r = r} o) = go (chain_read o) (eqb r 0) refl
      where
        go : ReadAt r → (x : Bool) → eqb r 0 ≡ x → ReadAt (entry_of s r).next
        go c true e =
            subst (λ (q : ℕ). ReadAt (entry_of s q).next) (sym (eqb-true r 0 e)) (record { before = 0 ∷ []; read = linked (head_none OneByte s h) })
        go c false e = let z = eqb-false r 0 e in record { before = c.before ++ (r ∷ []); read = then c.read z (none_found s c.read z h) }

    none_large : NoneLarge s
    none_large r o l = go (chain_read o) (eqb r 0) refl
      where
        go : ReadAt r → (x : Bool) → eqb r 0 ≡ x → ⊥
        go c true e =
            let k = (head_of (entry_of s 0) (head_clear s (head_none OneByte s h)).head).kind in
            omega (arith, subst (λ (q : ℕ). (entry_of s q).kind ≡ 11) (eqb-true r 0 e) l.rule)
        go c false e = large_upper l (plain_tried s c.before r (none_found s c.read (eqb-false r 0 e) h))

  -- ---- without a large name on the chain both read the same
  same : NoneLarge s → reading_by OneByte s ≡ reading s
  same n = reading_alike (record {
    head = refl;
    onward = λ b r o. refl;
    tried = λ b r o z. tried_same s b (plain_before s o) r (⊎_elim (λ l. absurd (n r (read_on_chain o) l)) (λ i. i) (large_or_small r));
    end = λ b r o. finished_same s b (plain_before s o);
  })

  exactly : ((reading_by OneByte s).number ≡ 0) ↔ (Keeps s × NoneLarge s)
  exactly = (
    λ h. let n = none_large h in (accepted_keeps s (ap (λ (x : Reading). x.number) (sym (same n)) ∙ h), n),
    λ k. ap (λ (x : Reading). x.number) (same k.1 ∙ keeps_accepted s k.0),
  )

  -- ---- a book that is accepted now: refused at the first large name along its chain, or read the same
  Either : List ℕ → ℕ → Type 0
  Either b r = FirstRefused s ⊎ ((f : ℕ) → along_by OneByte s f b r ≡ along_by TwoBytes s f b r)

  ended : {b : List ℕ} → ReadBy OneByte s b 0 → (f : ℕ) → along_by OneByte s f b 0 ≡ along_by TwoBytes s f b 0
  ended {b} o f = along_ends OneByte s b 0 f refl ∙ finished_same s b (plain_before s o) ∙ sym (along_ends TwoBytes s b 0 f refl)

  module _ {b : List ℕ} {r : ℕ} (o : ReadBy OneByte s b r) (z : ¬ (r ≡ 0)) (k : Kept s b r (entry_of s r)) where
    now : fault s b r ≡ 0
    unfolding fault_by
    now = keeping s b r (entry_of s r) k

    refused_here : Large s r → FirstRefused s
    unfolding fault_by
    refused_here x =
        let t : FormTried s b r = record { read = o; later = z; link = no_row (rows s b r (entry_of s r)) refl now 0 } in
        record { before = b; at = r; tried = t; large = x; first = λ q m y. large_upper y (all_at (Plain s) (plain_before s o) q m); answer = form t x }

    module _ (small : is_rule_at s r ≡ true → Plain s r) where
      before : fault_by OneByte s b r ≡ 0
      before = tried_same s b (plain_before s o) r small ∙ now

      further_on : Either (b ++ (r ∷ [])) (entry_of s r).next → Either b r
      unfolding Either along_by
      further_on (inl x) = inl x
      further_on (inr g) = inr go
        where
          go : (f : ℕ) → along_by OneByte s f b r ≡ along_by TwoBytes s f b r
          go zero = finished_same s b (plain_before s o)
          go (suc f) = along_goes OneByte s b r f z before ∙ g f ∙ sym (along_goes TwoBytes s b r f z now)

  first_along : {b : List ℕ} {r : ℕ} {chain : List ℕ} → Along s b r chain → ReadBy OneByte s b r → Either b r
  unfolding Either
  first_along over o = inr (ended o)
  first_along {b} {r} (on z k l) o =
      ⊎_elim (λ x. inl (refused_here o z k x)) (λ i. further_on o z k i (first_along l (then o z (before o z k i)))) (large_or_small r)

  accepted_now : (reading s).number ≡ 0 → (r : ℕ) → OnChain s r → Large s r → FirstRefused s
  unfolding Either
  accepted_now h r o l =
      let n = head_none TwoBytes s h in
      ⊎_elim (λ x. x)
      (λ g. absurd (none_large (ap (λ (x : Reading). x.number) (sym (reading_begins OneByte s n) ∙ g 255 ∙ reading_begins TwoBytes s n) ∙ h) r o l))
      (first_along (accepted_keeps s h).along (linked n))

-- ---- soundness as it was
along_on : {s b : List ℕ} {r : ℕ} {chain : List ℕ} → Along s b r chain → OnChain s r → (q : ℕ) → Memᴰ q chain → OnChain s q
along_on over o q m = absurd (Memᴰ.not-nil m)
along_on {s} (on z k l) o q m = ⊎_elim (λ e. subst (OnChain s) (sym e) o) (along_on l (next o) q) (Memᴰ.cases_cons m)

-- a table that was read has no large name
module _ (s : List ℕ) (n : NoneLarge s) (k : Keeps s) where
  abbrev chain : List ℕ
  chain = 0 ∷ k.chain

  on_chain : (q : ℕ) → Memᴰ q chain → OnChain s q
  on_chain q m = ⊎_elim (λ e. subst (OnChain s) (sym e) head) (along_on k.along (next head) q) (Memᴰ.cases_cons m)

  names_small : (q : ℕ) → q < length (rules s chain) → (rule_at (table_of s chain) q).name ≤ 255
  names_small q h =
      subst (λ (r : Rule). r.name ≤ 255) (sym (get_or_padded no_rule (rules s chain) (8 - length (rules s chain)) q))
      (collect_each (is_rule_at s) (rule_within s) (λ r. r.name ≤ 255) no_rule [] chain
      (λ c x m i. ⊎_elim (λ l. absurd (n x (on_chain x m) (record { rule = eqb-true (entry_of s x).kind 11 i; above = l }))) (λ l. l) (lt_or_le 255 (name_of (entry_of s x))))
      q h)

yielded_sound : (t : Table) → YieldedBy OneByte t → OneByteSound t
yielded_sound t y =
    let s = y.book in
    let n = none_large s y.bytes (ap (λ (x : Reading). x.number) y.reads) in
    let e : reading s ≡ accepted t = sym (same s y.bytes n) ∙ y.reads in
    let k = accepted_keeps s (ap (λ (x : Reading). x.number) e) in
    let is : table_of s (0 ∷ k.chain) ≡ t = ap (λ (x : Reading). x.table) (sym (keeps_accepted s k) ∙ e) in
    record {
      sound = (sound_exactly t).1 (record { book = s; bytes = y.bytes; reads = e });
      small = subst (λ (u : Table). (q : ℕ) → q < u.rule_count → (rule_at u q).name ≤ 255) is (names_small s n k);
    }

-- the book of a table without a large name has none
module _ (t : Table) (y : OneByteSound t) where
  entry_small : (r : ℕ) → r ≤ many t → (entry_for t r).kind ≡ 11 → name_of (entry_for t r) ≤ 255
  entry_small r =
      entry_by t r (λ e. e.kind ≡ 11 → name_of e ≤ 255) (λ k. absurd (omega arith)) (λ p l k. absurd (omega (arith, (y.sound.node p l).node)))
      (λ q l k. omega (arith, y.small q l))

  book_small : (r : ℕ) → (entry_of (book_of t) r).kind ≡ 11 → name_of (entry_of (book_of t) r) ≤ 255
  unfolding book_of
  book_small r = subst (λ (e : Entry). e.kind ≡ 11 → name_of e ≤ 255) (sym (entry_of_lem es r)) (⊎_elim inside beyond (lt_or_le r (suc (many t))))
    where
      es : List Entry
      es = ticks (entry_for t) (suc (many t))

      inside : r < suc (many t) → (get_or es r (head_entry 0)).kind ≡ 11 → name_of (get_or es r (head_entry 0)) ≤ 255
      inside h = rw (get_or_ticks (entry_for t) (suc (many t)) r (head_entry 0) h) (entry_small r (omega arith))

      beyond : suc (many t) ≤ r → (get_or es r (head_entry 0)).kind ≡ 11 → name_of (get_or es r (head_entry 0)) ≤ 255
      beyond h = rw (get_or-eq_default es (head_entry 0) {n = r} (rw (length_ticks (entry_for t) (suc (many t))) h)) (λ k. absurd (omega arith))

  sound_yielded : YieldedBy OneByte t
  sound_yielded =
      let b = sound_bytes t y.sound in
      record {
        book = book_of t;
        bytes = b;
        reads = same (book_of t) b (λ r o l. omega (arith, l.above, book_small r l.rule)) ∙ sound_reads t y.sound;
      }

-- THE LAW: what the reader before A11 makes of books
pub one_byte_reader : OneByteReader
one_byte_reader = record {
  same = same;
  refuses = λ s r b o l h. none_large s b h r o l;
  form = λ s before r t l b. form s b t l;
  accepted_now = λ s r b h o l. accepted_now s b h r o l;
  accepted_exactly = exactly;
  sound_exactly = λ t. (sound_yielded t, yielded_sound t);
}
