-- Only what is read of a book matters, and records off the chain are never read. Assumes nothing.
use mathlib.Core.Path.{◌≡◌, refl, sym, ap, ap₂, subst, ◌∙◌}
use mathlib.Core.Bool.{Bool, true, false}
use mathlib.Core.List.Memᴰ
use mathlib.Core.List.{List, [], ◌∷◌, ◌++◌, map, Memᴰ}
use mathlib.Core.Logic.{⊎_elim}
use Prim.Native.Nat.{ℕ, zero, suc, ◌+◌, ◌*◌, ◌<◌}
use native.Mathlib.Omega.{arith}
use borrow.Author.Tests.{eqb-true, eqb-false}
use lib.Dec.{eqb}
use lib.ListN.{length, get_or}
use Rattle.lists.specs.Choice.{pick, ◌if◌, first}
use Rattle.lists.specs.Sequence.{padded}
use Rattle.table.specs.Nodes.{no_node, no_rule}
use Rattle.table.specs.declared.Rule.{Rule}
use Rattle.book.specs.declared.Entry.{Entry}
use Rattle.book.specs.Entries.{Naming, TwoBytes, entry_of, is_node, is_rule, name_of, bad_length, bad_head}
use Rattle.book.specs.Reading.{Reading, filter, is_node_at, is_rule_at, nodes_in, rules_in, node_of, rule_of, collect, nodes, rules, link_fault, rows, fault, fault_by, head_fault, refused, accepted, unless, finished, finished_by, along_by, reading, reading_by}
use Rattle.book.specs.Chain.{OnChain, head, next, ReadBy, start, linked, then, Read, SameRecord, SameChain, SameRead}
use Rattle.book.proofs.Stands.{node_within, rule_within, names_of}

-- ---- lists whose elements all have a property
module _ (P : ℕ → Type 0) where
  pub All : List ℕ → Type 0
  All xs = (q : ℕ) → Memᴰ q xs → P q

  pub all_none : All []
  unfolding All
  all_none q m = absurd (Memᴰ.not-nil m)

  pub all_at : {xs : List ℕ} → All xs → (q : ℕ) → Memᴰ q xs → P q
  unfolding All
  all_at h = h

  pub all_snoc : (xs : List ℕ) (x : ℕ) → All xs → P x → All (xs ++ (x ∷ []))
  unfolding All
  all_snoc xs x h p q m = ⊎_elim (h q) (λ i. subst P (sym (Memᴰ.eq_of_singleton i)) p) (Memᴰ.append_cases xs m)

  -- where tests and functions agree on such elements, so do the lists made by them
  module _ (p p' : ℕ → Bool) (e : (x : ℕ) → P x → p x ≡ p' x) where
    filter_same : (xs : List ℕ) → All xs → filter p xs ≡ filter p' xs
    unfolding All
    filter_same [] h = refl
    filter_same (x ∷ xs) h =
        let t : p x ≡ p' x = e x (h x (Memᴰ.head refl)) in
        let i : filter p xs ≡ filter p' xs = filter_same xs (λ q m. h q (Memᴰ.tail m)) in
        rw (t, i)

    module _ {A : Type 0} (f f' : List ℕ → ℕ → A) (g : (b : List ℕ) → All b → (x : ℕ) → P x → f b x ≡ f' b x) where
      pub collect_same : (b xs : List ℕ) → All b → All xs → collect p f b xs ≡ collect p' f' b xs
      unfolding All
      collect_same b [] hb h = refl
      collect_same b (x ∷ xs) hb h =
          let o = h x (Memᴰ.head refl) in
          let t : p x ≡ p' x = e x o in
          let v : f b x ≡ f' b x = g b hb x o in
          let i : collect p f (b ++ (x ∷ [])) xs ≡ collect p' f' (b ++ (x ∷ [])) xs = collect_same (b ++ (x ∷ [])) xs (all_snoc b x hb o) (λ q m. h q (Memᴰ.tail m)) in
          rw (t, v, i)

module _ (s u : List ℕ) where
  Same : ℕ → Type 0
  Same r = entry_of s r ≡ entry_of u r

  node_test : (x : ℕ) → Same x → is_node_at s x ≡ is_node_at u x
  unfolding Same
  node_test x h = ap (λ (e : Entry). is_node e.kind) h

  rule_test : (x : ℕ) → Same x → is_rule_at s x ≡ is_rule_at u x
  unfolding Same
  rule_test x h = ap (λ (e : Entry). is_rule e.kind) h

  -- ---- what is known of the records before is the same
  module _ (b : List ℕ) (h : All Same b) where
    nodes_in_lem : nodes_in s b ≡ nodes_in u b
    nodes_in_lem = filter_same Same (is_node_at s) (is_node_at u) node_test b h

    rules_in_lem : rules_in s b ≡ rules_in u b
    rules_in_lem = filter_same Same (is_rule_at s) (is_rule_at u) rule_test b h

    node_in : (x : ℕ) → Same x → node_within s b x ≡ node_within u b x
    unfolding Same
    node_in x o = ap₂ node_of nodes_in_lem o

    rule_in : (x : ℕ) → Same x → rule_within s b x ≡ rule_within u b x
    unfolding Same
    rule_in x o = ap₂ rule_of nodes_in_lem o

  module _ (l : length s ≡ length u) (b : List ℕ) (h : All Same b) where
    nodes_are : nodes s b ≡ nodes u b
    nodes_are = collect_same Same (is_node_at s) (is_node_at u) node_test (node_within s) (node_within u) node_in [] b (all_none Same) h

    rules_are : rules s b ≡ rules u b
    rules_are = collect_same Same (is_rule_at s) (is_rule_at u) rule_test (rule_within s) (rule_within u) rule_in [] b (all_none Same) h

    names_are : map (λ q. name_of (entry_of s q)) (rules_in s b) ≡ map (λ q. name_of (entry_of u q)) (rules_in u b)
    names_are = sym (names_of TwoBytes s b) ∙ ap (map (λ (x : Rule). x.name)) rules_are ∙ names_of TwoBytes u b

    fault_same : (r : ℕ) → Same r → fault s b r ≡ fault u b r
    unfolding fault_by Same
    fault_same r o = ap (λ (e : Entry). first (rows s b r e)) o ∙ rw (l, names_are, nodes_are, nodes_in_lem b h, rules_in_lem b h)

    finished_same : finished s b ≡ finished u b
    finished_same = ap₂ (λ ns rs. unless (first ((11 if eqb (length rs) 0) ∷ [])) 0 (accepted (record {
      nodes = padded no_node 64 ns;
      node_count = length ns;
      rules = padded no_rule 8 rs;
      rule_count = length rs;
    }))) nodes_are rules_are

-- ---- where the rest matters only if it is come to
module _ {A : Type 0} {x x' y y' : A} where
  pick_same : (b : Bool) → x ≡ x' → (b ≡ false → y ≡ y') → pick b x y ≡ pick b x' y'
  pick_same true e f = e
  pick_same false e f = f refl

unless_same : (n r : ℕ) {x y : Reading} → (n ≡ 0 → x ≡ y) → unless n r x ≡ unless n r y
unless_same n r {x} {y} h = go (eqb n 0) refl
  where
    go : (b : Bool) → eqb n 0 ≡ b → pick b x (refused n r) ≡ pick b y (refused n r)
    go true e = h (eqb-true n 0 e)
    go false e = refl

same_entry : (s u : List ℕ) (r : ℕ) → SameRecord s u r → entry_of s r ≡ entry_of u r
same_entry s u r c =
    let b : (i k : ℕ) → i < 12 → k ≡ 12 * r + i → get_or s k 0 ≡ get_or u k 0 = λ i k h e. rw e (c.bytes i h) in
    rw (
      b 0 (12 * r) (omega arith) (omega arith),
      b 1 (12 * r + 1) (omega arith) refl,
      b 2 (12 * r + 2) (omega arith) refl,
      b 3 (12 * r + 2 + 1) (omega arith) (omega arith),
      b 4 (12 * r + 4) (omega arith) refl,
      b 5 (12 * r + 4 + 1) (omega arith) (omega arith),
      b 6 (12 * r + 6) (omega arith) refl,
      b 7 (12 * r + 7) (omega arith) refl,
      b 8 (12 * r + 8) (omega arith) refl,
      b 9 (12 * r + 9) (omega arith) refl,
      b 10 (12 * r + 10) (omega arith) refl,
      b 11 (12 * r + 11) (omega arith) refl,
    )

-- ---- along the chain
-- two readings that are the same at every record that is read
pub record Alike (names other : Naming) (s u : List ℕ) : Type 0 where
  pub head : head_fault s ≡ head_fault u
  pub onward : (before : List ℕ) (r : ℕ) → ReadBy names s before r → (entry_of s r).next ≡ (entry_of u r).next
  pub tried : (before : List ℕ) (r : ℕ) → ReadBy names s before r → ¬ (r ≡ 0) → fault_by names s before r ≡ fault_by other u before r
  pub end : (before : List ℕ) (r : ℕ) → ReadBy names s before r → finished_by names s before ≡ finished_by other u before

module _ {names other : Naming} {s u : List ℕ} (a : Alike names other s u) where
  along_alike : (f : ℕ) (b : List ℕ) (r : ℕ) → ReadBy names s b r → along_by names s f b r ≡ along_by other u f b r
  unfolding along_by
  along_alike zero b r o = a.end b r o
  along_alike (suc f) b r o =
      pick_same (eqb r 0) (a.end b r o) λ z.
      let ne = eqb-false r 0 z in
      let rest : fault_by names s b r ≡ 0 → along_by names s f (b ++ (r ∷ [])) (entry_of s r).next ≡ along_by other u f (b ++ (r ∷ [])) (entry_of u r).next = λ n.
      along_alike f (b ++ (r ∷ [])) (entry_of s r).next (then o ne n) ∙ ap (λ (x : ℕ). along_by other u f (b ++ (r ∷ [])) x) (a.onward b r o) in
      unless_same (fault_by names s b r) r rest ∙ rw (a.tried b r o ne)

  -- THE LAW: they come to the same
  pub reading_alike : reading_by names s ≡ reading_by other u
  unfolding reading_by
  reading_alike =
      let rest : head_fault s ≡ 0 → along_by names s 255 (0 ∷ []) (entry_of s 0).next ≡ along_by other u 255 (0 ∷ []) (entry_of u 0).next = λ n.
      along_alike 255 (0 ∷ []) (entry_of s 0).next (linked n) ∙ ap (λ (x : ℕ). along_by other u 255 (0 ∷ []) x) (a.onward [] 0 start) in
      unless_same (head_fault s) 0 rest ∙ rw a.head

-- ---- two books with the same records where the first is read
module _ (s u : List ℕ) (c : SameRead s u) where
  entry_same : (before : List ℕ) (r : ℕ) → Read s before r → entry_of s r ≡ entry_of u r
  entry_same before r o = same_entry s u r (c.records before r o)

  same : (before : List ℕ) (r : ℕ) → Read s before r → Same s u r
  unfolding Same
  same = entry_same

  before_same : {before : List ℕ} {r : ℕ} → Read s before r → All (Same s u) before
  before_same start = all_none (Same s u)
  before_same (linked n) = all_snoc (Same s u) [] 0 (all_none (Same s u)) (same [] 0 start)
  before_same (then {before} {r} o z n) = all_snoc (Same s u) before r (before_same o) (same before r o)

  head_same : head_fault s ≡ head_fault u
  unfolding head_fault
  head_same =
      ap (λ (x : Entry). first ((1 if bad_length (length s)) ∷ (2 if bad_head x) ∷ (3 if link_fault s (0 ∷ []) x) ∷ [])) (entry_same [] 0 start)
      ∙ rw c.size

  -- THE LAW: where a book is not read, its bytes do not matter
  pub read_only : reading s ≡ reading u
  read_only = reading_alike (record {
    head = head_same;
    onward = λ before r o. ap (λ (e : Entry). e.next) (entry_same before r o);
    tried = λ before r o z. fault_same s u c.size before (before_same o) r (same before r o);
    end = λ before r o. finished_same s u c.size before (before_same o);
  })

-- what is read is on the chain
pub read_on_chain : {names : Naming} {s before : List ℕ} {r : ℕ} → ReadBy names s before r → OnChain s r
read_on_chain start = head
read_on_chain (linked n) = next head
read_on_chain (then o z n) = next (read_on_chain o)

-- THE LAW: records off the chain are never read
pub chain_only : (s u : List ℕ) → SameChain s u → reading s ≡ reading u
chain_only s u c = read_only s u (record { size = c.size; records = λ before r o. c.records r (read_on_chain o) })
