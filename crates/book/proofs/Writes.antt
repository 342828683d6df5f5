-- The laws of the writer: which record stands where, what soundness says of its fields, and the loop that puts the records down. Assumes nothing.
use mathlib.Core.Path.{◌≡◌, refl, sym, ap, ◌∙◌}
use mathlib.Core.Bool.{Bool, true, false}
use mathlib.Core.List.{List, [], ◌∷◌, ◌++◌, append_assoc}
use Prim.Native.Nat.{ℕ, suc, ◌+◌, ◌-◌, ◌*◌, ◌≤◌, ◌<◌}
use native.Mathlib.Numerals.{add-one}
use native.Mathlib.Omega.{arith}
use borrow.Author.Tests.{ne_eqb, eq-eqb, le-leb, lt-leb, lt-ltb, le-ltb, eqb-false, leb-true, leb-false}
use lib.Dec.{leb, eqb}
use lib.ListN.{length, take, drop}
use lib.Seq.{take_at}
use Rattle.lists.specs.Choice.{pick}
use Rattle.lists.specs.Sequence.{ticks}
use borrow.Rule.Slice.PartMut.{put_mid}
use Rattle.std.proofs.lemmas.Slice.{put_mid-paste}
use Rattle.lists.proofs.Sequences.{length_ticks, ticks_snoc, drop_past, length_past}
use Rattle.table.specs.Nodes.{node_at, rule_at}
use Rattle.table.specs.Sound.{Sound, is_sound}
use Rattle.table.specs.declared.Table.{Table}
use Rattle.table.proofs.Soundness.{field_below}
use Rattle.book.specs.declared.Entry.{Entry}
use Rattle.book.specs.Writing.{Writing, bytes_of, bytes, head_entry, node_entry, rule_entry, many, link_after, entry_for, book_of, book_length, writing, written_into}
use Rattle.book.proofs.Records.{length_bytes}

-- ---- the record k
module _ (t : Table) (k : ℕ) where
  pub head_for : k ≡ 0 → entry_for t k ≡ head_entry (link_after t k)
  head_for e = rw (eq-eqb k 0 e)

  pub node_for : ¬ (k ≡ 0) → k ≤ t.node_count → entry_for t k ≡ node_entry (node_at t (k - 1)) (link_after t k)
  node_for n h = rw (ne_eqb k 0 n, le-leb k t.node_count h)

  pub rule_for : t.node_count < k → entry_for t k ≡ rule_entry (rule_at t (k - 1 - t.node_count)) (link_after t k)
  rule_for h = rw (ne_eqb k 0 (omega arith), lt-leb k t.node_count h)

  -- what the head, each node and each rule has there, the record has
  pub entry_by : (P : Entry → Type 0) → P (head_entry (link_after t k)) → ((p : ℕ) → p < t.node_count → P (node_entry (node_at t p) (link_after t k)))
      → ((q : ℕ) → q < t.rule_count → P (rule_entry (rule_at t q) (link_after t k))) → k ≤ many t → P (entry_for t k)
  entry_by P head node rule h = go (eqb k 0) refl (leb k t.node_count) refl
    where
      go : (a : Bool) → eqb k 0 ≡ a → (b : Bool) → leb k t.node_count ≡ b
          → P (pick a (head_entry (link_after t k)) (pick b (node_entry (node_at t (k - 1)) (link_after t k)) (rule_entry (rule_at t (k - 1 - t.node_count)) (link_after t k))))
      go true e b f = head
      go false e true f = node (k - 1) (omega (arith, eqb-false k 0 e, leb-true k t.node_count f))
      go false e false f = rule (k - 1 - t.node_count) (omega (arith, leb-false k t.node_count f))

  pub next_for : k ≤ many t → (entry_for t k).next ≡ link_after t k
  next_for = entry_by (λ e. e.next ≡ link_after t k) refl (λ p l. refl) (λ q l. refl)

-- ---- the operands of a node, and what a rule watches
pub operands_small : (t : Table) → Sound t → (p : ℕ) → p < t.node_count → ((node_at t p).left < 64) × ((node_at t p).right < 64)
operands_small t z p h =
    let f = z.node p h in
    let l : p ≤ 64 = omega (arith, z.few_nodes) in
    (field_below 64 f.left l (omega arith), field_below 64 f.right l (omega arith))

pub watched_small : (t : Table) → Sound t → (q : ℕ) → q < t.rule_count → (rule_at t q).watched < 64
watched_small t z q h = omega (arith, (z.rule q h).watched, z.few_nodes)

-- ---- the bytes of a record, over a part of the output
pub entry_put : (xs : List ℕ) {b : List ℕ} (at : ℕ) (e : Entry) → b ≡ bytes_of e [] → put_mid at (at + 12 - at) xs b ≡ take at xs ++ bytes_of e (drop (at + 12) xs)
entry_put xs {b} at e same =
    put_mid-paste at (at + 12 - at) xs b (bytes_of e []) 12 same (omega arith) refl ∙ append_assoc (take at xs) (bytes_of e []) (drop (at + 12) xs)

-- ---- the loop over the records: the first k records stand where they should, and behind them what stood there
bytes_snoc : (es : List Entry) (e : Entry) (s : List ℕ) → bytes (es ++ (e ∷ [])) ++ s ≡ bytes es ++ bytes_of e s
bytes_snoc [] e s = refl
bytes_snoc (x ∷ es) e s = ap (bytes_of x) (bytes_snoc es e s)

long_bytes : (f : ℕ → Entry) (k : ℕ) → length (bytes (ticks f k)) ≡ 12 * k
long_bytes f k = length_bytes (ticks f k) ∙ ap (λ (n : ℕ). 12 * n) (length_ticks f k)

module _ (f : ℕ → Entry) (xs : List ℕ) where
  pub record Put (out : List ℕ) (k : ℕ) : Type 0 where
    pub is : out ≡ bytes (ticks f k) ++ drop (12 * k) xs
    pub long : length out ≡ length xs

  pub put_none : Put xs 0
  put_none = record { is = refl; long = refl }

  pub put_more : {out last : List ℕ} {e : Entry} (k : ℕ) → 12 * (k + 1) ≤ length xs → e ≡ f k
      → last ≡ take (12 * k) out ++ bytes_of e (drop (12 * k + 12) out) → Put out k → Put last (k + 1)
  put_more {out} {last} {e} k h same put p =
      let before : List ℕ = bytes (ticks f k) in
      let a : take (12 * k) out ≡ before = ap (take (12 * k)) p.is ∙ take_at before (drop (12 * k) xs) (12 * k) (long_bytes f k) in
      let b : drop (12 * k + 12) out ≡ drop (12 * k + 12) xs = ap (drop (12 * k + 12)) p.is ∙ drop_past before xs (12 * k) (long_bytes f k) 12 in
      let c : 12 * k + 12 ≡ 12 * (k + 1) = omega arith in
      let is : last ≡ bytes (ticks f (k + 1)) ++ drop (12 * (k + 1)) xs =
      put ∙ ap (λ (l : List ℕ). l ++ bytes_of e (drop (12 * k + 12) out)) a ∙ ap (λ (l : List ℕ). before ++ bytes_of e l) (b ∙ ap (λ (n : ℕ). drop n xs) c)
      ∙ ap (λ (x : Entry). before ++ bytes_of x (drop (12 * (k + 1)) xs)) same
      ∙ sym (bytes_snoc (ticks f k) (f k) (drop (12 * (k + 1)) xs))
      ∙ ap (λ (l : List Entry). bytes l ++ drop (12 * (k + 1)) xs) (sym (ticks_snoc f k))
      ∙ ap (λ (n : ℕ). bytes (ticks f n) ++ drop (12 * (k + 1)) xs) (sym (add-one k)) in
      record { is = is; long = ap length is ∙ length_past (bytes (ticks f (k + 1))) xs (12 * (k + 1)) (long_bytes f (k + 1)) h }

-- all of them are the book
pub length_book : (t : Table) → length (book_of t) ≡ book_length t
unfolding book_of
length_book t = long_bytes (entry_for t) (suc (many t)) ∙ omega arith

pub all_put : (t : Table) (xs : List ℕ) {out : List ℕ} (k : ℕ) → k ≡ 1 + many t → Put (entry_for t) xs out k → out ≡ book_of t ++ drop (book_length t) xs
unfolding book_of
all_put t xs {out} k e p =
    let n : k ≡ suc (many t) = omega arith in
    let m : 12 * suc (many t) ≡ book_length t = omega arith in
    (rw n at p.is) ∙ ap (λ (i : ℕ). bytes (ticks (entry_for t) (suc (many t))) ++ drop i xs) m

-- ---- the answers of `write`
module _ (t : Table) (out : List ℕ) where
  pub unsound_written : is_sound t ≡ false → (◌≡◌ {A = Writing} (record { number = 25; length = 0 }) (writing t (length out))) × (out ≡ written_into t out)
  unfolding writing written_into
  unsound_written e = (rw e, rw e)

  pub short_written : is_sound t ≡ true → length out < book_length t → (◌≡◌ {A = Writing} (record { number = 34; length = 0 }) (writing t (length out))) × (out ≡ written_into t out)
  unfolding writing written_into
  short_written e h = let b = lt-ltb (length out) (book_length t) h in (rw (e, b), rw (e, b))

  pub whole_written : {last : List ℕ} → is_sound t ≡ true → book_length t ≤ length out → last ≡ book_of t ++ drop (book_length t) out
      → (◌≡◌ {A = Writing} (record { number = 0; length = book_length t }) (writing t (length out))) × (last ≡ written_into t out)
  unfolding writing written_into
  whole_written e h p = let b = le-ltb (length out) (book_length t) h in (rw (e, b), rw (e, b) p)
