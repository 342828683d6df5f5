-- Tables to bytes and back: `read-written`, that a sound table is what its bytes hold; `bytes_back`, that bytes which hold one are its bytes. Assumes
-- nothing.
use Prim.Native.Nat.{ℕ, zero, suc, ◌+◌, ◌-◌, ◌*◌, ◌/◌, ◌%◌, ◌≤◌, ◌<◌}
use native.Mathlib.Omega.{arith}
use mathlib.Core.Path.{◌≡◌, refl, sym, ap, subst, ◌∙◌}
use mathlib.Core.Bool.{true, false, and_assoc, and-true}
use mathlib.Core.Logic.{⊎_elim}
use mathlib.Core.List.{List, ◌++◌, append-nil, append_assoc}
use borrow.Author.Tests.{lt-ltb, le-ltb, le-leb, lt-leb, eqb-true, eq-eqb}
use borrow.Rule.Slice.PartMut.{put_mid}
use lib.Dec.{eqb}
use lib.ListN.{length, get_or, take, drop, set, take-append-drop, length-append, drop_of_length-le, get_or-append}
use lib.Seq.{ext_get_or, get_or-take, length-take-le, take-take, take_at}
use Rattle.lists.specs.Sequence.{ticks, pair_at}
use Rattle.lists.proofs.Tests.{true_left, true_right, true_or_false, lt_or_le, ◌also◌}
use Rattle.lists.proofs.Loops.{Over, over_start, over_more}
use Rattle.lists.proofs.Sequences.{length_ticks, get_or_ticks, ticks_add, ticks_ext, drop_past, length_past}
use Rattle.std.specs.List.{list_all, range_with_len}
use Rattle.std.specs.Array.{IsFromFnResult, IsFromFnResultFrom}
use Rattle.std.specs.Fn.{Called}
use denote.Param.Members.{Mut}
use Rattle.std.proofs.lemmas.List.Edits.{paste_all}
use Rattle.std.proofs.lemmas.Slice.{put_mid-paste}
use Rattle.table.specs.declared.Node.{Node}
use Rattle.table.specs.declared.Rule.{Rule}
use Rattle.table.specs.declared.Table.{Table}
use Rattle.table.specs.Nodes.{no_node, no_rule, no_table, node_at, rule_at}
use Rattle.table.specs.Sound.{Sound}
use Rattle.flat.specs.Flat.{node_byte, rule_byte, table_byte, bytes_holding, written, byte_at, node_from, rule_from, unpadded, table_from}

-- the bytes behind the rules, rule by rule
pub unpadded_all : (b : List ℕ) → list_all (λ i. eqb (byte_at b (517 + 4 * i)) 0) (range_with_len 0 8) ≡ unpadded b
unpadded_all b = simp (and_assoc, and-true) refl

-- ---- the answers of `read_table`
module _ (b : List ℕ) where
  pub from_short : length b < 546 → no_table ≡ table_from b
  unfolding table_from
  from_short h = simp (lt-leb 546 (length b) h)

  pub from_padded : 546 ≤ length b → unpadded b ≡ false → no_table ≡ table_from b
  unfolding table_from
  from_padded h e = simp (le-leb 546 (length b) h, e)

  pub from_bytes : 546 ≤ length b → unpadded b ≡ true
      → ◌≡◌ {A = Table} (record { nodes = ticks (node_from b) 64; node_count = byte_at b 0; rules = ticks (rule_from b) 8; rule_count = byte_at b 1 }) (table_from b)
  unfolding table_from
  from_bytes h e = simp (le-leb 546 (length b) h, e)

-- the table stands in the first 546 bytes
module _ (b c : List ℕ) (e : take 546 b ≡ take 546 c) where
  same_byte : (j : ℕ) → j < 546 → byte_at b j ≡ byte_at c j
  same_byte j h = sym (get_or-take 546 b j 0 h) ∙ ap (λ (l : List ℕ). get_or l j 0) e ∙ get_or-take 546 c j 0 h

  same_node_lem : (i : ℕ) → i < 64 → node_from b i ≡ node_from c i
  same_node_lem i h =
      rw (same_byte (2 + 8 * i) (omega arith), same_byte (2 + 8 * i + 1) (omega arith), same_byte (2 + 8 * i + 2) (omega arith), same_byte (2 + 8 * i + 2 + 1) (omega arith), same_byte (2 + 8 * i + 4) (omega arith), same_byte (2 + 8 * i + 4 + 1) (omega arith), same_byte (2 + 8 * i + 6) (omega arith), same_byte (2 + 8 * i + 7) (omega arith))

  same_rule : (i : ℕ) → i < 8 → rule_from b i ≡ rule_from c i
  same_rule i h =
      rw (same_byte (514 + 4 * i) (omega arith), same_byte (514 + 4 * i + 1) (omega arith), same_byte (514 + 4 * i + 2) (omega arith))

  same_padding : unpadded b ≡ unpadded c
  same_padding =
      rw (same_byte 517 (omega arith), same_byte 521 (omega arith), same_byte 525 (omega arith), same_byte 529 (omega arith), same_byte 533 (omega arith), same_byte 537 (omega arith), same_byte 541 (omega arith), same_byte 545 (omega arith))

  pub same_table : 546 ≤ length b → 546 ≤ length c → table_from b ≡ table_from c
  unfolding table_from
  same_table h k =
      rw (le-leb 546 (length b) h, le-leb 546 (length c) k, same_padding, ticks_ext (node_from b) (node_from c) 64 same_node_lem, ticks_ext (rule_from b) (rule_from c) 8 same_rule, same_byte 0 (omega arith), same_byte 1 (omega arith))

-- ---- the first 546 bytes hold what all hold
module _ (b p : List ℕ) (h : 546 ≤ length b) (e : p ≡ take 546 b) where
  long : 546 ≤ length p
  long = omega (arith, ap length e, length-take-le 546 b h)

  all_hold : table_from p ≡ table_from b
  all_hold = same_table p b (ap (take 546) e ∙ take-take 546 546 b (omega arith)) long h

  pub first_padded : unpadded p ≡ false → no_table ≡ table_from b
  first_padded u = from_padded p long u ∙ all_hold

  pub first_bytes : unpadded p ≡ true
      → ◌≡◌ {A = Table} (record { nodes = ticks (node_from p) 64; node_count = byte_at p 0; rules = ticks (rule_from p) 8; rule_count = byte_at p 1 }) (table_from b)
  first_bytes u = from_bytes p long u ∙ all_hold

-- ---- a table's bytes: byte k of node i, and of rule i
module _ (t : Table) (i k j : ℕ) where
  node_byte_lem : i < 64 → k < 8 → j ≡ 2 + 8 * i + k → table_byte t j ≡ node_byte (node_at t i) k
  node_byte_lem h l e =
      let p : (j - 2) / 8 ≡ i = omega arith in
      let q : (j - 2) % 8 ≡ k = omega arith in
      simp (le-ltb j 2 (omega arith), lt-ltb j 514 (omega arith), p, q)

  rule_byte_lem : i < 8 → k < 4 → j ≡ 514 + 4 * i + k → table_byte t j ≡ rule_byte (rule_at t i) k
  rule_byte_lem h l e =
      let p : (j - 514) / 4 ≡ i = omega arith in
      let q : (j - 514) % 4 ≡ k = omega arith in
      simp (le-ltb j 2 (omega arith), le-ltb j 514 (omega arith), p, q)

-- ---- `write_table`, a node or a rule at a time
module _ (f : ℕ → ℕ) (xs : List ℕ) where
  -- the first i places hold f already
  pub over_from : (i : ℕ) → take i xs ≡ ticks f i → Over f xs xs i
  over_from i e = record { is = sym (take-append-drop i xs) ∙ ap (λ (l : List ℕ). l ++ drop i xs) e; long = refl }

  pub over_take : {out : List ℕ} (i : ℕ) → Over f xs out i → take i out ≡ ticks f i
  over_take i o = ap (take i) o.is ∙ take_at (ticks f i) (drop i xs) i (length_ticks f i)

  -- all places are written
  pub over_all : {out : List ℕ} (i : ℕ) → length xs ≡ i → Over f xs out i → out ≡ ticks f i
  over_all i e o = o.is ∙ ap (λ (r : List ℕ). ticks f i ++ r) (drop_of_length-le xs {i = i} (omega arith)) ∙ append-nil (ticks f i)

  -- m places more are written
  pub over_on : {out last : List ℕ} (i m : ℕ) → i + m ≤ length xs → Over f xs out i → last ≡ ticks f (i + m) ++ drop (i + m) out
      → Over f xs last (i + m)
  over_on {out} {last} i m h o e =
      let d : drop (i + m) out ≡ drop (i + m) xs = ap (drop (i + m)) o.is ∙ drop_past (ticks f i) xs i (length_ticks f i) m in
      let is : last ≡ ticks f (i + m) ++ drop (i + m) xs = e ∙ ap (λ (l : List ℕ). ticks f (i + m) ++ l) d in
      record { is = is; long = ap length is ∙ length_past (ticks f (i + m)) xs (i + m) (length_ticks f (i + m)) h }

  -- k places more are copied
  over_part : {out mid : List ℕ} {j : ℕ} (i k : ℕ) → i + k ≤ length xs → j ≡ k → mid ≡ ticks (λ m. f (i + m)) k → Over f xs out i
      → Over f xs (put_mid i j out mid) (i + k)
  over_part {out} {mid} {j} i k h e m o =
      let l : k ≡ length mid = rw m (sym (length_ticks (λ n. f (i + n)) k)) in
      let t : take i out ++ mid ≡ ticks f (i + k) =
      ap (λ (y : List ℕ). y ++ mid) (over_take i o) ∙ ap (λ (y : List ℕ). ticks f i ++ y) m ∙ sym (ticks_add f i k) in
      over_on i k h o
      (put_mid-paste i j out mid mid k refl (sym e) l ∙ paste_all out i mid k l ∙ sym (append_assoc (take i out) mid (drop (i + k) out))
      ∙ ap (λ (y : List ℕ). y ++ drop (i + k) out) t)

module _ (t : Table) (xs : List ℕ) (h : 546 ≤ length xs) where
  abbrev counted : List ℕ
  counted = set (set xs 0 (t.node_count % 256)) 1 (t.rule_count % 256)

  pub counts_put : Over (table_byte t) xs counted 2
  counts_put = over_more _ xs _ 1 (omega arith) refl (over_more _ xs xs 0 (omega arith) refl (over_start _ xs))

  pub nodes_put : {out : List ℕ} → out ≡ ticks (table_byte t) 514 ++ drop 514 counted → Over (table_byte t) xs out 514
  nodes_put e = over_on (table_byte t) xs 2 512 (omega arith) counts_put e

  module _ (i : ℕ) {out mid : List ℕ} where
    pub node_put : {j : ℕ} → i < 64 → j ≡ 8 → mid ≡ ticks (node_byte (node_at t i)) 8
        → Over (table_byte t) xs out (2 + 8 * i) → Over (table_byte t) xs (put_mid (2 + 8 * i) j out mid) (2 + 8 * (i + 1))
    node_put {j} l e m o =
        let k : 2 + 8 * i + 8 ≡ 2 + 8 * (i + 1) = omega arith in
        let b : mid ≡ ticks (λ k. table_byte t (2 + 8 * i + k)) 8 =
        m ∙ ticks_ext (node_byte (node_at t i)) (λ k. table_byte t (2 + 8 * i + k)) 8 (λ k h. sym (node_byte_lem t i k (2 + 8 * i + k) l h refl)) in
        subst (λ (n : ℕ). Over (table_byte t) xs (put_mid (2 + 8 * i) j out mid) n) k
        (over_part (table_byte t) xs (2 + 8 * i) 8 (omega arith) e b o)

    pub rule_put : {j : ℕ} → i < 8 → j ≡ 4 → mid ≡ ticks (rule_byte (rule_at t i)) 4
        → Over (table_byte t) xs out (514 + 4 * i) → Over (table_byte t) xs (put_mid (514 + 4 * i) j out mid) (514 + 4 * (i + 1))
    rule_put {j} l e m o =
        let k : 514 + 4 * i + 4 ≡ 514 + 4 * (i + 1) = omega arith in
        let b : mid ≡ ticks (λ k. table_byte t (514 + 4 * i + k)) 4 =
        m ∙ ticks_ext (rule_byte (rule_at t i)) (λ k. table_byte t (514 + 4 * i + k)) 4 (λ k h. sym (rule_byte_lem t i k (514 + 4 * i + k) l h refl)) in
        subst (λ (n : ℕ). Over (table_byte t) xs (put_mid (514 + 4 * i) j out mid) n) k
        (over_part (table_byte t) xs (514 + 4 * i) 4 (omega arith) e b o)

-- ---- a sound table's bytes
module _ (t : Table) (rest : List ℕ) where
  abbrev bytes : List ℕ
  bytes = bytes_holding t ++ rest

  at : (j : ℕ) → j < 546 → byte_at bytes j ≡ table_byte t j
  at j h = get_or-append (bytes_holding t) rest 0 j (omega (arith, length_ticks (table_byte t) 546)) ∙ get_or_ticks (table_byte t) 546 j 0 h

  in_node : (i k j : ℕ) → i < 64 → k < 8 → j ≡ 2 + 8 * i + k → byte_at bytes j ≡ node_byte (node_at t i) k
  in_node i k j h l e = at j (omega arith) ∙ node_byte_lem t i k j h l e

  in_rule : (i k j : ℕ) → i < 8 → k < 4 → j ≡ 514 + 4 * i + k → byte_at bytes j ≡ rule_byte (rule_at t i) k
  in_rule i k j h l e = at j (omega arith) ∙ rule_byte_lem t i k j h l e

  node_back : (i : ℕ) → i < 64 → node_from bytes i ≡ node_at t i
  node_back i h =
      let n : Node = node_at t i in
      let k : byte_at bytes (2 + 8 * i) ≡ n.kind = in_node i 0 (2 + 8 * i) h (omega arith) (omega arith) in
      let a : byte_at bytes (2 + 8 * i + 1) ≡ n.arg = in_node i 1 (2 + 8 * i + 1) h (omega arith) refl in
      let lo : pair_at bytes (2 + 8 * i + 2) ≡ n.lo =
      omega (arith, in_node i 2 (2 + 8 * i + 2) h (omega arith) refl, in_node i 3 (2 + 8 * i + 2 + 1) h (omega arith) (omega arith)) in
      let hi : pair_at bytes (2 + 8 * i + 4) ≡ n.hi =
      omega (arith, in_node i 4 (2 + 8 * i + 4) h (omega arith) refl, in_node i 5 (2 + 8 * i + 4 + 1) h (omega arith) (omega arith)) in
      let l : byte_at bytes (2 + 8 * i + 6) ≡ n.left = in_node i 6 (2 + 8 * i + 6) h (omega arith) refl in
      let r : byte_at bytes (2 + 8 * i + 7) ≡ n.right = in_node i 7 (2 + 8 * i + 7) h (omega arith) refl in
      λ x. record { kind = k x; arg = a x; lo = lo x; hi = hi x; left = l x; right = r x }

  rule_back : (i : ℕ) → i < 8 → rule_from bytes i ≡ rule_at t i
  rule_back i h =
      let r : Rule = rule_at t i in
      let n : pair_at bytes (514 + 4 * i) ≡ r.name =
      omega (arith, in_rule i 0 (514 + 4 * i) h (omega arith) (omega arith), in_rule i 1 (514 + 4 * i + 1) h (omega arith) refl) in
      let w : byte_at bytes (514 + 4 * i + 2) ≡ r.watched = in_rule i 2 (514 + 4 * i + 2) h (omega arith) refl in
      λ x. record { name = n x; watched = w x }

  unpadded_back : unpadded bytes ≡ true
  unpadded_back = zero 0 (omega arith) also zero 1 (omega arith) also zero 2 (omega arith) also zero 3 (omega arith)
      also zero 4 (omega arith) also zero 5 (omega arith) also zero 6 (omega arith) also zero 7 (omega arith)
    where
      zero : (i : ℕ) → i < 8 → eqb (byte_at bytes (514 + 4 * i + 3)) 0 ≡ true
      zero i h = eq-eqb (byte_at bytes (514 + 4 * i + 3)) 0 (in_rule i 3 (514 + 4 * i + 3) h (omega arith) refl)

  pub read_written : Sound t → table_from bytes ≡ t
  read_written s =
      let l : 546 ≤ length bytes = omega (arith, length-append (bytes_holding t) rest, length_ticks (table_byte t) 546) in
      let ns : ticks (node_from bytes) 64 ≡ t.nodes =
      ext_get_or no_node (ticks (node_from bytes) 64) t.nodes (length_ticks (node_from bytes) 64 ∙ sym s.places)
      (λ i h. let k : i < 64 = omega (arith, length_ticks (node_from bytes) 64) in get_or_ticks (node_from bytes) 64 i no_node k ∙ node_back i k) in
      let rs : ticks (rule_from bytes) 8 ≡ t.rules =
      ext_get_or no_rule (ticks (rule_from bytes) 8) t.rules (length_ticks (rule_from bytes) 8 ∙ sym s.rule_places)
      (λ i h. let k : i < 8 = omega (arith, length_ticks (rule_from bytes) 8) in get_or_ticks (rule_from bytes) 8 i no_rule k ∙ rule_back i k) in
      let nc : byte_at bytes 0 ≡ t.node_count = omega (arith, at 0 (omega arith), s.few_nodes) in
      let rc : byte_at bytes 1 ≡ t.rule_count = omega (arith, at 1 (omega arith), s.few_rules) in
      sym (from_bytes bytes l unpadded_back) ∙ (λ x. record { nodes = ns x; node_count = nc x; rules = rs x; rule_count = rc x })

  -- a buffer after `write_table`
  pub written_is : 546 ≤ length rest → written t rest ≡ bytes_holding t ++ drop 546 rest
  unfolding written
  written_is h = simp (le-leb 546 (length rest) h)

module _ (t : Table) (b : List ℕ) (h : 546 ≤ length b) where
  pub length_written : length (written t b) ≡ length b
  length_written =
      ap length (written_is t b h) ∙ length_past (bytes_holding t) b 546 (length_ticks (table_byte t) 546) h

  pub written_all : length b ≡ 546 → written t b ≡ bytes_holding t
  written_all e = written_is t b h ∙ ap (λ (r : List ℕ). bytes_holding t ++ r) (drop_of_length-le b {i = 546} (omega arith)) ∙ append-nil (bytes_holding t)

  pub table_back : Sound t → table_from (written t b) ≡ t
  table_back s = ap table_from (written_is t b h) ∙ read_written t (drop 546 b) s

-- ---- bytes that hold a table are its bytes
low : (x y : ℕ) → x < 256 → (x + 256 * y) % 256 ≡ x
low x y h = omega arith

high : (x y : ℕ) → x < 256 → (x + 256 * y) / 256 ≡ y
high x y h = omega arith

sound_unpadded : (b : List ℕ) → 546 ≤ length b → Sound (table_from b) → unpadded b ≡ true
sound_unpadded b h z =
    ⊎_elim (λ e. e) (λ e. let n : Sound no_table = subst Sound (sym (from_padded b h e)) z in absurd (omega (arith, n.some_rule)))
    (true_or_false (unpadded b))

module _ (b : List ℕ) (byte : (j : ℕ) → j < 546 → byte_at b j < 256) where
  node_in : (i k : ℕ) → i < 64 → k < 8 → node_byte (node_from b i) k ≡ byte_at b (2 + 8 * i + k)
  node_in i zero h l = ap (byte_at b) (omega arith)
  node_in i (suc zero) h l = refl
  node_in i (suc (suc zero)) h l = low _ (byte_at b (2 + 8 * i + 2 + 1)) (byte (2 + 8 * i + 2) (omega arith))
  node_in i (suc (suc (suc zero))) h l = high (byte_at b (2 + 8 * i + 2)) _ (byte (2 + 8 * i + 2) (omega arith)) ∙ ap (byte_at b) (omega arith)
  node_in i (suc (suc (suc (suc zero)))) h l = low _ (byte_at b (2 + 8 * i + 4 + 1)) (byte (2 + 8 * i + 4) (omega arith))
  node_in i (suc (suc (suc (suc (suc zero))))) h l = high (byte_at b (2 + 8 * i + 4)) _ (byte (2 + 8 * i + 4) (omega arith)) ∙ ap (byte_at b) (omega arith)
  node_in i (suc (suc (suc (suc (suc (suc zero)))))) h l = refl
  node_in i (suc (suc (suc (suc (suc (suc (suc zero))))))) h l = refl
  node_in i (suc (suc (suc (suc (suc (suc (suc (suc k)))))))) h l = absurd (omega arith)

  -- the byte behind a rule is zero
  behind : unpadded b ≡ true → (i : ℕ) → i < 8 → byte_at b (514 + 4 * i + 3) ≡ 0
  behind u zero h = eqb-true _ 0 (search (true_left, true_right) depth 12)
  behind u (suc zero) h = eqb-true _ 0 (search (true_left, true_right) depth 12)
  behind u (suc (suc zero)) h = eqb-true _ 0 (search (true_left, true_right) depth 12)
  behind u (suc (suc (suc zero))) h = eqb-true _ 0 (search (true_left, true_right) depth 12)
  behind u (suc (suc (suc (suc zero)))) h = eqb-true _ 0 (search (true_left, true_right) depth 12)
  behind u (suc (suc (suc (suc (suc zero))))) h = eqb-true _ 0 (search (true_left, true_right) depth 12)
  behind u (suc (suc (suc (suc (suc (suc zero)))))) h = eqb-true _ 0 (search (true_left, true_right) depth 12)
  behind u (suc (suc (suc (suc (suc (suc (suc zero))))))) h = eqb-true _ 0 (search (true_left, true_right) depth 12)
  behind u (suc (suc (suc (suc (suc (suc (suc (suc i)))))))) h = absurd (omega arith)

  rule_in : unpadded b ≡ true → (i k : ℕ) → i < 8 → k < 4 → rule_byte (rule_from b i) k ≡ byte_at b (514 + 4 * i + k)
  rule_in u i zero h l = low _ (byte_at b (514 + 4 * i + 1)) (byte (514 + 4 * i) (omega arith)) ∙ ap (byte_at b) (omega arith)
  rule_in u i (suc zero) h l = high (byte_at b (514 + 4 * i)) _ (byte (514 + 4 * i) (omega arith))
  rule_in u i (suc (suc zero)) h l = refl
  rule_in u i (suc (suc (suc zero))) h l = sym (behind u i h)
  rule_in u i (suc (suc (suc (suc k)))) h l = absurd (omega arith)

  -- the table as the bytes hold it
  abbrev held : Table
  held = record { nodes = ticks (node_from b) 64; node_count = byte_at b 0; rules = ticks (rule_from b) 8; rule_count = byte_at b 1 }

  count_byte : (j : ℕ) → j < 2 → table_byte held j ≡ byte_at b j
  count_byte zero h = omega (arith, byte 0 (omega arith))
  count_byte (suc zero) h = omega (arith, byte 1 (omega arith))
  count_byte (suc (suc j)) h = absurd (omega arith)

  held_byte : unpadded b ≡ true → (j : ℕ) → j < 546 → table_byte held j ≡ byte_at b j
  held_byte u j h =
      ⊎_elim (λ c. count_byte j c)
      (λ c. ⊎_elim
      (λ d.
      let i : ℕ = (j - 2) / 8 in
      let k : ℕ = (j - 2) % 8 in
      let e : j ≡ 2 + 8 * i + k = omega arith in
      node_byte_lem held i k j (omega arith) (omega arith) e ∙ ap (λ (n : Node). node_byte n k) (get_or_ticks (node_from b) 64 i no_node (omega arith))
      ∙ node_in i k (omega arith) (omega arith) ∙ ap (byte_at b) (sym e))
      (λ d.
      let i : ℕ = (j - 514) / 4 in
      let k : ℕ = (j - 514) % 4 in
      let e : j ≡ 514 + 4 * i + k = omega arith in
      rule_byte_lem held i k j (omega arith) (omega arith) e ∙ ap (λ (r : Rule). rule_byte r k) (get_or_ticks (rule_from b) 8 i no_rule (omega arith))
      ∙ rule_in u i k (omega arith) (omega arith) ∙ ap (byte_at b) (sym e))
      (lt_or_le j 514)) (lt_or_le j 2)

  -- THE LAW: bytes that hold a sound table are what `write_table` writes
  pub bytes_back : length b ≡ 546 → Sound (table_from b) → bytes_holding (table_from b) ≡ b
  bytes_back size z =
      let u = sound_unpadded b (omega arith) z in
      ap bytes_holding (sym (from_bytes b (omega arith) u))
      ∙ ext_get_or 0 (bytes_holding held) b (length_ticks (table_byte held) 546 ∙ sym size)
      (λ j h. let l : j < 546 = omega (arith, length_ticks (table_byte held) 546) in get_or_ticks (table_byte held) 546 j 0 l ∙ held_byte u j l)

-- ---- an array that a function of the place made
module _ {F B : Type 0} (g : Mut F (ℕ × Unit {0}) B) (h : ℕ → B) (f : F) (ys : List B) (d : B)
    (step : (i : ℕ) (y : B) (q : F) → Called g f (i, tt) y q → (q ≡ f) × (y ≡ h i)) where
  made_from : (i n : ℕ) (p : F) → p ≡ f → IsFromFnResultFrom g p ys i n → (k : ℕ) → i ≤ k → k < i + n → get_or ys k d ≡ h k
  made_from i zero p e r k a b = absurd (omega arith)
  made_from i (suc n) p e (q, y, at, called, more) k a b =
      let s = step i y q (subst (λ (u : F). Called g u (i, tt) y q) e called) in
      ⊎_elim (λ (l : i < k). made_from (i + 1) n q s.0 more k (omega arith) (omega arith))
      (λ (l : k ≤ i). let z : k ≡ i = omega arith in rw z (at.1 d ∙ s.1))
      (lt_or_le i k)

  pub made_ticks : (n : ℕ) → IsFromFnResult g f ys n → ys ≡ ticks h n
  made_ticks n r =
      ext_get_or d ys (ticks h n) (r.long ∙ sym (length_ticks h n))
      (λ k l. made_from 0 n f refl r.each k (omega arith) (omega (arith, r.long)) ∙ sym (get_or_ticks h n k d (omega (arith, r.long))))
