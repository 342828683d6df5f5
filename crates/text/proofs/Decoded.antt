-- The tape read back, and the nodes that it holds. Assumes nothing.
use Prim.Native.Nat.{ℕ, zero, suc, ◌+◌, ◌*◌, ◌-◌, ◌≤◌, ◌<◌, min}
use native.Mathlib.Numerals.{add-one}
use native.Mathlib.Omega.{arith}
use mathlib.Core.Path.{◌≡◌, refl, sym, ap, ap₂, ◌∙◌}
use mathlib.Core.Logic.{⊎_elim}
use mathlib.Core.Bool.{Bool, true, false}
use mathlib.Core.List.{List, [], ◌∷◌, ◌++◌, map, append_assoc, append-nil}
use lib.Dec.{eqb}
use lib.ListN.{length, get_or, take, set, length-set}
use lib.Seq.{get_or-set_same, get_or-set_other, take-nil}
use borrow.Author.Tests.{eqb-true, lt-ltb, le-ltb, leb-false, lt-leb}
use Rattle.limits.specs.Limits.{max_name}
use Rattle.lists.specs.Choice.{pick}
use Rattle.lists.proofs.Rows.{no_row}
use Rattle.lists.proofs.Sequences.{ticks_ext, ticks_snoc}
use Rattle.lists.proofs.Tests.{lt_or_le}
use Rattle.mltl.specs.Mltl.{Formula}
use Rattle.table.specs.declared.Node.{Node}
use Rattle.table.specs.declared.Table.{Table}
use Rattle.builder.specs.Adding.{Added, add_node_rows, adding_node, adding_rule}
use Rattle.builder.proofs.Holding.{node_number, node_taken}
use Rattle.grammar.specs.declared.Item.{Item}
use Rattle.grammar.specs.declared.Made.{Made}
use Rattle.grammar.specs.Machine.{item}
use Rattle.grammar.specs.Made.{made, nodes_of, spread_on, spread}
use Rattle.grammar.specs.Images.{held, item_m}
use Rattle.grammar.specs.Tape.{Tape, tape, with_cells, emitted}
use Rattle.text.specs.Typing.{in_byte, in_two_bytes, node_of, name_held, grown, ruled, line_added, made_at, mades_of}
use Rattle.text.proofs.Forms.{Formed, Forms, none, more, formula_forms, take_forms}

-- a node from five numbers
abbrev five : ℕ → ℕ → ℕ → ℕ → ℕ → Made
five a b d e f = made (item (in_byte a) b d e) f

five_is : {a b d e f a' b' d' e' f' : ℕ} → a ≡ a' → b ≡ b' → d ≡ d' → e ≡ e' → f ≡ f' → five a b d e f ≡ five a' b' d' e' f'
five_is p q r s t = cc

-- ---- the cells of a node
module _ (c : List ℕ) (i : ℕ) (it : Item) (l : ℕ) where
  abbrev c1 : List ℕ
  c1 = set c i it.kind

  abbrev c2 : List ℕ
  c2 = set c1 (i + 1) it.arg

  abbrev c3 : List ℕ
  c3 = set c2 (i + 2) it.lo

  abbrev c4 : List ℕ
  c4 = set c3 (i + 3) it.hi

  abbrev c5 : List ℕ
  c5 = with_cells c i it l

  kept : length c5 ≡ length c
  kept = simp length-set

  -- what stands before a cell that is written stays
  till_4 : (j : ℕ) → j < i + 4 → get_or c5 j 0 ≡ get_or c4 j 0
  till_4 j h = get_or-set_other c4 (i + 4) j l 0 (λ e. omega arith)

  till_3 : (j : ℕ) → j < i + 3 → get_or c5 j 0 ≡ get_or c3 j 0
  till_3 j h = till_4 j (omega arith) ∙ get_or-set_other c3 (i + 3) j it.hi 0 (λ e. omega arith)

  till_2 : (j : ℕ) → j < i + 2 → get_or c5 j 0 ≡ get_or c2 j 0
  till_2 j h = till_3 j (omega arith) ∙ get_or-set_other c2 (i + 2) j it.lo 0 (λ e. omega arith)

  till_1 : (j : ℕ) → j < i + 1 → get_or c5 j 0 ≡ get_or c1 j 0
  till_1 j h = till_2 j (omega arith) ∙ get_or-set_other c1 (i + 1) j it.arg 0 (λ e. omega arith)

  below : (j : ℕ) → j < i → get_or c5 j 0 ≡ get_or c j 0
  below j h = till_1 j (omega arith) ∙ get_or-set_other c i j it.kind 0 (λ e. omega arith)

  module _ (h : i + 4 < length c) where
    here : five (get_or c5 i 0) (get_or c5 (i + 1) 0) (get_or c5 (i + 2) 0) (get_or c5 (i + 3) 0) (get_or c5 (i + 4) 0) ≡ five it.kind it.arg it.lo it.hi l
    here =
        let h1 : i + 1 < length c1 = simp length-set (omega arith) in
        let h2 : i + 2 < length c2 = simp length-set (omega arith) in
        let h3 : i + 3 < length c3 = simp length-set (omega arith) in
        let h4 : i + 4 < length c4 = simp length-set (omega arith) in
        five_is (till_1 i (omega arith) ∙ get_or-set_same c i it.kind 0 (omega arith))
        (till_2 (i + 1) (omega arith) ∙ get_or-set_same c1 (i + 1) it.arg 0 h1)
        (till_3 (i + 2) (omega arith) ∙ get_or-set_same c2 (i + 2) it.lo 0 h2)
        (till_4 (i + 3) (omega arith) ∙ get_or-set_same c3 (i + 3) it.hi 0 h3)
        (get_or-set_same c4 (i + 4) l 0 h4)

decode_emit : (c : List ℕ) (n : ℕ) (it : Item) (l : ℕ) → n < 65 → 325 ≤ length c
    → mades_of (with_cells c (5 * n) it l) (n + 1) ≡ mades_of c n ++ (five it.kind it.arg it.lo it.hi l ∷ [])
decode_emit c n it l h r =
    ap (λ (k : ℕ). mades_of (with_cells c (5 * n) it l) k) (add-one n)
    ∙ ticks_snoc (made_at (with_cells c (5 * n) it l)) n
    ∙ ap₂ (λ (x : List Made) (y : Made). x ++ (y ∷ []))
    (ticks_ext (made_at (with_cells c (5 * n) it l)) (made_at c) n
    (λ k g. let b = below c (5 * n) it l in
    five_is (b (5 * k) (omega arith)) (b (5 * k + 1) (omega arith)) (b (5 * k + 2) (omega arith)) (b (5 * k + 3) (omega arith)) (b (5 * k + 4) (omega arith))))
    (here c (5 * n) it l (omega arith))

-- a node as the tape holds it
abbrev cap_m : Made → Made
cap_m m = five m.it.kind (held m.it.arg) (held m.it.lo) (held m.it.hi) (min m.left 64)

-- ---- a node more on the tape, and on a full one
module _ (s : Tape) (it : Item) (l : ℕ) where
  emit_room : s.count < 65 → emitted s it l ≡ tape (with_cells s.cells (5 * s.count) it l) (s.count + 1)
  unfolding emitted
  emit_room h = rw (lt-ltb s.count 65 h)

  emit_full : 65 ≤ s.count → emitted s it l ≡ s
  unfolding emitted
  emit_full h = rw (le-ltb s.count 65 h)

  emit_length : length (emitted s it l).cells ≡ length s.cells
  emit_length =
      let size : Tape → ℕ = λ x. length x.cells in
      ⊎_elim (λ h. ap size (emit_room h) ∙ kept s.cells (5 * s.count) it l) (λ h. ap size (emit_full h)) (lt_or_le s.count 65)

-- the nodes of the tape, and those that still find room
abbrev with : Tape → List Made → List Made
with s ms = mades_of s.cells s.count ++ map cap_m (take (65 - s.count) ms)

module _ (m : Made) (ms : List Made) (s : Tape) (h : 325 ≤ length s.cells) where
  abbrev it : Item
  it = item_m m.it

  abbrev l : ℕ
  l = min m.left 64

  decode_room : s.count < 65 → with (emitted s it l) ms ≡ with s (m ∷ ms)
  decode_room r =
      let k : 65 - s.count ≡ suc (65 - (s.count + 1)) = omega arith in
      ap (λ (x : Tape). with x ms) (emit_room s it l r)
      ∙ ap (λ (x : List Made). x ++ map cap_m (take (65 - (s.count + 1)) ms)) (decode_emit s.cells s.count it l r h)
      ∙ append_assoc (mades_of s.cells s.count) (cap_m m ∷ []) (map cap_m (take (65 - (s.count + 1)) ms))
      ∙ ap (λ (n : ℕ). mades_of s.cells s.count ++ map cap_m (take n (m ∷ ms))) (sym k)

  decode_full : 65 ≤ s.count → with (emitted s it l) ms ≡ with s (m ∷ ms)
  decode_full r =
      let k : 65 - s.count ≡ 0 = omega arith in
      let nodes = mades_of s.cells s.count in
      ap (λ (x : Tape). with x ms) (emit_full s it l r)
      ∙ ap (λ (n : ℕ). nodes ++ map cap_m (take n ms)) k ∙ ap (λ (n : ℕ). nodes ++ map cap_m (take n (m ∷ ms))) (sym k)

decoded : (ms : List Made) (s : Tape) → 325 ≤ length s.cells → mades_of (spread_on s ms).cells (spread_on s ms).count ≡ with s ms
unfolding spread_on
decoded [] s h = sym (ap (λ (x : List Made). mades_of s.cells s.count ++ map cap_m x) (take-nil (65 - s.count)) ∙ append-nil (mades_of s.cells s.count))
decoded (m ∷ ms) s h =
    let it = item_m m.it in
    let l = min m.left 64 in
    decoded ms (emitted s it l) (omega (arith, emit_length s it l)) ∙ ⊎_elim (decode_room m ms s h) (decode_full m ms s h) (lt_or_le s.count 65)

-- ---- the table grows alike
small_held : (n : ℕ) → in_byte (held n) ≡ in_byte n
unfolding held
small_held n = omega arith

wide_held : (n : ℕ) → in_two_bytes (held n) ≡ in_two_bytes n
unfolding held
wide_held n = omega arith

name_held_lem : (n : ℕ) → name_held (held n) ≡ name_held n
unfolding held
name_held_lem n =
    ⊎_elim (λ l. rw (lt-leb (held n) max_name (omega arith), lt-leb n max_name (omega arith))) (λ l. let e : held n ≡ n = omega arith in rw e) (lt_or_le max_name n)

node_as : (base count k a b d l a' b' d' l' : ℕ) → in_byte a ≡ in_byte a' → in_two_bytes b ≡ in_two_bytes b' → in_two_bytes d ≡ in_two_bytes d' → min l 64 ≡ min l' 64
    → node_of base count (made (item k a b d) l) ≡ node_of base count (made (item k a' b' d') l')
node_as base count k a b d l a' b' d' l' p q r s = cc

cap_node : (base count : ℕ) (m : Made) → Formed m.it → node_of base count (cap_m m) ≡ node_of base count m
cap_node base count m f =
    let k : in_byte m.it.kind ≡ m.it.kind = omega (arith, f.node) in
    let l : min (min m.left 64) 64 ≡ min m.left 64 = omega arith in
    ap (λ (x : ℕ). node_of base count (made (item x (held m.it.arg) (held m.it.lo) (held m.it.hi)) (min m.left 64))) k
    ∙ node_as base count m.it.kind (held m.it.arg) (held m.it.lo) (held m.it.hi) (min m.left 64) m.it.arg m.it.lo m.it.hi m.left
    (small_held m.it.arg) (wide_held m.it.lo) (wide_held m.it.hi) l

grown_capped : {ms : List Made} (base : ℕ) (t : Table) → Forms ms → grown base t (map cap_m ms) ≡ grown base t ms
unfolding grown
grown_capped base t none = refl
grown_capped base t (more {m = m} {ms = ms} h k) =
    let n = node_of base t.node_count m in
    ap (λ (x : Node). pick (eqb (adding_node t x).number 0) (grown base (adding_node t x).table (map cap_m ms)) (adding_node t x))
    (cap_node base t.node_count m h)
    ∙ ap (λ (x : Added). pick (eqb (adding_node t n).number 0) x (adding_node t n)) (grown_capped base (adding_node t n).table k)

pick_same : {X : Type 0} (b : Bool) (x y z : X) → (b ≡ true → x ≡ y) → pick b x z ≡ pick b y z
pick_same true x y z f = f refl
pick_same false x y z f = refl

-- the 65th node is refused, if none before it is
grown_take : (n : ℕ) (ms : List Made) (base : ℕ) (t : Table) → 64 < t.node_count + n → 1 ≤ n → grown base t (take n ms) ≡ grown base t ms
unfolding grown
grown_take zero ms base t h l = absurd (omega arith)
grown_take (suc n) [] base t h l = refl
grown_take (suc n) (m ∷ ms) base t h l =
    let x = node_of base t.node_count m in
    pick_same (eqb (adding_node t x).number 0) _ _ _ (λ e.
    let z = eqb-true (adding_node t x).number 0 e in
    let g = leb-false 64 t.node_count (no_row (add_node_rows t x) refl (sym (node_number t x) ∙ z) 3) in
    let c = ap (λ (u : Table). u.node_count) (node_taken t x z) in
    grown_take n ms base (adding_node t x).table (omega arith) (omega arith))

-- ---- a line
pub line_decoded : (t : Table) (f : Formula) (n : ℕ) {name : ℕ} (c d : List ℕ) (k : ℕ) → 325 ≤ length c → spread c (nodes_of f) ≡ tape d k → held n ≡ name
    → line_added t name (mades_of d k) ≡ line_added t n (nodes_of f)
unfolding line_added
line_decoded t f n c d k h e g =
    let b : mades_of d k ≡ map cap_m (take 65 (nodes_of f)) = ap (λ (x : Tape). mades_of x.cells x.count) (sym e) ∙ decoded (nodes_of f) (tape c 0) h in
    let base = t.node_count in
    let a = ap (grown base t) b ∙ grown_capped base t (take_forms 65 (formula_forms f)) ∙ grown_take 65 (nodes_of f) base t (omega arith) (omega arith) in
    let u = grown base t (nodes_of f) in
    ap₂ ruled a (sym g)
    ∙ ap (λ (x : ℕ). pick (eqb u.number 0) (adding_rule u.table (record { name = x; watched = in_byte (u.table.node_count - 1) })) u) (name_held_lem n)
