-- The nodes of a formula, added to a table: taken exactly within the limits, and then the last one means the formula. Assumes nothing.
use Prim.Native.Nat.{ℕ, ◌+◌, ◌-◌, ◌≤◌, ◌<◌, max}
use native.Mathlib.Omega.{arith}
use mathlib.Core.Path.{◌≡◌, refl, sym, ap, ap₂, subst, ◌∙◌}
use mathlib.Core.Logic.{⊎_elim}
use mathlib.Core.Bool.{Bool, true, false, ◌&&◌, ◌||◌, true≢false}
use mathlib.Core.List.{List, [], ◌∷◌, ◌++◌}
use lib.Dec.{ltb, leb, eqb}
use lib.ListN.{length}
use borrow.Author.Tests.{eqb-true, eqb-false, ne_eqb, ltb-false, le-ltb, lt-leb}
use Rattle.lists.specs.Choice.{pick, ◌if◌, first}
use Rattle.lists.specs.Sequence.{among}
use Rattle.lists.proofs.Tests.{and_right, or_left, or_right, true_or_false}
use Rattle.lists.proofs.Rows.{no_row}
use Rattle.lists.proofs.Sequences.{length_snoc, chain_last, chain_old}
use Rattle.mltl.specs.Mltl.{Formula, signal, const, neg, and, or, F, G, U, R, delay_by, delay}
use Rattle.interval.specs.Parts.{bad_interval}
use Rattle.table.specs.Nodes.{Op, Unknown, Signal, Top, Bottom, Not, And, Or, Finally, Globally, Until, Release, op_of, uses_of, no_node, formula_as, formula_over, formulas, formula_at, delay_over, delays}
use Rattle.table.specs.declared.Node.{Node}
use Rattle.table.specs.declared.Rule.{Rule}
use Rattle.table.specs.declared.Table.{Table}
use Rattle.table.proofs.Delays.{delay_of_lem}
use Rattle.builder.specs.Adding.{Added, bad_signal, bad_operand, too_long, add_node_rows, adding_node}
use Rattle.builder.specs.Built.{table_holding}
use Rattle.builder.proofs.Holding.{delay_held, node_held, node_number, node_taken}
use Rattle.builder.proofs.Sound.{uses_arg, node_room, node_short}
use Rattle.grammar.specs.declared.Item.{Item}
use Rattle.grammar.specs.declared.Made.{Made}
use Rattle.grammar.specs.Machine.{item, plain_item, build}
use Rattle.grammar.specs.Made.{made, lists}
use Rattle.text.specs.Typing.{in_byte, in_two_bytes, node_of, added, grown}
use Rattle.text.specs.Accepted.{size, FitInterval, NumbersFit, longest_by, longest}
use Rattle.text.specs.Outcome.{line_faults}

-- the numbers of a line that is refused
abbrev pub Refusal : ℕ → Type 0
Refusal n = among n line_faults ≡ true

pub refused_number : {n : ℕ} → Refusal n → ¬ (n ≡ 0)
refused_number {n} r e = let z : ◌≡◌ {A = Bool} false true = rw e at r in absurd (let y : ◌≡◌ {A = ℕ} 0 1 = cc in omega arith)

-- ---- one node after the others
-- nodes behind those that answered a
abbrev behind : ℕ → Added → List Made → Added
behind base a ms = pick (eqb a.number 0) (grown base a.table ms) a

module _ (base : ℕ) where
  grown_append : (xs ys : List Made) (t : Table) → grown base t (xs ++ ys) ≡ behind base (grown base t xs) ys
  unfolding grown
  grown_append [] ys t = refl
  grown_append (x ∷ xs) ys t = go (eqb a.number 0) refl (grown_append xs ys a.table)
    where
      a : Added
      a = adding_node t (node_of base t.node_count x)

      go : (b : Bool) → eqb a.number 0 ≡ b → grown base a.table (xs ++ ys) ≡ behind base (grown base a.table xs) ys
          → pick b (grown base a.table (xs ++ ys)) a ≡ behind base (pick b (grown base a.table xs) a) ys
      go true e h = h
      go false e h = rw e

  -- a node behind those that are taken
  grown_last : (t u : Table) (ms : List Made) (m : Made) → grown base t ms ≡ added 0 u
      → grown base t (ms ++ (m ∷ [])) ≡ adding_node u (node_of base u.node_count m)
  unfolding grown
  grown_last t u ms m e =
      grown_append ms (m ∷ []) t ∙ ap (λ (a : Added). behind base a (m ∷ [])) e ∙ go (adding_node u (node_of base u.node_count m)) _ refl
    where
      go : (a : Added) (b : Bool) → eqb a.number 0 ≡ b → pick b (added 0 a.table) a ≡ a
      go a true e = ap (λ (n : ℕ). added n a.table) (sym (eqb-true a.number 0 e))
      go a false e = refl

  -- ---- nodes behind one that is refused
  record Stuck (t : Table) (b c : List Made) : Type 0 where
    same : ¬ ((grown base t b).number ≡ 0) → grown base t c ≡ grown base t b

  module _ (t : Table) where
    stuck_none : {b : List Made} → Stuck t b b
    stuck_none = record { same = λ z. refl }

    stuck_one : {b c : List Made} (m : Made) → Stuck t b c → Stuck t b (c ++ (m ∷ []))
    stuck_one {b} {c} m s = record {
      same = λ z.
          grown_append c (m ∷ []) t ∙ ap (λ (a : Added). behind base a (m ∷ [])) (s.same z) ∙ (rw (ne_eqb (grown base t b).number 0 z));
    }

    stuck_then : {b c d : List Made} → Stuck t b c → Stuck t c d → Stuck t b d
    stuck_then r s = record { same = λ z. s.same (λ y. z (ap (λ (a : Added). a.number) (sym (r.same z)) ∙ y)) ∙ r.same z }

    stuck : (f : Formula) (b : List Made) → Stuck t b (build lists b f)
    unfolding build
    stuck (signal n) b = stuck_one _ stuck_none
    stuck (const v) b = stuck_one _ stuck_none
    stuck (neg f) b = stuck_one _ (stuck f b)
    stuck (and f g) b = stuck_one _ (stuck_then (stuck f b) (stuck g (build lists b f)))
    stuck (or f g) b = stuck_one _ (stuck_then (stuck f b) (stuck g (build lists b f)))
    stuck (F lo hi f) b = stuck_one _ (stuck f b)
    stuck (G lo hi f) b = stuck_one _ (stuck f b)
    stuck (U lo hi f g) b = stuck_one _ (stuck_then (stuck f b) (stuck g (build lists b f)))
    stuck (R lo hi f g) b = stuck_one _ (stuck_then (stuck f b) (stuck g (build lists b f)))

-- ---- a node's own numbers within the limits, as its tests see them
record Own (i : Item) : Type 0 where
  signal : eqb i.kind 1 ≡ true → i.arg ≤ 31
  ordered : i.lo ≤ i.hi
  short : i.hi ≤ 4095

module _ (base count : ℕ) (m : Made) where
  own_out : bad_signal (node_of base count m) ≡ false → bad_interval (in_two_bytes m.it.lo) (in_two_bytes m.it.hi) ≡ false → Own m.it
  own_out s i =
      let lo = in_two_bytes m.it.lo in
      let hi = in_two_bytes m.it.hi in
      let o : lo ≤ hi = ltb-false hi lo (or_left _ _ i) in
      let h : hi ≤ 4095 = ltb-false 4095 hi (or_right (ltb hi lo) _ i) in
      record {
        signal = λ e. let a = ltb-false 31 (in_byte m.it.arg) (and_right (eqb m.it.kind 1) _ s e) in omega arith;
        ordered = omega arith;
        short = omega arith;
      }

  own_signal : Own m.it → bad_signal (node_of base count m) ≡ false
  own_signal o = go (eqb m.it.kind 1) (λ e. le-ltb 31 (in_byte m.it.arg) (let a = o.signal e in omega arith))
    where
      go : (b : Bool) {c : Bool} → (b ≡ true → c ≡ false) → (b && c) ≡ false
      go true h = h refl
      go false h = refl

  own_interval : Own m.it → bad_interval (in_two_bytes m.it.lo) (in_two_bytes m.it.hi) ≡ false
  own_interval o =
      let p = o.ordered in
      let q = o.short in
      rw (le-ltb (in_two_bytes m.it.hi) (in_two_bytes m.it.lo) (omega arith), le-ltb 4095 (in_two_bytes m.it.hi) (omega arith))

-- ---- the answer of a node whose operands stand before it
node_none : {a b c d e : Bool} → a ≡ false → b ≡ false → c ≡ false → d ≡ false → e ≡ false → first ((5 if a) ∷ (6 if b) ∷ (7 if c) ∷ (8 if d) ∷ (9 if e) ∷ []) ≡ 0
node_none p q r s t = rw (p, q, r, s, t)

node_refusal : (a b c d e : Bool) → c ≡ false → ¬ (first ((5 if a) ∷ (6 if b) ∷ (7 if c) ∷ (8 if d) ∷ (9 if e) ∷ []) ≡ 0)
    → Refusal (first ((5 if a) ∷ (6 if b) ∷ (7 if c) ∷ (8 if d) ∷ (9 if e) ∷ []))
node_refusal true b c d e p z = refl
node_refusal false true c d e p z = refl
node_refusal false false true d e p z = absurd (true≢false p)
node_refusal false false false true e p z = refl
node_refusal false false false false true p z = refl
node_refusal false false false false false p z = absurd (z refl)

module _ (ns : List Node) (rs : List Rule) (base : ℕ) (m : Made) where
  abbrev x : Node
  x = node_of base (length ns) m

  abbrev held : Table
  held = table_holding ns rs

  own_taken : (adding_node held x).number ≡ 0 → Own m.it
  own_taken h = let r = sym (node_number held x) ∙ h in own_out base (length ns) m (no_row (add_node_rows held x) refl r 0) (no_row (add_node_rows held x) refl r 1)

  within_taken : bad_operand held x ≡ false → Own m.it → length ns < 64 → delay_over (delays ns) x ≤ 4095 → (adding_node held x).number ≡ 0
  within_taken p o r d =
      node_number held x
      ∙ node_none (own_signal base (length ns) m o) (own_interval base (length ns) m o) p (lt-leb 64 (length ns) r)
      (le-ltb 4095 _ (subst (λ (k : ℕ). k ≤ 4095) (sym (delay_held ns rs x)) d))

  taken_refusal : bad_operand held x ≡ false → ¬ ((adding_node held x).number ≡ 0) → Refusal (adding_node held x).number
  taken_refusal p z =
      subst Refusal (sym (node_number held x))
      (node_refusal (bad_signal x) (bad_interval x.lo x.hi) (bad_operand held x) (leb 64 (length ns)) (too_long held x) p (λ y. z (node_number held x ∙ y)))

-- ---- a formula, before which n nodes stand
pub record Fits (n : ℕ) (f : Formula) : Type 0 where
  pub room : n + size f ≤ 64
  pub numbers : NumbersFit f
  pub short : longest f ≤ 4095

-- a node with its numbers as they were typed, and its formula by those of its operands
abbrev exact : Item → Node
exact i = record { kind = i.kind; arg = i.arg; lo = i.lo; hi = i.hi; left = 0; right = 0 }

abbrev tree : Item → Formula → Formula → Formula
tree i a b = formula_as (op_of i.kind) (exact i) a b

same_as : (o : Op) (x y : Node) (a b : Formula) → ((uses_of o).arg ≡ true → x.arg ≡ y.arg) → x.lo ≡ y.lo → x.hi ≡ y.hi → formula_as o x a b ≡ formula_as o y a b
same_as Unknown x y a b p q r = refl
same_as Signal x y a b p q r = ap signal (p refl)
same_as Top x y a b p q r = refl
same_as Bottom x y a b p q r = refl
same_as Not x y a b p q r = refl
same_as And x y a b p q r = refl
same_as Or x y a b p q r = refl
same_as Finally x y a b p q r = ap₂ (λ i j. F i j a) q r
same_as Globally x y a b p q r = ap₂ (λ i j. G i j a) q r
same_as Until x y a b p q r = ap₂ (λ i j. U i j a b) q r
same_as Release x y a b p q r = ap₂ (λ i j. R i j a b) q r

own_means : (base count : ℕ) (i : Item) (l : ℕ) (a b : Formula) → Own i → formula_as (op_of i.kind) (node_of base count (made i l)) a b ≡ tree i a b
own_means base count i l a b o =
    let p = o.ordered in
    let q = o.short in
    same_as (op_of i.kind) (node_of base count (made i l)) (exact i) a b
    (λ e. let h = o.signal (sym (uses_arg i.kind) ∙ e) in omega arith) (omega arith) (omega arith)

operands_before : (t : Table) (x : Node) → ((uses_of (op_of x.kind)).left ≡ true → x.left < t.node_count)
    → ((uses_of (op_of x.kind)).right ≡ true → x.right < t.node_count) → bad_operand t x ≡ false
operands_before t x = go (uses_of (op_of x.kind)).left (uses_of (op_of x.kind)).right
  where
    go : (a b : Bool) → (a ≡ true → x.left < t.node_count) → (b ≡ true → x.right < t.node_count)
        → ((a && leb t.node_count x.left) || (b && leb t.node_count x.right)) ≡ false
    go true true p q = rw (lt-leb _ _ (p refl), lt-leb _ _ (q refl))
    go true false p q = rw (lt-leb _ _ (p refl))
    go false true p q = rw (lt-leb _ _ (q refl))
    go false false p q = refl

module _ (base : ℕ) (t : Table) (rs : List Rule) where
  -- the nodes b of a line are taken, and the table holds the nodes ns
  pub record Start (b : List Made) (ns : List Node) : Type 0 where
    pub grew : grown base t b ≡ added 0 (table_holding ns rs)
    pub count : base + length b ≡ length ns

  -- a formula within the limits is added to the nodes ns: c are the nodes of the line then
  pub record Fit (ns : List Node) (f : Formula) (c : List Made) : Type 0 where
    pub nodes : List Node
    pub fits : Fits (length ns) f
    pub start : Start c nodes
    pub long : length nodes ≡ length ns + size f
    pub some : 1 ≤ length c
    pub keeps : (k : ℕ) → k < length ns → formula_at nodes k ≡ formula_at ns k
    pub last : formula_at nodes (length nodes - 1) ≡ f

  pub data After (ns : List Node) (f : Formula) (c : List Made) : Type 0 where
    fit : Fit ns f c → After ns f c
    unfit : ¬ Fits (length ns) f → Refusal (grown base t c).number → After ns f c

  -- a node of the formula f, when the nodes vs hold its operands
  module _ (ns vs : List Node) (d : List Made) (i : Item) (l : ℕ) (f : Formula) (s : Start d vs) where
    abbrev y : Node
    y = node_of base (length vs) (made i l)

    abbrev before : Table
    before = table_holding vs rs

    module _ (keeps : (k : ℕ) → k < length ns → formula_at vs k ≡ formula_at ns k) (longer : length ns ≤ length vs) (long : length vs + 1 ≡ length ns + size f)
        (p : bad_operand before y ≡ false) (is : tree i (formula_at vs y.left) (formula_at vs y.right) ≡ f)
        (from : NumbersFit f → Own i) (into : Own i → NumbersFit f) (parts : ℕ) (is-longest : longest f ≡ max (delay f) parts) (few : parts ≤ 4095) where
      means : Own i → formula_over (formulas vs) y ≡ f
      means o = own_means base (length vs) i l _ _ o ∙ is

      delay_is : Own i → delay f ≡ delay_over (delays vs) y
      delay_is o = ap delay (sym (means o)) ∙ delay_of_lem (formulas vs) y

      grown_is : grown base t (d ++ (made i l ∷ [])) ≡ adding_node before y
      grown_is = grown_last base t before d (made i l) s.grew

      step_fit : (adding_node before y).number ≡ 0 → Fit ns f (d ++ (made i l ∷ []))
      step_fit z =
          let r = sym (node_number before y) ∙ z in
          let o = own_taken vs rs base (made i l) z in
          let a = length_snoc vs y no_node in
          let b = length_snoc d (made i l) (made i l) in
          let c = s.count in
          let k : length (vs ++ (y ∷ [])) - 1 ≡ length vs = omega arith in
          record {
            nodes = vs ++ (y ∷ []);
            fits = record {
              room = let h = node_room vs rs y r in omega arith;
              numbers = into o;
              short = let h = node_short vs rs y r in let e = delay_is o in let k = is-longest in omega arith;
            };
            start = record {
              grew = grown_is ∙ ap₂ (λ (n : ℕ) (u : Table). added n u) z (node_taken before y z ∙ node_held vs rs y (node_room vs rs y r));
              count = omega arith;
            };
            long = omega arith;
            some = omega arith;
            keeps = λ j h. chain_old formula_over (const false) vs y j (omega arith) ∙ keeps j h;
            last = ap (λ (j : ℕ). formula_at (vs ++ (y ∷ [])) j) k ∙ chain_last formula_over (const false) vs y ∙ means o;
          }

      step_unfit : ¬ ((adding_node before y).number ≡ 0) → After ns f (d ++ (made i l ∷ []))
      step_unfit z =
          unfit (λ w.
          let o = from w.numbers in
          let e = delay_is o in
          let h = w.room in
          let g = w.short in
          let k = is-longest in
          z (within_taken vs rs base (made i l) p o (omega arith) (omega arith)))
          (subst Refusal (ap (λ (a : Added). a.number) (sym grown_is)) (taken_refusal vs rs base (made i l) p z))

      step : After ns f (d ++ (made i l ∷ []))
      step =
          let n = (adding_node before y).number in
          ⊎_elim (λ e. fit (step_fit (eqb-true n 0 e))) (λ e. step_unfit (eqb-false n 0 e)) (true_or_false (eqb n 0))

  stays : {b c : List Made} → Stuck base t b c → Refusal (grown base t b).number → Refusal (grown base t c).number
  stays s r = subst Refusal (ap (λ (a : Added). a.number) (sym (s.same (refused_number r)))) r

  -- ---- an operator with one operand
  module _ (ns : List Node) (b : List Made) (i : Item) (g f : Formula) (long : size f ≡ size g + 1) (u : (uses_of (op_of i.kind)).left ≡ true)
      (is : (y : Formula) → tree i g y ≡ f) (from : NumbersFit f → Own i × NumbersFit g) (into : Own i → NumbersFit g → NumbersFit f) (is-longest : longest f ≡ max (delay f) (longest g)) where
    abbrev c : List Made
    c = build lists b g

    one_sub : Fits (length ns) f → Fits (length ns) g
    one_sub w = record { room = let h = w.room in omega arith; numbers = (from w.numbers).1; short = let h = w.short in let k = is-longest in omega arith }

    one : After ns g c → After ns f (c ++ (made i (length c - 1) ∷ []))
    one (unfit z r) = unfit (λ w. z (one_sub w)) (stays (stuck_one base t _ (stuck_none base t)) r)
    one (fit w) =
        let vs = w.nodes in
        let n = node_of base (length vs) (made i (length c - 1)) in
        let p = w.start.count in
        let q = w.some in
        let l = w.long in
        let h = w.fits.room in
        let left : n.left ≡ length vs - 1 = rw u (omega arith) in
        step ns vs c i (length c - 1) f w.start w.keeps (omega arith) (omega arith)
        (operands_before (table_holding vs rs) n (λ e. omega arith) (λ e. rw e (omega arith)))
        (ap (λ (a : Formula). tree i a (formula_at vs n.right)) (ap (formula_at vs) left ∙ w.last) ∙ is (formula_at vs n.right))
        (λ k. (from k).0) (λ o. into o w.fits.numbers) (longest g) is-longest w.fits.short

  -- ---- an operator with two
  module _ (ns : List Node) (b : List Made) (i : Item) (g h f : Formula) (long : size f ≡ size g + size h + 1) (u : (uses_of (op_of i.kind)).left ≡ true)
      (v : (uses_of (op_of i.kind)).right ≡ true) (is : tree i g h ≡ f) (from : NumbersFit f → Own i × NumbersFit g × NumbersFit h)
      (into : Own i → NumbersFit g → NumbersFit h → NumbersFit f) (is-longest : longest f ≡ max (delay f) (max (longest g) (longest h))) where
    abbrev c₂ : List Made
    c₂ = build lists b g

    abbrev d : List Made
    d = build lists c₂ h

    two_right : (w : Fit ns g c₂) → After w.nodes h d → After ns f (d ++ (made i (length c₂ - 1) ∷ []))
    two_right w (unfit z r) =
        unfit (λ k. z (record { room = let q = k.room in let l = w.long in omega arith; numbers = (from k.numbers).2; short = let q = k.short in let e = is-longest in omega arith }))
        (stays (stuck_one base t _ (stuck_none base t)) r)
    two_right w (fit s) =
        let us = w.nodes in
        let vs = s.nodes in
        let n = node_of base (length vs) (made i (length c₂ - 1)) in
        let p = w.start.count in
        let q = w.some in
        let l = w.long in
        let m = s.long in
        let e = s.fits.room in
        let left : n.left ≡ length us - 1 = rw u (omega arith) in
        let right : n.right ≡ length vs - 1 = rw v (omega arith) in
        step ns vs d i (length c₂ - 1) f s.start (λ k l. s.keeps k (omega arith) ∙ w.keeps k l) (omega arith) (omega arith)
        (operands_before (table_holding vs rs) n (λ e. omega arith) (λ e. omega arith))
        (ap₂ (λ (k l : ℕ). tree i (formula_at vs k) (formula_at vs l)) left right
        ∙ ap₂ (tree i) (s.keeps (length us - 1) (omega arith) ∙ w.last) s.last ∙ is)
        (λ k. (from k).0) (λ o. into o w.fits.numbers s.fits.numbers) (max (longest g) (longest h)) is-longest (let a = w.fits.short in let b = s.fits.short in omega arith)

    two : After ns g c₂ → ((w : Fit ns g c₂) → After w.nodes h d) → After ns f (d ++ (made i (length c₂ - 1) ∷ []))
    two (unfit z r) k =
        unfit (λ w. z (record { room = let q = w.room in omega arith; numbers = (from w.numbers).1; short = let q = w.short in let e = is-longest in omega arith }))
        (stays (stuck_one base t _ (stuck base t h c₂)) r)
    two (fit w) k = two_right w (k w)

  own_plain : (k : ℕ) → Own (plain_item k)
  own_plain k = record { signal = λ e. omega arith; ordered = omega arith; short = omega arith }

  own_timed : (k : ℕ) {lo hi : ℕ} → FitInterval lo hi → Own (item k 0 lo hi)
  own_timed k i = record { signal = λ e. omega arith; ordered = i.ordered; short = i.short }

  timed_own : {k lo hi : ℕ} → Own (item k 0 lo hi) → FitInterval lo hi
  timed_own o = record { ordered = o.ordered; short = o.short }

  -- THE LAW: the nodes of a formula
  pub after : (f : Formula) (b : List Made) (ns : List Node) → Start b ns → After ns f (build lists b f)
  unfolding build size NumbersFit delay_by longest_by
  after (signal n) b ns s =
      step ns ns b (item 1 n 0 0) (length b - 1) (signal n) s (λ k h. refl) (omega arith) (omega arith) refl refl
      (λ h. record { signal = λ e. h; ordered = omega arith; short = omega arith }) (λ o. o.signal refl) 0 refl (omega arith)
  after (const true) b ns s =
      step ns ns b (plain_item 2) (length b - 1) (const true) s (λ k h. refl) (omega arith) (omega arith) refl refl (λ h. own_plain 2) (λ o. omega arith) 0 refl (omega arith)
  after (const false) b ns s =
      step ns ns b (plain_item 3) (length b - 1) (const false) s (λ k h. refl) (omega arith) (omega arith) refl refl (λ h. own_plain 3) (λ o. omega arith) 0 refl (omega arith)
  after (neg f) b ns s = one ns b (plain_item 4) f (neg f) refl refl (λ y. refl) (λ n. (own_plain 4, n)) (λ o n. n) refl (after f b ns s)
  after (F lo hi f) b ns s =
      one ns b (item 7 0 lo hi) f (F lo hi f) refl refl (λ y. refl) (λ n. (own_timed 7 n.0, n.1)) (λ o n. (timed_own o, n)) refl (after f b ns s)
  after (G lo hi f) b ns s =
      one ns b (item 8 0 lo hi) f (G lo hi f) refl refl (λ y. refl) (λ n. (own_timed 8 n.0, n.1)) (λ o n. (timed_own o, n)) refl (after f b ns s)
  after (and f g) b ns s =
      two ns b (plain_item 5) f g (and f g) refl refl refl refl (λ n. (own_plain 5, n.0, n.1)) (λ o n m. (n, m)) refl
      (after f b ns s) (λ w. after g (build lists b f) w.nodes w.start)
  after (or f g) b ns s =
      two ns b (plain_item 6) f g (or f g) refl refl refl refl (λ n. (own_plain 6, n.0, n.1)) (λ o n m. (n, m)) refl
      (after f b ns s) (λ w. after g (build lists b f) w.nodes w.start)
  after (U lo hi f g) b ns s =
      two ns b (item 9 0 lo hi) f g (U lo hi f g) refl refl refl refl (λ n. (own_timed 9 n.0, n.1, n.2)) (λ o n m. (timed_own o, n, m)) refl
      (after f b ns s) (λ w. after g (build lists b f) w.nodes w.start)
  after (R lo hi f g) b ns s =
      two ns b (item 10 0 lo hi) f g (R lo hi f g) refl refl refl refl (λ n. (own_timed 10 n.0, n.1, n.2)) (λ o n m. (timed_own o, n, m)) refl
      (after f b ns s) (λ w. after g (build lists b f) w.nodes w.start)
