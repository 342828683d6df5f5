-- A line, added to the table of the lines before it: taken exactly within the limits, and then its rule is watched. Assumes nothing.
use Prim.Native.Nat.{ℕ, ◌+◌, ◌-◌, ◌≤◌, ◌<◌}
use native.Mathlib.Omega.{arith}
use mathlib.Core.Path.{◌≡◌, refl, sym, ap, ap₂, subst, ◌∙◌}
use mathlib.Core.Logic.{⊎_elim}
use mathlib.Core.Bool.{Bool, true, false, true≢false}
use mathlib.Core.List.{List, [], ◌∷◌, ◌++◌, map-append}
use lib.Dec.{leb, eqb}
use lib.ListN.{length, get_or}
use borrow.Author.Tests.{eqb-true, eqb-false, ne_eqb, le-ltb, le-leb, leb-true, lt-leb}
use Rattle.limits.specs.Limits.{max_name}
use Rattle.lists.specs.Choice.{pick, ◌if◌, first}
use Rattle.lists.specs.Sequence.{among}
use Rattle.lists.proofs.Tests.{true_or_false}
use Rattle.lists.proofs.Sequences.{length_snoc, at_last, at_old, each_place}
use Rattle.mltl.specs.Mltl.{Formula, const}
use Rattle.table.specs.Nodes.{no_rule, formula_at}
use Rattle.table.specs.declared.Node.{Node}
use Rattle.table.specs.declared.Rule.{Rule}
use Rattle.table.specs.declared.Table.{Table}
use Rattle.builder.specs.Adding.{Added, bad_name, name_used, adding_rule}
use Rattle.builder.specs.Built.{table_holding}
use Rattle.builder.proofs.Holding.{names, name_held_lem, rule_held, rule_number_lem, rule_taken}
use Rattle.builder.proofs.Sound.{rule_fits, rule_room, rule_new}
use Rattle.grammar.specs.Made.{nodes_of}
use Rattle.text.specs.Typing.{in_byte, name_held, added, grown, rule_of, ruled, line_added}
use Rattle.text.specs.Accepted.{size, sizes}
use Rattle.text.proofs.Grows.{Refusal, refused_number, Fits, Fit, After, fit, unfit, after}

-- ---- a rule behind the nodes vs and the rules rs
record NameFits (rs : List Rule) (n : ℕ) : Type 0 where
  room : length rs < 8
  named : 1 ≤ n
  largest : n ≤ max_name
  new : among n (names rs) ≡ false

-- a name that is held as one is small enough, and is itself
name_in : (n : ℕ) → 1 ≤ name_held n → n ≤ max_name
name_in n = go (leb n max_name) refl
  where
    go : (b : Bool) → leb n max_name ≡ b → 1 ≤ pick b n 0 → n ≤ max_name
    go true e h = leb-true n max_name e
    go false e h = absurd (omega arith)

name_is : (n : ℕ) → n ≤ max_name → name_held n ≡ n
name_is n h = rw (le-leb n max_name h)

rule_none : {a b c d : Bool} → a ≡ false → b ≡ false → c ≡ false → d ≡ false → first ((5 if a) ∷ (7 if b) ∷ (8 if c) ∷ (10 if d) ∷ []) ≡ 0
rule_none p q r s = rw (p, q, r, s)

rule_refusal : (a b c d : Bool) → b ≡ false → ¬ (first ((5 if a) ∷ (7 if b) ∷ (8 if c) ∷ (10 if d) ∷ []) ≡ 0)
    → Refusal (first ((5 if a) ∷ (7 if b) ∷ (8 if c) ∷ (10 if d) ∷ []))
rule_refusal true b c d p z = refl
rule_refusal false true c d p z = absurd (true≢false p)
rule_refusal false false true d p z = refl
rule_refusal false false false true p z = refl
rule_refusal false false false false p z = absurd (z refl)

module _ (vs : List Node) (rs : List Rule) (n : ℕ) (some : 1 ≤ length vs) where
  abbrev nodes_in_lem : Table
  nodes_in_lem = table_holding vs rs

  abbrev rule : Rule
  rule = rule_of nodes_in_lem n

  watched_inside : in_byte (length vs - 1) < length vs
  watched_inside = omega arith

  no_operand : leb (length vs) rule.watched ≡ false
  no_operand = lt-leb (length vs) (in_byte (length vs - 1)) watched_inside

  name_taken : (adding_rule nodes_in_lem rule).number ≡ 0 → NameFits rs n
  name_taken z =
      let r = sym (rule_number_lem nodes_in_lem rule) ∙ z in
      let k = rule_fits vs rs rule r in
      let small = name_in n k.named in
      let e = name_is n small in
      record {
        room = rule_room vs rs rule r;
        named = subst (λ (m : ℕ). 1 ≤ m) e k.named;
        largest = small;
        new = subst (λ (m : ℕ). among m (names rs) ≡ false) e (rule_new vs rs rule r);
      }

  taken_name : NameFits rs n → (adding_rule nodes_in_lem rule).number ≡ 0
  taken_name k =
      let e = name_is n k.largest in
      let bad : bad_name rule ≡ false = rw (e, ne_eqb n 0 (λ z. omega (arith, k.named)), le-ltb max_name n k.largest) in
      let used : name_used nodes_in_lem rule ≡ false = name_held_lem vs rs rule ∙ subst (λ (m : ℕ). among m (names rs) ≡ false) (sym e) k.new in
      rule_number_lem nodes_in_lem rule ∙ rule_none bad no_operand (lt-leb 8 (length rs) k.room) used

  name_refusal : ¬ ((adding_rule nodes_in_lem rule).number ≡ 0) → Refusal (adding_rule nodes_in_lem rule).number
  name_refusal z =
      subst Refusal (sym (rule_number_lem nodes_in_lem rule))
      (rule_refusal (bad_name rule) (leb (length vs) rule.watched) (leb 8 (length rs)) (name_used nodes_in_lem rule) no_operand
      (λ y. z (rule_number_lem nodes_in_lem rule ∙ y)))

-- ---- the table t holds lines with these names and formulas
pub record Holds (ns : List ℕ) (fs : List Formula) (t : Table) : Type 0 where
  pub nodes : List Node
  pub rules : List Rule
  pub is : t ≡ table_holding nodes rules
  pub count : length nodes ≡ sizes fs
  pub many : length rules ≡ length fs
  pub named : names rules ≡ ns
  pub inside : (k : ℕ) → k < length rules → (get_or rules k no_rule).watched < length nodes
  pub watched : (k : ℕ) → k < length rules → formula_at nodes (get_or rules k no_rule).watched ≡ get_or fs k (const false)

-- a line more within the limits
pub record LineFits (ns : List ℕ) (fs : List Formula) (n : ℕ) (f : Formula) : Type 0 where
  pub formula : Fits (sizes fs) f
  pub room : length fs < 8
  pub named : 1 ≤ n
  pub largest : n ≤ max_name
  pub new : among n ns ≡ false

pub data Line (ns : List ℕ) (fs : List Formula) (t : Table) (n : ℕ) (f : Formula) : Type 0 where
  taken : (u : Table) → LineFits ns fs n f → line_added t n (nodes_of f) ≡ added 0 u → Holds (ns ++ (n ∷ [])) (fs ++ (f ∷ [])) u → Line ns fs t n f
  turned : ¬ LineFits ns fs n f → Refusal (line_added t n (nodes_of f)).number → Line ns fs t n f

pub sizes_snoc : (fs : List Formula) (f : Formula) → sizes (fs ++ (f ∷ [])) ≡ sizes fs + size f
unfolding sizes
sizes_snoc [] f = omega arith
sizes_snoc (g ∷ fs) f = let e = sizes_snoc fs f in omega arith

module _ (ns : List ℕ) (fs : List Formula) (t : Table) (h : Holds ns fs t) (n : ℕ) (f : Formula) where
  abbrev vs : List Node
  vs = h.nodes

  abbrev rs : List Rule
  rs = h.rules

  abbrev before : Table
  before = table_holding vs rs

  -- the line's own nodes are in
  module _ (w : Fit (length vs) before rs vs f (nodes_of f)) where
    abbrev ws : List Node
    ws = w.nodes

    abbrev new : Rule
    new = rule_of (table_holding ws rs) n

    some : 1 ≤ length ws
    some = let a = w.start.count in let b = w.some in omega arith

    line_is : line_added before n (nodes_of f) ≡ adding_rule (table_holding ws rs) new
    unfolding line_added
    line_is = ap (λ (a : Added). ruled a n) w.start.grew

    holds_more : NameFits rs n → Holds (ns ++ (n ∷ [])) (fs ++ (f ∷ [])) (table_holding ws (rs ++ (new ∷ [])))
    holds_more k =
        let a = w.long in
        let b = h.count in
        let s = some in
        let few = w.fits.room in
        let e : in_byte (length ws - 1) ≡ length ws - 1 = omega arith in
        record {
          nodes = ws;
          rules = rs ++ (new ∷ []);
          is = refl;
          count = let c = sizes_snoc fs f in omega arith;
          many = let c = h.many in let p = length_snoc rs new no_rule in let q = length_snoc fs f f in omega arith;
          named = map-append (λ (r : Rule). r.name) rs (new ∷ []) ∙ ap₂ (λ (xs : List ℕ) (x : ℕ). xs ++ (x ∷ [])) h.named (name_is n k.largest);
          inside =
              each_place rs new (λ k. (get_or (rs ++ (new ∷ [])) k no_rule).watched < length ws)
              (λ k l. rw (at_old rs new no_rule k l) (let i = h.inside k l in omega arith)) (rw (at_last rs new no_rule) (omega arith));
          watched =
              each_place rs new (λ k. formula_at ws (get_or (rs ++ (new ∷ [])) k no_rule).watched ≡ get_or (fs ++ (f ∷ [])) k (const false))
              (λ k l. rw (at_old rs new no_rule k l)
              (w.keeps _ (h.inside k l) ∙ h.watched k l ∙ sym (at_old fs f (const false) k (omega (arith, h.many)))))
              (rw (at_last rs new no_rule, e) (w.last ∙ sym (ap (λ (k : ℕ). get_or (fs ++ (f ∷ [])) k (const false)) h.many ∙ at_last fs f (const false))));
        }

    line_fits : NameFits rs n → LineFits ns fs n f
    line_fits k = record {
      formula = subst (λ (m : ℕ). Fits m f) h.count w.fits;
      room = let m = h.many in let r = k.room in omega arith;
      named = k.named;
      largest = k.largest;
      new = subst (λ (xs : List ℕ). among n xs ≡ false) h.named k.new;
    }

    fits_line : LineFits ns fs n f → NameFits rs n
    fits_line k = record {
      room = let m = h.many in let r = k.room in omega arith;
      named = k.named;
      largest = k.largest;
      new = subst (λ (xs : List ℕ). among n xs ≡ false) (sym h.named) k.new;
    }

    line_fit : (adding_rule (table_holding ws rs) new).number ≡ 0 → Line ns fs before n f
    line_fit z =
        let k = name_taken ws rs n some z in
        taken (table_holding ws (rs ++ (new ∷ []))) (line_fits k)
        (line_is ∙ ap₂ (λ (m : ℕ) (u : Table). added m u) z (rule_taken (table_holding ws rs) new z ∙ rule_held ws rs new k.room))
        (holds_more k)

    line_unfit : ¬ ((adding_rule (table_holding ws rs) new).number ≡ 0) → Line ns fs before n f
    line_unfit z =
        turned (λ k. z (taken_name ws rs n some (fits_line k))) (subst Refusal (ap (λ (a : Added). a.number) (sym line_is)) (name_refusal ws rs n some z))

    line_by : Line ns fs before n f
    line_by =
        let k = (adding_rule (table_holding ws rs) new).number in
        ⊎_elim (λ e. line_fit (eqb-true k 0 e)) (λ e. line_unfit (eqb-false k 0 e)) (true_or_false (eqb k 0))

  line_after : After (length vs) before rs vs f (nodes_of f) → Line ns fs before n f
  unfolding line_added
  line_after (fit w) = line_by w
  line_after (unfit z r) =
      turned (λ k. z (subst (λ (m : ℕ). Fits m f) (sym h.count) k.formula))
      (rw (ne_eqb (grown (length vs) before (nodes_of f)).number 0 (refused_number r)) r)

  -- THE LAW: a line is added exactly if it is within the limits
  pub line : Line ns fs t n f
  unfolding grown
  line = subst (λ (u : Table). Line ns fs u n f) (sym h.is) (line_after (after (length vs) before rs f [] vs (record { grew = refl; count = omega arith })))
