-- The lines that are read into a table are within the limits, and its rules have their names and watch their formulas. Assumes nothing.
use Prim.Native.Nat.{ℕ, zero, suc, ◌-◌, ◌≤◌, ◌<◌}
use native.Mathlib.Omega.{arith}
use mathlib.Core.Path.{◌≡◌, refl, sym, ap, subst, ◌∙◌}
use mathlib.Core.Bool.{false}
use mathlib.Core.List.{List, [], ◌∷◌, ◌++◌}
use lib.Dec.{eqb}
use lib.ListN.{length, get_or, replicate, length-map, get_or-map}
use borrow.Author.Tests.{eqb-false, ne_eqb}
use Rattle.limits.specs.Limits.{max_name}
use Rattle.lists.specs.Sequence.{among}
use Rattle.lists.proofs.Tests.{or_left, or_right}
use Rattle.lists.proofs.Sequences.{length_snoc, at_last, at_old, each_place, get_or_padded, length_padded, chain_prefix}
use Rattle.mltl.specs.Mltl.{Formula, const}
use Rattle.table.specs.Nodes.{no_node, no_rule, formula_over, formula_at}
use Rattle.table.specs.declared.Rule.{Rule}
use Rattle.table.specs.declared.Table.{Table}
use Rattle.builder.specs.Adding.{Added}
use Rattle.builder.specs.Built.{table_holding}
use Rattle.grammar.specs.Made.{nodes_of}
use Rattle.text.specs.Typing.{added, line_added}
use Rattle.text.specs.Accepted.{Lines, none, more, sizes, NumbersFit, Within, longest}
use Rattle.text.specs.Outcome.{Reached, begins, goes_on, Watches}
use Rattle.text.proofs.Grows.{refused_number}
use Rattle.text.proofs.Holds.{Holds, LineFits, Line, taken, turned, sizes_snoc, line}

-- ---- a name among others
among_out : (n : ℕ) (ns : List ℕ) → among n ns ≡ false → (k : ℕ) → k < length ns → ¬ (get_or ns k 0 ≡ n)
among_out n [] h k l e = omega arith
among_out n (m ∷ ns) h zero l e = eqb-false n m (or_left _ _ h) (sym e)
among_out n (m ∷ ns) h (suc k) l e = among_out n ns (or_right (eqb n m) _ h) k (omega arith) e

among_in : (n : ℕ) (ns : List ℕ) → ((k : ℕ) → k < length ns → ¬ (get_or ns k 0 ≡ n)) → among n ns ≡ false
among_in n [] h = refl
among_in n (m ∷ ns) h = rw (ne_eqb n m (λ e. h 0 (omega arith) (sym e))) (among_in n ns (λ k l. h (suc k) (omega arith)))

-- ---- the limits, but that there may be no rule yet
pub record Part (ns : List ℕ) (fs : List Formula) : Type 0 where
  pub few_nodes : sizes fs ≤ 64
  pub few_rules : length fs ≤ 8
  pub numbers : (k : ℕ) → k < length fs → NumbersFit (get_or fs k (const false))
  pub short : (k : ℕ) → k < length fs → longest (get_or fs k (const false)) ≤ 4095
  pub named : (k : ℕ) → k < length ns → 1 ≤ get_or ns k 0
  pub largest : (k : ℕ) → k < length ns → get_or ns k 0 ≤ max_name
  pub distinct : (j k : ℕ) → j < k → k < length ns → ¬ (get_or ns j 0 ≡ get_or ns k 0)

pub part_of : {ns : List ℕ} {fs : List Formula} → Within ns fs → Part ns fs
part_of w = record {
  few_nodes = w.few_nodes;
  few_rules = w.few_rules;
  numbers = w.numbers;
  short = w.short;
  named = w.named;
  largest = w.largest;
  distinct = w.distinct;
}

pub within_of : {ns : List ℕ} {fs : List Formula} → Part ns fs → 1 ≤ length fs → Within ns fs
within_of p h = record {
  some_rule = h;
  few_nodes = p.few_nodes;
  few_rules = p.few_rules;
  numbers = p.numbers;
  short = p.short;
  named = p.named;
  largest = p.largest;
  distinct = p.distinct;
}

pub part_none : Part [] []
unfolding sizes
part_none = record {
  few_nodes = omega arith;
  few_rules = omega arith;
  numbers = λ k h. absurd (omega arith);
  short = λ k h. absurd (omega arith);
  named = λ k h. absurd (omega arith);
  largest = λ k h. absurd (omega arith);
  distinct = λ j k l h. absurd (omega arith);
}

-- a line more
module _ (ns : List ℕ) (fs : List Formula) (n : ℕ) (f : Formula) where
  abbrev ns' : List ℕ
  ns' = ns ++ (n ∷ [])

  abbrev fs' : List Formula
  fs' = fs ++ (f ∷ [])

  pub part_more : Part ns fs → LineFits ns fs n f → Part ns' fs'
  part_more p l = record {
    few_nodes = let e = sizes_snoc fs f in let r = l.formula.room in omega arith;
    few_rules = let e = length_snoc fs f f in let r = l.room in omega arith;
    numbers =
        each_place fs f (λ k. NumbersFit (get_or fs' k (const false))) (λ k h. rw (at_old fs f (const false) k h) (p.numbers k h))
        (rw (at_last fs f (const false)) l.formula.numbers);
    short =
        each_place fs f (λ k. longest (get_or fs' k (const false)) ≤ 4095) (λ k h. rw (at_old fs f (const false) k h) (p.short k h))
        (rw (at_last fs f (const false)) l.formula.short);
    named = each_place ns n (λ k. 1 ≤ get_or ns' k 0) (λ k h. rw (at_old ns n 0 k h) (p.named k h)) (rw (at_last ns n 0) l.named);
    largest = each_place ns n (λ k. get_or ns' k 0 ≤ max_name) (λ k h. rw (at_old ns n 0 k h) (p.largest k h)) (rw (at_last ns n 0) l.largest);
    distinct = λ j k m h.
        each_place ns n (λ i. j < i → ¬ (get_or ns' j 0 ≡ get_or ns' i 0))
        (λ i h m e. p.distinct j i m h (sym (at_old ns n 0 j (omega arith)) ∙ e ∙ at_old ns n 0 i h))
        (λ m e. among_out n ns l.new j m (sym (at_old ns n 0 j m) ∙ e ∙ at_last ns n 0))
        k h m;
  }

  module _ (p : Part ns' fs') where
    name_place : length ns < length ns'
    name_place = omega (arith, length_snoc ns n n)

    formula_place : length fs < length fs'
    formula_place = omega (arith, length_snoc fs f f)

    pub part_front : Part ns fs
    part_front =
        let a = name_place in
        let b = formula_place in
        record {
          few_nodes = let e = sizes_snoc fs f in let r = p.few_nodes in omega arith;
          few_rules = let r = p.few_rules in omega arith;
          numbers = λ k h. subst NumbersFit (at_old fs f (const false) k h) (p.numbers k (omega arith));
          short = λ k h. subst (λ (g : Formula). longest g ≤ 4095) (at_old fs f (const false) k h) (p.short k (omega arith));
          named = λ k h. subst (λ (m : ℕ). 1 ≤ m) (at_old ns n 0 k h) (p.named k (omega arith));
          largest = λ k h. subst (λ (m : ℕ). m ≤ max_name) (at_old ns n 0 k h) (p.largest k (omega arith));
          distinct = λ j k l h e. p.distinct j k l (omega arith) (at_old ns n 0 j (omega arith) ∙ e ∙ sym (at_old ns n 0 k h));
        }

    pub part_line : LineFits ns fs n f
    part_line =
        let b = formula_place in
        record {
          formula = record {
            room = let e = sizes_snoc fs f in let r = p.few_nodes in omega arith;
            numbers = subst NumbersFit (at_last fs f (const false)) (p.numbers (length fs) formula_place);
            short = subst (λ (g : Formula). longest g ≤ 4095) (at_last fs f (const false)) (p.short (length fs) formula_place);
          };
          room = let r = p.few_rules in omega arith;
          named = subst (λ (m : ℕ). 1 ≤ m) (at_last ns n 0) (p.named (length ns) name_place);
          largest = subst (λ (m : ℕ). m ≤ max_name) (at_last ns n 0) (p.largest (length ns) name_place);
          new = among_in n ns (λ k h e. p.distinct k (length ns) h name_place (at_old ns n 0 k h ∙ e ∙ sym (at_last ns n 0)));
        }

-- ---- what is read so far
pub record Meaning (text : List ℕ) (t : Table) (bs : List ℕ) : Type 0 where
  pub names : List ℕ
  pub formulas : List Formula
  pub lines : Lines text names formulas bs
  pub holds : Holds names formulas t
  pub part : Part names formulas

pub holds_none : Holds [] [] (table_holding [] [])
unfolding sizes
holds_none = record {
  nodes = [];
  rules = [];
  is = refl;
  count = refl;
  many = refl;
  named = refl;
  inside = λ k h. absurd (omega arith);
  watched = λ k h. absurd (omega arith);
}

-- the same of a line that is taken
record Next (ns : List ℕ) (fs : List Formula) (n : ℕ) (f : Formula) (u : Table) : Type 0 where
  fits : LineFits ns fs n f
  holds : Holds (ns ++ (n ∷ [])) (fs ++ (f ∷ [])) u

next : {ns : List ℕ} {fs : List Formula} {t u : Table} {n : ℕ} {f : Formula} → Line ns fs t n f → line_added t n (nodes_of f) ≡ added 0 u → Next ns fs n f u
next (taken w l e h) g = record { fits = l; holds = subst (Holds _ _) (ap (λ (a : Added). a.table) (sym e ∙ g)) h }
next (turned z r) g = absurd (refused_number r (ap (λ (a : Added). a.number) g))

pub reached_means : {text : List ℕ} {t : Table} {i line : ℕ} {bs : List ℕ} → Reached text t i line bs → Meaning text t bs
reached_means begins = record { names = []; formulas = []; lines = none; holds = holds_none; part = part_none }
reached_means (goes_on {t = t} {n = n} {f = f} r l c e) =
    let m = reached_means r in
    let k = next (line m.names m.formulas t m.holds n f) e in
    record {
      names = m.names ++ (n ∷ []);
      formulas = m.formulas ++ (f ∷ []);
      lines = more m.lines l;
      holds = k.holds;
      part = part_more m.names m.formulas n f m.part k.fits;
    }

-- ---- the rules of such a table
pub watches : {ns : List ℕ} {fs : List Formula} {t : Table} → Holds ns fs t → Part ns fs → Watches t ns fs
watches {ns} {fs} {t} h p = subst (λ (u : Table). Watches u ns fs) (sym h.is) held
  where
    held : Watches (table_holding h.nodes h.rules) ns fs
    held =
        let vs = h.nodes in
        let rs = h.rules in
        let few = p.few_nodes in
        let many = p.few_rules in
        let a = h.count in
        let b = h.many in
        let at : (k : ℕ) → get_or (table_holding vs rs).rules k no_rule ≡ get_or rs k no_rule = get_or_padded no_rule rs (8 - length rs) in
        record {
          places = length_padded no_node 64 vs (omega arith);
          rule_places = length_padded no_rule 8 rs (omega arith);
          count = sym (length-map rs (λ (r : Rule). r.name)) ∙ ap (λ (xs : List ℕ). length xs) h.named;
          formulas = b;
          inside = λ k l. rw (at k) (h.inside k l);
          name = λ k l. ap (λ (r : Rule). r.name) (at k) ∙ sym (get_or-map (λ (r : Rule). r.name) rs k no_rule) ∙ ap (λ (xs : List ℕ). get_or xs k 0) h.named;
          watched = λ k l.
              ap (λ (r : Rule). formula_at (table_holding vs rs).nodes r.watched) (at k)
              ∙ chain_prefix formula_over (const false) vs (replicate (64 - length vs) no_node) (get_or rs k no_rule).watched (h.inside k l) ∙ h.watched k l;
        }
