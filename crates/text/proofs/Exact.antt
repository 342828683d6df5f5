-- A text is accepted exactly if its lines are of the grammar and within the limits. Assumes nothing.
use Prim.Native.Nat.{ℕ, ◌+◌, ◌≤◌}
use native.Mathlib.Omega.{arith}
use mathlib.Core.Path.{◌≡◌, refl, ap}
use mathlib.Core.Logic.{◌↔◌}
use mathlib.Core.List.{List, [], ◌∷◌, ◌++◌}
use mathlib.Core.Bool.{false}
use lib.ListN.{length, get_or}
use Rattle.lists.proofs.Sequences.{length_snoc}
use Rattle.mltl.specs.Mltl.{Formula, signal, const, neg, and, or, F, G, U, R, delay_by, old_delay}
use Rattle.table.specs.Nodes.{no_table}
use Rattle.table.specs.declared.Table.{Table}
use Rattle.limits.specs.Limits.{max_depth}
use Rattle.grammar.specs.Grammar.{Line}
use Rattle.grammar.specs.Made.{nodes_of}
use Rattle.text.specs.Typing.{Typed, line_added, typed}
use Rattle.text.specs.Accepted.{Lines, none, more, longest_by, AcceptedBy, Accepted, StaysAccepted}
use Rattle.text.specs.Outcome.{Reached, begins, goes_on, Outcome, empty, byte, deep, faulty, whole}
use Rattle.text.proofs.Grows.{Refusal}
use Rattle.text.proofs.Holds.{Holds, LineFits, Line as Taking, taken, turned, line}
use Rattle.text.proofs.Means.{Part, part_of, within_of, part_none, part_more, part_front, part_line, holds_none, reached_means}
use Rattle.text.proofs.Outcomes.{outcome}
use Rattle.text.proofs.Sooner.{longest_sooner}
use Rattle.text.proofs.Runs.{behind, line_shorter, run_end, runs}

-- ---- an accepted text
pub lines_shorter : {bs r ns : List ℕ} {fs : List Formula} → Lines bs ns fs r → length fs + length r ≤ length bs
lines_shorter none = omega arith
lines_shorter (more {fs = fs} {f = f} x l) = let a = lines_shorter x in let b = line_shorter l in let c = length_snoc fs f f in omega arith

lines_some : {bs r ns : List ℕ} {fs : List Formula} → Lines bs ns fs r → ¬ (bs ≡ r) → 1 ≤ length fs
lines_some none z = absurd (z refl)
lines_some (more {fs = fs} {f = f} x l) z = omega (arith, length_snoc fs f f)

outcome_accepted : {text : List ℕ} {x : Typed} → Outcome text x → x.number ≡ 0 → Accepted text
outcome_accepted (empty e) z = absurd (omega arith)
outcome_accepted (byte r n f) z = absurd (omega arith)
outcome_accepted (deep r f) z = absurd (omega arith)
outcome_accepted (faulty r l n) z = absurd (n z)
outcome_accepted (whole n r) z =
    let m = reached_means r in
    record { names = m.names; formulas = m.formulas; lines = m.lines; within = within_of m.part (lines_some m.lines n) }

-- ---- lines that are taken one after the other
pub record Reaches (text ns : List ℕ) (fs : List Formula) (r : List ℕ) : Type 0 where
  pub table : Table
  pub place : ℕ
  pub number : ℕ
  pub reached : Reached text table place number r
  pub holds : Holds ns fs table
  pub part : Part ns fs

pub reaches_none : (text : List ℕ) → Reaches text [] [] text
reaches_none text = record { table = no_table; place = 0; number = 1; reached = begins; holds = holds_none; part = part_none }

pub reaches_more : {text ns m r : List ℕ} {fs : List Formula} {n : ℕ} {f : Formula} (s : Reaches text ns fs m) → Line max_depth n f m r
    → (¬ LineFits ns fs n f → Refusal (line_added s.table n (nodes_of f)).number → ⊥) → Reaches text (ns ++ (n ∷ [])) (fs ++ (f ∷ [])) r
reaches_more {text} {ns} {m} {r} {fs} {n} {f} s l never = go (line ns fs s.table s.holds n f)
  where
    go : Taking ns fs s.table n f → Reaches text (ns ++ (n ∷ [])) (fs ++ (f ∷ [])) r
    go (taken u k e h) =
        let b = behind s.place l in
        record {
          table = u;
          place = b.place;
          number = s.number + 1;
          reached = goes_on s.reached l b.counted e;
          holds = h;
          part = part_more ns fs n f s.part k;
        }
    go (turned z q) = absurd (never z q)

-- within the limits all are taken
reaches : {text r ns : List ℕ} {fs : List Formula} → Lines text ns fs r → Part ns fs → Reaches text ns fs r
reaches {text} none p = reaches_none text
reaches (more {names = ns} {fs = fs} {n = n} {f = f} x l) p = reaches_more (reaches x (part_front ns fs n f p)) l (λ z q. z (part_line ns fs n f p))

accepted_in : (text : List ℕ) → Accepted text → (typed text).number ≡ 0
accepted_in text a =
    let s = reaches a.lines (part_of a.within) in
    let some = a.within.some_rule in
    let short = lines_shorter a.lines in
    ap (λ (x : Typed). x.number) (run_end (runs (λ e. omega arith) s.reached) refl)

-- THE LAW: accepted exactly
pub accepted_exactly : (text : List ℕ) → ((typed text).number ≡ 0) ↔ Accepted text
accepted_exactly text = (outcome_accepted (outcome text), accepted_in text)

-- ---- when the delay was the one before A5

-- then no part waited longer than the whole: the limit was that of the formula's own delay
pub longest_old : (f : Formula) → longest_by old_delay f ≡ old_delay f
unfolding longest_by delay_by
longest_old (signal n) = refl
longest_old (const b) = refl
longest_old (neg a) = let p = longest_old a in omega arith
longest_old (and a b) = let p = longest_old a in let q = longest_old b in omega arith
longest_old (or a b) = let p = longest_old a in let q = longest_old b in omega arith
longest_old (F lo hi a) = let p = longest_old a in omega arith
longest_old (G lo hi a) = let p = longest_old a in omega arith
longest_old (U lo hi a b) = let p = longest_old a in let q = longest_old b in omega arith
longest_old (R lo hi a b) = let p = longest_old a in let q = longest_old b in omega arith

pub stays_accepted : (text : List ℕ) (a : AcceptedBy old_delay text) → StaysAccepted text a
stays_accepted text a =
    let w = a.within in
    record {
      accepted = record {
        names = a.names;
        formulas = a.formulas;
        lines = a.lines;
        within = record {
          few_nodes = w.few_nodes;
          some_rule = w.some_rule;
          few_rules = w.few_rules;
          numbers = w.numbers;
          short = λ r h. omega (arith, w.short r h, longest_sooner (get_or a.formulas r (const false)));
          named = w.named;
          largest = w.largest;
          distinct = w.distinct;
        };
      };
      names = refl;
      formulas = refl;
    }
