-- Every text has an outcome by the grammar, and it is what is answered. Assumes nothing.
use Prim.Native.Nat.{ℕ, zero, suc, ◌+◌, ◌≤◌, ◌<◌}
use native.Mathlib.Omega.{arith}
use mathlib.Core.Path.{◌≡◌, refl, ap, ◌∙◌}
use mathlib.Core.Logic.{⊎_elim}
use mathlib.Core.Bool.{Bool, true, false}
use mathlib.Core.List.{List, [], ◌∷◌}
use lib.Dec.{eqb}
use lib.ListN.{length}
use borrow.Author.Tests.{eqb-true, eqb-false, ne_eqb}
use Rattle.limits.specs.Limits.{max_depth}
use Rattle.refusals.specs.Numbers.{RULELESS, SYNTAX, DEEP}
use Rattle.lists.specs.Choice.{pick}
use Rattle.mltl.specs.Mltl.{const}
use Rattle.table.specs.Nodes.{no_table}
use Rattle.table.specs.declared.Table.{Table}
use Rattle.builder.specs.Adding.{Added}
use Rattle.grammar.specs.declared.Made.{Made}
use Rattle.grammar.specs.Machine.{Fate, Fault, Finished, begin, trees}
use Rattle.grammar.specs.Made.{lists, nodes_of}
use Rattle.grammar.proofs.Runs.{pick_false, accepted as ran}
use Rattle.grammar.proofs.Earliest.{earliest_32, earliest_33}
use Rattle.grammar.proofs.Numbers.{fault_number}
use Rattle.parser.proofs.Promise.{lists_fault, LineTold, lists_told}
use Rattle.text.specs.Typing.{Typed, added, line_added, refused, after_line, typed_from, typed}
use Rattle.text.specs.Outcome.{Reached, begins, goes_on, Outcome, empty, byte, deep, faulty, whole}
use Rattle.text.proofs.Runs.{line_fate, onward, shorter}

module _ (text : List ℕ) where
  -- a fault of syntax
  syntax : {t : Table} {i line : ℕ} {bs : List ℕ} (n p : ℕ) → Reached text t i line bs → ¬ (bs ≡ []) → line_fate i bs ≡ Fault n p → Outcome text (refused n p)
  syntax {i = i} {bs = bs} n p r y e =
      let f = lists_fault i bs n p e in
      ⊎_elim
      (λ (z : n ≡ SYNTAX). rw z (byte r y (earliest_32 (const false) i bs p (f ∙ ap (λ (k : ℕ). Fault k p) z))))
      (λ (z : n ≡ DEEP). rw z (deep r (earliest_33 (const false) i bs p (f ∙ ap (λ (k : ℕ). Fault k p) z))))
      (fault_number trees max_depth bs (begin trees (const false)) i n p f)

  -- a whole line
  lined : {t : Table} {i j line : ℕ} {bs rest : List ℕ} (n : ℕ) (ms : List Made) (k : Table → ℕ → List ℕ → Typed)
      → Reached text t i line bs → LineTold i bs n ms rest → i + length bs ≡ j + length rest
      → ((u : Table) → Reached text u j (line + 1) rest → Outcome text (k u j rest))
      → Outcome text (pick (eqb (line_added t n ms).number 0) (k (line_added t n ms).table j rest) (refused (line_added t n ms).number line))
  lined {t} {i} {j} {line} {bs} {rest} n ms k r l c go = rw l.nodes (by (line_added t n (nodes_of l.formula)) _ refl refl)
    where
      by : (a : Added) (b : Bool) → eqb a.number 0 ≡ b → line_added t n (nodes_of l.formula) ≡ a
          → Outcome text (pick b (k a.table j rest) (refused a.number line))
      by a true e g = go a.table (goes_on r l.line c (g ∙ ap (λ (m : ℕ). added m a.table) (eqb-true a.number 0 e)))
      by a false e g = rw (← g) (faulty r l.line (λ z. eqb-false a.number 0 e (rw g at z)))

  next : {t : Table} {i line : ℕ} {bs : List ℕ} (x : Fate (List Made)) (k : Table → ℕ → List ℕ → Typed) → line_fate i bs ≡ x → Reached text t i line bs
      → ¬ (bs ≡ []) → ((u : Table) (j : ℕ) (rest : List ℕ) → length rest < length bs → Reached text u j (line + 1) rest → Outcome text (k u j rest))
      → Outcome text (after_line line t x k)
  next (Fault n p) k e r y go = syntax n p r y e
  next {i = i} {bs = bs} (Finished n ms j rest) k e r y go =
      lined n ms k r (lists_told i bs n ms j rest e) (ran lists max_depth bs (begin lists []) i n ms j rest e).counted
      (λ u s. go u j rest (shorter i j n bs rest ms e) s)

  from_here : (f : ℕ) {t : Table} {i line : ℕ} (bs : List ℕ) → ¬ (text ≡ []) → length bs ≤ f → Reached text t i line bs → Outcome text (typed_from f line t i bs)
  unfolding typed_from
  from_here zero [] z h r = whole z r
  from_here zero (x ∷ xs) z h r = absurd (omega arith)
  from_here (suc f) [] z h r = whole z r
  from_here (suc f) {t} {i} {line} (x ∷ xs) z h r =
      next (line_fate i (x ∷ xs)) (onward f line) refl r (λ e. let z : ◌≡◌ {A = ℕ} 0 1 = cc in omega arith) (λ u j rest l s. from_here f rest z (omega arith) s)

-- THE LAW: every answer is an outcome
pub outcome : (text : List ℕ) → Outcome text (typed text)
unfolding typed
outcome [] = empty refl
outcome (x ∷ xs) =
    rw (pick_false (eqb (length (x ∷ xs)) 0) (refused RULELESS 0) (typed_from (length (x ∷ xs)) 1 no_table 0 (x ∷ xs)) (ne_eqb (length (x ∷ xs)) 0 (omega arith)))
    (from_here (x ∷ xs) (length (x ∷ xs)) (x ∷ xs) (λ e. let z : ◌≡◌ {A = ℕ} 0 1 = cc in omega arith) (omega arith) begins)
