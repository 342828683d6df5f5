-- A text has one outcome: the answer. Assumes nothing.
use Prim.Native.Nat.{ℕ}
use native.Mathlib.Omega.{arith}
use mathlib.Core.Path.{◌≡◌, refl, sym, ap, ap₂, subst, ◌∙◌}
use mathlib.Core.Logic.{⊎_elim}
use mathlib.Core.Bool.{false}
use mathlib.Core.List.{List, [], ◌∷◌, ◌++◌, append-nil}
use lib.ListN.{length, length-append}
use Rattle.limits.specs.Limits.{max_depth}
use Rattle.refusals.specs.Numbers.{SYNTAX, DEEP}
use Rattle.mltl.specs.Mltl.{Formula, const}
use Rattle.table.specs.declared.Table.{Table}
use Rattle.grammar.specs.Grammar.{Line, Unfit, at_end, at_byte, Fault32, Fault33}
use Rattle.grammar.specs.declared.Made.{Made}
use Rattle.grammar.specs.Machine.{Fate, Fault, Finished, begin, trees}
use Rattle.grammar.proofs.Earliest.{earliest_32, earliest_33}
use Rattle.grammar.proofs.Unique.{one_place, one_place_33, never_both}
use Rattle.grammar.proofs.Numbers.{fault_number}
use Rattle.parser.proofs.Promise.{lists_fault, lists_told}
use Rattle.text.specs.Typing.{Typed, refused, typed}
use Rattle.text.specs.Outcome.{Reached, Outcome, empty, byte, deep, faulty, whole}
use Rattle.text.proofs.Means.{reached_means}
use Rattle.text.proofs.Runs.{line_fate, behind, line_shorter, Run, run_end, turn, fated, line_refused, runs}
use Rattle.text.proofs.Exact.{lines_shorter}

-- ---- a fault of syntax is the line's fate
no_line_32 : {i p n : ℕ} {t : Formula} {bs r : List ℕ} → Fault32 i bs p → ¬ Line max_depth n t bs r
no_line_32 {n = n} {t = t} {bs = bs} {r = r} f l = go f.unfit f.bytes
  where
    go : {left : List ℕ} → Unfit f.read left → bs ≡ f.read ++ left → ⊥
    go (at_end g) e = g max_depth n t r (subst (λ (x : List ℕ). Line max_depth n t x r) (e ∙ append-nil f.read) l)
    go (at_byte {left = z} g) e = g max_depth n t z r (subst (λ (x : List ℕ). Line max_depth n t x r) e l)

no_line_33 : {i p n : ℕ} {t : Formula} {bs r : List ℕ} → Fault33 i bs p → ¬ Line max_depth n t bs r
no_line_33 {n = n} {t = t} {r = r} f l = f.deep n t f.left r (subst (λ (x : List ℕ). Line max_depth n t x r) f.bytes l)

module _ (i p : ℕ) (bs : List ℕ) where
  fate_32 : Fault32 i bs p → line_fate i bs ≡ Fault SYNTAX p
  fate_32 f = go (line_fate i bs) refl
    where
      go : (x : Fate (List Made)) → line_fate i bs ≡ x → x ≡ Fault SYNTAX p
      go (Finished n ms j r) e = absurd (no_line_32 f (lists_told i bs n ms j r e).line)
      go (Fault n q) e =
          let k = lists_fault i bs n q e in
          ⊎_elim (λ z. ap₂ (λ (m o : ℕ). Fault m o) z (one_place (earliest_32 (const false) i bs q (k ∙ ap (λ (m : ℕ). Fault m q) z)) f))
          (λ z. absurd (never_both f (earliest_33 (const false) i bs q (k ∙ ap (λ (m : ℕ). Fault m q) z))))
          (fault_number trees max_depth bs (begin trees (const false)) i n q k)

  fate_33 : Fault33 i bs p → line_fate i bs ≡ Fault DEEP p
  fate_33 f = go (line_fate i bs) refl
    where
      go : (x : Fate (List Made)) → line_fate i bs ≡ x → x ≡ Fault DEEP p
      go (Finished n ms j r) e = absurd (no_line_33 f (lists_told i bs n ms j r e).line)
      go (Fault n q) e =
          let k = lists_fault i bs n q e in
          ⊎_elim (λ z. absurd (never_both (earliest_32 (const false) i bs q (k ∙ ap (λ (m : ℕ). Fault m q) z)) f))
          (λ z. ap₂ (λ (m o : ℕ). Fault m o) z (one_place_33 (earliest_33 (const false) i bs q (k ∙ ap (λ (m : ℕ). Fault m q) z)) f))
          (fault_number trees max_depth bs (begin trees (const false)) i n q k)

-- ---- the outcomes
no_bytes : (xs : List ℕ) → length xs ≡ 0 → xs ≡ []
no_bytes [] h = refl
no_bytes (x ∷ xs) h = absurd (omega arith)

deep_some : {i p : ℕ} {bs : List ℕ} → Fault33 i bs p → ¬ (length bs ≡ 0)
deep_some f e = omega (arith, ap (λ (x : List ℕ). length x) f.bytes, length-append f.read (40 ∷ f.left))

module _ (text : List ℕ) where
  -- where bytes are left, the text has some
  run_on : {t : Table} {i line : ℕ} {bs : List ℕ} → Reached text t i line bs → ¬ (length bs ≡ 0) → Run text t i line bs
  run_on r z = runs (λ e. z (omega (arith, lines_shorter (reached_means r).lines))) r

  stops : {t : Table} {i line n p : ℕ} {bs : List ℕ} → Reached text t i line bs → ¬ (length bs ≡ 0) → line_fate i bs ≡ Fault n p → typed text ≡ refused n p
  stops {t} {i} {line} {bs = bs} r z e = fated (turn t i line bs (run_on r z) z) e

  pub answer : {x : Typed} → Outcome text x → typed text ≡ x
  unfolding typed
  answer (empty e) = rw e
  answer (byte {i = i} {p = p} {bs = bs} r z f) = stops r (λ e. z (no_bytes bs e)) (fate_32 i p bs f)
  answer (deep {i = i} {p = p} {bs = bs} r f) = stops r (deep_some f) (fate_33 i p bs f)
  answer (faulty {i = i} r l z) = let b = behind i l in line_refused b.place (run_on r (λ e. omega (arith, line_shorter l))) l b.counted z
  answer (whole z r) = run_end (runs (λ e. z (no_bytes text e)) r) refl

  -- THE LAW: two outcomes of a text are the same answer
  pub one_outcome : {x y : Typed} → Outcome text x → Outcome text y → x ≡ y
  one_outcome o q = sym (answer o) ∙ answer q
