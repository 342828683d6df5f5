-- The answers of the interface from those of the functions below it. Assumes nothing.
use Prim.Native.Nat.{ℕ}
use mathlib.Core.Path.{◌≡◌, ap, subst, ◌∙◌}
use mathlib.Core.List.{List}
use Rattle.table.specs.declared.Table.{Table}
use Rattle.verdict.specs.Verdict.{Answered}
use Rattle.std.specs.Prelude.{Option, Result}
use Rattle.refusals.specs.Refusals.{number_of}
use Rattle.refusals.specs.declared.Refusal.{Refusal}
use Rattle.early.specs.declared.Decision.{Decision}
use Rattle.early.specs.Early.{early_told, early_scratch, Decides}
use Rattle.reach.specs.declared.Ticks.{Ticks}
use Rattle.reach.specs.Reach.{Reached, reached_by, reached}
use Rattle.session.specs.declared.Session.{Session}
use Rattle.session.specs.Session.{Opening, opening_told}
use Rattle.shell.specs.Answers.{early_answer, reach_answer, range_after, number_said, early_said, reach_said, stored, stored_by}
use Rattle.shell.proofs.Said.{early_same, reach_same, number_same, stored_same}

-- ---- whole-trace verdicts
pub answered_by : {t u : Table} {rule n : ℕ} {states x o x' o' : List ℕ} → t ≡ u → Answered t rule states x o n x' o' → Answered u rule states x o n x' o'
answered_by {rule = rule} {n = n} {states = states} {x = x} {o = o} {x' = x'} {o' = o'} e p = subst (λ (z : Table). Answered z rule states x o n x' o') e p

-- ---- what is known
pub told_by_lem : {t u : Table} {rule : ℕ} {states : List ℕ} {tick : ℕ} {x : List ℕ} {d : Result Decision Refusal} {x' : List ℕ} {r : ℕ} → t ≡ u → Decides t rule states tick x d x'
    → r ≡ early_answer (early_said number_of d) → (r ≡ early_answer (early_told u rule states tick x)) × (x' ≡ early_scratch u rule states tick x)
told_by_lem {rule = rule} {states = states} {tick = tick} {x = x} {d = d} e p q = (
  q ∙ ap early_answer (early_same d ∙ p.tells) ∙ ap (λ (z : Table). early_answer (early_told z rule states tick x)) e,
  p.clears ∙ ap (λ (z : Table). early_scratch z rule states tick x) e,
)

-- ---- the range of a bad reading
pub reached_by_lem : {t u : Table} (rule n s : ℕ) (r : Result (Option Ticks) Refusal) {a : ℕ} {w' : List ℕ} (w : List ℕ) → t ≡ u → reached_by r ≡ reached t rule n s
    → w' ≡ range_after (reach_said number_of r) w → a ≡ reach_answer (reach_said number_of r)
    → (a ≡ reach_answer (reached u rule n s)) × (w' ≡ range_after (reached u rule n s) w)
reached_by_lem rule n s r w e p q a =
    let k = reach_same r ∙ p ∙ ap (λ (z : Table). reached z rule n s) e in (a ∙ ap reach_answer k, q ∙ ap (λ (z : Reached). range_after z w) k)

-- ---- the session that a call gives
pub opened_by : (r : Result Session Refusal) {x : Opening} {n : ℕ} {b' : List ℕ} (b : List ℕ) → opening_told r ≡ x
    → (n ≡ number_said number_of r) × (b' ≡ stored_by r b) → (n ≡ x.number) × (b' ≡ stored x b)
opened_by r b e p = (
  p.0 ∙ number_same r ∙ ap (λ (y : Opening). y.number) e,
  p.1 ∙ stored_same r b ∙ ap (λ (y : Opening). stored y b) e,
)
