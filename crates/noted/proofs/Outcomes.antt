-- The outcome of a call by the place of its first no; and that the ticks of an accepted call's verdicts can be counted. Assumes nothing.
use Prim.Native.Nat.{ℕ, ◌+◌, ◌-◌, ◌≤◌, ◌<◌, min}
use native.Mathlib.Omega.{arith}
use mathlib.Core.Path.{◌≡◌, refl, ap, ◌∙◌}
use mathlib.Core.Bool.{Bool, true, false}
use mathlib.Core.List.{List, []}
use mathlib.Core.Logic.{⊎_elim}
use borrow.Author.Tests.{lt-ltb, eqb-true, eqb-false}
use lib.Dec.{ltb, eqb}
use lib.ListN.{length}
use Rattle.limits.specs.Limits.{max_seen}
use Rattle.lists.specs.Sequence.{ticks, some}
use Rattle.lists.proofs.Sequences.{length_ticks}
use Rattle.lists.proofs.Tests.{true_or_false}
use Rattle.mltl.specs.Mltl.{delay}
use Rattle.table.specs.Nodes.{wait_of}
use Rattle.table.specs.Sound.{rule_delay_by}
use Rattle.session.specs.declared.Session.{Session}
use Rattle.session.specs.Session.{Effect, formula_of, delay_of, unfit_by, unfit, feed_count, feeding, closing_by}
use Rattle.session.proofs.Effects.{feed_accepted, feed_refused_lem, close_accepted, close_refused}
use Rattle.session.proofs.Answers.{delay_is, feed_fits, close_fits}
use Rattle.registers.specs.declared.Kind.{Kind}
use Rattle.registers.specs.declared.Outcome.{Outcome}
use Rattle.noted.specs.Noted.{place_of_no, outcome_of, given}
use Rattle.noted.specs.Code.Steps.{Countable}
use Rattle.noted.proofs.Places.{some_no, all_yes}

pub without : (kind : Kind) (number before : ℕ)
    → ◌≡◌ {A = Outcome} (record { kind = kind; number = number; gives = false; fails = false; tick = 0 }) (outcome_of kind number [] before)
unfolding some
without kind number before = refl

-- how many verdicts a fit session has given
pub given_is : (old : Bool) (s : Session) {g : ℕ} → g ≡ s.seen - (rule_delay_by (wait_of old) s.table s.rule).delay → unfit_by (wait_of old) s ≡ false → g ≡ given (wait_of old) s
given_is old s e u = e ∙ ap (λ (d : ℕ). s.seen - d) (delay_is old s refl u)

-- ---- by the place of the first no
module _ (kind : Kind) (number : ℕ) (f : ℕ → Bool) (count before : ℕ) {place : ℕ} (found : place ≡ place_of_no (ticks f count)) where
  pub with_no : {g : ℕ} → place < count → g ≡ before
      → ◌≡◌ {A = Outcome} (record { kind = kind; number = number; gives = true; fails = true; tick = g + place }) (outcome_of kind number (ticks f count) before)
  with_no h e =
      rw (length_ticks f count, lt-ltb 0 count (omega arith), some_no (ticks f count) (omega (arith, length_ticks f count)), ← found, e)

  pub without_no : {b : Bool} → b ≡ ltb 0 count → count ≤ place
      → ◌≡◌ {A = Outcome} (record { kind = kind; number = number; gives = b; fails = false; tick = 0 }) (outcome_of kind number (ticks f count) before)
  without_no e h = rw (e, length_ticks f count, all_yes (ticks f count) (omega (arith, length_ticks f count)))

-- ---- the session's calls: one that gives a verdict is accepted
accepted : (e : Effect) → ((e.answer.number ≡ 0 → ⊥) → e.answer.count ≡ 0) → 0 < e.answer.count → e.answer.number ≡ 0
accepted e none p =
    ⊎_elim (λ t. eqb-true e.answer.number 0 t) (λ t. let z = none (eqb-false e.answer.number 0 t) in absurd (omega arith))
    (true_or_false (eqb e.answer.number 0))

abbrev count_of : Effect → ℕ
count_of e = e.answer.count

module _ (s : Session) (block h x o : List ℕ) where
  pub feed_countable : Countable false s (feeding s block h x o).answer.count
  feed_countable p =
      let a = feed_accepted delay s h x o max_seen block
      (accepted (feeding s block h x o) (λ r. ap count_of (feed_refused_lem delay s h x o max_seen block r).0) p) in
      let f = feed_fits max_seen (unfit s) s.seen (length block) (length h) (length x) (length o) a.1 in
      let c : (feeding s block h x o).answer.count ≡ feed_count (delay_of s) s (length block) = ap count_of a.0 in
      (f.fit, λ l. counts s.seen (length block) (delay_of s) c f.count)
    where
      counts : (seen k d : ℕ) {n : ℕ} → n ≡ (seen + k - d) - (seen - d) → seen + k ≤ max_seen → (seen - d) + n ≤ max_seen
      counts seen k d e l = omega arith

module _ (old : Bool) (s : Session) (h x o : List ℕ) where
  pub close_countable : Countable old s (closing_by (wait_of old) s h x o).answer.count
  close_countable p =
      let a = close_accepted (wait_of old) s h x o
      (accepted (closing_by (wait_of old) s h x o) (λ r. ap count_of (close_refused (wait_of old) s h x o r).0) p) in
      let c : (closing_by (wait_of old) s h x o).answer.count ≡ min s.seen (wait_of old (formula_of s)) = ap count_of a.0 in
      ((close_fits (unfit_by (wait_of old) s) (length h) (length x) (length o) a.1).fit, counts s.seen (wait_of old (formula_of s)) c)
    where
      counts : (seen d : ℕ) {n : ℕ} → n ≡ min seen d → seen ≤ max_seen → (seen - d) + n ≤ max_seen
      counts seen d e k = omega arith
