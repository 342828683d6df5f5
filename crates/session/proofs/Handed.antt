-- The session that a feed hands back, by what it answers without. Assumes nothing.
use Prim.Native.Nat.{ℕ, ◌+◌, ◌≤◌}
use mathlib.Core.Path.{◌≡◌, sym, ap, ◌∙◌}
use mathlib.Core.List.{List}
use lib.ListN.{length}
use Rattle.limits.specs.Limits.{max_seen}
use Rattle.mltl.specs.Mltl.{delay}
use Rattle.session.specs.declared.Session.{Session}
use Rattle.session.specs.Session.{Step, Effect, StepEffect, step_effect, unfit, with_seen, feeding}
use Rattle.session.proofs.Effects.{feed_accepted, feed_refused_lem}
use Rattle.session.proofs.Answers.{feed_fits}

module _ (s : Session) (block h x o : List ℕ) {k : Step} {h' x' o' : List ℕ}
    (e : ◌≡◌ {A = StepEffect} (record { step = k; history = h'; scratch = x'; out = o' }) (step_effect (feeding s block h x o))) where
  step_number : k.number ≡ (feeding s block h x o).answer.number
  step_number = ap (λ (z : StepEffect). z.step.number) e

  with_session : {z : Session} → z ≡ (feeding s block h x o).answer.session
      → ◌≡◌ {A = Effect} (record { answer = record { number = k.number; count = k.count; session = z }; history = h'; scratch = x'; out = o' }) (feeding s block h x o)
  with_session {z} q =
      ap (λ (y : StepEffect). record { answer = record { number = y.step.number; count = y.step.count; session = z }; history = y.history; scratch = y.scratch; out = y.out }) e
      ∙ ap (λ (y : Session). record {
        answer = record { number = (feeding s block h x o).answer.number; count = (feeding s block h x o).answer.count; session = y };
        history = (feeding s block h x o).history;
        scratch = (feeding s block h x o).scratch;
        out = (feeding s block h x o).out;
      }) q

  pub step_refused : (k.number ≡ 0 → ⊥)
      → ◌≡◌ {A = Effect} (record { answer = record { number = k.number; count = k.count; session = s }; history = h'; scratch = x'; out = o' }) (feeding s block h x o)
  step_refused r =
      with_session (sym (ap (λ (z : Effect). z.answer.session) (feed_refused_lem delay s h x o max_seen block (λ z. r (step_number ∙ z))).0))

  pub step_accepted : {z : Session} → k.number ≡ 0 → z ≡ with_seen s (s.seen + length block)
      → ◌≡◌ {A = Effect} (record { answer = record { number = k.number; count = k.count; session = z }; history = h'; scratch = x'; out = o' }) (feeding s block h x o)
  step_accepted r q =
      with_session (q ∙ sym (ap (λ (z : Effect). z.answer.session) (feed_accepted delay s h x o max_seen block (sym step_number ∙ r)).0))

  pub step_fits : k.number ≡ 0 → s.seen + length block ≤ max_seen
  step_fits r =
      (feed_fits max_seen (unfit s) s.seen (length block) (length h) (length x) (length o) (feed_accepted delay s h x o max_seen block (sym step_number ∙ r)).1).count
