-- Widening by its number, and what callers rely on. Assumes nothing.
use Prim.Native.Nat.{ℕ, ◌<◌}
use mathlib.Core.Path.{◌≡◌, refl, sym, ap, ◌∙◌}
use mathlib.Core.Bool.{Bool, true, false}
use mathlib.Core.Logic.{inl, inr, ⊎_elim}
use Rattle.lists.proofs.Rows.{no_row}
use Rattle.lists.proofs.Tests.{true_or_false}
use Rattle.mltl.specs.Mltl.{Formula, delay, old_delay}
use Rattle.table.specs.Nodes.{wait_of}
use Rattle.table.specs.Sound.{SoundBy}
use Rattle.table.proofs.Soundness.{sound_now}
use Rattle.session.specs.declared.Session.{Session}
use Rattle.session.specs.Session.{Opening, no_session, unfit_by}
use Rattle.session.proofs.Answers.{fit_sound, sound_fit}
use Rattle.narrow.specs.declared.NarrowSession.{NarrowSession}
use Rattle.narrow.specs.Narrow.{wide_of, widen_rows, widening_by, widening, Relied, WidenedAlike}

module _ (wait : Formula → ℕ) (s : Session) where
  pub widened_fit : unfit_by wait s ≡ false → ◌≡◌ {A = Opening} (record { number = 0; session = s }) (widening_by wait s)
  unfolding widening_by
  widened_fit e = rw e

  pub widened_unfit : unfit_by wait s ≡ true → ◌≡◌ {A = Opening} (record { number = 25; session = no_session }) (widening_by wait s)
  unfolding widening_by
  widened_unfit e = rw e

  -- a refused one gives no session, an accepted one its own
  pub widen_refused : ((widening_by wait s).number ≡ 0 → ⊥) → ((widening_by wait s).number ≡ 25) × ((widening_by wait s).session ≡ no_session)
  unfolding widening_by
  widen_refused n =
      ⊎_elim (λ (e : unfit_by wait s ≡ true). (rw e, rw e)) (λ (e : unfit_by wait s ≡ false). absurd (n (rw e))) (true_or_false (unfit_by wait s))

  pub widen_same : (widening_by wait s).number ≡ 0 → (widening_by wait s).session ≡ s
  unfolding widening_by
  widen_same n = rw n

  widen_number : (widening_by wait s).number ≡ 0 → unfit_by wait s ≡ false
  unfolding widening_by
  widen_number n = no_row (widen_rows (unfit_by wait s)) refl n 0

-- its table is sound, and its rule is there
pub widen_fit : (old : Bool) (s : Session) → (widening_by (wait_of old) s).number ≡ 0 → SoundBy (wait_of old) s.table × (s.rule < s.table.rule_count)
widen_fit old s n = fit_sound old s (widen_number (wait_of old) s n)

pub relied : (n : NarrowSession) → Relied n
relied n =
    let s = wide_of n in
    record {
      accepted_exactly = (widen_fit false s, λ f. sym (ap (λ (o : Opening). o.number) (widened_fit delay s (sound_fit false s f.0 f.1))));
      unchanged = λ e. let w = widen_same delay s e in (ap (λ (q : Session). q.table) w, ap (λ (q : Session). q.rule) w, ap (λ (q : Session). q.seen) w);
      refused = widen_refused delay s;
    }

-- ---- when the delay was the one before A5
-- a session that was fit then is fit
pub fit_now : (s : Session) → unfit_by old_delay s ≡ false → unfit_by delay s ≡ false
fit_now s u = let f = fit_sound true s u in sound_fit false s (sound_now true s.table f.0) f.1

module _ (s : Session) where
  fit_alike : unfit_by old_delay s ≡ false → widening s ≡ widening_by old_delay s
  fit_alike u = sym (widened_fit delay s (fit_now s u)) ∙ widened_fit old_delay s u

  refused_alike : ((widening s).number ≡ 0 → ⊥) → unfit_by old_delay s ≡ true → widening s ≡ widening_by old_delay s
  refused_alike n u =
      let r = widen_refused delay s n in
      let e : widening s ≡ record { number = 25; session = no_session } = λ i. record { number = r.0 i; session = r.1 i } in
      e ∙ widened_unfit old_delay s u

pub widened_alike : WidenedAlike
widened_alike s (inl u) = fit_alike s u
widened_alike s (inr n) = ⊎_elim (refused_alike s n) (fit_alike s) (true_or_false (unfit_by old_delay s))
