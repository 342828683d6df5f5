-- The number of a call, and what it answers. Assumes nothing.
use Prim.Native.Nat.{ℕ, ◌<◌}
use mathlib.Core.Path.{◌≡◌, refl, sym, ap, ◌∙◌}
use mathlib.Core.Bool.{Bool, true, false, not, true≢false}
use native.Mathlib.Omega.{arith}
use borrow.Author.Tests.{eq-eqb, leb-false, lt-leb, not-false}
use lib.Dec.{leb}
use Rattle.refusals.specs.Numbers.{UNSOUND, ABSENT, BEYOND}
use Rattle.std.specs.Prelude.{Ok, Err}
use Rattle.refusals.specs.Refusals.{number_of}
use Rattle.refusals.specs.declared.Refusal.{Refusal}
use Rattle.refusals.proofs.Positive.{refuses}
use Rattle.lists.specs.Choice.{pick}
use Rattle.lists.proofs.Rows.{no_row}
use Rattle.mltl.specs.Mltl.{delay, near}
use Rattle.table.specs.Nodes.{watched_formula}
use Rattle.table.specs.Sound.{Sound, is_sound, RuleDelay, delay_told, rule_delay_by, rule_delay}
use Rattle.table.specs.declared.Table.{Table}
use Rattle.table.proofs.Soundness.{sound_iff}
use Rattle.reach.specs.Reach.{reached_by, ticks_within, reach_rows, reach_number, reached}

-- no row fits
pub record Fits (t : Table) (rule n s : ℕ) : Type 0 where
  pub sound : Sound t
  pub rule_there : rule < t.rule_count
  pub inside : s < n

module _ (t : Table) (rule n s : ℕ) where
  module _ (e : reach_number t rule n s ≡ 0) where
    pub reach_fits : Fits t rule n s
    unfolding reach_number
    reach_fits =
        let no = no_row (reach_rows (is_sound t) t.rule_count rule n s) refl e in
        record {
          sound = (sound_iff t).0 (not-false (is_sound t) (no 0));
          rule_there = leb-false t.rule_count rule (no 1);
          inside = leb-false n s (no 2);
        }

    -- so that there is a delay
    pub delay_is : (rule_delay t rule).delay ≡ delay (watched_formula t rule)
    unfolding rule_delay_by
    delay_is = rw ((sound_iff t).1 reach_fits.sound, lt-leb t.rule_count rule reach_fits.rule_there)

    pub told : reached t rule n s ≡ ticks_within (near (watched_formula t rule)) (delay (watched_formula t rule)) s
    told = rw e

  pub refused_by : (f : Refusal) → number_of f ≡ reach_number t rule n s → reached_by (Err f) ≡ reached t rule n s
  refused_by f e = rw (← e, refuses f)

  -- a call that the rows for the rule refuse, and one that they do not
  pub number_before : (f : Refusal) → delay_told (Err f) ≡ rule_delay t rule → number_of f ≡ reach_number t rule n s
  unfolding rule_delay_by reach_number
  number_before f e = go (is_sound t) (leb t.rule_count rule) (ap (λ (r : RuleDelay). r.number) e)
    where
      go : (sound absent : Bool) → number_of f ≡ pick (not sound) UNSOUND (pick absent ABSENT 0)
          → number_of f ≡ pick (not sound) UNSOUND (pick absent ABSENT (pick (leb n s) BEYOND 0))
      go true true h = h
      go true false h = absurd (true≢false (sym (eq-eqb _ _ h) ∙ refuses f))
      go false absent h = h

  pub number_behind : {d : ℕ} → delay_told (Ok d) ≡ rule_delay t rule → pick (leb n s) BEYOND 0 ≡ reach_number t rule n s
  unfolding rule_delay_by reach_number
  number_behind e = go (is_sound t) (leb t.rule_count rule) (ap (λ (r : RuleDelay). r.number) e)
    where
      go : (sound absent : Bool) → 0 ≡ pick (not sound) UNSOUND (pick absent ABSENT 0)
          → pick (leb n s) BEYOND 0 ≡ pick (not sound) UNSOUND (pick absent ABSENT (pick (leb n s) BEYOND 0))
      go true true h = absurd (omega (arith, h))
      go true false h = refl
      go false absent h = absurd (omega (arith, h))
