-- Effects by their number: a call whose number is 0 is accepted, and any other refused. Assumes nothing.
use Prim.Native.Nat.{ℕ, ◌-◌, ◌/◌, ◌<◌}
use native.Mathlib.Omega.{arith}
use mathlib.Core.Path.{◌≡◌, refl, sym, ap, ◌∙◌}
use mathlib.Core.Bool.{Bool, true, false}
use mathlib.Core.Logic.{⊎_elim}
use mathlib.Core.List.{List, ◌++◌, append_assoc}
use borrow.Author.Tests.{eq-eqb, eqb-true, eqb-false}
use lib.Dec.{eqb}
use lib.ListN.{length, get_or, drop, replicate, get_or-append}
use Rattle.lists.specs.Choice.{pick}
use Rattle.lists.specs.Sequence.{ticks}
use Rattle.lists.specs.Bits.{bit_at, packed}
use Rattle.lists.proofs.Tests.{true_or_false}
use Rattle.lists.proofs.Sequences.{ticks_ext}
use Rattle.lists.proofs.Columns.{bit_at_same, length_packed, packed_in}
use Rattle.mltl.specs.Mltl.{Formula, holds}
use Rattle.table.specs.declared.Table.{Table}
use Rattle.table.specs.Nodes.{wait_of}
use Rattle.table.specs.Sound.{SoundBy, delay_number_by}
use Rattle.table.proofs.Soundness.{rule_there}
use Rattle.session.specs.declared.Session.{Session}
use Rattle.session.specs.Session.{Effect, formula_of, refused, unfit_by, verdict_words, feed_number_by, fed, feeding_by, close_number_by, closed, closing_by, opening_by}
use Rattle.session.proofs.Answers.{sound_fit}

-- a choice between an accepted effect, whose number is 0, and a refused one
module _ (n : ℕ) (yes : Effect) (zero : yes.answer.number ≡ 0) (s : Session) (h x o : List ℕ) where
  abbrev chosen : Effect
  chosen = pick (eqb n 0) yes (refused n s h x o)

  accepted_is : chosen.answer.number ≡ 0 → (chosen ≡ yes) × (n ≡ 0)
  accepted_is e = ⊎_elim (λ (b : eqb n 0 ≡ true). (rw b, eqb-true n 0 b)) (λ (b : eqb n 0 ≡ false). absurd (eqb-false n 0 b (rw b at e))) (true_or_false (eqb n 0))

  refused_is : (chosen.answer.number ≡ 0 → ⊥) → (chosen ≡ refused n s h x o) × (n ≡ 0 → ⊥)
  refused_is e =
      ⊎_elim (λ (b : eqb n 0 ≡ true). absurd (e (rw b zero))) (λ (b : eqb n 0 ≡ false). (rw b, eqb-false n 0 b)) (true_or_false (eqb n 0))

  chosen_number : chosen.answer.number ≡ n
  chosen_number = ⊎_elim (λ (b : eqb n 0 ≡ true). rw b (zero ∙ sym (eqb-true n 0 b))) (λ (b : eqb n 0 ≡ false). rw b) (true_or_false (eqb n 0))

module _ (wait : Formula → ℕ) (s : Session) (h x o : List ℕ) where
  abbrev d : ℕ
  d = wait (formula_of s)

  module _ (limit : ℕ) (block : List ℕ) where
    abbrev n : ℕ
    n = feed_number_by wait limit s (length block) (length h) (length x) (length o)

    pub feed_number : (feeding_by wait limit s block h x o).answer.number ≡ n
    unfolding feeding_by
    feed_number = chosen_number n (fed d s block h x o) refl s h x o

    pub feed_accepted : (feeding_by wait limit s block h x o).answer.number ≡ 0 → (feeding_by wait limit s block h x o ≡ fed d s block h x o) × (n ≡ 0)
    unfolding feeding_by
    feed_accepted e = accepted_is n (fed d s block h x o) refl s h x o e

    pub feed_refused_lem : ((feeding_by wait limit s block h x o).answer.number ≡ 0 → ⊥) → (feeding_by wait limit s block h x o ≡ refused n s h x o) × (n ≡ 0 → ⊥)
    unfolding feeding_by
    feed_refused_lem e = refused_is n (fed d s block h x o) refl s h x o e

  abbrev c : ℕ
  c = close_number_by wait s (length h) (length x) (length o)

  pub close_number_lem : (closing_by wait s h x o).answer.number ≡ c
  unfolding closing_by
  close_number_lem = chosen_number c (closed d s h x o) refl s h x o

  pub close_accepted : (closing_by wait s h x o).answer.number ≡ 0 → (closing_by wait s h x o ≡ closed d s h x o) × (c ≡ 0)
  unfolding closing_by
  close_accepted e = accepted_is c (closed d s h x o) refl s h x o e

  pub close_refused : ((closing_by wait s h x o).answer.number ≡ 0 → ⊥) → (closing_by wait s h x o ≡ refused c s h x o) × (c ≡ 0 → ⊥)
  unfolding closing_by
  close_refused e = refused_is c (closed d s h x o) refl s h x o e

-- the verdicts in the words that a call writes
pub words_verdicts : (m count : ℕ) (f : Formula) (trace o : List ℕ) → ticks (bit_at (verdict_words m count f trace o)) count ≡ ticks (holds f trace) count
words_verdicts m count f trace o = ticks_ext (bit_at (verdict_words m count f trace o)) (holds f trace) count λ i h.
    let p : List ℕ = packed count (holds f trace) in
    let z : List ℕ = replicate (m - length p) 0 in
    bit_at_same (p ++ z ++ drop m o) p i
    (ap (λ (l : List ℕ). get_or l (i / 64) 0) (append_assoc p z (drop m o))
    ∙ get_or-append p (z ++ drop m o) 0 (i / 64) (omega (arith, length_packed count (holds f trace))))
    ∙ packed_in count (holds f trace) i h

-- ---- an accepted open: the session, and a rule of a sound table
module _ (old : Bool) (t : Table) (r : ℕ) (e : (opening_by (wait_of old) t r).number ≡ 0) where
  pub opened_is : (opening_by (wait_of old) t r).session ≡ record { table = t; rule = r; seen = 0 }
  unfolding opening_by
  opened_is = rw (eq-eqb (delay_number_by (wait_of old) t r) 0 e)

  pub opened_rule : r < t.rule_count
  unfolding opening_by
  opened_rule = (rule_there old t r e).1

  pub opened_sound : SoundBy (wait_of old) t
  unfolding opening_by
  opened_sound = (rule_there old t r e).0

  -- so it is fit
  pub opened_fit : unfit_by (wait_of old) (opening_by (wait_of old) t r).session ≡ false
  opened_fit = rw opened_is (sound_fit old (record { table = t; rule = r; seen = 0 }) opened_sound opened_rule)
