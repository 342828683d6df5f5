-- Effects by their number, and refused exactly where a row fits. Assumes nothing.
use Prim.Native.Nat.{ℕ, ◌+◌, ◌-◌, min}
use native.Mathlib.Omega.{arith}
use mathlib.Core.Path.{◌≡◌, refl, sym, ap, ◌∙◌}
use mathlib.Core.Logic.{⊎_elim, ◌↔◌}
use mathlib.Core.Bool.{true, false}
use mathlib.Core.List.{List, [], ◌++◌}
use borrow.Author.Tests.{eqb-true, eqb-false}
use lib.Dec.{eqb}
use lib.ListN.{length, drop}
use Rattle.lists.specs.Choice.{first, some_fits, numbered}
use Rattle.lists.specs.Sequence.{ticks, last_of}
use Rattle.lists.proofs.Tests.{true_or_false}
use Rattle.lists.proofs.Rows.{refused_exactly, numbered_append, last_none}
use Rattle.acts.specs.World.{World, Session, Act, feed, close, widen, change, Effect, held_by, kept_of, changed, done, refused, last_rows, rows_of, effect_of}
use Rattle.acts.specs.Calls.{Call, Meets}

-- ---- effects
module _ (w : World) where
  done_number : (a : Act w.Rule w.Source) (s : Session w.Rule) (h : List ℕ) → (done w a s h).number ≡ 0
  done_number (feed block) s h = refl
  done_number close s h = refl
  done_number widen s h = refl
  done_number (change r b) s h = refl

  last_numbers : (a : Act w.Rule w.Source) (s : Session w.Rule) → numbered (last_rows w a s) ≡ true
  last_numbers (feed block) s = refl
  last_numbers close s = refl
  last_numbers widen s = refl
  last_numbers (change r b) s = refl

  module _ (a : Act w.Rule w.Source) (s : Session w.Rule) (h : List ℕ) (x : w.Lent) where
    abbrev n : ℕ
    n = first (rows_of w a s h x)

    effect_number : (effect_of w a s h x).number ≡ n
    unfolding effect_of
    effect_number =
        ⊎_elim (λ (b : eqb n 0 ≡ true). rw b (done_number a s h ∙ sym (eqb-true n 0 b))) (λ (b : eqb n 0 ≡ false). rw b) (true_or_false (eqb n 0))

    effect_accepted : (effect_of w a s h x).number ≡ 0 → effect_of w a s h x ≡ done w a s h
    unfolding effect_of
    effect_accepted e =
        ⊎_elim (λ (b : eqb n 0 ≡ true). rw b) (λ (b : eqb n 0 ≡ false). absurd (eqb-false n 0 b (rw b at e))) (true_or_false (eqb n 0))

    effect_refused : ((effect_of w a s h x).number ≡ 0 → ⊥) → effect_of w a s h x ≡ refused w n a s h
    unfolding effect_of
    effect_refused e =
        ⊎_elim (λ (b : eqb n 0 ≡ true). absurd (e (rw b (done_number a s h)))) (λ (b : eqb n 0 ≡ false). rw b) (true_or_false (eqb n 0))

  -- ---- of a call
  module _ (c : Call w) (m : Meets w c) where
    abbrev number : Effect w → ℕ
    number e = e.number

    pub call_accepted : c.effect.number ≡ 0 → c.effect ≡ done w c.act c.session c.history
    call_accepted z = m.is ∙ effect_accepted c.act c.session c.history c.lent (sym (ap number m.is) ∙ z)

    -- no row fits, so none of the last ones
    pub call_last : c.effect.number ≡ 0 → first (last_rows w c.act c.session) ≡ 0
    call_last z =
        last_none (w.rows c.act c.session c.history c.lent) (last_rows w c.act c.session) (w.numbers c.act c.session c.history c.lent)
        (sym (effect_number c.act c.session c.history c.lent) ∙ sym (ap number m.is) ∙ z)

    pub call_none : (c.effect.number ≡ 0 → ⊥) → c.effect.verdicts ≡ []
    call_none r = ap (λ (e : Effect w). e.verdicts) (m.is ∙ effect_refused c.act c.session c.history c.lent (λ z. r (ap number m.is ∙ z)))

    pub call_refused : (¬ (c.effect.number ≡ 0)) ↔ (some_fits (rows_of w c.act c.session c.history c.lent) ≡ true)
    call_refused =
        rw (ap number m.is ∙ effect_number c.act c.session c.history c.lent)
        (refused_exactly (rows_of w c.act c.session c.history c.lent)
        (numbered_append (w.rows c.act c.session c.history c.lent) (last_rows w c.act c.session) (w.numbers c.act c.session c.history c.lent) (last_numbers c.act c.session)))

  -- ---- a change, plainly: of the h kept states the first h - D have verdicts, and the last D, or all h, stay
  pub changed_plainly : (s : Session w.Rule) (r : w.Rule) (h : List ℕ) →
      let kept = kept_of w s h in
      changed w s r h ≡ record {
        number = 0;
        verdicts = ticks (w.run r kept) (length kept - w.D r);
        session = record { rule = r; seen = length kept; first_tick = s.first_tick + s.seen - held_by w s; width = s.width };
        history = last_of (w.D r) kept ++ drop (min (length kept) (w.D r)) h;
      }
  changed_plainly s r h =
      let z : min 0 (w.D r) ≡ 0 = omega arith in
      let n : 0 - w.D r ≡ 0 = omega arith in
      let l : 0 + length (kept_of w s h) ≡ length (kept_of w s h) = omega arith in
      let m : length (kept_of w s h) - w.D r - 0 ≡ length (kept_of w s h) - w.D r = omega arith in
      rw (z, n, l, m)
