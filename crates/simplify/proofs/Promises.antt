-- What a caller gets of the promise: when a table is accepted, what stays, and that a second call changes nothing. Assumes nothing.
use Prim.Native.Nat.{ℕ, ◌≤◌, ◌<◌}
use native.Mathlib.Omega.{arith}
use mathlib.Core.Path.{◌≡◌, sym, ap, ◌∙◌}
use mathlib.Core.Bool.{true, false}
use mathlib.Core.Logic.{⊎_elim, ◌↔◌}
use mathlib.Core.List.{List}
use lib.ListN.{length}
use Rattle.lists.proofs.Tests.{true_or_false}
use Rattle.mltl.specs.Mltl.{holds, delay}
use Rattle.table.specs.declared.Table.{Table}
use Rattle.table.specs.Nodes.{watched_formula}
use Rattle.table.specs.Sound.{is_sound, Sound}
use Rattle.table.proofs.Soundness.{sound_iff}
use Rattle.simplify.specs.Promise.{Simplified, Simpler, Promised}

module _ (t : Table) (r : Simplified) (p : Promised t r) where
  -- accepted exactly where the table is sound, and refused with 25 exactly where it is not
  pub accepted_iff : (r.number ≡ 0) ↔ (is_sound t ≡ true)
  accepted_iff = (
    λ z. ⊎_elim (λ s. s) (λ u. absurd (omega (arith, ap (λ (x : Simplified). x.number) (p.refused u)))) (true_or_false (is_sound t)),
    λ s. (p.accepted s).0,
  )

  pub refused_iff : (r.number ≡ 25) ↔ (is_sound t ≡ false)
  refused_iff = (
    λ z. ⊎_elim (λ s. absurd (omega (arith, (p.accepted s).0))) (λ u. u) (true_or_false (is_sound t)),
    λ u. ap (λ (x : Simplified). x.number) (p.refused u),
  )

  pub refused_same : is_sound t ≡ false → r.table ≡ t
  refused_same u = ap (λ (x : Simplified). x.table) (p.refused u)

  module _ (z : r.number ≡ 0) where
    pub is_simpler : Simpler t r.table
    is_simpler = (p.accepted (accepted_iff.0 z)).1

    pub sound_before : Sound t
    sound_before = (sound_iff t).0 (accepted_iff.0 z)

    pub sound_after : Sound r.table
    sound_after = (sound_iff r.table).0 is_simpler.sound

    pub same_rule_count : r.table.rule_count ≡ t.rule_count
    same_rule_count = is_simpler.rule_count

    pub same_verdict : (k : ℕ) → k < t.rule_count → (xs : List ℕ) (i : ℕ) → i < length xs
        → holds (watched_formula r.table k) xs i ≡ holds (watched_formula t k) xs i
    same_verdict = is_simpler.verdicts

    pub delay_not_larger : (k : ℕ) → k < t.rule_count → delay (watched_formula r.table k) ≤ delay (watched_formula t k)
    delay_not_larger = is_simpler.delays

-- simplifying the result again gives the result
pub idempotent : (t : Table) (r s : Simplified) → Promised t r → Promised r.table s → s ≡ r
idempotent t r s p q = ⊎_elim
    (λ (h : is_sound t ≡ true).
    let a = p.accepted h in
    let b = q.accepted a.1.sound in
    let n : s.number ≡ r.number = b.0 ∙ sym a.0 in
    let e : s.table ≡ r.table = b.1.unchanged a.1.none_fits in
    λ i. record { number = n i; table = e i })
    (λ (h : is_sound t ≡ false).
    let e : r.table ≡ t = refused_same t r p h in
    q.refused (ap is_sound e ∙ h) ∙ (λ i. record { number = 25; table = e i }) ∙ sym (p.refused h))
    (true_or_false (is_sound t))
