-- The rows decide; a rule of a sound table has a near distance below its delay. Assumes nothing.
use Prim.Native.Nat.{ℕ, ◌≤◌, ◌<◌}
use mathlib.Core.Path.{◌≡◌, sym, ap, ap₂, ◌∙◌}
use mathlib.Core.List.{map}
use native.Mathlib.Omega.{arith}
use borrow.Author.Rules.{rules}
use borrow.Author.Tests.{le-leb, lt-leb}
use lib.ListN.{length, get_or}
use Rattle.std.specs.Prelude.{Ok, Err}
use Rattle.refusals.specs.declared.Refusal.TheVariants
use Rattle.mltl.specs.Mltl.{near}
use Rattle.table.specs.Nodes.{rule_at, measures, cap}
use Rattle.table.specs.Sound.{RuleDelay, delay_told, rule_delay}
use Rattle.table.specs.declared.Table.{Table}
use Rattle.table.proofs.Delays.{whole_delay}
use Rattle.reach.specs.Reach.{ticks_within, reach_number, reached}
use Rattle.reach.proofs.Answers.{reach_fits, delay_is, told, refused_by, number_before, number_behind}
use Rattle.reach.proofs.Nears.{near_found}
use Rattle.reach.proofs.reach.Goals as goal

-- where no row fits
module _ (t : Table) (rule n s : ℕ) {d : ℕ} (e : delay_told (Ok d) ≡ rule_delay t rule) (l : s < n) where
  accepted : reach_number t rule n s ≡ 0
  accepted = sym (number_behind t rule n s e) ∙ rw (lt-leb n s l)

  below : rule < 8
  below = let f = reach_fits t rule n s accepted in omega (arith, f.sound.few_rules, f.rule_there)

  given : {v : ℕ} → v ≡ get_or (map cap (measures near t.nodes)) (rule_at t rule).watched 0 → ticks_within v d s ≡ reached t rule n s
  given p =
      let f = reach_fits t rule n s accepted in
      ap₂ (λ (x y : ℕ). ticks_within x y s) (near_found t f.sound rule f.rule_there p)
      (ap (λ (r : RuleDelay). r.delay) e ∙ delay_is t rule n s accepted)
      ∙ sym (told t rule n s accepted)

pub returns-in_err-delay : goal.returns-in_err-delay
returns-in_err-delay c =
    let a = c.args in
    let f = c.in_err-delay.field-0.0 in
    let r : c.from_residual.result ≡ Err f = search rules in
    rw r (refused_by a.t a.rule a.length a.tick f (number_before a.t a.rule a.length a.tick f c.in_err-delay.ensures))

pub returns-then-length-tick : goal.returns-then-length-tick
returns-then-length-tick c =
    let a = c.args in
    refused_by a.t a.rule a.length a.tick TheVariants.Beyond
    (sym (rw (le-leb a.length a.tick c.if-length-tick.true)) ∙ number_behind a.t a.rule a.length a.tick c.in_ok-delay.ensures)

pub offset_bounds-t-rule : goal.offset_bounds-t-rule
offset_bounds-t-rule c = let a = c.args in omega (arith, below a.t a.rule a.length a.tick c.in_ok-delay.ensures c.if-length-tick.false)

pub bounds-t-rule : goal.bounds-t-rule
bounds-t-rule c = let a = c.args in below a.t a.rule a.length a.tick c.in_ok-delay.ensures c.if-length-tick.false

pub returns : goal.returns
returns c =
    let l = c.measures-nears in
    let a = c.args in
    let k : length l.result ≤ 64 = search rules in
    c.ticks_within.ensures
    ∙ given a.t a.rule a.length a.tick c.in_ok-delay.ensures c.if-length-tick.false
    (whole_delay (measures near a.t.nodes) l.result _ l.ensures k c.measure_at-near.ensures)
