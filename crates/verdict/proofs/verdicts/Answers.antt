-- The number decides; of a call that is accepted the evaluator is ready. Assumes nothing.
use Prim.Native.Nat.{◌<◌}
use native.Mathlib.Omega.{arith}
use mathlib.Core.Path.{sym, ap, ◌∙◌, ◌≡◌}
use mathlib.Core.Bool.{Bool}
use borrow.Author.Rules.{rules}
use Rattle.std.specs.Prelude.{Err}
use Rattle.refusals.proofs.Positive.{refusal_above}
use lib.ListN.{length}
use Rattle.lists.specs.Choice.{first}
use Rattle.table.specs.Nodes.{rule_at}
use Rattle.verdict.specs.Verdict.{whole_number, whole_number_for, whole_rows}
use Rattle.verdict.proofs.Answers.{accepts, ready_sound, refuses, WholeFits, whole_fits}
use mathlib.Core.List.{List}
use Prim.Native.Nat.{ℕ}
use Rattle.table.specs.declared.Table.{Table}
use Rattle.table.specs.Sound.{is_sound}
use Rattle.verdict.proofs.verdicts.Goals as goal

rows_by : (t : Table) (r : ℕ) (states x o : List ℕ) {n : ℕ} {b : Bool}
    → n ≡ first (whole_rows b t.rule_count r (length states) (length x) (length o)) → b ≡ is_sound t → n ≡ whole_number_for t r states x o
unfolding whole_number
rows_by t r states x o e s = e ∙ ap (λ (b : Bool). first (whole_rows b t.rule_count r (length states) (length x) (length o))) s

-- no row fits
fit : (t : Table) (r : ℕ) (states x o : List ℕ) {b : Bool}
    → 0 ≡ first (whole_rows b t.rule_count r (length states) (length x) (length o)) → b ≡ is_sound t → WholeFits t r (length states) (length x) (length o)
fit t r states x o e s = whole_fits t r (length states) (length x) (length o) (sym (rows_by t r states x o e s))

few : {t : Table} {r k x o : ℕ} → WholeFits t r k x o → r < 8
few f = omega (arith, f.sound.few_rules, f.rule_there)

pub returns-in_err-check_whole : goal.returns-in_err-check_whole
returns-in_err-check_whole c =
    let a = c.args in
    let e = c.in_err-check_whole.field-0.0 in
    let r : c.from_residual.result ≡ Err e = search rules in
    rw r (refuses (rows_by a.t a.rule a.states.now a.scratch.now a.out.now c.in_err-check_whole.ensures c.sound.ensures) (refusal_above e))

pub offset_bounds-t-rule : goal.offset_bounds-t-rule
offset_bounds-t-rule c = let a = c.args in omega (arith, few (fit a.t a.rule a.states.now a.scratch.now a.out.now c.in_ok-check_whole.ensures c.sound.ensures))

pub bounds-t-rule : goal.bounds-t-rule
bounds-t-rule c = let a = c.args in few (fit a.t a.rule a.states.now a.scratch.now a.out.now c.in_ok-check_whole.ensures c.sound.ensures)

pub returns : goal.returns
returns c =
    let a = c.args in
    let f = fit a.t a.rule a.states.now a.scratch.now a.out.now c.in_ok-check_whole.ensures c.sound.ensures in
    accepts (sym (rows_by a.t a.rule a.states.now a.scratch.now a.out.now c.in_ok-check_whole.ensures c.sound.ensures))
    (ready_sound a.t (rule_at a.t a.rule).watched a.states.now (length a.states.now) a.scratch.now a.out.now f.sound.places f.sound
    (f.sound.rule a.rule f.rule_there).watched f.few_states (omega arith) f.scratch_fits f.out_fits)
    c.judge.ensures
