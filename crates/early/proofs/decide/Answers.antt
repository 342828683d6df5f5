-- The number decides; of a call that is accepted everything can be computed. Assumes nothing.
use Prim.Native.Nat.{◌<◌}
use native.Mathlib.Omega.{arith}
use mathlib.Core.Path.{sym, ap, ◌∙◌, ◌≡◌}
use mathlib.Core.Bool.{Bool}
use borrow.Author.Rules.{rules}
use Rattle.std.specs.Prelude.{Err}
use lib.ListN.{length}
use Rattle.lists.specs.Choice.{first}
use Rattle.early.specs.Early.{early_number, early_number_for, early_rows}
use Rattle.early.proofs.Answers.{accepts, answerable, early_fits, EarlyFits, refuses}
use mathlib.Core.List.{List}
use Prim.Native.Nat.{ℕ}
use Rattle.table.specs.declared.Table.{Table}
use Rattle.table.specs.Sound.{is_sound}
use Rattle.early.proofs.decide.Goals as goal

rows_by : (t : Table) (r : ℕ) (states : List ℕ) (tick : ℕ) (x : List ℕ) {n : ℕ} {b : Bool}
    → n ≡ first (early_rows b t.rule_count r (length states) tick (length x)) → b ≡ is_sound t → n ≡ early_number_for t r states tick x
unfolding early_number
rows_by t r states tick x e s = e ∙ ap (λ (b : Bool). first (early_rows b t.rule_count r (length states) tick (length x))) s

-- no row fits
fit : (t : Table) (r : ℕ) (states : List ℕ) (tick : ℕ) (x : List ℕ) {b : Bool}
    → 0 ≡ first (early_rows b t.rule_count r (length states) tick (length x)) → b ≡ is_sound t → EarlyFits t r (length states) tick (length x)
fit t r states tick x e s = early_fits t r (length states) tick (length x) (sym (rows_by t r states tick x e s))

few : {t : Table} {r k tick x : ℕ} → EarlyFits t r k tick x → r < 8
few f = omega (arith, f.sound.few_rules, f.rule_there)

pub returns-in_err-check_early : goal.returns-in_err-check_early
returns-in_err-check_early c =
    let a = c.args in
    let e = c.in_err-check_early.field-0.0 in
    let r : c.from_residual.result ≡ Err e = search rules in
    rw r (refuses e (rows_by a.t a.rule a.states.now a.tick a.scratch.now c.in_err-check_early.ensures c.sound.ensures))

pub offset_bounds-t-rule : goal.offset_bounds-t-rule
offset_bounds-t-rule c = let a = c.args in omega (arith, few (fit a.t a.rule a.states.now a.tick a.scratch.now c.in_ok-check_early.ensures c.sound.ensures))

pub bounds-t-rule : goal.bounds-t-rule
bounds-t-rule c = let a = c.args in few (fit a.t a.rule a.states.now a.tick a.scratch.now c.in_ok-check_early.ensures c.sound.ensures)

pub evaluate-requires : goal.evaluate-requires
evaluate-requires c = let a = c.args in answerable a.rule (fit a.t a.rule a.states.now a.tick a.scratch.now c.in_ok-check_early.ensures c.sound.ensures)

pub returns : goal.returns
returns c =
    let a = c.args in
    let q = c.evaluate.ensures in
    accepts (sym (rows_by a.t a.rule a.states.now a.tick a.scratch.now c.in_ok-check_early.ensures c.sound.ensures)) q.0 q.1
