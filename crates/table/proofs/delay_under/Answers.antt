-- The rows decide; a rule below the count of a sound table is below 8. Assumes nothing.
use Prim.Native.Nat.{ℕ, ◌≤◌, ◌<◌}
use mathlib.Core.Path.{◌≡◌, sym, ap, ◌∙◌}
use mathlib.Core.Bool.{Bool}
use native.Mathlib.Omega.{arith}
use borrow.Author.Rules.{rules}
use Rattle.std.specs.Prelude.{Err}
use lib.ListN.{length}
use Rattle.lists.specs.Choice.{first}
use Rattle.table.specs.declared.Table.{Table}
use Rattle.table.specs.Nodes.{measures, wait_of}
use Rattle.table.specs.Sound.{is_sound_by, delay_number_by, rule_rows}
use Rattle.table.proofs.Delays.{whole_delay}
use Rattle.table.proofs.Soundness.{delay_refused, rule_there, delay_found}
use Rattle.table.proofs.delay_under.Goals as goal

-- the rows by the table's soundness
rows_by : (old : Bool) (t : Table) (r : ℕ) {n : ℕ} {b : Bool} → n ≡ first (rule_rows b t.rule_count r) → b ≡ is_sound_by (wait_of old) t
    → n ≡ delay_number_by (wait_of old) t r
rows_by old t r e s = e ∙ ap (λ (b : Bool). first (rule_rows b t.rule_count r)) s

-- a rule that is there is one of 8
below : (old : Bool) (t : Table) (r : ℕ) → 0 ≡ delay_number_by (wait_of old) t r → r < 8
below old t r e = let k = rule_there old t r (sym e) in omega (arith, k.0.few_rules, k.1)

pub returns-in_err-check_rule : goal.returns-in_err-check_rule
returns-in_err-check_rule c =
    let a = c.args in
    let e : c.from_residual.result ≡ Err c.in_err-check_rule.field-0.0 = search rules in
    rw e
    (delay_refused a.old a.t a.rule c.in_err-check_rule.field-0.0
    (rows_by a.old a.t a.rule c.in_err-check_rule.ensures (c.sound_with.ensures (wait_of a.old) c.measures-ds.ensures)))

pub offset_bounds-t-rule : goal.offset_bounds-t-rule
offset_bounds-t-rule c =
    let a = c.args in
    omega (arith, below a.old a.t a.rule (rows_by a.old a.t a.rule c.in_ok-check_rule.ensures (c.sound_with.ensures (wait_of a.old) c.measures-ds.ensures)))

-- the rule's place
pub bounds-t-rule : goal.bounds-t-rule
bounds-t-rule c =
    let a = c.args in
    below a.old a.t a.rule (rows_by a.old a.t a.rule c.in_ok-check_rule.ensures (c.sound_with.ensures (wait_of a.old) c.measures-ds.ensures))

pub returns : goal.returns
returns c =
    let a = c.args in
    let l = c.measures-ds in
    let k : length l.result ≤ 64 = search rules in
    delay_found a.old a.t a.rule
    (sym (rows_by a.old a.t a.rule c.in_ok-check_rule.ensures (c.sound_with.ensures (wait_of a.old) l.ensures)))
    (whole_delay (measures (wait_of a.old) a.t.nodes) l.result _ l.ensures k c.measure_at.ensures)
