-- What the code answers: the number, and the table that goes with it. Assumes nothing.
use Prim.Native.Nat.{ℕ, ◌≤◌, ◌<◌}
use native.Mathlib.Omega.{arith}
use mathlib.Core.Path.{◌≡◌, refl, sym, ◌∙◌}
use mathlib.Core.Bool.{Bool, true, false}
use borrow.Author.Tests.{ltb-true, ltb-false, lt-ltb, le-ltb, leb-false}
use lib.Dec.{ltb}
use Rattle.std.specs.Prelude.{Ok, Err}
use Rattle.refusals.specs.Refusals.{number_of}
use Rattle.refusals.specs.declared.Refusal.{Refusal}
use Rattle.refusals.proofs.Positive.{refuses}
use Rattle.lists.specs.Choice.{first}
use Rattle.lists.proofs.Rows.{no_row}
use Rattle.table.specs.Nodes.{cap}
use Rattle.table.specs.declared.Node.{Node}
use Rattle.table.specs.declared.Rule.{Rule}
use Rattle.table.specs.declared.Table.{Table}
use Rattle.builder.specs.Adding.{node_rows_by, add_rule_rows, added_told, added_by}

-- a capped delay is too long where the delay is
pub long_cap : (d : ℕ) → ltb 4095 (cap d) ≡ ltb 4095 d
long_cap d = go (ltb 4095 d) refl
  where
    go : (b : Bool) → ltb 4095 d ≡ b → ltb 4095 (cap d) ≡ b
    go true e = let h : 4095 < d = ltb-true 4095 d e in lt-ltb 4095 (cap d) (omega arith)
    go false e = let h : d ≤ 4095 = ltb-false 4095 d e in le-ltb 4095 (cap d) (omega arith)

-- so a capped delay has the same rows
pub rows_capped : (count : ℕ) (n : Node) (delay : ℕ) {d f : ℕ} → f ≡ first (node_rows_by count d n) → d ≡ cap delay → f ≡ first (node_rows_by count delay n)
rows_capped count n delay e h = e ∙ rw (h, long_cap)

-- ---- the answer by the number of the first row that fits
module _ (t longer : Table) where
  pub refused_is : (e : Refusal) {f : ℕ} → number_of e ≡ f → added_told t (Err e) ≡ added_by f t longer
  refused_is e n = rw (← n, refuses e)

  pub accepted_is : {f : ℕ} → 0 ≡ f → added_told t (Ok longer) ≡ added_by f t longer
  accepted_is n = rw (← n)

-- ---- what is accepted has a free place
pub node_place : (count d : ℕ) (n : Node) {f : ℕ} → f ≡ first (node_rows_by count d n) → 0 ≡ f → count < 64
node_place count d n e z = leb-false 64 count (no_row (node_rows_by count d n) refl (sym (z ∙ e)) 3)

pub rule_place_lem : (t : Table) (r : Rule) {f : ℕ} → f ≡ first (add_rule_rows t r) → 0 ≡ f → t.rule_count < 8
rule_place_lem t r e z = leb-false 8 t.rule_count (no_row (add_rule_rows t r) refl (sym (z ∙ e)) 2)
