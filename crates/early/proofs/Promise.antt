-- What a caller relies on. Assumes nothing.
use Prim.Native.Nat.{ℕ, ◌≤◌, ◌<◌}
use mathlib.Core.Path.{◌≡◌, refl, sym, ap, ◌∙◌}
use mathlib.Core.Logic.{⊎_elim, ◌↔◌}
use mathlib.Core.Bool.{Bool, true, false, true≢false}
use mathlib.Core.List.{List, ◌++◌}
use lib.Dec.{eqb}
use lib.ListN.{length}
use Rattle.lists.specs.Choice.{pick, some_fits}
use Rattle.lists.proofs.Rows.{refused_exactly}
use Rattle.lists.proofs.Tests.{lt_or_le}
use Rattle.mltl.specs.Mltl.{Formula, holds}
use Rattle.mltl.specs.Known.{Value, undecided, decided, is_yes, is_no, known}
use Rattle.mltl.proofs.Known.{unseen, decided_stays, decided_holds, decided_closed, delay_decided}
use Rattle.table.specs.Nodes.{watched_formula}
use Rattle.table.specs.Sound.{is_sound}
use Rattle.table.specs.declared.Table.{Table}
use Rattle.early.specs.Early.{Told, refused, value, early_rows, early_number, early_number_for, early_told}
use Rattle.early.specs.Promise.{Relied}

-- ---- what a value says
abbrev is_value : Told → Bool
is_value (refused n) = false
is_value (value v) = true

abbrev value_of : Told → Value
value_of (refused n) = undecided
value_of (value v) = v

-- a call that tells a value is accepted, and that is what is known
valued : (b : Bool) (n : ℕ) {v w : Value} → value w ≡ pick b (value v) (refused n) → v ≡ w
valued true n e = sym (ap value_of e)
valued false n e = absurd (true≢false (ap is_value e))

module _ (t : Table) (rule : ℕ) (states : List ℕ) (tick : ℕ) (scratch : List ℕ) where
  abbrev number : ℕ
  number = early_number_for t rule states tick scratch

  known_as : (v : Value) → early_told t rule states tick scratch ≡ value v → known (watched_formula t rule) states tick ≡ v
  known_as v e = valued (eqb number 0) number (sym e)

  told_as : (v : Value) → number ≡ 0 → known (watched_formula t rule) states tick ≡ v → early_told t rule states tick scratch ≡ value v
  told_as v z e = ap (λ (n : ℕ). pick (eqb n 0) (value (known (watched_formula t rule) states tick)) (refused n)) z ∙ ap value e

-- what is decided was seen
decided_seen : (b : Bool) → decided b ≡ undecided → ⊥
decided_seen true e = true≢false (ap is_yes e)
decided_seen false e = true≢false (ap is_no e)

exactly : (t : Table) (rule states tick scratch : ℕ)
    → (¬ (early_number t rule states tick scratch ≡ 0)) ↔ (some_fits (early_rows (is_sound t) t.rule_count rule states tick scratch) ≡ true)
unfolding early_number
exactly t rule states tick scratch = refused_exactly (early_rows (is_sound t) t.rule_count rule states tick scratch) refl

pub relied : (t : Table) (rule : ℕ) (states : List ℕ) (tick : ℕ) (scratch : List ℕ) → Relied t rule states tick scratch
relied t rule states tick scratch =
    let f : Formula = watched_formula t rule in
    let is : (b : Bool) → early_told t rule states tick scratch ≡ value (decided b) → known f states tick ≡ decided b = λ b. known_as t rule states tick scratch (decided b) in
    record {
      stays = λ b e later scratch₂ z. told_as t rule (states ++ later) tick scratch₂ (decided b) z (decided_stays states later f tick b (is b e));
      verdict = λ b e later. decided_holds states later f tick b (is b e);
      closed = λ b e. decided_closed states f tick b (is b e);
      seen = λ b e.
          ⊎_elim (λ (h : tick < length states). h)
          (λ (h : length states ≤ tick). absurd (decided_seen b (sym (is b e) ∙ unseen f states tick h))) (lt_or_le tick (length states));
      in_time = λ z l. told_as t rule states tick scratch (decided (holds f states tick)) z (delay_decided states f tick l);
      refused_exactly = exactly t rule (length states) tick (length scratch);
    }
