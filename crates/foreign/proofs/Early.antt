-- What C programs rely on of `juntreak_early`. Assumes nothing.
use Prim.Native.Nat.{ℕ, ◌*◌, ◌%◌, ◌≤◌}
use native.Mathlib.Omega.{arith}
use mathlib.Core.Path.{◌≡◌, refl, sym, ap, ◌∙◌}
use mathlib.Core.Logic.{⊎_elim}
use mathlib.Core.Bool.{Bool, true, false}
use mathlib.Core.List.{List, ◌++◌}
use borrow.Author.Tests.{eqb-true, eqb-false}
use lib.Dec.{eqb}
use lib.ListN.{length}
use Rattle.lists.specs.Choice.{pick}
use Rattle.lists.proofs.Rows.{first_within}
use Rattle.lists.proofs.Tests.{true_or_false}
use Rattle.mltl.specs.Known.{Value, no, undecided, yes, decided, known}
use Rattle.table.specs.Nodes.{watched_formula}
use Rattle.table.specs.Sound.{is_sound}
use Rattle.table.specs.declared.Table.{Table}
use Rattle.flat.specs.Flat.{table_from}
use Rattle.early.specs.Early.{refused, value, early_rows, early_number, early_number_for, early_told}
use Rattle.early.proofs.Promise.{relied}
use Rattle.shell.specs.Answers.{value_number, early_answer}
use Rattle.foreign.specs.Early.{ForeignEarly}

-- a value is known by its number
value_of : (v w : Value) → value_number v ≡ value_number w → v ≡ w
value_of no no e = refl
value_of no undecided e = absurd (omega arith)
value_of no yes e = absurd (omega arith)
value_of undecided no e = absurd (omega arith)
value_of undecided undecided e = refl
value_of undecided yes e = absurd (omega arith)
value_of yes no e = absurd (omega arith)
value_of yes undecided e = absurd (omega arith)
value_of yes yes e = refl

small : (t : Table) (rule states tick scratch : ℕ) → early_number t rule states tick scratch ≤ 255
unfolding early_number
small t rule states tick scratch = first_within 255 (early_rows (is_sound t) t.rule_count rule states tick scratch) refl

module _ (t : Table) (rule : ℕ) (states : List ℕ) (tick : ℕ) (scratch : List ℕ) where
  abbrev number : ℕ
  number = early_number_for t rule states tick scratch

  few : number ≤ 255
  few = small t rule (length states) tick (length scratch)

  abbrev is : Value
  is = known (watched_formula t rule) states tick

  -- the number 0 tells that a call is accepted
  accepted : early_answer (early_told t rule states tick scratch) % 256 ≡ 0 → number ≡ 0
  accepted e =
      ⊎_elim (λ (z : eqb number 0 ≡ true). eqb-true number 0 z)
      (λ (z : eqb number 0 ≡ false).
      let q : number % 256 ≡ 0 = sym (ap (λ (b : Bool). early_answer (pick b (value is) (refused number)) % 256) z) ∙ e in
      omega (arith, few, q)) (true_or_false (eqb number 0))

  -- and above it stands the value
  told : (v : Value) → early_answer (early_told t rule states tick scratch) ≡ 256 * value_number v → early_told t rule states tick scratch ≡ value v
  told v e =
      ⊎_elim
      (λ (z : eqb number 0 ≡ true).
      let q : 256 * value_number is ≡ 256 * value_number v = sym (ap (λ (b : Bool). early_answer (pick b (value is) (refused number))) z) ∙ e in
      ap (λ (b : Bool). pick b (value is) (refused number)) z ∙ ap value (value_of is v (omega arith)))
      (λ (z : eqb number 0 ≡ false).
      let q : number ≡ 256 * value_number v = sym (ap (λ (b : Bool). early_answer (pick b (value is) (refused number))) z) ∙ e in
      absurd (eqb-false number 0 z (omega (arith, few, q)))) (true_or_false (eqb number 0))

pub foreign_early : ForeignEarly
foreign_early = record {
  stays = λ table rule states tick scratch b e later scratch₂ z.
      ap early_answer
      ((relied (table_from table) rule states tick scratch).stays b (told (table_from table) rule states tick scratch (decided b) e) later scratch₂
      (accepted (table_from table) rule (states ++ later) tick scratch₂ z));
  verdict = λ table rule states tick scratch b e. (relied (table_from table) rule states tick scratch).verdict b (told (table_from table) rule states tick scratch (decided b) e);
}
