-- The three answers of the step. Assumes nothing.
use Prim.Native.Nat.{ℕ}
use mathlib.Core.Path.{◌≡◌, refl, sym, ◌∙◌}
use borrow.Author.Rules.{rules}
use Rattle.std.specs.Prelude.{Result, Ok, Err}
use Rattle.std.specs.Result.{result_unwrap_or}
use Rattle.refusals.specs.declared.Refusal.{Refusal}
use Rattle.book.specs.Writing.{writing_told}
use Rattle.refusals.proofs.Positive.{refusal_above}
use Rattle.rules.proofs.Laws.{compiled_long, compiled_refused, compiled_book}
use Rattle.rules.proofs.compile.Goals as goal

-- a book that is refused has no bytes
length_told : (r : Result ℕ Refusal) → (writing_told r).length ≡ result_unwrap_or r 0
length_told (Ok n) = refl
length_told (Err e) = refl

pub returns-then-text-gt-MAX_TEXT : goal.returns-then-text-gt-MAX_TEXT
returns-then-text-gt-MAX_TEXT c =
    let a = c.args in
    compiled_long a.text.now a.book.now a.message.now c.if-text-gt-MAX_TEXT.true c.put_long-used.ensures

pub returns-in-Ok : goal.returns-in-Ok
returns-in-Ok c =
    let a = c.args in
    rw (c.unwrap_or.ensures ∙ sym (length_told c.write.result))
    (compiled_book a.text.now a.book.now a.message.now c.if-text-gt-MAX_TEXT.false c.in-Ok.ensures refl (search rules) c.write.ensures.0 c.write.ensures.1)

pub returns-in-Err : goal.returns-in-Err
returns-in-Err c =
    let a = c.args in
    compiled_refused a.text.now a.book.now a.message.now c.if-text-gt-MAX_TEXT.false c.in-Err.ensures (refusal_above c.in-Err.fault.refusal) (rw c.number-number.ensures at c.put_refusal-used.ensures)
