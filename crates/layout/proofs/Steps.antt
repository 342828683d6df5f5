-- What an operator leaves is a step. Assumes nothing.
use mathlib.Core.Path.{◌≡◌, ap, ◌∙◌}
use mathlib.Core.Bool.{Bool, true}
use mathlib.Core.List.{List}
use Prim.Native.Nat.{ℕ, ◌+◌, ◌≤◌, min}
use native.Mathlib.Omega.{arith}
use borrow.Author.Tests.{le-leb}
use lib.Dec.{leb}
use lib.ListN.{length, take, drop}
use Rattle.limits.specs.Limits.{register_words, scratch_words}
use Rattle.lists.specs.Choice.{pick}
use Rattle.column.specs.Column.{register, lay}
use Rattle.column.proofs.Registers.{register_lay, take_lay}
use Rattle.operators.specs.Operators.{worked, Operand}
use Rattle.operators.proofs.Fits.{Four}
use Rattle.operators.proofs.Worked.{drop_above, worked_here, worked_low, worked_high}
use Rattle.layout.specs.Layout.{left_place, work_place, Place, Step}

-- ---- where the operators' registers fit
pub place_fits : {b m : ℕ} {xs : List ℕ} → Place b m xs → leb (b + m) (length xs) ≡ true
place_fits {b} {m} {xs} h = let i = h.node in let j = h.small in let k = h.enough in le-leb (b + m) (length xs) (omega arith)

pub operand_of : {a b m : ℕ} {xs : List ℕ} → Place b m xs → a + register_words ≤ b → Operand a b m xs
operand_of h l = let i = h.node in let j = h.small in let k = h.enough in record { before = omega arith; enough = omega arith }

pub four_of : {a c b m : ℕ} {xs : List ℕ} → Place b m xs → a + register_words ≤ b → c + register_words ≤ b → Four a c b left_place work_place m (length xs)
four_of h l o =
    let i = h.node in let j = h.small in let k = h.enough in
    record { left = omega arith; right = omega arith; result = omega arith; copy = omega arith; work = omega arith }

-- ---- steps
-- a column laid at b
pub laid_step : {b m : ℕ} {f : ℕ → Bool} {xs ys : List ℕ} {t : Bool} → Place b m xs → t ≡ true → ys ≡ pick t (lay b m f xs) xs → Step b m f xs ys
laid_step {b} {m} {f} {xs} h e q =
    let i = h.node in let j = h.small in let k = h.enough in
    let r = q ∙ ap (λ (t : Bool). pick t (lay b m f xs) xs) e in
    record {
      here = ap (register b m) r ∙ register_lay b m f xs (omega arith);
      low = ap (take b) r ∙ take_lay b m f xs (omega arith);
      high = ap (drop scratch_words) r ∙ drop_above b m f xs (omega arith) scratch_words (omega arith);
    }

-- a signal, of which no more words are laid than a register has
pub signal_step : {b m : ℕ} {f : ℕ → Bool} {xs ys : List ℕ} → Place b m xs → ys ≡ pick (leb (b + m) (length xs)) (lay b (min register_words m) f xs) xs → Step b m f xs ys
signal_step {b} {m} {f} {xs} h q =
    let j = h.small in
    let e : min register_words m ≡ m = omega arith in
    laid_step h (place_fits h) (q ∙ ap (λ (k : ℕ). pick (leb (b + m) (length xs)) (lay b k f xs) xs) e)

-- what U and R leave
pub worked_step : (Q : ℕ → (ℕ → Bool) → ℕ → Bool) {b m : ℕ} (ks : List ℕ) {f : ℕ → Bool} (g : ℕ → Bool) {xs ys : List ℕ} {t : Bool} → Place b m xs → t ≡ true
    → ys ≡ pick t (worked Q b left_place work_place m ks f g xs) xs → Step b m f xs ys
worked_step Q {b} {m} ks {f} g {xs} h e q =
    let i = h.node in let j = h.small in let k = h.enough in
    let r = q ∙ ap (λ (t : Bool). pick t (worked Q b left_place work_place m ks f g xs) xs) e in
    record {
      here = ap (register b m) r ∙ worked_here Q b left_place work_place m ks f g xs (omega arith) (omega arith) (omega arith);
      low = ap (take b) r ∙ worked_low Q b left_place work_place m ks f g xs (omega arith) (omega arith) (omega arith);
      high = ap (drop scratch_words) r ∙ worked_high Q b left_place work_place m ks f g xs (omega arith) (omega arith) (omega arith) scratch_words (omega arith);
    }
