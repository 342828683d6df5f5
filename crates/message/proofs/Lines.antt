-- The line that a place of a text is in: the same behind a byte that is no line end, the next one behind a line end. Assumes nothing.
use Prim.Native.Nat.{ℕ, suc, ◌+◌}
use native.Mathlib.Nat.{add-zero}
use mathlib.Core.Path.{◌≡◌, refl}
use mathlib.Core.Bool.{false}
use mathlib.Core.List.{List}
use lib.Dec.{eqb}
use lib.ListN.{get_or}
use Rattle.message.specs.Message.{lines_before, line_start}

-- the places p and q are in one line
pub record SameLine (text : List ℕ) (p q : ℕ) : Type 0 where
  pub lines : lines_before text q ≡ lines_before text p
  pub start : line_start text q ≡ line_start text p

pub stays : (text : List ℕ) (p : ℕ) → eqb (get_or text p 0) 10 ≡ false → SameLine text p (suc p)
unfolding lines_before line_start
stays text p e = record { lines = rw e (add-zero (lines_before text p)); start = rw e refl }

pub next_line : (text : List ℕ) (p : ℕ) → get_or text p 0 ≡ 10 → (lines_before text (suc p) ≡ lines_before text p + 1) × (line_start text (suc p) ≡ suc p)
unfolding lines_before line_start
next_line text p e = (rw e refl, rw e refl)

-- where a text begins
pub first_line : (text : List ℕ) → (lines_before text 0 ≡ 0) × (line_start text 0 ≡ 0)
unfolding lines_before line_start
first_line text = (refl, refl)
