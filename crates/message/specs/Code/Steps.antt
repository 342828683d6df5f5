-- What is put into a buffer.
use Rattle.std.specs.Prelude.{ℕ, ◌+◌, ◌≤◌, List, length}
use Rattle.rows.specs.Rows.{Put}

-- xs was put into old at a place, if there is room for it
pub record PutInRoom (old : List ℕ) (at : ℕ) (xs new : List ℕ) (next : ℕ) : Type 0 where
  pub put : at + length xs ≤ length old → Put old at xs new next

-- the most spaces before the mark
abbrev pub indent_most : ℕ
indent_most = 75
