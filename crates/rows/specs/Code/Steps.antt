-- A row in two parts, as the code puts it together.
use Rattle.std.specs.Prelude.{◌≡◌, List, [], ◌∷◌, ◌++◌, ℕ, ◌+◌, ◌/◌, ◌%◌, ◌≤◌, ltb, length, take}
use Rattle.lists.specs.Choice.{pick}
use Rattle.rows.specs.Rows.{decimal}

-- the name, a space, and all digits of the tick but the last
abbrev pub front : List ℕ → ℕ → List ℕ
front name tick = name ++ (32 ∷ pick (ltb tick 10) [] (decimal (tick / 10)))

-- the last digit of the tick, the verdict, and the line's end
abbrev pub row_end : List ℕ → ℕ → ℕ → List ℕ
row_end xs tick verdict = xs ++ ((48 + tick % 10) ∷ 32 ∷ (48 + verdict) ∷ 10 ∷ [])

-- the first k bytes of a buffer are the front of the row of a tick
pub record Fronted (name : List ℕ) (tick : ℕ) (buffer : List ℕ) (k : ℕ) : Type 0 where
  pub bytes : take k buffer ≡ front name tick
  pub short : k ≤ 28
  pub within : 32 ≤ length buffer
