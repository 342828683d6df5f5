-- Lists of moves, by which F's window is made of its operand, and the fewest that make it (A7).
-- A list starts from the operand. Each of its moves joins two earlier results, either one moved by any amount, and so makes one result more. Results are
-- counted from the last one back: 0 is the last, and behind all others stands the operand. Where no result stands, one that is clear is taken.
use Rattle.std.specs.Prelude.{ℕ, ◌+◌, ◌-◌, ◌^◌, ◌≤◌, ◌<◌, ◌≡◌, Bool, true, false, not, ◌&&◌, ◌||◌, List, [], ◌∷◌, ◌++◌, map, ltb, leb, eqb, length, get_or}
use Rattle.lists.specs.Bits.{below}
use Rattle.lists.specs.Choice.{pick}
use Rattle.lists.specs.Sequence.{ticks, some}
use Rattle.mltl.specs.Mltl.{eventually}
use Rattle.interval.specs.Parts.{top}
use Rattle.interval.specs.Doubling.{leftover, move_count}

-- down by k: tick t gets what tick t + k had; up by k: tick t + k gets what tick t had
pub data Shift : Type 0 where
  down up : ℕ → Shift

-- which two results are joined, and how each is moved before
pub record Move : Type 0 where
  pub first : ℕ
  pub first_by : Shift
  pub second : ℕ
  pub second_by : Shift

-- ---- what a list of moves makes, whatever its results are: what moves and joins them, and what is clear
pub record Joins (A : Type 0) : Type 0 where
  pub clear : A
  pub moved : Shift → A → A
  pub join : A → A → A

module _ {A : Type 0} (k : Joins A) where
  abbrev pub result : Move → List A → A
  result m rs = k.join (k.moved m.first_by (get_or rs m.first k.clear)) (k.moved m.second_by (get_or rs m.second k.clear))

  -- the results after the moves, the last one first, and behind them those that stood before, rs
  unfoldable pub results : List A → List Move → List A
  results rs [] = rs
  results rs (m ∷ ms) = results (result m rs ∷ rs) ms

  -- the last result
  abbrev pub made : A → List Move → A
  made operand ms = get_or (results (operand ∷ []) ms) 0 k.clear

-- ---- by what it computes: columns of n ticks; what is moved past an end is lost, and what comes in there is clear
abbrev pub column_moved : ℕ → Shift → (ℕ → Bool) → ℕ → Bool
column_moved n (down k) a t = below n a (t + k)
column_moved n (up k) a t = leb k t && a (t - k)

abbrev pub columns : ℕ → Joins (ℕ → Bool)
columns n = record { clear = λ t. false; moved = column_moved n; join = λ a b t. a t || b t }

-- the list makes F[0, m - 1] of every operand, on every column that is long enough
pub record Computes (m : ℕ) (ms : List Move) : Type 0 where
  pub enough : ℕ
  pub is : (n : ℕ) → enough ≤ n → (a : ℕ → Bool) (t : ℕ) → t < n → made (columns n) a ms t ≡ eventually n 0 (m - 1) a t

-- ---- by offsets: the result at t is the operand at some t + o, o one of a set, which begins as 0 alone
-- an offset, which may be below 0: how far ahead, less how far back
pub record Offset : Type 0 where
  pub ahead : ℕ
  pub back : ℕ

abbrev pub offset_moved : Shift → Offset → Offset
offset_moved (down k) o = record { ahead = o.ahead + k; back = o.back }
offset_moved (up k) o = record { ahead = o.ahead; back = o.back + k }

abbrev pub offset_sets : Joins (List Offset)
offset_sets = record { clear = []; moved = λ s os. map (offset_moved s) os; join = ◌++◌ }

abbrev pub offsets : List Move → List Offset
offsets ms = made offset_sets (record { ahead = 0; back = 0 } ∷ []) ms

-- the offset is o; it is one of 0 to m - 1
abbrev pub is_offset : ℕ → Offset → Bool
is_offset o x = eqb x.ahead (x.back + o)

abbrev pub in_length : ℕ → Offset → Bool
in_length m x = leb x.back x.ahead && ltb x.ahead (x.back + m)

-- the list ends at the whole length m: its offsets are 0 to m - 1
pub record EndsAt (m : ℕ) (ms : List Move) : Type 0 where
  pub each : (o : ℕ) → o < m → some (is_offset o) (offsets ms) ≡ true
  pub others : some (λ x. not (in_length m x)) (offsets ms) ≡ false

-- ---- the list for an interval with hi - lo = v: doublings and, with a leftover, one move more
-- the last result joined with itself moved down
abbrev pub joined_by : ℕ → Move
joined_by k = record { first = 0; first_by = down 0; second = 0; second_by = down k }

abbrev pub moves_of : ℕ → List Move
moves_of v = ticks (λ j. joined_by (2 ^ j)) (top v) ++ pick (eqb (leftover v) 0) [] (joined_by (leftover v) ∷ [])

-- ---- what is promised of it
pub record Fewest (v : ℕ) : Type 0 where
  -- 2 ^ top v is the largest power of two that is at most the length
  pub low : 2 ^ top v ≤ v + 1
  pub high : v + 1 < 2 ^ (top v + 1)
  -- the list has as many moves as the call answers, makes F[0, v] of every operand on every column, and ends at the whole length
  pub counted : length (moves_of v) ≡ move_count v
  pub makes : (n : ℕ) (a : ℕ → Bool) (t : ℕ) → t < n → made (columns n) a (moves_of v) t ≡ eventually n 0 v a t
  pub whole : EndsAt (v + 1) (moves_of v)
  -- every other list that makes it ends there too, and every list that ends there has at least as many moves
  pub ends : (ms : List Move) → Computes (v + 1) ms → EndsAt (v + 1) ms
  pub least : (ms : List Move) → EndsAt (v + 1) ms → move_count v ≤ length ms
  pub least_made : (ms : List Move) → Computes (v + 1) ms → move_count v ≤ length ms
