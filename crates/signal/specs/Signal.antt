-- Signals: bit i of a state is signal i.
use Rattle.std.specs.Prelude.{◌≡◌, Bool, List, ℕ, ◌*◌, ◌/◌, ◌%◌, ◌<◌, get_or}
use Rattle.lists.specs.Bits.{bit}
use Rattle.column.specs.Column.{Laid}

-- a signal's column: bit t is bit i of state t
abbrev pub signal_column : ℕ → List ℕ → ℕ → Bool
signal_column i states t = bit (get_or states t 0) i

-- what a slice of words is after signal i of a trace was packed into its first m words
pub record SignalPacked (i m : ℕ) (states xs ys : List ℕ) : Type 0 where
  -- bit t mod 64 of word t / 64 is the signal in state t, and clear past the last state (A6)
  pub bits : (t : ℕ) → t < 64 * m → bit (get_or ys (t / 64) 0) (t % 64) ≡ bit (get_or states t 0) i
  -- so that these are the words of its column; those behind them stay
  pub laid : Laid 0 m (signal_column i states) xs ys
