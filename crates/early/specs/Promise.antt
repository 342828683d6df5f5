-- What a caller relies on: an answer of yes or no is never changed by more states, and it is the verdict of the trace that they complete.
use Rattle.std.specs.Prelude.{ℕ, ◌+◌, ◌<◌, ◌≡◌, ◌↔◌, Bool, true, List, ◌++◌, length}
use Rattle.lists.specs.Choice.{some_fits}
use Rattle.mltl.specs.Mltl.{holds, delay}
use Rattle.mltl.specs.Known.{decided}
use Rattle.table.specs.Nodes.{watched_formula}
use Rattle.table.specs.Sound.{is_sound}
use Rattle.table.specs.declared.Table.{Table}
use Rattle.early.specs.Early.{value, early_rows, early_number_for, early_told}

-- of what a call tells; b is yes or no
pub record Relied (t : Table) (rule : ℕ) (states : List ℕ) (tick : ℕ) (scratch : List ℕ) : Type 0 where
  -- a later call that is accepted, when more states were seen, tells the same
  pub stays : (b : Bool) → early_told t rule states tick scratch ≡ value (decided b) → (later scratch₂ : List ℕ)
      → early_number_for t rule (states ++ later) tick scratch₂ ≡ 0 → early_told t rule (states ++ later) tick scratch₂ ≡ value (decided b)
  -- it is the verdict on every trace that begins with these states, these states alone included
  pub verdict : (b : Bool) → early_told t rule states tick scratch ≡ value (decided b) → (later : List ℕ) → holds (watched_formula t rule) (states ++ later) tick ≡ b
  pub closed : (b : Bool) → early_told t rule states tick scratch ≡ value (decided b) → holds (watched_formula t rule) states tick ≡ b
  -- the tick was seen
  pub seen : (b : Bool) → early_told t rule states tick scratch ≡ value (decided b) → tick < length states
  -- nobody waits longer than the delay
  pub in_time : early_number_for t rule states tick scratch ≡ 0 → tick + delay (watched_formula t rule) < length states
      → early_told t rule states tick scratch ≡ value (decided (holds (watched_formula t rule) states tick))
  -- a call is refused exactly where a row fits it
  pub refused_exactly : (¬ (early_number_for t rule states tick scratch ≡ 0)) ↔ (some_fits (early_rows (is_sound t) t.rule_count rule (length states) tick (length scratch)) ≡ true)
