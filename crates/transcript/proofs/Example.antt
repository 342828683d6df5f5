-- Document 01's own book and input, and what is printed for them: it computes. Assumes nothing.
use mathlib.Core.Path.{◌≡◌, refl}
use mathlib.Core.List.{List, [], ◌∷◌}
use Prim.Native.Nat.{ℕ}
use Rattle.lists.specs.Bits.{bit}
use Rattle.lists.specs.Sequence.{every, chain}
use Rattle.mltl.specs.Mltl.{holds, delay_by, some_from, some_tick, every_tick, eventually, until, opposite, always, release}
use Rattle.book.specs.Entries.{uses_in}
use Rattle.book.specs.Reading.{reading, reading_by, head_fault, fault_by, along_by}
use Rattle.simplify.specs.Promise.{Simplified, Promised}
use Rattle.session.specs.Session.{opening}
use Rattle.mission.specs.Mission.{Start}
use Rattle.mission.specs.Mission as mission
use Rattle.lines.specs.Lines.{line_after_digits}
use Rattle.rows.specs.Rows.{places_from, decimal, row, rows_from}
use Rattle.transcript.specs.Printed.{printed}

-- the book of four records, and the lines 0, 0, 1, 0
abbrev book : List ℕ
book =
    0 ∷ 0 ∷ 0 ∷ 0 ∷ 0 ∷ 0 ∷ 0 ∷ 0 ∷ 1 ∷ 0 ∷ 0 ∷ 0
    ∷ 1 ∷ 0 ∷ 0 ∷ 0 ∷ 0 ∷ 0 ∷ 0 ∷ 0 ∷ 2 ∷ 0 ∷ 0 ∷ 0
    ∷ 7 ∷ 0 ∷ 1 ∷ 0 ∷ 3 ∷ 0 ∷ 1 ∷ 0 ∷ 3 ∷ 0 ∷ 0 ∷ 0
    ∷ 11 ∷ 7 ∷ 0 ∷ 0 ∷ 0 ∷ 0 ∷ 2 ∷ 0 ∷ 0 ∷ 0 ∷ 0 ∷ 0 ∷ []

abbrev input : List ℕ
input = 48 ∷ 10 ∷ 48 ∷ 10 ∷ 49 ∷ 10 ∷ 48 ∷ 10 ∷ []

-- `7 0 1`, `7 1 1`, `7 2 0`, `7 3 0`
abbrev output : List ℕ
output =
    55 ∷ 32 ∷ 48 ∷ 32 ∷ 49 ∷ 10
    ∷ 55 ∷ 32 ∷ 49 ∷ 32 ∷ 49 ∷ 10
    ∷ 55 ∷ 32 ∷ 50 ∷ 32 ∷ 48 ∷ 10
    ∷ 55 ∷ 32 ∷ 51 ∷ 32 ∷ 48 ∷ 10 ∷ []

-- whatever the simplifier answers, and whatever history holds
module _ (read : (reading book).number ≡ 0) (simplified : Simplified) (promised : Promised (reading book).table simplified) (accepted : simplified.number ≡ 0)
    (opened : (opening simplified.table 0).number ≡ 0) (history : List ℕ) where
  abbrev start : Start
  start = record { source = mission.book book; read = read; simplified = simplified; promised = promised; accepted = accepted; rule = 0; opened = opened; history = history }

  pub worked_example : printed start input ≡ output
  unfolding bit printed reading_by head_fault fault_by along_by uses_in chain every delay_by holds some_from some_tick every_tick eventually until opposite always release line_after_digits places_from decimal row rows_from
  worked_example = refl
