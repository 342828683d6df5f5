-- What the reader of a typed line promises: the fate of the line, by the grammar's reading byte by byte; what is built is a tape of nodes.
use Rattle.std.specs.Prelude.{ℕ, ◌+◌, ◌≤◌, ◌≡◌, List, Result, Ok, Err, eqb, length, get_or, drop}
use Rattle.limits.specs.Limits.{max_depth}
use Rattle.refusals.specs.Refusals.{number_of as refusal_number}
use Rattle.lists.specs.Choice.{pick}
use Rattle.grammar.specs.Tape.{Tape, tape, tapes}
use Rattle.parser.specs.declared.Lined.{Lined}
use Rattle.parser.specs.declared.faults.Fault.{Fault as AtFault}
use Rattle.grammar.specs.Machine.{Config, Fate, Fault, Finished, fate, begin}

-- the fate of a line from a configuration at the place i of the text
abbrev pub from : List ℕ → Config Tape ℕ → ℕ → Fate Tape
from text c i = fate tapes max_depth c i (drop i text)

-- the fault with the number n at the place j, or, where n is 0, what else there is
abbrev pub told : ℕ → ℕ → Fate Tape → Fate Tape
told n j x = pick (eqb n 0) x (Fault n j)

abbrev pub byte_at : List ℕ → ℕ → ℕ
byte_at text i = get_or text i 0

-- ---- what a reader answers: the number of a fault, or 0; of a line also the place behind it, or that of the fault, its name and its count
abbrev pub number_of : {A : Type 0} → Result A AtFault → ℕ
number_of (Ok r) = 0
number_of (Err f) = refusal_number f.refusal

abbrev pub line_end : Result Lined AtFault → ℕ
line_end (Ok l) = l.at
line_end (Err f) = f.at

abbrev pub name_of : Result Lined AtFault → ℕ
name_of (Ok l) = l.name
name_of (Err f) = 0

abbrev pub count_of : Result Lined AtFault → ℕ
count_of (Ok l) = l.count
count_of (Err f) = 0

-- ---- a line: the name and the tape, or the fault, with a name and a count of 0; the words that a fault leaves on the tape are free
pub record LineRead (text : List ℕ) (i : ℕ) (cells : List ℕ) (n j name : ℕ) (β : Tape) : Type 0 where
  pub later : i ≤ j
  pub further : n ≡ 0 → i + 2 ≤ j
  pub inside : i ≤ length text → j ≤ length text
  pub sized : length β.cells ≡ length cells
  pub same : from text (begin tapes (tape cells 0)) i ≡ told n j (Finished name β j (drop j text))
  pub none : (n ≡ 0 → ⊥) → (name ≡ 0) × (β.count ≡ 0)
