-- What the steps of the code from line to line leave.
use Rattle.std.specs.Prelude.{ℕ, ◌≡◌, List, Result, Ok, Err, IfOk}
use Rattle.refusals.specs.Refusals.{number_of, number}
use Rattle.refusals.specs.declared.Refusal.{Refusal}
use Rattle.grammar.specs.Tape.{tape}
use Rattle.parser.specs.declared.Lined.{Lined}
use Rattle.parser.specs.Reads.{LineRead}
use Rattle.table.specs.declared.Table.{Table}
use Rattle.builder.specs.Adding.{Added}
use Rattle.builder.specs.Built.{Delays}
use Rattle.text.specs.declared.Fault.{Fault}

-- the line at the place i, or its fault, whose place is told
abbrev pub LineTold : List ℕ → ℕ → List ℕ → Result Lined Fault → List ℕ → Type 0
LineTold text i cells (Ok l) cells' = LineRead text i cells 0 l.at l.name (tape cells' l.count)
LineTold text i cells (Err f) cells' = LineRead text i cells (number_of f.refusal) f.place 0 (tape cells' 0)

-- the table with the line and the delays of its nodes, or the number of the refusal
pub record LineAdded (a : Added) (r : Result Table Refusal) (ds : List ℕ) : Type 0 where
  pub number : number r ≡ a.number
  pub table : IfOk r (λ u. u ≡ a.table)
  pub delays : IfOk r (λ u. Delays u ds)
