-- The operators of nodes, as the code names them, by the numbers of their kinds.
use Rattle.std.specs.Prelude.{ℕ, ◌≡◌, Result, Ok, Err}
use Rattle.table.specs.declared.Operator.{Operator}
use Rattle.table.specs.declared.Operator.TheVariants
use Rattle.table.specs.declared.UnknownKind.{UnknownKind}
use Rattle.table.specs.Nodes.{Op, Unknown, Signal, Top, Bottom, Not, And, Or, Finally, Globally, Until, Release, op_of}

abbrev pub op_named : Operator → Op
op_named TheVariants.Signal = Signal
op_named TheVariants.True = Top
op_named TheVariants.False = Bottom
op_named TheVariants.Not = Not
op_named TheVariants.And = And
op_named TheVariants.Or = Or
op_named TheVariants.Finally = Finally
op_named TheVariants.Globally = Globally
op_named TheVariants.Until = Until
op_named TheVariants.Release = Release

-- the operator, or that there is none of this number
abbrev pub op_told : Result Operator UnknownKind → Op
op_told (Ok o) = op_named o
op_told (Err e) = Unknown

-- what is read of a number is the operator of that kind
abbrev pub Names : ℕ → Result Operator UnknownKind → Type 0
Names kind r = op_told r ≡ op_of kind

-- the number of an operator's kind
abbrev pub kind_of : Operator → ℕ
kind_of TheVariants.Signal = 1
kind_of TheVariants.True = 2
kind_of TheVariants.False = 3
kind_of TheVariants.Not = 4
kind_of TheVariants.And = 5
kind_of TheVariants.Or = 6
kind_of TheVariants.Finally = 7
kind_of TheVariants.Globally = 8
kind_of TheVariants.Until = 9
kind_of TheVariants.Release = 10
