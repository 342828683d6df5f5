-- The near distance of a node by those of its operands, and of one more node over nodes with the near distances ds; the near distance as a measure.
use Rattle.std.specs.Prelude.{ℕ, ◌+◌, min, List}
use Rattle.mltl.specs.Mltl.{Formula, near}
use Rattle.table.specs.declared.Node.{Node}
use Rattle.table.specs.Nodes.{Unknown, Signal, Top, Bottom, Not, And, Or, Finally, Globally, Until, Release, MeasureStep, step_over}
use Rattle.reach.specs.declared.Near.{Near}

abbrev pub near_as : MeasureStep
near_as Unknown lo hi a b = 0
near_as Signal lo hi a b = 0
near_as Top lo hi a b = 0
near_as Bottom lo hi a b = 0
near_as Not lo hi a b = a
near_as And lo hi a b = min a b
near_as Or lo hi a b = min a b
near_as Finally lo hi a b = lo + a
near_as Globally lo hi a b = lo + a
near_as Until lo hi a b = lo + min a b
near_as Release lo hi a b = lo + min a b

abbrev pub near_over : List ℕ → Node → ℕ
near_over ds n = step_over near_as ds n

abbrev pub near_measure : Near → Formula → ℕ
near_measure m = near

abbrev pub near_step : Near → MeasureStep
near_step m = near_as
