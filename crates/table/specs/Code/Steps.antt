-- The delay of a node by those of its operands, and of one more node over nodes with the delays ds; where `old`, as before A5.
use Rattle.std.specs.Prelude.{ℕ, ◌-◌, Bool, List, ltb}
use Rattle.lists.specs.Choice.{pick}
use Rattle.mltl.specs.Mltl.{Formula}
use Rattle.table.specs.declared.Node.{Node}
use Rattle.table.specs.declared.chain.Delay.{Delay}
use Rattle.table.specs.Nodes.{MeasureStep, until_delay_of, wait_of, delay_as, step_over}

-- what the left operand of a node, whose delay is a, makes it wait beyond hi: all of it where it is read up to hi, else one state less, or none
-- where lo is hi
abbrev pub left_delay : Bool → ℕ → ℕ → ℕ → ℕ
left_delay whole lo hi a = pick whole a (pick (ltb lo hi) (a - 1) 0)

-- the delay as a measure, and its step at a node
abbrev pub delay_measure : Delay → Formula → ℕ
delay_measure d = wait_of d.old

abbrev pub delay_step : Delay → MeasureStep
delay_step d = delay_as (until_delay_of d.old)

abbrev pub node_delay_over : Bool → List ℕ → Node → ℕ
node_delay_over old ds n = step_over (delay_as (until_delay_of old)) ds n
