-- New nodes, and the new place of each old node so far.
use Rattle.std.specs.Prelude.{ℕ, List}
use Rattle.table.specs.declared.Node.{Node}

pub record Built : Type 0 where
  pub nodes : List Node
  pub count : ℕ
  pub places : List ℕ
  pub done : ℕ
