-- The delays of all nodes. Assumes nothing.
use Prim.Native.Nat.{◌≤◌}
use mathlib.Core.Path.{◌∙◌}
use borrow.Author.Rules.{rules}
use mathlib.Core.Bool.{false}
use lib.ListN.{length}
use lib.Seq.{take_all}
use Rattle.table.specs.Nodes.{delays}
use Rattle.table.proofs.Delays.{delay_capped}
use Rattle.table.proofs.delay_over.Goals as goal

pub returns : goal.returns
returns c =
    let a = c.args in
    let l = c.measures in
    let k : length l.result ≤ 64 = search rules in
    delay_capped false (delays a.t.nodes) a.n c.delay_among.ensures (take_all 64 l.result k ∙ l.ensures)
