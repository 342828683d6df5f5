-- A loop that takes one node after another. Assumes nothing.
use native.Mathlib.Omega.{arith}
use mathlib.Core.Path.{ap, ◌∙◌}
use mathlib.Core.List.{foldl}
use lib.ListN.{length-take}
use lib.Seq.{take-take, get_or-take}
use Prim.Native.Nat.{◌<◌}
use Rattle.table.specs.Nodes.{no_node}
use Rattle.simplify.specs.Code.Passes.{no_build, step_of}
use Rattle.simplify.proofs.Space.{ready}
use Rattle.simplify.proofs.rebuild.Goals as goal

pub step-e-requires : goal.step-e-requires
step-e-requires c =
    let l = c.loop-n in
    let t = c.args.t in
    let h : l.n-index < t.node_count = omega (arith, c.loop-n-test.true, length-take t.node_count t.nodes) in
    rw (get_or-take t.node_count t.nodes l.n-index no_node h)
    (ready t c.requires l.n-index h (l.invariant ∙ ap (foldl step_of no_build) (take-take l.n-index t.node_count t.nodes (omega arith)))).1

pub push-requires : goal.push-requires
push-requires c =
    let l = c.loop-n in
    let t = c.args.t in
    let h : l.n-index < t.node_count = omega (arith, c.loop-n-test.true, length-take t.node_count t.nodes) in
    (ready t c.requires l.n-index h (l.invariant ∙ ap (foldl step_of no_build) (take-take l.n-index t.node_count t.nodes (omega arith)))).0
