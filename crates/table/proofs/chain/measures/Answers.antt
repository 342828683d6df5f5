-- A loop that fills an array with the values of a chain; by the laws of the measure. Assumes nothing.
use mathlib.Core.List.{[]}
use native.Mathlib.Omega.{arith}
use borrow.Author.Rules.{rules}
use lib.ListN.{take, get_or, length-set}
use Rattle.table.specs.Nodes.{cap, no_node, step_over}
use Rattle.lists.proofs.Sequences.{length_mapped}
use Rattle.lists.specs.Sequence.{chain}
use Rattle.lists.proofs.Loops.{made_start, made_more, made_done}
use Rattle.table.proofs.Delays.{capped_over, measures_chain}
use Rattle.table.proofs.chain.measures.Goals as goal

pub loop-i-init : goal.loop-i-init
loop-i-init g c = (search rules, search (rules, length_mapped), search rules, made_start (step_over (g.M.Measure.step c.args.m)) cap)

pub loop-i-preserved : goal.loop-i-preserved
loop-i-preserved g c =
    let l = c.loop-i in
    let a = c.args in
    let f = step_over (g.M.Measure.step a.m) in
    let ns = a.t.nodes in
    let w = g.met.M.Measure.laws a.m in
    let m = l.invariant.3 in (
      omega arith,
      l.invariant.1,
      simp length-set l.invariant.2,
      made_more f cap ns l.ms l.i _ no_node (omega arith) (omega arith)
          (capped_over (g.M.Measure.of a.m) (g.M.Measure.step a.m) w.measured w.through (chain f [] (take l.i ns)) (get_or ns l.i no_node) c.measure_from.ensures m)
          m,
    )

pub returns : goal.returns
returns g c =
    let l = c.loop-i in
    let a = c.args in
    let w = g.met.M.Measure.laws a.m in
    rw (measures_chain (g.M.Measure.of a.m) (g.M.Measure.step a.m) w.measured)
    (made_done (step_over (g.M.Measure.step a.m)) cap a.t.nodes l.ms l.i (omega arith) (omega arith) l.invariant.3)
