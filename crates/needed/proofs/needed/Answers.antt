-- A loop from the last node to the first. Assumes nothing.
use Prim.Native.Nat.{◌-◌}
use mathlib.Core.Path.{◌≡◌, sym, ap, ◌∙◌}
use native.Mathlib.Omega.{arith}
use lib.ListN.{length, length-take, take}
use lib.Seq.{get_or-take}
use borrow.Author.Rules.{rules}
use Rattle.table.specs.Nodes.{no_node}
use Rattle.lists.proofs.Sequences.{length_mapped}
use Rattle.needed.specs.Code.Steps.{mark_node}
use Rattle.needed.proofs.Marking.{marking_start, marking_more, marking_done}
use Rattle.needed.proofs.needed.Goals as goal

pub loop-i-init : goal.loop-i-init
loop-i-init c =
    let a = c.args in
    let e : length a.nodes ≡ 64 = search (rules, length_mapped) in (
      omega (arith, c.at_most-i.ensures),
      omega (arith, c.at_most-i.ensures),
      e,
      marking_start a.seed (take a.count a.nodes) _ (search rules) (omega (arith, c.at_most-i.ensures, length-take a.count a.nodes)),
    )

pub loop-i-preserved : goal.loop-i-preserved
loop-i-preserved c =
    let l = c.loop-i in
    let a = c.args in (
      omega arith,
      omega arith,
      l.invariant.2,
      marking_more a.seed (take a.count a.nodes) l.i (l.i - 1) (search rules) (omega arith) (omega (arith, length-take a.count a.nodes)) (omega arith)
          (c.mark_node-m.ensures ∙ ap (mark_node l.m (l.i - 1)) (sym (get_or-take a.count a.nodes (l.i - 1) no_node (omega arith)))) l.invariant.3,
    )

pub returns : goal.returns
returns c =
    let l = c.loop-i in
    let a = c.args in
    marking_done a.seed (take a.count a.nodes) (omega arith) l.invariant.3
