-- `early::run` meets its contract. The invariant: the columns of the first i nodes that are marked are there. Assumes nothing.
use Prim.Native.Nat.{◌-◌}
use native.Mathlib.Omega.{arith}
use mathlib.Core.Path.{sym, ◌∙◌}
use Rattle.early.proofs.Runs.{run_more, run_past}
use Rattle.early.proofs.run.Goals.{then-is_marked, else-is_marked}
use Rattle.early.proofs.run.Goals as goal

pub loop-i-preserved : goal.loop-i-preserved
loop-i-preserved c =
    let l = c.loop-i in
    let a = c.args in
    let h = c.requires in
    let i = l.invariant in
    let less = c.loop-i-test.true in
    let p = h.places in
    let q = h.enough in
    elim c.if-is_marked.branch [
      | then-is_marked w ↦ rw w.s-is (
          let st = w.node_step in (
            run_more (a.upto - 1) l.i (omega arith) (omega arith) (omega arith) (omega arith) st.auto.s h.short (h.fitting l.i less) h.needs i.0 st.ensures,
            st.auto.s ∙ i.1,
            omega arith,
            i.3,
          ))
      | else-is_marked w ↦ rw w.s-is (run_past l.i (sym c.is_marked.ensures ∙ w.if-is_marked.false) i.0, i.1, omega arith, i.3)
    ]
