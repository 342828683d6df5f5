-- The session is what its bytes hold; the count is small, and the states can be counted. Assumes nothing.
use native.Mathlib.Omega.{arith}
use mathlib.Core.Path.{refl}
use Rattle.session.proofs.Handed.{step_fits}
use Rattle.shell.proofs.Laws.{step_count, stepped_by}
use Rattle.shell.proofs.feed.Goals as goal

pub overflow_add-s : goal.overflow_add-s
overflow_add-s c =
    let a = c.args in
    let l = step_fits c.read_session-s.result a.block.now a.history.now a.scratch.now a.out.now c.in-Ok.ensures refl in
    omega arith

pub put_given-requires : goal.put_given-requires
put_given-requires c =
    let a = c.args in
    let l = step_count c.read_session-s.result a.block.now a.history.now a.scratch.now a.out.now c.in-Ok.ensures in
    omega arith

pub returns-in-Ok : goal.returns-in-Ok
returns-in-Ok c =
    let a = c.args in
    let p = c.put_given.ensures in
    stepped_by c.read_session-s.result a.block.now a.history.now a.scratch.now a.out.now c.in-Ok.ensures a.session.now
    c.read_session-s.ensures (omega (arith, p.0), p.1)
