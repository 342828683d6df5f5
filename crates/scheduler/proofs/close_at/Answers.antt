-- The record's words of history are a part of the buffer. Assumes nothing.
use native.Mathlib.Omega.{arith}
use Prim.Native.Nat.{◌+◌, ◌-◌, ◌*◌}
use Rattle.session.specs.Session.{answer_told}
use Rattle.scheduler.proofs.Answers.{closed_parts}
use Rattle.scheduler.proofs.close_at.Goals as goal

pub returns : goal.returns
returns c =
    let a = c.args in
    closed_parts a.t a.r a.i a.history.now a.scratch.now a.out.now (λ s. answer_told s c.close.result) (4095 * a.i + 4095 - 4095 * a.i) c.with-session.ensures (omega arith)
    c.close.ensures
