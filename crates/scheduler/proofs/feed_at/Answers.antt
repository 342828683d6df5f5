-- The record's words of history and its block are parts of the buffers. Assumes nothing.
use native.Mathlib.Omega.{arith}
use Prim.Native.Nat.{◌+◌, ◌-◌, ◌*◌}
use mathlib.Core.Path.{◌≡◌}
use lib.ListN.{length}
use borrow.Rule.Slice.PartMut.{mid_len}
use Rattle.scheduler.proofs.Answers.{fed_parts}
use Rattle.scheduler.proofs.feed_at.Goals as goal

pub returns : goal.returns
returns c =
    let a = c.args in
    let f = c.feed_rule in
    let m = c.min-k in
    let l : length f.new.history ≡ 4095 = omega (arith, mid_len (4095 * a.p) (4095 * a.p + 4095) a.history.now c.requires.history_fits) in
    fed_parts a.t a.r a.p a.history.now a.waiting.now a.scratch.now a.out.now m.result (1024 * a.p + m.result - 1024 * a.p)
    (4095 * a.p + 4095 - 4095 * a.p) m.ensures (omega arith) (omega arith) l f.ensures
