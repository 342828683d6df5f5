-- The prefixes from k on are on the tape, the last one first. Assumes nothing.
use native.Mathlib.Omega.{arith}
use Rattle.parser.proofs.Ring.{put_none, put_more, put_all}
use Rattle.parser.proofs.tape.apply.Goals as goal

pub loop-k-init : goal.loop-k-init
loop-k-init c = (omega arith, omega arith, put_none)

pub loop-k-preserved : goal.loop-k-preserved
loop-k-preserved c =
    let l = c.loop-k.invariant in
    (omega arith, omega arith, put_more l.2 l.0 (omega arith) c.item.ensures c.put-c.ensures)

pub returns : goal.returns
returns c = let l = c.loop-k.invariant in put_all l.2 (omega arith)
