-- `rows::put_front` meets its contract. Assumes nothing.
use native.Mathlib.Omega.{arith}
use borrow.Author.Tests.{lt-ltb, le-ltb}
use Rattle.rows.proofs.Laws.{put_then, fronted_put}
use Rattle.rows.proofs.put_front.Goals as goal

pub returns-then-tick-lt10 : goal.returns-then-tick-lt10
returns-then-tick-lt10 c =
    fronted_put c.args.name.now c.args.tick c.args.front.now _ c.put_byte-b.new.out c.put_byte-b.result c.requires.0 (omega (arith, c.put-a.ensures.place, c.put_byte-b.ensures.place))
    (rw (lt-ltb c.args.tick 10 c.if-tick-lt10.true)) (put_then c.put-a.ensures c.put_byte-b.ensures)

pub returns : goal.returns
returns c =
    fronted_put c.args.name.now c.args.tick c.args.front.now _ c.put_number.new.out c.put_number.result c.requires.0 (omega (arith, c.put-a.ensures.place, c.put_byte-b.ensures.place, c.put_number.ensures.upper_bound))
    (rw (le-ltb c.args.tick 10 c.if-tick-lt10.false)) (put_then c.put-a.ensures (put_then c.put_byte-b.ensures c.put_number.ensures.put))
