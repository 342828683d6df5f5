-- `pair::into_second` meets its contract. The invariant: the first w words of the second register are written. Assumes nothing.
use borrow.Author.Rules.{rules}
use Rattle.column.proofs.Words.{op_words}
use Rattle.pair.proofs.Pairs.{second, into_none, into_next, into_done}
use Rattle.pair.proofs.into_second.Goals as goal

pub loop-w-init : goal.loop-w-init
loop-w-init g c = λ op k. into_none second c.room_of-words.ensures

pub loop-w-preserved : goal.loop-w-preserved
loop-w-preserved g c = λ op k.
    into_next (c.loop-w.invariant op k) (search rules) (search rules) (search rules) (λ i. search rules)
    (λ p q. op_words op p q (search rules) (k _ _ _ (search rules) (search rules) c.f.ensures))

pub returns : goal.returns
returns g c = λ op k. into_done (c.loop-w.invariant op k) c.loop-w-test.false
