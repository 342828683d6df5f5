-- `moves::join_words` meets its contract. The invariant: the first w words are joined. Assumes nothing.
use mathlib.Core.Path.{refl}
use native.Mathlib.Nat.{le_antisymm}
use native.Mathlib.Omega.{arith}
use borrow.Author.Rules.{rules}
use lib.ListN.{length}
use Rattle.column.proofs.Sweeps.{swept_none, swept_to}
use Rattle.moves.proofs.Sweeps.{joined_next, joined_done}
use Rattle.moves.proofs.join_words.Goals as goal

pub loop-w-init : goal.loop-w-init
loop-w-init c = (swept_none, search rules)

pub loop-w-preserved : goal.loop-w-preserved
loop-w-preserved c =
    let l = c.loop-w in
    let a = c.args in
    (joined_next a.by (length a.s.now) (search rules) (omega arith) (search rules) c.whole_word.ensures l.invariant.0, search rules)

pub shape_of-s : goal.shape_of-s
shape_of-s c = c.loop-w.invariant.0.long

pub returns : goal.returns
returns c =
    joined_done c.args.by refl (λ i. search rules) c.words_left-left.ensures
    (swept_to c.loop-w.invariant.0 (le_antisymm c.loop-w.invariant.1 c.loop-w-test.false))
