-- `signal::other_words` meets its contract. The invariant: the first w of the words are put. Assumes nothing.
use mathlib.Core.Path.{refl}
use native.Mathlib.Nat.{le_antisymm}
use borrow.Author.Rules.{rules}
use Rattle.column.proofs.Sweeps.{swept_none, swept_more, swept_to}
use Rattle.signal.proofs.Signals.{word_from}
use Rattle.signal.proofs.other_words.Goals as goal

pub loop-w-init : goal.loop-w-init
loop-w-init c = (swept_none, search rules)

pub loop-w-preserved : goal.loop-w-preserved
loop-w-preserved c =
    let l = c.loop-w in
    let a = c.args in
    (swept_more l.invariant.0 (search rules) refl (word_from a.at l.w c.signal_word.ensures), search rules)

pub shape_of-s : goal.shape_of-s
shape_of-s c = c.loop-w.invariant.0.long

pub returns : goal.returns
returns c = let l = c.loop-w in swept_to l.invariant.0 (le_antisymm l.invariant.1 c.loop-w-test.false)
