-- `signal::joint_word` meets its contract. Assumes nothing.
use mathlib.Core.Path.{refl}
use borrow.Author.Rules.{rules}
use Rattle.signal.proofs.Signals.{first_part, joint_parts}
use Rattle.signal.proofs.joint_word.Goals as goal

pub returns-then-k-ge64 : goal.returns-then-k-ge64
returns-then-k-ge64 c =
    let a = c.args in
    first_part a.i a.from a.older.now a.newer.now refl (search rules) c.if-k-ge64.true c.whole_word.ensures

pub returns : goal.returns
returns c =
    let a = c.args in
    joint_parts a.i a.from a.older.now a.newer.now refl (search rules) (search rules) c.min.ensures c.part_word-low.ensures c.part_word-high.ensures
