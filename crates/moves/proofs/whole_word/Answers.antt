-- `moves::whole_word` meets its contract. Assumes nothing.
use borrow.Author.Rules.{rules}
use Prim.Native.Nat.{◌+◌, ◌/◌}
use Rattle.column.proofs.Sweeps.{word_first}
use Rattle.moves.proofs.Words.{moved_whole}
use Rattle.moves.proofs.whole_word.Goals as goal

pub returns : goal.returns
returns c =
    let a = c.args in
    moved_whole a.by (search rules) (word_first a.words a.s.now (a.w + a.by / 64) (search rules) (search rules))
