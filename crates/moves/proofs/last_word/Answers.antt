-- `moves::last_word` meets its contract. Assumes nothing.
use borrow.Author.Rules.{rules}
use Rattle.moves.proofs.Sweeps.{last_of}
use Rattle.moves.proofs.last_word.Goals as goal

pub returns : goal.returns
returns c =
    let a = c.args in
    last_of a.words a.by a.w a.s.now (search rules) (search rules)
