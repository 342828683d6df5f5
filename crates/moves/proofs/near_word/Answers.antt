-- `moves::near_word` meets its contract. Assumes nothing.
use borrow.Author.Rules.{rules}
use Prim.Native.Nat.{ℕ, ◌+◌, ◌/◌}
use Rattle.column.proofs.Sweeps.{word_first}
use Rattle.moves.proofs.Words.{moved_two}
use Rattle.moves.proofs.near_word.Goals as goal

pub returns : goal.returns
returns c =
    let a = c.args in
    let q : ℕ = a.w + a.by / 64 in
    moved_two a.by (word_first a.words a.s.now q (search rules) (search rules))
    (word_first a.words a.s.now (q + 1) (search rules) (search rules))
