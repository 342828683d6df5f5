-- `moves::move_down` meets its contract. Assumes nothing.
use borrow.Author.Rules.{rules}
use Rattle.moves.proofs.Sweeps.{moved_none}
use Rattle.moves.proofs.move_down.Goals as goal

pub returns-then-by-eq0 : goal.returns-then-by-eq0
returns-then-by-eq0 c = let a = c.args in moved_none a.by a.s.now c.if-by-eq0.true (λ i. search rules)

pub returns : goal.returns
returns c = c.move_register.ensures
