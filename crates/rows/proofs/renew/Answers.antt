-- `rows::renew` meets its contract. Assumes nothing.
use Rattle.rows.proofs.Laws.{fronted_same}
use borrow.Author.Rules.{rules}
use Rattle.rows.proofs.renew.Goals as goal

pub returns-then-tick-ne0 : goal.returns-then-tick-ne0
returns-then-tick-ne0 c =
    fronted_same c.args.name.now c.args.tick c.args.front.now c.args.k c.requires.2 c.if-tick-ne0.true c.requires.3

pub returns : goal.returns
returns c = search rules
