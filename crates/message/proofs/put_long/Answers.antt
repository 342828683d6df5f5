-- There is room for it. Assumes nothing.
use borrow.Author.Rules.{rules}
use Rattle.message.proofs.put_long.Goals as goal

pub returns : goal.returns
returns c = c.put_text.ensures.put (search rules)
