-- `needed::needed_for` meets its contract. Assumes nothing.
use Rattle.needed.proofs.Marked.{none_for, found_for}
use Rattle.needed.proofs.needed_for.Goals as goal

pub returns-then-k-ge-MAX_NODES : goal.returns-then-k-ge-MAX_NODES
returns-then-k-ge-MAX_NODES c = let a = c.args in none_for a.nodes a.k c.if-k-ge-MAX_NODES.true

pub returns : goal.returns
returns c =
    let a = c.args in
    found_for a.nodes a.k c.if-k-ge-MAX_NODES.false c.mark.ensures c.needed.ensures
