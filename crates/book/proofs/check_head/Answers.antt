-- The tests of the head. Assumes nothing.
use mathlib.Core.Path.{refl, sym, ◌∙◌}
use Rattle.book.proofs.Tests.{sized}
use Rattle.book.proofs.Stands.{head_size, head_is}
use Rattle.book.proofs.check_head.Goals as goal

pub returns-then-bad_length : goal.returns-then-bad_length
returns-then-bad_length c = (head_size _ c.bad_length.ensures c.if-bad_length.true)

pub entry_of-e-requires : goal.entry_of-e-requires
entry_of-e-requires c = (sized _ (sym c.bad_length.ensures ∙ c.if-bad_length.false)).some

pub returns-then-bad_head : goal.returns-then-bad_head
returns-then-bad_head c =
    (head_is _ c.bad_length.ensures c.if-bad_length.false c.entry_of-e.ensures refl refl refl c.bad_head.ensures (rw c.if-bad_head.true))

pub returns-then-bad_link : goal.returns-then-bad_link
returns-then-bad_link c =
    (head_is _ c.bad_length.ensures c.if-bad_length.false c.entry_of-e.ensures c.begin.ensures c.bad_link.ensures refl c.bad_head.ensures (rw (c.if-bad_head.false, c.if-bad_link.true)))

pub returns : goal.returns
returns c =
    (head_is _ c.bad_length.ensures c.if-bad_length.false c.entry_of-e.ensures c.begin.ensures c.bad_link.ensures refl c.bad_head.ensures (rw (c.if-bad_head.false, c.if-bad_link.false)))
