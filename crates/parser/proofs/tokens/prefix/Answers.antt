-- What the tests and the callees tell, put together. Assumes nothing.
use Rattle.parser.proofs.Readers.{prefix_not, prefix_window, prefix_none}
use mathlib.Core.Path.{refl, ap}
use Rattle.parser.specs.Code.{prefix_item}
use Rattle.grammar.specs.Tape.{tapes}
use Rattle.grammar.proofs.Steps.{start_finally, start_globally}
use Rattle.parser.proofs.tokens.prefix.Goals as goal

pub returns-then-is_at : goal.returns-then-is_at
returns-then-is_at c = prefix_not _ c.skip-i.ensures (c.is_at.ensures.inside c.if-is_at.true) (c.is_at.ensures.byte c.if-is_at.true) (ap prefix_item c.new.ensures)

pub returns-then-is_at-2 : goal.returns-then-is_at-2
returns-then-is_at-2 c =
    prefix_window _ 70 c.skip-i.ensures (c.is_at-2.ensures.inside c.if-is_at-2.true) (c.is_at-2.ensures.byte c.if-is_at-2.true) (start_finally tapes 32) refl c.window.ensures

pub returns-then-is_at-3 : goal.returns-then-is_at-3
returns-then-is_at-3 c =
    prefix_window _ 71 c.skip-i.ensures (c.is_at-3.ensures.inside c.if-is_at-3.true) (c.is_at-3.ensures.byte c.if-is_at-3.true) (start_globally tapes 32) refl c.window-then-is_at-3.ensures

pub returns : goal.returns
returns c =
    prefix_none _ c.skip-i.ensures (c.is_at.ensures.other c.if-is_at.false) (c.is_at-2.ensures.other c.if-is_at-2.false) (c.is_at-3.ensures.other c.if-is_at-3.false) refl
