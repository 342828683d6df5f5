-- Five stores, or none. Assumes nothing.
use Rattle.grammar.specs.Tape.{tape}
use Rattle.parser.proofs.Tapes.{emit_room, emit_full}
use Rattle.parser.proofs.tape.emit.Goals as goal

pub returns-then-count-lt-KEPT_NODES : goal.returns-then-count-lt-KEPT_NODES
returns-then-count-lt-KEPT_NODES c = rw c.from.ensures (emit_room c.args.cells.now c.args.count c.args.it c.args.left c.if-count-lt-KEPT_NODES.true)

pub returns : goal.returns
returns c = emit_full (tape c.args.cells.now c.args.count) c.args.it c.args.left c.if-count-lt-KEPT_NODES.false
