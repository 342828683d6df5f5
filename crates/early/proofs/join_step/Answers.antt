-- `early::join_step` meets its contract. Assumes nothing.
use mathlib.Core.Bool.{true}
use mathlib.Core.Path.{◌≡◌}
use borrow.Author.Rules.{rules}
use Rattle.table.specs.Nodes.{op_of}
use Rattle.early.proofs.ByKind.{pair, window, reach, or_step, some_step, until_step}
use Rattle.early.proofs.join_step.Goals as goal

pub returns-in-Ok-And : goal.returns-in-Ok-And
returns-in-Ok-And c =
    let e : pair (op_of c.args.x.kind) ≡ true = search rules in
    or_step c.requires.0 e (rw c.places-p.ensures at c.put_or.ensures)

pub returns-in-Ok-Finally : goal.returns-in-Ok-Finally
returns-in-Ok-Finally c =
    let e : window (op_of c.args.x.kind) ≡ true = search rules in
    some_step c.requires.0 e (rw c.places-p.ensures at c.put_some.ensures)

pub returns-in-Ok-Until : goal.returns-in-Ok-Until
returns-in-Ok-Until c =
    let e : reach (op_of c.args.x.kind) ≡ true = search rules in
    until_step c.requires.0 e (rw c.places-p.ensures at c.put_until.ensures)
