-- `early::meet_step` meets its contract. Assumes nothing.
use mathlib.Core.Bool.{true}
use mathlib.Core.Path.{◌≡◌}
use borrow.Author.Rules.{rules}
use Rattle.table.specs.Nodes.{op_of}
use Rattle.early.proofs.ByKind.{pair, window, reach, and_step, whole_step, whole_release_step}
use Rattle.early.proofs.meet_step.Goals as goal

pub returns-in-Ok-And : goal.returns-in-Ok-And
returns-in-Ok-And c =
    let e : pair (op_of c.args.x.kind) ≡ true = search rules in
    and_step c.requires.0 e (rw c.places-p.ensures at c.put_and.ensures)

pub returns-in-Ok-Finally : goal.returns-in-Ok-Finally
returns-in-Ok-Finally c =
    let e : window (op_of c.args.x.kind) ≡ true = search rules in
    whole_step c.requires.0 e (rw c.places-p.ensures at c.put_whole.ensures)

pub returns-in-Ok-Until : goal.returns-in-Ok-Until
returns-in-Ok-Until c =
    let e : reach (op_of c.args.x.kind) ≡ true = search rules in
    whole_release_step c.requires.0 e (rw c.places-p.ensures at c.put_whole_release.ensures)
