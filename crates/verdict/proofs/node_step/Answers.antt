-- `verdict::node_step` meets its contract. Assumes nothing.
use mathlib.Core.List.{◌++◌}
use mathlib.Core.Logic.{◌⊎◌}
use mathlib.Core.Path.{◌≡◌}
use borrow.Author.Rules.{rules}
use Rattle.table.specs.Nodes.{Bottom, Unknown, op_of}
use Rattle.verdict.proofs.ByKind.{of_signal, of_top, of_none, of_not, of_and, of_or, of_some, of_all, of_until, of_release}
use Rattle.verdict.proofs.node_step.Goals as goal

pub returns-in-Ok-Signal : goal.returns-in-Ok-Signal
returns-in-Ok-Signal c =
    let o = c.in-Ok-Signal in
    of_signal c.requires (c.args.older.now ++ c.args.newer.now) (rw o.field-0-is at o.ensures) (rw c.places-p.ensures at c.put_signal.ensures)

pub returns-in-Ok-True : goal.returns-in-Ok-True
returns-in-Ok-True c =
    let o = c.in-Ok-True in
    of_top c.requires (c.args.older.now ++ c.args.newer.now) (rw o.field-0-is at o.ensures) (rw c.places-p.ensures at c.put_fill.ensures)

pub returns-in-Ok-Not : goal.returns-in-Ok-Not
returns-in-Ok-Not c =
    let o = c.in-Ok-Not in
    of_not c.requires (c.args.older.now ++ c.args.newer.now) (rw o.field-0-is at o.ensures) (rw c.places-p.ensures at c.put_not.ensures)

pub returns-in-Ok-And : goal.returns-in-Ok-And
returns-in-Ok-And c =
    let o = c.in-Ok-And in
    of_and c.requires (c.args.older.now ++ c.args.newer.now) (rw o.field-0-is at o.ensures) (rw c.places-p.ensures at c.put_and.ensures)

pub returns-in-Ok-Or : goal.returns-in-Ok-Or
returns-in-Ok-Or c =
    let o = c.in-Ok-Or in
    of_or c.requires (c.args.older.now ++ c.args.newer.now) (rw o.field-0-is at o.ensures) (rw c.places-p.ensures at c.put_or.ensures)

pub returns-in-Ok-Finally : goal.returns-in-Ok-Finally
returns-in-Ok-Finally c =
    let o = c.in-Ok-Finally in
    of_some c.requires (c.args.older.now ++ c.args.newer.now) (rw o.field-0-is at o.ensures) (rw c.places-p.ensures at c.put_some.ensures)

pub returns-in-Ok-Globally : goal.returns-in-Ok-Globally
returns-in-Ok-Globally c =
    let o = c.in-Ok-Globally in
    of_all c.requires (c.args.older.now ++ c.args.newer.now) (rw o.field-0-is at o.ensures) (rw c.places-p.ensures at c.put_all.ensures)

pub returns-in-Ok-Until : goal.returns-in-Ok-Until
returns-in-Ok-Until c =
    let o = c.in-Ok-Until in
    of_until c.requires (c.args.older.now ++ c.args.newer.now) (rw o.field-0-is at o.ensures) (rw c.places-p.ensures at c.put_until.ensures)

pub returns-in-Ok-Release : goal.returns-in-Ok-Release
returns-in-Ok-Release c =
    let o = c.in-Ok-Release in
    of_release c.requires (c.args.older.now ++ c.args.newer.now) (rw o.field-0-is at o.ensures) (rw c.places-p.ensures at c.put_release.ensures)

pub returns-in-Ok-False : goal.returns-in-Ok-False
returns-in-Ok-False c =
    let e : op_of c.args.x.kind ≡ Bottom ⊎ op_of c.args.x.kind ≡ Unknown = search rules in
    of_none c.requires (c.args.older.now ++ c.args.newer.now) e (rw c.places-p.ensures at c.put_fill-in-Ok-False.ensures)
