-- The bytes of the session that was opened. Assumes nothing.
use mathlib.Core.Path.{ap, ◌∙◌}
use Rattle.table.specs.declared.Table.{Table}
use Rattle.session.specs.Session.{opening}
use Rattle.juntreak.proofs.Laws.{opened_by}
use Rattle.juntreak.proofs.juntreak_open.Goals as goal

pub returns : goal.returns
returns c =
    let a = c.args in
    opened_by c.open.result a.session.now (c.open.ensures ∙ ap (λ (t : Table). opening t a.rule) c.read_table-t.ensures) c.put_session.ensures
