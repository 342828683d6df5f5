-- The bytes of the session that was opened, and what is noted. Assumes nothing.
use mathlib.Core.Path.{ap, ◌∙◌}
use Rattle.table.specs.declared.Table.{Table}
use Rattle.session.specs.Session.{opening}
use Rattle.registers.specs.Registers.{after_call}
use Rattle.noted.specs.Noted.{open_outcome}
use Rattle.juntreak.proofs.Laws.{opened_by}
use Rattle.juntreak.proofs.juntreak_open_noted.Goals as goal

pub returns : goal.returns
returns c =
    let a = c.args in
    let k = c.open.ensures in
    let p = opened_by c.open.result a.session.now (k.0 ∙ ap (λ (t : Table). opening t a.rule) c.read_table-t.ensures) c.put_session.ensures in
    (p.0, p.1, k.1 ∙ ap (λ (t : Table). after_call (open_outcome (opening t a.rule)) a.registers.now) c.read_table-t.ensures)
