-- The bytes of the session that was widened. Assumes nothing.
use mathlib.Core.Path.{ap, ◌∙◌}
use Rattle.narrow.specs.declared.NarrowSession.{NarrowSession}
use Rattle.narrow.specs.Narrow.{wide_of, widening}
use Rattle.juntreak.proofs.Laws.{opened_by}
use Rattle.juntreak.proofs.juntreak_widen.Goals as goal

pub returns : goal.returns
returns c =
    let a = c.args in
    opened_by c.widen.result a.session.now (c.widen.ensures ∙ ap (λ (n : NarrowSession). widening (wide_of n)) c.read_narrow.ensures) c.put_session.ensures
