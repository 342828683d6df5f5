-- The bytes of the session that was widened, and what is noted. Assumes nothing.
use mathlib.Core.Path.{ap, ◌∙◌}
use Rattle.narrow.specs.declared.NarrowSession.{NarrowSession}
use Rattle.narrow.specs.Narrow.{wide_of, widening}
use Rattle.registers.specs.Registers.{after_call}
use Rattle.noted.specs.Noted.{widen_outcome}
use Rattle.juntreak.proofs.Laws.{opened_by}
use Rattle.juntreak.proofs.juntreak_widen_noted.Goals as goal

pub returns : goal.returns
returns c =
    let a = c.args in
    let k = c.widen.ensures in
    let p = opened_by c.widen.result a.session.now (k.0 ∙ ap (λ (n : NarrowSession). widening (wide_of n)) c.read_narrow-n.ensures) c.put_session.ensures in
    (p.0, p.1, k.1 ∙ ap (λ (n : NarrowSession). after_call (widen_outcome (widening (wide_of n))) a.registers.now) c.read_narrow-n.ensures)
