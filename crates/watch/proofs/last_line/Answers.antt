-- `watch::last_line` meets its contract. Assumes nothing.
use mathlib.Core.Path.{refl, ap, ◌∙◌}
use Rattle.lines.specs.declared.Line.{Line}
use Rattle.watch.proofs.Laws.{complete_step, complete_ended}
use Rattle.watch.proofs.last_line.Goals as goal

pub returns-then-write : goal.returns-then-write
returns-then-write g c =
    let a = c.args in
    complete_step a.p a.buffers.now.history a.buffers.now.block _ _ _ c.step-o.result c.if-p-eq0.false c.step-o.ensures

pub returns : goal.returns
returns g c =
    let a = c.args in
    complete_ended a.p a.buffers.now.history a.buffers.now.block _ _ c.ended.result c.ended.ensures.0 (ap (λ (l : Line). l.digits) (c.ended.ensures.1 ∙ c.step-o.ensures.newline refl refl))
