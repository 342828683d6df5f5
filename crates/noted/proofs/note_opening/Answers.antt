-- What is noted has the number, and no verdict. Assumes nothing.
use mathlib.Core.Path.{ap, ◌∙◌}
use Rattle.refusals.specs.Refusals.{number_of}
use Rattle.registers.specs.declared.Outcome.{Outcome}
use Rattle.registers.specs.Registers.{after_call}
use Rattle.noted.proofs.Outcomes.{without}
use Rattle.noted.proofs.note_opening.Goals.{in-Ok, in-Err}
use Rattle.noted.proofs.note_opening.Goals as goal

pub returns : goal.returns
returns c =
    let a = c.args in
    c.note.ensures
    ∙ ap (λ (o : Outcome). after_call o a.registers.now)
    (c.of.ensures ∙ elim c.match-o.branch [
      | in-Ok w ↦ rw (w.came-is, w.in-Ok.is) (without a.kind 0 0)
      | in-Err w ↦ rw (w.came-is, w.in-Err.is) (without a.kind (number_of w.in-Err.e) 0)
    ])
