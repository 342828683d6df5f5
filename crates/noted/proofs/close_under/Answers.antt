-- The ticks of the verdicts can be counted. Assumes nothing.
use mathlib.Core.Path.{sym, ap, subst}
use Rattle.session.specs.Session.{Effect}
use Rattle.noted.specs.Code.Steps.{Countable}
use Rattle.noted.proofs.Outcomes.{close_countable}
use Rattle.noted.proofs.close_under.Goals as goal

pub note_given-requires : goal.note_given-requires
note_given-requires c =
    let a = c.args in
    subst (Countable a.old a.s) (sym (ap (λ (e : Effect). e.answer.count) c.close_under-r.ensures))
    (close_countable a.old a.s a.history.now a.scratch.now a.out.now)
