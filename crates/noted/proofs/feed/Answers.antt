-- The ticks of the verdicts can be counted. Assumes nothing.
use mathlib.Core.Path.{sym, ap, subst}
use mathlib.Core.Bool.{false}
use Rattle.session.specs.Session.{Effect}
use Rattle.noted.specs.Code.Steps.{Countable}
use Rattle.noted.proofs.Outcomes.{feed_countable}
use Rattle.noted.proofs.feed.Goals as goal

pub note_given-requires : goal.note_given-requires
note_given-requires c =
    let a = c.args in
    subst (Countable false a.s) (sym (ap (λ (e : Effect). e.answer.count) c.feed-r.ensures))
    (feed_countable a.s a.block.now a.history.now a.scratch.now a.out.now)
