-- `watch::begin` meets its contract. Assumes nothing.
use native.Mathlib.Omega.{arith}
use mathlib.Core.Path.{ap, ◌∙◌}
use Rattle.simplify.specs.Promise.{simplified_told}
use Rattle.session.specs.Session.{Opening}
use Rattle.watch.proofs.Laws.{begins, simplified_or, opened_or}
use Rattle.watch.proofs.begin.Goals as goal

pub returns : goal.returns
returns c = (
  (let table = c.unwrap_or-table.ensures ∙ simplified_or c.args.t c.simplify.result in
      let session = c.unwrap_or.ensures ∙ rw c.no_session.ensures (opened_or c.«open».result) ∙ ap (λ (o : Opening). o.session) c.«open».ensures in
      rw (session, table, c.start.ensures) (begins c.args.t (simplified_told c.args.t c.simplify.result) c.simplify.ensures _)),
  record { room = omega arith; ticks = omega arith },
)
