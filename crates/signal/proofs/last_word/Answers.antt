-- `signal::last_word` meets its contract. Assumes nothing.
use mathlib.Core.Path.{sym, ◌∙◌}
use native.Mathlib.Omega.{arith}
use borrow.Author.Rules.{rules}
use Rattle.lists.proofs.Numbers.{number_none}
use Rattle.signal.proofs.Signals.{last_part}
use Rattle.signal.proofs.last_word.Goals as goal

pub returns-then-n-eq0 : goal.returns-then-n-eq0
returns-then-n-eq0 c =
    let a = c.args in
    last_part a.i a.from a.states.now (sym c.if-n-eq0.true ∙ c.saturating_sub-n.ensures) (omega arith) (number_none _)

pub returns : goal.returns
returns c =
    let a = c.args in
    last_part a.i a.from a.states.now c.saturating_sub-n.ensures (search rules) c.part_word.ensures
