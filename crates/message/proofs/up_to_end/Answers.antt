-- The first line end behind the place. Assumes nothing.
use mathlib.Core.Path.{◌≡◌, sym, ◌∙◌}
use Rattle.std.proofs.Common.{rules, tests}
use Rattle.std.proofs.lemmas.Iterator.{IsFirst-from_position, YieldsList-from_slice, index_from_first}
use Rattle.message.specs.Message.{up_to_end}
use Rattle.message.proofs.Laws.{end_none, end_here, end_later, end_most}
use Rattle.message.proofs.up_to_end.Goals as goal

pub returns : goal.returns
returns c =
    let rest = c.args.rest.now in
    let first = IsFirst-from_position _ _ c.position.result (λ x. x ≡ 10) (λ x. x ≡ 10 → ⊥) c.position.ensures.ran (YieldsList-from_slice rest cc) (λ x q k. search (rules, tests)) (λ x q k. search (rules, tests)) in
    let found = index_from_first up_to_end (λ x. x ≡ 10) (λ x. x ≡ 10 → ⊥) end_none end_here end_later rest c.position.result first in
    let e = c.unwrap_or.ensures ∙ sym found in
    (e, rw e (end_most rest))
