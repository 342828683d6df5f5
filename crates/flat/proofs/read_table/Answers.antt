-- Each answer is that of its case. Assumes nothing.
use mathlib.Core.Path.{◌∙◌, sym}
use Rattle.flat.proofs.Laws.{from_short, first_padded, first_bytes}
use Rattle.flat.proofs.read_table.Goals as goal

pub returns-in_default : goal.returns-in_default
returns-in_default c = c.no_table.ensures ∙ from_short _ c.in_default.ensures.cases

pub returns-then-not-is_unpadded : goal.returns-then-not-is_unpadded
returns-then-not-is_unpadded c =
    let o = c.in-Some.ensures.cases in
    c.no_table-then-not-is_unpadded.ensures
    ∙ first_padded c.args.b.now c.in-Some.b.now o.enough o.same (sym c.is_unpadded.ensures ∙ c.if-not-is_unpadded.true)

pub returns : goal.returns
returns c =
    let o = c.in-Some.ensures.cases in
    cc (first_bytes c.args.b.now c.in-Some.b.now o.enough o.same (sym c.is_unpadded.ensures ∙ c.if-not-is_unpadded.false), c.rules_from.ensures, c.nodes_from.ensures)
