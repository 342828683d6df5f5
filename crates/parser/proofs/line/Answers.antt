-- What the callees ensure, put together. Assumes nothing.
use borrow.Author.Rules.{rules}
use mathlib.Core.Path.{refl, ◌∙◌}
use Rattle.std.proofs.lemmas.Result.{err_from_is_err_and}
use Rattle.parser.proofs.Leaves.{faulty}
use Rattle.parser.proofs.Lines.{line_name, line_formula, line_bad, line_end_lem}
use Rattle.parser.proofs.line.Goals as goal

pub returns-in_err-name : goal.returns-in_err-name
returns-in_err-name c =
    let p = err_from_is_err_and c.from_residual.result c.from_residual.ensures.1 in
    rw (p.1, p.2) (line_name _ c.in_err-name.ensures (faulty c.in_err-name.field-0.0))

pub returns-in_err-count : goal.returns-in_err-count
returns-in_err-count c =
    let p = err_from_is_err_and c.from_residual-in_err-count.result c.from_residual-in_err-count.ensures.1 in
    rw (p.1, p.2) (line_formula _ c.in_ok-name.ensures refl c.in_err-count.ensures (faulty c.in_err-count.field-0.0) (c.formula.array_long ∙ (search rules)))

pub returns-in_err-end : goal.returns-in_err-end
returns-in_err-end c =
    let p = err_from_is_err_and c.from_residual-in_err-end.result c.from_residual-in_err-end.ensures.1 in
    rw (p.1, p.2) (line_bad _ c.in_ok-name.ensures refl c.in_ok-count.ensures refl c.in_err-end.ensures (faulty c.in_err-end.field-0.0) (c.formula.array_long ∙ (search rules)))

pub returns : goal.returns
returns c = line_end_lem _ c.in_ok-name.ensures refl c.in_ok-count.ensures refl c.in_ok-end.ensures refl (c.formula.array_long ∙ (search rules))
