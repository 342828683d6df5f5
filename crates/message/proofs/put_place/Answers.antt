-- The pieces one after the other. Assumes nothing.
use mathlib.Core.Path.{ap, ◌∙◌}
use Rattle.message.specs.Message.{up_to_end}
use Rattle.message.proofs.Laws.{fit_then, lines_part, start_part}
use Rattle.message.proofs.put_place.Goals as goal

pub returns : goal.returns
returns c =
    let a = c.args in
    let h = c.requires.0 in
    let o = c.split_at.ensures in
    let n = c.lines_before-n.ensures.0 ∙ lines_part a.text.now a.p h o.front in
    let s = c.line_start-s.ensures.0 ∙ start_part a.text.now a.p h o.front in
    let e = c.up_to_end.ensures.0 ∙ ap up_to_end o.back in
    rw (← e, ← s, ← n) (fit_then (fit_then c.put_where-a.ensures c.put_line-b.ensures) c.put_mark.ensures)
