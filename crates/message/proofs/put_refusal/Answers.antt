-- The two lines, and the place where it is shown. Assumes nothing.
use mathlib.Core.Path.{sym, ◌∙◌}
use borrow.Author.Rules.{rules}
use Rattle.message.proofs.Laws.{told_line, told_long, told_place_lem}
use Rattle.message.proofs.put_refusal.Goals as goal

pub returns-then-not-placed : goal.returns-then-not-placed
returns-then-not-placed c =
    let a = c.args in
    told_line a.text.now a.number a.place (search rules) c.put_machine_line-a.ensures c.put_sentence-b.ensures (sym c.placed.ensures ∙ c.if-not-placed.true)

pub returns-then-text-gt-MAX_TEXT : goal.returns-then-text-gt-MAX_TEXT
returns-then-text-gt-MAX_TEXT c =
    let a = c.args in
    told_long a.text.now a.number a.place (search rules) c.put_machine_line-a.ensures c.put_sentence-b.ensures (sym c.placed.ensures ∙ c.if-not-placed.false) c.if-text-gt-MAX_TEXT.true

pub returns : goal.returns
returns c =
    let a = c.args in
    told_place_lem a.text.now a.number a.place (search rules) c.put_machine_line-a.ensures c.put_sentence-b.ensures (sym c.placed.ensures ∙ c.if-not-placed.false) c.if-text-gt-MAX_TEXT.false
    c.min.ensures c.put_place.ensures
