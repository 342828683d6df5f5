-- Two texts worked: the rule of document 01's own book, and one with a fault of syntax. Assumes nothing.
use mathlib.Core.Path.{◌≡◌, refl}
use mathlib.Core.List.{[], ◌∷◌, ◌++◌}
use Rattle.lists.specs.Ascii.{ascii}
use Rattle.lists.specs.Sequence.{chain, every}
use Rattle.mltl.specs.Mltl.{delay_by}
use Rattle.builder.specs.Adding.{adding_node, adding_rule}
use Rattle.book.specs.Entries.{uses_in}
use Rattle.book.specs.Writing.{book_of}
use Rattle.grammar.specs.Machine.{depth, puts, unary_done, plain, step, fate}
use Rattle.text.specs.Typing.{grown, line_added, typed_from, typed}
use Rattle.rows.specs.Rows.{places_from, decimal}
use Rattle.message.specs.Message.{lines_before, line_start, up_to_end, refusal_message}
use Rattle.rules.specs.Output.{output, book_only, message_only}

own_rule : output (ascii "7: F[1,3] s0\n")
    ≡ book_only
    (0 ∷ 0 ∷ 0 ∷ 0 ∷ 0 ∷ 0 ∷ 0 ∷ 0 ∷ 1 ∷ 0 ∷ 0 ∷ 0
    ∷ 1 ∷ 0 ∷ 0 ∷ 0 ∷ 0 ∷ 0 ∷ 0 ∷ 0 ∷ 2 ∷ 0 ∷ 0 ∷ 0
    ∷ 7 ∷ 0 ∷ 1 ∷ 0 ∷ 3 ∷ 0 ∷ 1 ∷ 0 ∷ 3 ∷ 0 ∷ 0 ∷ 0
    ∷ 11 ∷ 7 ∷ 0 ∷ 0 ∷ 0 ∷ 0 ∷ 2 ∷ 0 ∷ 0 ∷ 0 ∷ 0 ∷ 0 ∷ [])
unfolding output typed typed_from fate step plain puts unary_done depth line_added grown adding_node adding_rule chain delay_by every book_of uses_in
own_rule = refl

second_line : output (ascii "7: F[1,3] s0\n8: G[0,] s1\n")
    ≡ message_only
    (ascii "text 32 20\n"
    ++ ascii "At the mark the line goes on, or ends, as no rule does; the last line needs a line end too.\n"
    ++ ascii "line 2, column 8:\n"
    ++ ascii "8: G[0,] s1\n"
    ++ ascii "       ^\n")
unfolding output typed typed_from fate step plain puts unary_done depth line_added grown adding_node adding_rule chain delay_by every refusal_message lines_before line_start up_to_end decimal places_from
second_line = refl
