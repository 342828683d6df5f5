-- The spaces, and the mark. Assumes nothing.
use Prim.Native.Nat.{ℕ}
use mathlib.Core.Path.{sym}
use lib.Seq.{length-take-le}
use Rattle.lists.proofs.Sequences.{take_replicate}
use borrow.Author.Rules.{rules}
use Rattle.message.specs.Code.Steps.{indent_most}
use Rattle.message.proofs.Laws.{fit_piece, fit_more}
use Rattle.message.proofs.put_mark.Goals as goal

pub slice_bounds-put_text-end : goal.slice_bounds-put_text-end
slice_bounds-put_text-end c = sym (length-take-le _ _ (search rules))

pub returns : goal.returns
returns c =
    rw (← c.mark_at-indent.ensures.0, ← take_replicate {A = ℕ} _ indent_most 32 c.mark_at-indent.ensures.1)
    (fit_more (fit_piece c.put_text-a.ensures) c.put_text.ensures)
