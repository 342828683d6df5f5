-- `moves::sweep` meets its contract. The invariant: the first w words are written. Assumes nothing.
use native.Mathlib.Nat.{le_antisymm}
use native.Mathlib.Omega.{arith}
use borrow.Author.Rules.{rules}
use Rattle.column.proofs.Sweeps.{swept_to}
use Rattle.moves.proofs.Sweeps.{made_more, clear_word}
use Rattle.moves.proofs.sweep.Goals as goal
use mathlib.Core.Path.{sym}

pub loop-w-init : goal.loop-w-init
loop-w-init g c =
    ((λ op k. swept_to (c.sweep_left.ensures op k) (sym c.words_left-w.ensures)), omega (arith, c.words_left-w.ensures), omega (arith, c.words_left-w.ensures), c.requires.room)

pub loop-w-preserved : goal.loop-w-preserved
loop-w-preserved g c =
    let l = c.loop-w in
    let a = c.args in (
      (λ op k. made_more op a.d a.by a.words (search rules) c.requires.room (λ i. search rules) (search rules)
          (k _ _ _ _ (search rules) (search rules) (search rules) c.f.ensures) (clear_word a.by a.words a.s.now l.invariant.1) (l.invariant.0 op k)),
      omega (arith, l.invariant.1),
      search rules,
      c.requires.room,
    )

pub returns : goal.returns
returns g c = λ op k. let i = c.loop-w.invariant in swept_to (i.0 op k) (le_antisymm i.2 c.loop-w-test.false)
