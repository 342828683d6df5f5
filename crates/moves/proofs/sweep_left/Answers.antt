-- `moves::sweep_left` meets its contract. The invariant: the first w words are written. Assumes nothing.
use native.Mathlib.Nat.{le_antisymm}
use native.Mathlib.Omega.{arith}
use borrow.Author.Rules.{rules}
use Rattle.column.proofs.Sweeps.{swept_none, swept_to}
use Rattle.moves.proofs.Sweeps.{moved_more}
use Rattle.moves.proofs.sweep_left.Goals as goal

pub returns-then-left-eq0 : goal.returns-then-left-eq0
returns-then-left-eq0 g c = λ op k. swept_to swept_none (omega arith)

pub loop-w-init : goal.loop-w-init
loop-w-init g c = ((λ op k. swept_none), search rules)

pub loop-w-preserved : goal.loop-w-preserved
loop-w-preserved g c =
    let l = c.loop-w in
    let a = c.args in (
      (λ op k. moved_more op a.d a.by a.words (omega arith) c.requires.room (λ i. search rules) (search rules)
          (k _ _ _ _ (search rules) (search rules) (search rules) c.f.ensures) c.near_word.ensures (l.invariant.0 op k)),
      search rules,
    )

pub returns : goal.returns
returns g c = λ op k.
    let i = c.loop-w.invariant in
    let a = c.args in
    swept_to
    (moved_more op a.d a.by a.words (omega arith) c.requires.room (λ j. search rules) (search rules)
    (k _ _ _ _ (search rules) (search rules) (search rules) c.f-2.ensures) c.last_word.ensures (swept_to (i.0 op k) (le_antisymm i.1 c.loop-w-test.false)))
    (omega arith)
