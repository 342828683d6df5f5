-- `column::mask` meets its contract. The invariant: the first w words are written. Assumes nothing.
use mathlib.Core.Path.{refl}
use native.Mathlib.Omega.{arith}
use borrow.Author.Rules.{rules}
use lib.ListN.{length}
use Rattle.column.specs.Column.{masked}
use Rattle.column.proofs.Sweeps.{swept_none, swept_whole, masked_next}
use Rattle.column.proofs.mask.Goals as goal

pub loop-w-init : goal.loop-w-init
loop-w-init g c = ((λ op k. swept_none), search rules)

pub loop-w-preserved : goal.loop-w-preserved
loop-w-preserved g c =
    let l = c.loop-w in (
      (λ op k. masked_next op (length c.args.s.now) c.args.n (search rules) (omega arith) (search rules) c.below_word.ensures (search rules)
          (k _ _ _ (search rules) (search rules) c.f.ensures) (l.invariant.0 op k)),
      search rules,
    )

pub returns : goal.returns
returns g c = λ op k. let i = c.loop-w.invariant in swept_whole (masked op c.args.n) refl (i.0 op k) i.1 c.loop-w-test.false
