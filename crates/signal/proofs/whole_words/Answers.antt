-- `signal::whole_words` meets its contract. The invariant: the first w of the words are put. Assumes nothing.
use mathlib.Core.Path.{refl, ap}
use Prim.Native.Nat.{ℕ}
use native.Mathlib.Nat.{le_antisymm}
use native.Mathlib.Omega.{arith}
use borrow.Author.Rules.{rules}
use Rattle.column.proofs.Sweeps.{swept_none, swept_more, swept_to}
use Rattle.signal.specs.Signal.{signal_column}
use Rattle.signal.proofs.Signals.{gathered_word}
use Rattle.signal.proofs.whole_words.Goals as goal

pub loop-w-init : goal.loop-w-init
loop-w-init c = (swept_none, search rules)

pub loop-w-preserved : goal.loop-w-preserved
loop-w-preserved c =
    let l = c.loop-w in
    let a = c.args in
    (swept_more l.invariant.0 (search rules) refl (gathered_word _ _ c.whole_word.ensures (λ j h. ap (λ (t : ℕ). signal_column a.i a.states.now t) (omega arith))), search rules)

pub shape_of-s : goal.shape_of-s
shape_of-s c = c.loop-w.invariant.0.long

pub returns : goal.returns
returns c = let l = c.loop-w in swept_to l.invariant.0 (le_antisymm l.invariant.1 c.loop-w-test.false)
