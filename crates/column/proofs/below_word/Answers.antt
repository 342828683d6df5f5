-- `column::below_word` meets its contract. Assumes nothing.
use Prim.Native.Nat.{◌%◌}
use native.Mathlib.Omega.{arith}
use borrow.Author.Rules.{rules}
use lib.Pow.{pow_pos}
use Rattle.column.proofs.Words.{mask, below_all, below_none, below_first}
use Rattle.column.proofs.below_word.Goals as goal

pub returns-then-w-q : goal.returns-then-w-q
returns-then-w-q c = let a = c.args in below_all a.n a.w c.if-w-q.true

pub returns-then-q-w : goal.returns-then-q-w
returns-then-q-w c = let a = c.args in below_none a.n a.w c.if-q-w.true

pub overflow_sub-result : goal.overflow_sub-result
overflow_sub-result c = let n = c.args.n in omega (arith, mask (n % 64) (omega arith), pow_pos (n % 64))

pub returns : goal.returns
returns c = let a = c.args in below_first a.n a.w (search rules)
