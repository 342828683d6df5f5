-- `operators::put_release` meets its contract. Assumes nothing.
use Prim.Native.Nat.{◌*◌, ◌+◌}
use lib.Dec.{ltb}
use mathlib.Core.Bool.{not, ◌&&◌}
use borrow.Author.Rules.{rules}
use Rattle.lists.specs.Bits.{below, bit_at, pack}
use Rattle.mltl.specs.Mltl.{opposite, until}
use Rattle.windows.specs.Windows.{all}
use Rattle.operators.proofs.Reaching.{release_reaches}
use Rattle.operators.proofs.put_release.Goals as goal

pub returns : goal.returns
returns c =
    let lo = c.args.lo in
    let hi = c.args.hi in
    let n = c.args.n in
    c.put_reach.ensures all (λ k f g. below n (opposite (until (64 * k) lo hi (λ t. ltb t n && not (f t)) (λ t. ltb t n && not (g t))))) (λ k f t. bit_at (pack k (λ u. ltb u n && not (f u))) (t + lo)) (λ part left d e r. release_reaches lo hi n (search rules))
