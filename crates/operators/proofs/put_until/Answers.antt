-- `operators::put_until` meets its contract. Assumes nothing.
use Prim.Native.Nat.{◌*◌, ◌+◌}
use borrow.Author.Rules.{rules}
use Rattle.mltl.specs.Mltl.{until}
use Rattle.windows.specs.Windows.{all}
use Rattle.operators.proofs.Reaching.{until_reaches}
use Rattle.operators.proofs.put_until.Goals as goal

pub returns : goal.returns
returns c =
    let lo = c.args.lo in
    let hi = c.args.hi in
    c.put_reach.ensures all (λ k f g. until (64 * k) lo hi f g) (λ k f t. f (t + lo)) (λ part left d e r. until_reaches lo hi (search rules))
