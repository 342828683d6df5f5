-- `operators::put_whole_release` meets its contract. Assumes nothing.
use Prim.Native.Nat.{◌+◌}
use borrow.Author.Rules.{rules}
use Rattle.mltl.specs.Known.{whole_release}
use Rattle.windows.specs.Windows.{any}
use Rattle.operators.proofs.Reaching.{whole_release_reaches}
use Rattle.operators.proofs.put_whole_release.Goals as goal

pub returns : goal.returns
returns c =
    let lo = c.args.lo in
    let hi = c.args.hi in
    c.put_reach.ensures any (λ k. whole_release lo hi) (λ k f t. f (t + lo)) (λ part left d e r. whole_release_reaches lo hi (search rules))
