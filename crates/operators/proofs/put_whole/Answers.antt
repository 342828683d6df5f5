-- `operators::put_whole` meets its contract. Assumes nothing.
use Rattle.mltl.specs.Known.{whole}
use borrow.Author.Rules.{rules}
use Rattle.windows.proofs.Results.{interval_is, whole_turned}
use Rattle.operators.proofs.put_whole.Goals as goal

pub returns : goal.returns
returns c =
    let a = c.args in
    c.put_window.ensures (λ k. whole a.lo a.hi) (λ fit xs ys r. let i = interval_is fit in whole_turned i.0 i.1 (search rules))
