-- `operators::put_some` meets its contract. Assumes nothing.
use Prim.Native.Nat.{◌*◌}
use Rattle.mltl.specs.Mltl.{eventually}
use borrow.Author.Rules.{rules}
use Rattle.windows.proofs.Results.{interval_is, some_turned}
use Rattle.operators.proofs.put_some.Goals as goal

pub returns : goal.returns
returns c =
    let a = c.args in
    c.put_window.ensures (λ k f. eventually (64 * k) a.lo a.hi f) (λ fit xs ys r. let i = interval_is fit in some_turned i.0 i.1 (search rules))
