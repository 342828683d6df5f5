-- `operators::put_all` meets its contract. Assumes nothing.
use Prim.Native.Nat.{◌*◌}
use lib.Dec.{ltb}
use mathlib.Core.Bool.{not, ◌&&◌}
use Rattle.lists.specs.Bits.{below}
use Rattle.mltl.specs.Mltl.{eventually, opposite}
use borrow.Author.Rules.{rules}
use Rattle.windows.proofs.Results.{interval_is, all_turned}
use Rattle.operators.proofs.put_all.Goals as goal

pub returns : goal.returns
returns c =
    let a = c.args in
    c.put_window.ensures (λ k f. below a.n (opposite (eventually (64 * k) a.lo a.hi (λ t. ltb t a.n && not (f t))))) (λ fit xs ys r. let i = interval_is fit in all_turned i.0 i.1 a.n (search rules))
