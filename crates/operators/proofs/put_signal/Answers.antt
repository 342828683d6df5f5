-- `operators::put_signal` meets its contract. Assumes nothing.
use Prim.Native.Nat.{◌+◌}
use lib.Dec.{leb}
use lib.ListN.{length}
use mathlib.Core.Bool.{true}
use mathlib.Core.List.{◌++◌}
use mathlib.Core.Path.{sym, ◌≡◌, ◌∙◌}
use borrow.Author.Tests.{leb-true}
use Rattle.operators.specs.Operators.{signal_laid}
use Rattle.operators.proofs.Fits.{turns}
use Rattle.operators.proofs.Laws.{part_first}
use Rattle.operators.proofs.put_signal.Goals as goal

pub returns : goal.returns
returns c =
    let a = c.args in
    let u = c.pack_signal in
    let fit : leb (a.b + a.m) (length a.s.now) ≡ true = sym c.apart.ensures ∙ c.if-not-apart.false in
    turns a.s.now (signal_laid a.b a.m (a.older.now ++ a.newer.now) a.i a.s.now) fit (part_first a.m u.new.s (leb-true (a.b + a.m) (length a.s.now) fit) u.ensures.laid).is
