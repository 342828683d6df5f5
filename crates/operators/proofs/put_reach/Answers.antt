-- `operators::put_reach` meets its contract. Assumes nothing.
use mathlib.Core.Bool.{true, not, ◌&&◌}
use mathlib.Core.Path.{ap, ap₂, sym, ◌≡◌, ◌∙◌}
use Prim.Native.Nat.{◌-◌}
use lib.ListN.{length}
use Rattle.lists.specs.Bits.{bit_at}
use Rattle.interval.specs.Parts.{bad_interval, parts}
use Rattle.column.specs.Column.{register}
use Rattle.operators.specs.Operators.{four_fit, worked}
use Rattle.operators.proofs.Fits.{four_is, not_refused, places_fit, turns}
use Rattle.operators.proofs.Reaching.{reaching}
use Rattle.operators.proofs.put_reach.Goals as goal

pub returns : goal.returns
returns g c = λ Q op moves runs.
    let p = c.args.p in
    let xs = c.args.s.now in
    let lo = c.args.lo in
    let hi = c.args.hi in
    let t = four_fit p.left p.right p.result p.copy p.work p.words (length xs) in
    let fit : (t && not (bad_interval lo hi)) ≡ true = sym (ap₂ ◌&&◌ c.four_fit.ensures (ap not c.bad_interval.ensures)) ∙ c.if-not-fit.false in
    let A = bit_at (register p.left p.words xs) in
    let C = bit_at (register p.right p.words xs) in
    turns xs (worked Q p.result p.copy p.work p.words (parts (hi - lo)) (op p.words A C) (moves p.words A) xs) fit
    (reaching (four_is (places_fit t lo hi fit)) c.load.ensures c.load-2.ensures Q op moves (parts (hi - lo)) (not_refused t lo hi fit) (runs _ _ _ _ c.run.ensures))
