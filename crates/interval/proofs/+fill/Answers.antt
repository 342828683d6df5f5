-- What is left to split falls with each call.
use mathlib.Core.Path.{◌≡◌}
use native.Mathlib.Nat.{pos_of_ne-zero}
use native.Mathlib.Omega.{arith}
use Rattle.interval.specs.Parts.{left}
use Rattle.interval.proofs.Laws.{left_lt, fill_none, fill_length, fill_more}
use Rattle.interval.proofs.+fill.Goals as goal

pub returns-then-rest-eq0 : goal.returns-then-rest-eq0
returns-then-rest-eq0 t c = fill_none c.args.rest c.args.found.count c.args.found.ks c.if-rest-eq0.true

pub bounds-ks-n : goal.bounds-ks-n
bounds-ks-n t c = omega (arith, fill_length c.args.rest (pos_of_ne-zero c.if-rest-eq0.false))

pub fill-requires : goal.fill-requires
fill-requires t c =
    let a = c.args in
    let pos = pos_of_ne-zero c.if-rest-eq0.false in
    let lt = left_lt a.rest pos in
    let w : c.without.result ≡ left a.rest = c.without.ensures in
    (omega arith, (omega arith, rw w (omega (arith, fill_length a.rest pos))))

pub returns : goal.returns
returns t c =
    let a = c.args in
    fill_more a.rest c.largest-k.result c.without.result a.found.count c.fill.result.count a.found.ks c.fill.result.ks
    (pos_of_ne-zero c.if-rest-eq0.false) c.largest-k.ensures.0 c.without.ensures c.fill.ensures
