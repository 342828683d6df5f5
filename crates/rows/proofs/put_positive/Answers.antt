-- Nothing for 0, and the number otherwise. Assumes nothing.
use native.Mathlib.Omega.{arith}
use mathlib.Core.Path.{refl}
use borrow.Author.Tests.{eq-eqb, ne_eqb}
use Rattle.rows.proofs.put_positive.Goals as goal

pub returns-then-n-eq0 : goal.returns-then-n-eq0
returns-then-n-eq0 c =
    record { put = rw (eq-eqb c.args.n 0 c.if-n-eq0.true) (record { list = refl; place = omega arith; room = omega (arith, c.requires) }); upper_bound = omega arith }

pub returns : goal.returns
returns c =
    record { put = rw (ne_eqb c.args.n 0 c.if-n-eq0.false) c.put_number.ensures.put; upper_bound = c.put_number.ensures.upper_bound }
