-- There is room for 20 digits. Assumes nothing.
use native.Mathlib.Omega.{arith}
use Rattle.rows.proofs.Laws.{decimal_short}
use Rattle.rows.proofs.put_number.Goals as goal

pub returns : goal.returns
returns c =
    let short = decimal_short c.args.n in
    let p = c.put_decimal.ensures.put (omega arith) in
    record { put = p; upper_bound = omega (arith, p.place, short) }
