-- The digits of the number, as a text. Assumes nothing.
use mathlib.Core.Path.{◌∙◌}
use Rattle.rows.proofs.Laws.{decimal_is, places_20}
use Rattle.rows.proofs.put_decimal.Goals as goal

pub returns : goal.returns
returns c =
    let few = places_20 c.args.n c.decimal-k.result c.ranges.n.fits c.decimal-k.ensures.len in
    let e = c.decimal-k.ensures.digits ∙ decimal_is c.args.n c.decimal-k.result few c.decimal-k.ensures.len in
    rw e at c.put_text.ensures
