-- Each answer is that of its case. Assumes nothing.
use Rattle.flat.proofs.Sessions.{from_many, from_few}
use Rattle.flat.proofs.read_narrow.Goals as goal

pub returns-then-four_at-ne0 : goal.returns-then-four_at-ne0
returns-then-four_at-ne0 c =
    from_many c.args.b.now c.four_at-rule.ensures c.four_at-seen.ensures c.four_at.ensures c.if-four_at-ne0.true c.no_table.ensures

pub returns : goal.returns
returns c =
    from_few c.args.b.now c.four_at-rule.ensures c.four_at-seen.ensures c.four_at.ensures c.if-four_at-ne0.false c.read_table.ensures
