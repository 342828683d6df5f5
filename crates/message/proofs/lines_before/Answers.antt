-- The line ends among the bytes before the place. Assumes nothing.
use lib.Dec.{eqb}
use Rattle.std.proofs.Common.{rules, tests}
use Rattle.std.proofs.lemmas.Iterator.{YieldsList-from_slice}
use Rattle.std.proofs.lemmas.Iterator.Consumers.{YieldsList-from_filter, count_from_yields_List}
use Rattle.message.proofs.Laws.{lines_counted}
use Rattle.message.proofs.lines_before.Goals as goal

pub returns : goal.returns
returns c =
    lines_counted c.args.before.now
    (count_from_yields_List c.filter.result c.count.result c.count.ensures.ran (YieldsList-from_filter _ (λ x. eqb x 10) (YieldsList-from_slice c.args.before.now (cc)) c.filter.ensures.closure (λ x r q k. search (rules, tests))))
