-- The states that history holds, as a whole trace. Assumes nothing.
use Prim.Native.Nat.{◌≤◌}
use mathlib.Core.Path.{refl}
use native.Mathlib.Omega.{arith}
use borrow.Author.Rules.{rules}
use lib.ListN.{length}
use Rattle.session.proofs.Answers.{kept_short, fit_rule, lent_part, close_writes, close_is}
use Rattle.session.proofs.finish.Goals as goal

pub offset_bounds-t-rule : goal.offset_bounds-t-rule
offset_bounds-t-rule c = omega (arith, fit_rule c.requires.fit)

pub bounds-t-rule : goal.bounds-t-rule
bounds-t-rule c = fit_rule c.requires.fit

pub slice_bounds-write_verdicts-end : goal.slice_bounds-write_verdicts-end
slice_bounds-write_verdicts-end c =
    let f = c.requires.fit in
    let w : 4095 ≤ length c.args.history.now = f.history_fits in
    let k : c.held-count.result ≤ length c.args.history.now = omega (arith, kept_short f c.held-count.ensures) in
    search rules

pub write_verdicts-requires : goal.write_verdicts-requires
write_verdicts-requires c =
    close_writes c.requires c.held-count.ensures (lent_part c.held-count.result c.args.history.now) refl

pub returns : goal.returns
returns c =
    close_is c.requires c.held-count.ensures (lent_part c.held-count.result c.args.history.now) refl c.write_verdicts.ensures
