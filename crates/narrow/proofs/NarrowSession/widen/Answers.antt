-- Each answer is that of its case. Assumes nothing.
use mathlib.Core.Bool.{false}
use Rattle.mltl.specs.Mltl.{delay}
use Rattle.session.proofs.Answers.{unfit_told, fit_told}
use Rattle.narrow.specs.Narrow.{wide_of}
use Rattle.narrow.proofs.Widening.{widened_fit, widened_unfit}
use Rattle.narrow.proofs.NarrowSession.widen.Goals as goal

pub returns-in_default : goal.returns-in_default
returns-in_default c = let s = wide_of c.args.self in widened_unfit delay s (unfit_told false s c.in_default.field-0 c.in_default.ensures)

pub returns : goal.returns
returns c = let s = wide_of c.args.self in rw c.with.ensures (widened_fit delay s (fit_told false s c.in-Ok.ensures))
