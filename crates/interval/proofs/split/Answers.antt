-- `interval::split` meets its contract. Assumes nothing.
use Prim.Native.Nat.{◌-◌}
use mathlib.Core.Path.{◌≡◌, sym, ◌∙◌}
use mathlib.Core.Bool.{false}
use native.Mathlib.Omega.{arith}
use Rattle.interval.specs.Parts.{bad_interval, splitting}
use Rattle.interval.proofs.Laws.{parts_12, interval_fits, splitting_is}
use Rattle.interval.proofs.split.Goals as goal

-- the interval is not refused
kept : (c : goal.Else-bad_interval) → bad_interval c.args.lo c.args.hi ≡ false
kept c = sym c.bad_interval.ensures ∙ c.if-bad_interval.false

pub returns-then-bad_interval : goal.returns-then-bad_interval
unfolding splitting
returns-then-bad_interval c = simp (sym c.bad_interval.ensures ∙ c.if-bad_interval.true)

pub overflow_sub-hi : goal.overflow_sub-hi
overflow_sub-hi c = let a = c.args in let f = interval_fits a.lo a.hi (kept c) in omega arith

pub fill-requires : goal.fill-requires
fill-requires c =
    let a = c.args in
    let f = interval_fits a.lo a.hi (kept c) in
    omega (arith, parts_12 (a.hi - a.lo) (omega arith))

pub returns : goal.returns
returns c =
    let a = c.args in
    let f = c.fill in
    splitting_is a.lo a.hi f.result.count f.result.ks (kept c.before) f.ensures
