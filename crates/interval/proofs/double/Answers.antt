-- `interval::double` meets its contract. Assumes nothing.
use Prim.Native.Nat.{◌-◌, ◌≤◌}
use mathlib.Core.Path.{◌≡◌, sym, ◌∙◌}
use mathlib.Core.Bool.{false}
use native.Mathlib.Omega.{arith}
use Rattle.interval.specs.Parts.{bad_interval}
use Rattle.interval.specs.Doubling.{doubling}
use Rattle.interval.proofs.Laws.{interval_fits, left_le}
use Rattle.interval.proofs.Doublings.{doubling_is}
use Rattle.interval.proofs.double.Goals as goal

-- the interval is not refused
kept : (c : goal.Else-bad_interval) → bad_interval c.args.lo c.args.hi ≡ false
kept c = sym c.bad_interval.ensures ∙ c.if-bad_interval.false

within : (c : goal.Else-bad_interval) → let a = c.args in a.hi - a.lo ≤ 4095
within c = let a = c.args in let f = interval_fits a.lo a.hi (kept c) in omega arith

pub returns-then-bad_interval : goal.returns-then-bad_interval
unfolding doubling
returns-then-bad_interval c = simp (sym c.bad_interval.ensures ∙ c.if-bad_interval.true)

pub overflow_sub-v : goal.overflow_sub-v
overflow_sub-v c = let a = c.args in let f = interval_fits a.lo a.hi (kept c) in omega arith

pub largest-k-requires : goal.largest-k-requires
largest-k-requires c = within c

pub without-leftover-requires : goal.without-leftover-requires
without-leftover-requires c = (within c.before, c.largest-k.ensures.0)

pub overflow_cast-result-2 : goal.overflow_cast-result-2
overflow_cast-result-2 c =
    let a = c.args in
    let h = within c.before.before.before in
    omega (arith, left_le (a.hi - a.lo), c.without-leftover.ensures)

pub returns : goal.returns
returns c =
    let a = c.args in
    doubling_is a.lo a.hi (kept c.before.before.before) c.largest-k.ensures.0 c.without-leftover.ensures c.moves_for-count.ensures.0
