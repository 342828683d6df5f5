-- `windows::release_later` meets its contract. Assumes nothing.
use Prim.Native.Nat.{◌-◌, ◌≤◌, ℕ}
use native.Mathlib.Omega.{arith}
use mathlib.Core.Bool.{◌||◌}
use mathlib.Core.Path.{ap₂, sym, ◌∙◌, ◌≡◌}
use lib.ListN.{length}
use Rattle.interval.specs.Parts.{bad_interval}
use Rattle.column.proofs.Parts.{part_op}
use Rattle.column.specs.Column.{flipped}
use Rattle.windows.proofs.Results.{fit_is, stays, turns, until_all}
use Rattle.windows.proofs.Threes.{release_later_is}
use Rattle.windows.specs.Windows.{misplaced, release_later, third, Three}
use Rattle.windows.proofs.release_later.Goals.{After-misplaced, Else-bad_interval-misplaced}
use Rattle.windows.proofs.release_later.Goals as goal

-- what both tests say
tests : (c : After-misplaced) → let a = c.args in
    (c.bad_interval.result || c.misplaced.result) ≡ (bad_interval a.lo a.hi || misplaced a.d a.e (length a.s.now))
tests c = ap₂ ◌||◌ c.bad_interval.ensures c.misplaced.ensures

fit : (c : Else-bad_interval-misplaced) → let a = c.args in ((a.lo ≤ a.hi) × (a.hi ≤ 4095)) × Three a.d a.e a.s.now
fit c = fit_is (sym (ap₂ ◌||◌ c.bad_interval.ensures c.misplaced.ensures) ∙ c.if-bad_interval-misplaced.false)

pub returns-then-bad_interval-misplaced : goal.returns-then-bad_interval-misplaced
returns-then-bad_interval-misplaced c = let a = c.args in stays a.s.now (release_later a.d a.e a.lo a.hi a.n a.s.now) (sym (tests (goal.at.returns-then-bad_interval-misplaced c).After-misplaced) ∙ c.if-bad_interval-misplaced.true)

pub overflow_sub-m : goal.overflow_sub-m
overflow_sub-m c = (fit c).1.low

pub two_flipped-requires : goal.two_flipped-requires
two_flipped-requires c = (fit (goal.at.two_flipped-requires c).Else-bad_interval-misplaced).1

pub returns : goal.returns
returns c =
    let a = c.args in
    let f = fit (goal.at.returns c).Else-bad_interval-misplaced in
    let h = f.1 in
    let m : ℕ = third a.e a.s.now in
    let kept : length c.two_flipped.new.s ≡ length a.s.now = c.two_flipped.auto.s in
    let long : length c.until_later.new.s ≡ length a.s.now = c.until_later.auto.s ∙ kept in
    turns a.s.now (release_later a.d a.e a.lo a.hi a.n a.s.now) (sym (tests (goal.at.returns c).After-misplaced) ∙ c.if-bad_interval-misplaced.false)
    (release_later_is a.d a.e a.lo a.hi a.n h c.two_flipped.ensures (until_all c.two_flipped.new.s f.0 kept h c.until_later.ensures)
    (part_op (flipped a.n) 0 (m - 0) m c.until_later.new.s (omega arith) (let low = h.low in omega arith) c.complement.ensures))
