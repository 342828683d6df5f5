-- `windows::reach_later` meets its contract. Assumes nothing.
use Prim.Native.Nat.{ℕ, ◌≤◌}
use mathlib.Core.Bool.{Bool, false, ◌||◌, or-true}
use mathlib.Core.List.{List}
use mathlib.Core.Path.{ap₂, sym, ◌∙◌, ◌≡◌}
use lib.ListN.{length, take}
use Rattle.interval.specs.Parts.{bad_interval}
use Rattle.interval.proofs.Laws.{split_refused, split_taken}
use Rattle.windows.proofs.Results.{fit_is, stays, three_kept, turns}
use Rattle.windows.proofs.Threes.{later_is}
use Rattle.windows.proofs.Windows.{cut_12, cut_all, cut_each, cut_width}
use Rattle.windows.specs.Windows.{misplaced, later, Three}
use Rattle.windows.proofs.reach_later.Goals as goal

-- what both tests say
neither : (lo hi d e n : ℕ) {m : Bool} → bad_interval lo hi ≡ false → m ≡ misplaced d e n → m ≡ false → (bad_interval lo hi || misplaced d e n) ≡ false
neither lo hi d e n p q r = ap₂ ◌||◌ p (sym q ∙ r)

fit : (lo hi d e : ℕ) (xs : List ℕ) {m : Bool} → bad_interval lo hi ≡ false → m ≡ misplaced d e (length xs) → m ≡ false
    → ((lo ≤ hi) × (hi ≤ 4095)) × Three d e xs
fit lo hi d e xs p q r = fit_is (neither lo hi d e (length xs) p q r)

pub returns-then-misplaced : goal.returns-then-misplaced
returns-then-misplaced g c = λ W Q k.
    let a = c.args in
    stays a.s.now (later W Q a.d a.e a.lo a.hi a.s.now) (rw (← c.misplaced.ensures, c.if-misplaced.true) (or-true (bad_interval a.lo a.hi)))

pub returns-in_default : goal.returns-in_default
returns-in_default g c = λ W Q k.
    let a = c.args in
    stays a.s.now (later W Q a.d a.e a.lo a.hi a.s.now) (rw (split_refused a.lo a.hi c.in_default.field-0 c.in_default.ensures))

pub two_down-requires : goal.two_down-requires
two_down-requires g c =
    let a = c.args in (fit a.lo a.hi a.d a.e a.s.now (split_taken a.lo a.hi c.in-Ok.ensures) c.misplaced.ensures c.if-misplaced.false).1

pub shared_ref_as_front-reach_parts : goal.shared_ref_as_front-reach_parts
shared_ref_as_front-reach_parts g c =
    let a = c.args in
    let p = (fit a.lo a.hi a.d a.e a.s.now (split_taken a.lo a.hi c.in-Ok.ensures) c.misplaced.ensures c.if-misplaced.false).0 in
    cut_12 a.lo a.hi p.0 p.1 c.in-Ok.ensures

pub reach_parts-requires-clause-three : goal.reach_parts-requires-clause-three
reach_parts-requires-clause-three g c =
    let a = c.args in
    three_kept c.two_down.auto.s (fit a.lo a.hi a.d a.e a.s.now (split_taken a.lo a.hi c.in-Ok.ensures) c.misplaced.ensures c.if-misplaced.false).1

pub reach_parts-requires-clause-small : goal.reach_parts-requires-clause-small
reach_parts-requires-clause-small g c =
    let a = c.args in
    let p = (fit a.lo a.hi a.d a.e a.s.now (split_taken a.lo a.hi c.in-Ok.ensures) c.misplaced.ensures c.if-misplaced.false).0 in
    cut_each a.lo a.hi p.0 p.1 c.in-Ok.ensures

pub returns : goal.returns
returns g c = λ W Q k.
    let a = c.args in
    let b = split_taken a.lo a.hi c.in-Ok.ensures in
    let f = fit a.lo a.hi a.d a.e a.s.now b c.misplaced.ensures c.if-misplaced.false in
    let p = f.0 in
    let ks = take c.in-Ok.cut.count c.in-Ok.cut.ks in
    turns a.s.now (later W Q a.d a.e a.lo a.hi a.s.now) (neither a.lo a.hi a.d a.e (length a.s.now) b c.misplaced.ensures c.if-misplaced.false)
    (later_is k a.d a.e a.lo a.hi (length ks) ks f.1 p.0 (cut_width a.lo a.hi p.0 p.1 c.in-Ok.ensures) (cut_all a.lo a.hi p.0 p.1 c.in-Ok.ensures)
    c.two_down.ensures (c.reach_parts.ensures W Q k))
