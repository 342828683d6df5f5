-- `lines::fill` meets its contract. The invariant: some lines were read, and the rest is still to be read. Assumes nothing.
use Prim.Native.Nat.{ℕ, ◌<◌}
use mathlib.Core.Path.{◌≡◌, sym, ◌∙◌}
use mathlib.Core.Bool.{true, ◌&&◌}
use borrow.Author.Rules.{rules}
use borrow.Author.Tests.{ltb-true}
use lib.Dec.{ltb}
use Rattle.lists.proofs.Tests.{true_left, true_right}
use Rattle.lines.proofs.Laws.{reached_none, reached_stop, more_read, part_read, bad_read, further, value_fits}
use Rattle.lines.proofs.fill.Goals as goal

-- there is a byte to read, and room in the block
tests : {i n k m : ℕ} → (ltb i n && ltb k m) ≡ true → (i < n) × (k < m)
tests {i} {n} {k} {m} e = (ltb-true i n (true_left (ltb i n) (ltb k m) e), ltb-true k m (true_right (ltb i n) (ltb k m) e))

pub loop-i-init : goal.loop-i-init
loop-i-init c = reached_none _ _ _ _ _

pub returns-in_default : goal.returns-in_default
returns-in_default c =
    let e = c.loop-i-test.true in
    let w = part_read c.loop-i.invariant c.scan_line-scan.result c.scan_line-scan.ensures (tests e).1 c.in_default.is (tests e).0 in
    record { value = w.0; block_after = w.1 }

pub returns-then-not-is_state : goal.returns-then-not-is_state
returns-then-not-is_state c =
    let w = bad_read c.loop-i.invariant c.scan_line-scan.result c.scan_line-scan.ensures (tests c.loop-i-test.true).1 _ c.in-Some.is
    (sym c.is_state.ensures ∙ c.if-not-is_state.true) in
    record { value = rw c.start.ensures w.0; block_after = w.1 }

pub overflow_cast-block : goal.overflow_cast-block
overflow_cast-block c =
    search (rules, value_fits c.scan_line-scan.result.line (sym c.is_state.ensures ∙ c.if-not-is_state.false))

pub loop-i-smaller : goal.loop-i-smaller
loop-i-smaller c =
    further c.loop-i.invariant c.scan_line-scan.result c.scan_line-scan.ensures (tests c.loop-i-test.true).1 _ c.in-Some.is (tests c.loop-i-test.true).0

pub loop-i-preserved : goal.loop-i-preserved
loop-i-preserved c =
    rw c.start-l.ensures
    (more_read c.loop-i.invariant c.scan_line-scan.result c.scan_line-scan.ensures (tests c.loop-i-test.true).1 _ c.in-Some.is
    (sym c.is_state.ensures ∙ c.if-not-is_state.false))

pub returns : goal.returns
returns c =
    let w = reached_stop c.loop-i.invariant c.loop-i-test.false in
    record { value = w.0; block_after = w.1 }
