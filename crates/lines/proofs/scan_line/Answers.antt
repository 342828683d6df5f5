-- `lines::scan_line` meets its contract. The invariant: what is scanned from here is what was to be scanned from the start. Assumes nothing.
use mathlib.Core.Path.{refl, sym, ◌∙◌}
use Rattle.lines.proofs.Laws.{scan_none, scan_end, scan_more}
use Rattle.lines.proofs.scan_line.Goals as goal

pub loop-i-init : goal.loop-i-init
loop-i-init c = refl

pub returns-then-part-i-eq10 : goal.returns-then-part-i-eq10
returns-then-part-i-eq10 c =
    let p = c.loop-i in
    sym (scan_end c.args.part.now p.i p.l c.loop-i-test.true c.if-part-i-eq10.true) ∙ p.invariant

pub with_byte-l-requires : goal.with_byte-l-requires
with_byte-l-requires c = tt

pub loop-i-preserved : goal.loop-i-preserved
loop-i-preserved c =
    let p = c.loop-i in
    let s = c.args.part.now in
    rw c.with_byte-l.ensures (sym (scan_more s p.i p.l c.loop-i-test.true c.if-part-i-eq10.false) ∙ p.invariant)

pub returns : goal.returns
returns c =
    let p = c.loop-i in
    sym (scan_none c.args.part.now p.i p.l c.loop-i-test.false) ∙ p.invariant
