-- `verdict::evaluate` meets its contract. Assumes nothing.
use Prim.Native.Nat.{◌-◌, ◌≤◌}
use lib.ListN.{length}
use native.Mathlib.Omega.{arith}
use mathlib.Core.Path.{◌≡◌}
use borrow.Author.Rules.{rules}
use Rattle.lists.specs.Bits.{words}
use Rattle.lists.proofs.Sequences.{length_mapped}
use Rattle.verdict.proofs.Answers.{cleared_is, told_is}
use Rattle.needed.specs.Marks.{Needs}
use Rattle.needed.proofs.Marked.{needs_by}
use Rattle.layout.proofs.Runs.{runnable}
use Rattle.verdict.proofs.evaluate.Goals.{After-needed_for-marks}
use Rattle.verdict.proofs.evaluate.Goals as goal

marks : (m : After-needed_for-marks) → Needs m.args.t.nodes m.args.k m.needed_for-marks.result
marks m = needs_by m.args.t.nodes m.args.k m.requires.place m.needed_for-marks.ensures (search (rules, length_mapped))

pub run-requires : goal.run-requires
run-requires c = let h = c.requires in runnable h.place h.fitting h.short h.scratch_fits (marks (goal.at.run-requires c).After-needed_for-marks)

pub slice_bounds-fill-end-2 : goal.slice_bounds-fill-end-2
slice_bounds-fill-end-2 c = let l : 5280 ≤ length c.run.new.s = omega (arith, c.requires.scratch_fits, c.run.auto.s) in search rules

pub returns : goal.returns
returns c =
    let a = c.args in
    let h = c.requires in
    let r = c.run in
    let m = c.words_of-m in
    let e : m.result - 0 ≡ words a.count = omega (arith, m.ensures) in (
      told_is a.out.now a.k a.count (m.result - 0) e h.ticks h.out_fits (marks (goal.at.returns c).After-needed_for-marks).top r.ensures
          (omega (arith, h.place, h.short, h.scratch_fits, r.auto.s)) (rw (m.ensures, c.place_of.ensures) at c.copy_out.ensures) c.keep_below.ensures,
      cleared_is a.scratch.now r.new.s (omega (arith, h.scratch_fits, r.auto.s)) (c.fill.ensures.after (λ y e. e)) r.ensures.high,
    )
