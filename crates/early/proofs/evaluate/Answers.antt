-- `early::evaluate` meets its contract. Assumes nothing.
use Prim.Native.Nat.{◌≤◌}
use lib.ListN.{length}
use Rattle.limits.specs.Limits.{early_scratch_words}
use native.Mathlib.Omega.{arith}
use mathlib.Core.Path.{◌∙◌}
use borrow.Author.Rules.{rules}
use Rattle.lists.proofs.Sequences.{length_mapped}
use Rattle.needed.specs.Marks.{Needs}
use Rattle.needed.proofs.Marked.{needs_by}
use Rattle.layout.proofs.Runs.{runnable}
use Rattle.early.proofs.Answers.{cleared_is, known_by}
use Rattle.early.proofs.evaluate.Goals.{After-needed_for-marks}
use Rattle.early.proofs.evaluate.Goals as goal

marks : (m : After-needed_for-marks) → Needs m.args.t.nodes m.args.k m.needed_for-marks.result
marks m = needs_by m.args.t.nodes m.args.k m.requires.place m.needed_for-marks.ensures (search (rules, length_mapped))

pub run-requires : goal.run-requires
run-requires c = let h = c.requires in runnable h.place h.fitting h.short h.enough (marks (goal.at.run-requires c).After-needed_for-marks)

pub slice_bounds-fill-end-2 : goal.slice_bounds-fill-end-2
slice_bounds-fill-end-2 c = let l : early_scratch_words ≤ length c.run.new.s = omega (arith, c.requires.enough, c.run.auto.s) in search rules

pub returns : goal.returns
returns c =
    let a = c.args in
    let h = c.requires in
    let long = c.run.auto.s in (
      c.decision_of.ensures
          ∙ (known_by a.k a.tick c.run.ensures (marks (goal.at.returns c).After-needed_for-marks).top h.place h.short h.seen (omega (arith, h.enough, long)) (rw c.place_of-b.ensures at c.bit_at-yes.ensures) (rw c.place_of-b.ensures at c.bit_at-no.ensures)),
      cleared_is a.scratch.now c.run.new.s (omega (arith, h.enough, long)) (c.fill.ensures.after (λ y e. e)) c.run.ensures.rest,
    )
