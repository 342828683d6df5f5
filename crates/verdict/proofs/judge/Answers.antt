-- `verdict::judge` meets its contract. Assumes nothing.
use mathlib.Core.Bool.{◌&&◌}
use mathlib.Core.List.{◌++◌}
use mathlib.Core.Path.{sym, ◌∙◌, ◌≡◌}
use borrow.Author.Rules.{rules}
use lib.ListN.{length}
use Rattle.lists.proofs.Sequences.{length_mapped}
use Rattle.verdict.proofs.Answers.{judged, judged_not, ready_is, ready_out}
use Rattle.verdict.specs.Verdict.{ready}
use Rattle.verdict.proofs.judge.Goals.{After-has_enough-room, Start}
use Rattle.verdict.proofs.judge.Goals as goal

-- the table's array has 64 nodes
places : (s : Start) → length s.args.t.nodes ≡ 64
places s = search (rules, length_mapped)

-- what both tests say
tests : (c : After-has_enough-room) → let a = c.args in (c.fits_to-fitting.result && c.has_enough-room.result) ≡ ready a.t a.k (a.older.now ++ a.newer.now) a.count a.scratch.now a.out.now
tests c =
    let a = c.args in
    ready_is a.t a.k a.older.now a.newer.now a.count a.scratch.now a.out.now c.fits_to-fitting.ensures c.has_enough-room.ensures

pub evaluate-requires : goal.evaluate-requires
evaluate-requires c =
    let a = c.args in
    ready_out a.t a.k (a.older.now ++ a.newer.now) a.count a.scratch.now a.out.now (places (goal.at.evaluate-requires c).Start) (sym (tests (goal.at.evaluate-requires c).After-has_enough-room) ∙ c.if-fitting-room.true)

pub returns-then-fitting-room : goal.returns-then-fitting-room
returns-then-fitting-room c =
    judged (tests (goal.at.returns-then-fitting-room c).After-has_enough-room) c.if-fitting-room.true c.evaluate.ensures.0 c.evaluate.ensures.1

pub returns : goal.returns
returns c = judged_not (tests (goal.at.returns c).After-has_enough-room) c.if-fitting-room.false
