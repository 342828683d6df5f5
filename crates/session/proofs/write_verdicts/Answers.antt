-- The evaluator runs, and the words behind its verdicts become zero. Assumes nothing.
use Prim.Native.Nat.{◌-◌}
use mathlib.Core.List.{◌++◌}
use mathlib.Core.Path.{refl}
use Rattle.lists.specs.Bits.{packed, words}
use Rattle.mltl.specs.Mltl.{holds}
use Rattle.table.specs.Nodes.{formula_at}
use Rattle.lists.proofs.Columns.{length_packed}
use Rattle.session.proofs.Answers.{judged_words, zeros_behind}
use Rattle.session.proofs.write_verdicts.Goals as goal

pub returns : goal.returns
returns c =
    let w = judged_words c.requires c.judge.ensures in
    let a = c.args in
    let f = holds (formula_at a.t.nodes a.place) (a.older.now ++ a.newer.now) in (
      w.0,
      zeros_behind (packed a.count f) a.out.now c.judge.new.out a.m (words a.count) (length_packed a.count f) c.requires.room c.requires.out_fits w.1
          (a.m - words a.count) refl (c.fill.ensures.after (λ y e. e)),
    )
