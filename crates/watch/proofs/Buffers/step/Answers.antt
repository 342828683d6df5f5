-- `Buffers::step` meets its contract. Assumes nothing.
use Prim.Native.Nat.{◌≤◌}
use mathlib.Core.Path.{◌≡◌, sym}
use lib.ListN.{length}
use Rattle.watch.proofs.Laws.{few_lines, bad_step, part_step, fed_step}
use borrow.Author.Rules.{rules}
use Rattle.watch.proofs.Buffers.step.Goals.{After-fill-f}
use Rattle.watch.proofs.Buffers.step.Goals as goal

-- the block has its length
size : (c : After-fill-f) → length c.args.self.now.block ≡ 1024
size c = let b : 1024 ≡ length c.args.self.now.block = search rules in sym b

-- the block has room for the lines
few : (c : After-fill-f) → c.fill-f.result.count ≤ 1024
few c =
    let a = c.args in
    let q = c.fill-f in
    few_lines a.p a.part.now a.at a.self.now.history a.self.now.block c.requires (size c) q.result q.new.block q.ensures.value q.ensures.block_after

pub overflow_add-f : goal.overflow_add-f
overflow_add-f c = search (rules, few (goal.at.overflow_add-f c).After-fill-f)

pub returns-then-f : goal.returns-then-f
returns-then-f c =
    let a = c.args in
    let q = c.fill-f in
    bad_step a.p a.part.now a.at a.self.now.history a.self.now.block c.requires (size (goal.at.returns-then-f c).After-fill-f) q.result q.new.block q.ensures.value q.ensures.block_after a.self.now.text _ _ c.if-f.true c.put_bad_line-used.ensures

pub returns-then-f-lt-MAX_BLOCK : goal.returns-then-f-lt-MAX_BLOCK
returns-then-f-lt-MAX_BLOCK c =
    let a = c.args in
    let q = c.fill-f in
    part_step a.p a.part.now a.at a.self.now.history a.self.now.block c.requires (size (goal.at.returns-then-f-lt-MAX_BLOCK c).After-fill-f) q.result q.new.block q.ensures.value q.ensures.block_after a.self.now.text c.if-f.false c.if-f-lt-MAX_BLOCK.true

pub feed-requires : goal.feed-requires
feed-requires c = (few (goal.at.feed-requires c).After-fill-f, c.requires.ticks)

pub returns : goal.returns
returns c =
    let a = c.args in
    let q = c.fill-f in
    rw c.feed.ensures.block (fed_step a.p a.part.now a.at a.self.now.history a.self.now.block c.requires (size (goal.at.returns c).After-fill-f) q.result q.new.block q.ensures.value q.ensures.block_after _ _ _ c.if-f.false c.if-f-lt-MAX_BLOCK.false c.feed.ensures.fed)
