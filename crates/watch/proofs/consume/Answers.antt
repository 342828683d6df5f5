-- `watch::consume` meets its contract. The invariant: the next step may begin, and the bytes so far were read. Assumes nothing.
use native.Mathlib.Omega.{arith}
use borrow.Author.Tests.{not-true, not-false}
use Rattle.watch.proofs.Laws.{through_none, through_step, through_all, consumed_ended}
use Rattle.watch.proofs.consume.Goals as goal

pub loop-at-init : goal.loop-at-init
loop-at-init g c =
    let a = c.args in
    (c.requires, through_none a.first a.part.now a.buffers.now.history a.buffers.now.block)

pub returns-then-not-write : goal.returns-then-not-write
returns-then-not-write g c = consumed_ended _ _ _ _ _ _ _ c.ended.ensures.0

pub returns-then-not-o : goal.returns-then-not-o
returns-then-not-o g c = consumed_ended _ _ _ _ _ _ _ (not-true _ c.if-not-o.true)

pub loop-at-smaller : goal.loop-at-smaller
loop-at-smaller g c =
    let w = c.step-o.ensures.further c.loop-at-test.true in
    omega (arith, w.0, w.1)

pub loop-at-preserved : goal.loop-at-preserved
loop-at-preserved g c =
    let on = not-false _ c.if-not-o.false in
    let s = c.step-o in
    let q = c.loop-at in
    let a = c.args in
    (s.ensures.ready on, through_step a.first a.part.now a.buffers.now.history a.buffers.now.block q.at q.p q.buffers.history q.buffers.block _ _ _ s.result c.loop-at-test.true q.invariant.1 s.ensures on)

pub returns : goal.returns
returns g c =
    let q = c.loop-at in
    let a = c.args in
    record { ready = λ g. q.invariant.0; right = through_all a.first a.part.now a.buffers.now.history a.buffers.now.block q.at q.p q.buffers.history q.buffers.block c.loop-at-test.false q.invariant.1 }
