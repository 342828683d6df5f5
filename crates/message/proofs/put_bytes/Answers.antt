-- The invariant: the bytes that were taken are put. Assumes nothing.
use Prim.Native.Nat.{◌-◌, ◌+◌, ◌<◌}
use native.Mathlib.Omega.{arith}
use mathlib.Core.Path.{◌≡◌, ap, ◌∙◌}
use lib.ListN.{get_or, drop, length-take, length-drop}
use Rattle.std.proofs.lemmas.List.Edits.{get_or-between}
use Rattle.message.specs.Message.{shown_byte}
use Rattle.message.proofs.Laws.{fit_none, fit_tick}
use Rattle.message.proofs.put_bytes.Goals as goal

pub loop-b-init : goal.loop-b-init
loop-b-init c = fit_none

pub loop-b-preserved : goal.loop-b-preserved
loop-b-preserved c =
    let a = c.args in
    let i = c.loop-b.b-index in
    let h : a.from + i < a.to = omega (arith, c.loop-b-test.true, length-take (a.to - a.from) (drop a.from a.text.now)) in
    fit_tick (λ j. shown_byte (get_or a.text.now (a.from + j) 0)) (c.shown_byte.ensures ∙ ap shown_byte (get_or-between a.text.now a.from a.to i 0 h)) c.loop-b.invariant c.put_text-next.ensures

pub returns : goal.returns
returns c =
    let a = c.args in
    let e : c.loop-b.b-index ≡ a.to - a.from = omega (arith, c.loop-b-test.false, c.loop-b.auto.b-index-end, c.requires, length-take (a.to - a.from) (drop a.from a.text.now), length-drop a.from a.text.now) in
    rw e at c.loop-b.invariant
