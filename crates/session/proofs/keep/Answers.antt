-- The two moves together. Assumes nothing.
use Prim.Native.Nat.{◌+◌, ◌-◌}
use mathlib.Core.Path.{refl}
use lib.ListN.{length}
use native.Mathlib.Omega.{arith}
use Rattle.session.proofs.History.{kept_is}
use Rattle.session.proofs.keep.Goals as goal

pub returns : goal.returns
returns c =
    let a = c.args in
    kept_is a.history.now c.shift.new.s _ c.copy_from_slice.new.self a.block.now a.h (a.h + length a.block.now - a.left)
    c.saturating_sub-m.result c.saturating_sub.result a.left
    (omega arith) (omega arith) (omega arith) refl c.saturating_sub-m.ensures c.saturating_sub.ensures c.shift.ensures
    c.copy_from_slice.ensures.after refl
