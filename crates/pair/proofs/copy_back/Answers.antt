-- `pair::copy_back` meets its contract. Assumes nothing.
use Prim.Native.Nat.{◌+◌}
use native.Mathlib.Omega.{arith}
use borrow.Author.Rules.{rules}
use Rattle.pair.specs.Pair.{room}
use Rattle.pair.proofs.Pairs.{laid_copy}
use Rattle.pair.proofs.copy_back.Goals as goal

pub returns-then-words-gt0 : goal.returns-then-words-gt0
returns-then-words-gt0 c =
    let a = c.args in
    let w = c.room_of-words.result in
    laid_copy 0 a.d (a.d + w) (room a.d a.s.now) (λ i. search rules) (omega (arith, c.room_of-words.ensures)) (omega (arith, c.room_of-words.ensures)) c.copy_within.ensures.after
