-- `signal::older_words` meets its contract. Assumes nothing.
use mathlib.Core.Path.{◌≡◌}
use Prim.Native.Nat.{ℕ, ◌+◌, ◌-◌, ◌/◌, min}
use native.Mathlib.Omega.{arith}
use lib.ListN.{length}
use Rattle.signal.proofs.Signals.{older_swept}
use Rattle.signal.proofs.older_words.Goals as goal

pub returns : goal.returns
returns c =
    let a = c.args in
    let k : ℕ = c.filled_words-a.result in
    let e : k ≡ min a.words ((length a.older.now - 0) / 64) = c.filled_words-a.ensures in
    let n : c.min-b.result ≡ min a.words (k + 1) = c.min-b.ensures in
    (omega arith, older_swept a.i a.older.now a.newer.now (omega arith) (omega arith) c.whole_words.ensures c.other_words.ensures)
