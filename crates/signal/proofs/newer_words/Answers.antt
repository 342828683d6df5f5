-- `signal::newer_words` meets its contract. Assumes nothing.
use mathlib.Core.Path.{◌≡◌, refl}
use Prim.Native.Nat.{ℕ, ◌+◌, ◌-◌, ◌/◌, min}
use native.Mathlib.Omega.{arith}
use lib.ListN.{length}
use borrow.Author.Rules.{rules}
use Rattle.signal.proofs.Signals.{newer_swept}
use Rattle.signal.proofs.newer_words.Goals as goal

pub returns : goal.returns
returns c =
    let a = c.args in
    let k : ℕ = c.filled_words-c.result in
    let e : k ≡ min (a.words - a.at) ((length a.newer.now - c.saturating_sub-from.result) / 64) = c.filled_words-c.ensures in
    let p : a.at ≡ min a.words (length a.older.now / 64 + 1) = search rules in
    newer_swept a.i a.older.now a.newer.now c.saturating_sub-from.ensures (λ h. omega arith) refl (omega arith) c.whole_words.ensures c.other_words.ensures
