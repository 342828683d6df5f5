-- `signal::pack_signal` meets its contract. Assumes nothing.
use mathlib.Core.Path.{◌≡◌, sym, ◌∙◌}
use mathlib.Core.List.{◌++◌}
use Prim.Native.Nat.{ℕ, ◌+◌, ◌-◌, ◌/◌, min}
use native.Mathlib.Omega.{arith}
use borrow.Author.Tests.{le-ltb}
use lib.ListN.{length}
use Rattle.column.proofs.Parts.{part_turned, laid_as}
use Rattle.signal.specs.Signal.{signal_column}
use Rattle.signal.proofs.Signals.{no_signal, packed, packed_parts}
use Rattle.signal.proofs.pack_signal.Goals as goal

pub returns-then-i-ge-SIGNALS : goal.returns-then-i-ge-SIGNALS
returns-then-i-ge-SIGNALS c =
    let a = c.args in
    let m : ℕ = c.min-words.result in
    let e : m ≡ min 80 (length a.s.now) = c.min-words.ensures in
    packed a.i _ (a.older.now ++ a.newer.now) a.s.now (omega arith)
    (laid_as (signal_column a.i (a.older.now ++ a.newer.now)) (omega arith)
    (λ t. le-ltb t 0 (omega arith) ∙ sym (no_signal a.i a.older.now a.newer.now c.if-i-ge-SIGNALS.true (λ j. (c.shared_slice_known-1.given j).fits) (λ j. (c.shared_slice_known-2-1.given j).fits) t))
    (part_turned 0 (m - 0) a.s.now (omega arith) c.fill.ensures))

pub returns : goal.returns
returns c =
    let a = c.args in
    let m : ℕ = c.min-words.result in
    let e : m ≡ min 80 (length a.s.now) = c.min-words.ensures in
    let b : c.older_words-at.result ≡ min m (length a.older.now / 64 + 1) = c.older_words-at.ensures.0 in
    packed_parts a.i (a.older.now ++ a.newer.now) a.s.now e (omega arith) (omega arith) c.older_words-at.ensures.1 c.newer_words.ensures
