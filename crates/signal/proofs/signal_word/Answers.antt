-- `signal::signal_word` meets its contract. Assumes nothing.
use mathlib.Core.Path.{refl}
use mathlib.Core.List.{◌++◌}
use native.Mathlib.Omega.{arith}
use Rattle.signal.specs.Signal.{signal_column}
use Rattle.signal.proofs.Signals.{gathered_word, from_newer}
use Rattle.signal.proofs.signal_word.Goals as goal

pub returns-then-m-from : goal.returns-then-m-from
returns-then-m-from c =
    let a = c.args in
    gathered_word (signal_column a.i (a.older.now ++ a.newer.now)) _ c.last_word.ensures
    (λ j h. from_newer a.i a.older.now a.newer.now _ _ (omega arith))

pub returns : goal.returns
returns c = let a = c.args in gathered_word (signal_column a.i (a.older.now ++ a.newer.now)) _ c.joint_word.ensures (λ j h. refl)
