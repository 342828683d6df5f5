-- Nothing is put where there is no room, and all of it otherwise. Assumes nothing.
use native.Mathlib.Omega.{arith}
use mathlib.Core.Path.{refl}
use Rattle.rows.proofs.put_text.Goals as goal

pub returns-then-at-out : goal.returns-then-at-out
returns-then-at-out c = record { put = λ h. absurd (omega arith); left = λ h. (refl, refl) }

pub returns-then-out-at : goal.returns-then-out-at
returns-then-out-at c = record { put = λ h. absurd (omega arith); left = λ h. (refl, refl) }

pub returns : goal.returns
returns c = record { put = λ h. c.put.ensures; left = λ h. absurd (omega (arith, c.put.ensures.room)) }
