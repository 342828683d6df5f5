-- The bytes are copied. Assumes nothing.
use mathlib.Core.Path.{◌∙◌}
use native.Mathlib.Omega.{arith}
use borrow.Author.Rules.{rules}
use Rattle.flat.proofs.Sessions.{four_copied}
use Rattle.flat.proofs.put_four.Goals as goal

pub returns : goal.returns
returns c = let a = c.args in four_copied a.b.now a.at a.x (search rules) (omega arith) (c.copy_from_slice.ensures.after ∙ c.to_le_bytes.ensures)
