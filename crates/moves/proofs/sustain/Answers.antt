-- `moves::sustain` meets its contract. Assumes nothing.
use mathlib.Core.Bool.{◌||◌, ◌&&◌}
use borrow.Author.Rules.{rules}
use Rattle.pair.proofs.Pairs.{first, into_none, into_laid}
use Rattle.moves.specs.Moves.{sustained}
use Rattle.moves.proofs.Words.{bit_sustain}
use Rattle.moves.proofs.sustain.Goals as goal

pub returns : goal.returns
returns c =
    into_laid (into_none {op = sustained c.args.by} first c.room_of-words.ensures)
    (c.sweep.ensures (λ o p m. o && (p || m)) (λ u v x z f g h k i l. bit_sustain u v x (search rules) i))
