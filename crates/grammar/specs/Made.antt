-- The nodes of a line, in table order: operands before users, left first; each with the place of its left operand among them.
use Rattle.std.specs.Prelude.{ℕ, ◌+◌, ◌*◌, ◌-◌, min, List, [], ◌∷◌, ◌++◌, length}
use Rattle.mltl.specs.Mltl.{Formula}
use Rattle.grammar.specs.declared.Item.{Item}
use Rattle.grammar.specs.Machine.{Actions, build}
use Rattle.grammar.specs.Images.{item_m}
use Rattle.grammar.specs.declared.Made.{Made}
use Rattle.grammar.specs.Tape.{Tape, tape, emitted}

abbrev pub made : Item → ℕ → Made
made i v = record { it = i; left = v }

abbrev pub lists : Actions (List Made) ℕ
lists = record { last_node = λ (b : List Made). length b - 1; emit = λ (b : List Made) (i : Item) (v : ℕ). b ++ (made i v ∷ []); more = λ (n d : ℕ). 10 * n + d }

-- the nodes of a formula
abbrev pub nodes_of : Formula → List Made
nodes_of t = build lists [] t

-- nodes on a tape, their numbers held at 1,000,000 and their left operands at 64
unfoldable pub spread_on : Tape → List Made → Tape
spread_on s [] = s
spread_on s (m ∷ ms) = spread_on (emitted s (item_m m.it) (min m.left 64)) ms

abbrev pub spread : List ℕ → List Made → Tape
spread c ms = spread_on (tape c 0) ms
