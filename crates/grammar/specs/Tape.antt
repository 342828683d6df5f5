-- What the readers of a typed line build: a tape of the line's nodes in table order, five numbers each, of which the first 65 are kept.
-- (The 65th node of a line is one too many, whatever stands before it.)
use Rattle.std.specs.Prelude.{ℕ, ◌+◌, ◌*◌, ◌-◌, Bool, true, false, List, ltb, set}
use Rattle.std.proofs.Math.Option.{Option, none, some}
use Rattle.limits.specs.Limits.{max_nodes}
use Rattle.lists.specs.Choice.{pick}
use Rattle.grammar.specs.declared.Item.{Item}
use Rattle.grammar.specs.Machine.{Actions}
use Rattle.grammar.specs.Images.{sat}

abbrev pub kept_nodes : ℕ
kept_nodes = max_nodes + 1

abbrev pub tape_words : ℕ
tape_words = 5 * kept_nodes

pub record Tape : Type 0 where
  pub cells : List ℕ
  pub count : ℕ

abbrev pub tape : List ℕ → ℕ → Tape
tape c n = record { cells = c; count = n }

-- a node and its left operand, at five cells
abbrev pub with_cells : List ℕ → ℕ → Item → ℕ → List ℕ
with_cells c i it l = set (set (set (set (set c i it.kind) (i + 1) it.arg) (i + 2) it.lo) (i + 3) it.hi) (i + 4) l

unfoldable pub emitted : Tape → Item → ℕ → Tape
emitted s it l = pick (ltb s.count kept_nodes) (tape (with_cells s.cells (5 * s.count) it l) (s.count + 1)) s

abbrev pub tapes : Actions Tape ℕ
tapes = record { last_node = λ (s : Tape). s.count - 1; emit = emitted; more = sat }

abbrev pub opt_of : Bool → ℕ → Option ℕ
opt_of true l = some l
opt_of false l = none
