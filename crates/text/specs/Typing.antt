-- What typed lines yield: a table, or a refusal with its number, and the place of a fault of syntax or the line of any other fault.
use Rattle.std.specs.Prelude.{ℕ, zero, suc, ◌+◌, ◌*◌, ◌-◌, min, List, [], ◌∷◌, leb, eqb, length, get_or, ◌≡◌, Result, Ok, Err}
use Rattle.limits.specs.Limits.{max_depth, max_name}
use Rattle.refusals.specs.Numbers.{RULELESS}
use Rattle.refusals.specs.Refusals.{number_of}
use Rattle.lists.specs.Choice.{pick}
use Rattle.lists.specs.Sequence.{ticks}
use Rattle.table.specs.Nodes.{op_of, uses_of, no_table}
use Rattle.table.specs.declared.Node.{Node}
use Rattle.table.specs.declared.Rule.{Rule}
use Rattle.table.specs.declared.Table.{Table}
use Rattle.builder.specs.Adding.{Added, adding_node, adding_rule}
use Rattle.grammar.specs.declared.Made.{Made}
use Rattle.grammar.specs.Machine.{item, Fate, Fault, Finished, fate, begin}
use Rattle.grammar.specs.Made.{made, lists}
use Rattle.text.specs.declared.Fault.{Fault as TextFault}
use Rattle.parser.specs.declared.faults.Fault.{Fault as LineFault}

-- a number held at the most that a byte, or two bytes, hold: what is above a limit stays above it
abbrev pub in_byte : ℕ → ℕ
in_byte n = min n 255

abbrev pub in_two_bytes : ℕ → ℕ
in_two_bytes n = min n 65535

-- ---- a node: the nodes of its line begin at the place `base` of the table, which has `count` nodes
abbrev pub node_of : ℕ → ℕ → Made → Node
node_of base count m = record {
  kind = m.it.kind;
  arg = in_byte m.it.arg;
  lo = in_two_bytes m.it.lo;
  hi = in_two_bytes m.it.hi;
  left = pick (uses_of (op_of m.it.kind)).left (in_byte (in_byte base + min m.left 64)) 0;
  right = pick (uses_of (op_of m.it.kind)).right (in_byte (count - 1)) 0;
}

abbrev pub added : ℕ → Table → Added
added n t = record { number = n; table = t }

-- the nodes of a line one after the other, up to one that is refused
unfoldable pub grown : ℕ → Table → List Made → Added
grown base t [] = added 0 t
grown base t (m ∷ ms) =
    let a = adding_node t (node_of base t.node_count m) in
    pick (eqb a.number 0) (grown base a.table ms) a

-- ---- the rule, which watches the last node
-- a name above the largest is taken for 0, which no rule has either: the same row refuses both
abbrev pub name_held : ℕ → ℕ
name_held n = pick (leb n max_name) n 0

abbrev pub watching : ℕ → ℕ → Rule
watching count name = record { name = name_held name; watched = in_byte (count - 1) }

abbrev pub rule_of : Table → ℕ → Rule
rule_of t name = watching t.node_count name

abbrev pub ruled : Added → ℕ → Added
ruled a name = pick (eqb a.number 0) (adding_rule a.table (rule_of a.table name)) a

-- ---- a line: its nodes, then its rule
unfoldable pub line_added : Table → ℕ → List Made → Added
line_added t name ms = ruled (grown t.node_count t ms) name

-- ---- the text: the number of a refusal, its place or line and no table, or 0, 0 and the table
pub record Typed : Type 0 where
  pub number : ℕ
  pub place : ℕ
  pub table : Table

abbrev pub refused : ℕ → ℕ → Typed
refused n p = record { number = n; place = p; table = no_table }

abbrev pub accepted : Table → Typed
accepted t = record { number = 0; place = 0; table = t }

-- what an answer of the code says
abbrev pub typed_told : Result Table TextFault → Typed
typed_told (Ok t) = accepted t
typed_told (Err f) = refused (number_of f.refusal) f.place

-- the fault of a line in a text
abbrev pub Placed : LineFault → TextFault → Type 0
Placed f g = g ≡ record { refusal = f.refusal; place = f.at }

-- what a line's fate comes to, where `rest` reads the lines behind it
abbrev pub after_line : ℕ → Table → Fate (List Made) → (Table → ℕ → List ℕ → Typed) → Typed
after_line line t (Fault n p) rest = refused n p
after_line line t (Finished name ms j r) rest =
    let a = line_added t name ms in
    pick (eqb a.number 0) (rest a.table j r) (refused a.number line)

-- the lines from the place i on, of which the first has the number `line`; f is how many there can be
unfoldable pub typed_from : ℕ → ℕ → Table → ℕ → List ℕ → Typed
typed_from zero line t i bs = accepted t
typed_from (suc f) line t i [] = accepted t
typed_from (suc f) line t i (x ∷ xs) =
    after_line line t (fate lists max_depth (begin lists []) i (x ∷ xs)) (λ (u : Table) (j : ℕ) (r : List ℕ). typed_from f (line + 1) u j r)

unfoldable pub typed : List ℕ → Typed
typed text = pick (eqb (length text) 0) (refused RULELESS 0) (typed_from (length text) 1 no_table 0 text)

-- ---- a node as the tape has it
abbrev pub made_at : List ℕ → ℕ → Made
made_at c k =
    made (item (in_byte (get_or c (5 * k) 0)) (get_or c (5 * k + 1) 0) (get_or c (5 * k + 2) 0) (get_or c (5 * k + 3) 0)) (get_or c (5 * k + 4) 0)

abbrev pub mades_of : List ℕ → ℕ → List Made
mades_of c n = ticks (made_at c) n
