-- The two passes of the code over its arrays: the nodes anew under the laws, then the nodes that a rule needs.
use Rattle.std.specs.Prelude.{ℕ, suc, ◌+◌, ◌<◌, Bool, get_or, take, set, replicate, ltb}
use mathlib.Core.List.{List, [], ◌∷◌, foldl}
use Rattle.limits.specs.Limits.{max_nodes}
use Rattle.lists.specs.Bits.{bit}
use Rattle.lists.specs.Choice.{pick}
use Rattle.table.specs.Nodes.{no_node}
use Rattle.table.specs.declared.Node.{Node}
use Rattle.table.specs.declared.Rule.{Rule}
use Rattle.needed.specs.Marks.{mark}
use Rattle.simplify.specs.Code.Law.{node_within, same_node, law}
use Rattle.simplify.specs.Code.Built.{Built}
use Rattle.simplify.specs.declared.Entry.{Entry}
use Rattle.simplify.specs.declared.Entry.TheVariants.{At, New}
use Rattle.simplify.specs.declared.Outcome.{Outcome}
use Rattle.simplify.specs.declared.Outcome.TheVariants.{Stay, At, Put}

-- ---- new places for old ones
abbrev pub renamed : List ℕ → Node → Node
renamed ps n = record { kind = n.kind; arg = n.arg; lo = n.lo; hi = n.hi; left = get_or ps n.left 0; right = get_or ps n.right 0 }

abbrev pub renamed_rule : List ℕ → Rule → Rule
renamed_rule ps r = record { name = r.name; watched = get_or ps r.watched 0 }

-- ---- a build: its nodes and its places so far, and one more of each
abbrev pub no_build : Built
no_build = record { nodes = replicate max_nodes no_node; count = 0; places = replicate max_nodes 0; done = 0 }

abbrev pub nodes_of : Built → List Node
nodes_of b = take b.count b.nodes

abbrev pub places_of : Built → List ℕ
places_of b = take b.done b.places

abbrev pub push_node : Built → Node → Built
push_node b n = record { nodes = set b.nodes b.count n; count = b.count + 1; places = b.places; done = b.done }

abbrev pub push_place : Built → ℕ → Built
push_place b p = record { nodes = b.nodes; count = b.count; places = set b.places b.done p; done = b.done + 1 }

-- one place more, and its node where it is new
abbrev pub pushed : Built → Entry → Built
pushed b (At p) = push_place b p
pushed b (New n) = push_place (push_node b n) b.count

-- no interval of n or of a node of b passes the limit of a table
pub record Bounded (b : Built) (n : Node) : Type 0 where
  pub lo : n.lo < 4096
  pub hi : n.hi < 4096
  pub los : (k : ℕ) → (node_within b.nodes k).lo < 4096
  pub his : (k : ℕ) → (node_within b.nodes k).hi < 4096

-- ---- the first pass
-- the first place of a node, or the place after the last
unfoldable pub find : List Node → Node → ℕ
find [] m = 0
find (n ∷ ns) m = pick (same_node n m) 0 (suc (find ns m))

abbrev pub enter_at : Built → Node → ℕ → Built
enter_at b n q = push_place (pick (ltb q b.count) b (push_node b n)) q

abbrev pub enter : Built → Node → Built
enter b n = enter_at b n (find (nodes_of b) n)

abbrev pub applied : Built → Node → Outcome → Built
applied b n Stay = enter b n
applied b n (At p) = push_place b p
applied b n (Put m) = enter b m

abbrev pub step_of : Built → Node → Built
step_of b n = let m = renamed (places_of b) n in applied b m (law b.nodes m)

-- ---- the marks of what the rules watch
abbrev pub mark_rule : ℕ → Rule → ℕ
mark_rule ms r = mark ms r.watched

abbrev pub mark_watched : List Rule → ℕ
mark_watched rs = foldl mark_rule 0 rs

-- ---- the second pass: the marked nodes, in order
abbrev pub keep_of : Built → Bool → Node → Built
keep_of b on n = push_place (pick on (push_node b (renamed (places_of b) n)) b) b.count

abbrev pub keep_by : ℕ → Built → Node → Built
keep_by ms b n = keep_of b (bit ms b.done) n
