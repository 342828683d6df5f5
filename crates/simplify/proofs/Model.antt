-- The passes over lists, of which the code's arrays hold the first places. Assumes nothing.
use Prim.Native.Nat.{ℕ}
use mathlib.Core.List.{List, [], ◌∷◌, ◌++◌, map, foldl}
use lib.ListN.{length, take}
use lib.Dec.{ltb}
use Rattle.lists.specs.Bits.{bit}
use Rattle.lists.specs.Choice.{pick}
use Rattle.lists.specs.Sequence.{padded}
use Rattle.table.specs.Nodes.{no_node}
use Rattle.table.specs.declared.Node.{Node}
use Rattle.table.specs.declared.Rule.{Rule}
use Rattle.table.specs.declared.Table.{Table}
use Rattle.needed.specs.Marks.{needed}
use Rattle.simplify.specs.Code.Law.{law}
use Rattle.simplify.specs.Code.Passes.{renamed, renamed_rule, find, mark_watched}
use Rattle.simplify.specs.declared.Outcome.{Outcome}
use Rattle.simplify.specs.declared.Outcome.TheVariants.{Stay, At, Put}

-- new nodes, and the new place of each old node so far
pub record Lists : Type 0 where
  pub nodes : List Node
  pub places : List ℕ

abbrev pub no_lists : Lists
no_lists = record { nodes = []; places = [] }

-- ---- the first pass
abbrev pub entered : List Node → Node → List Node
entered ns m = pick (ltb (find ns m) (length ns)) ns (ns ++ (m ∷ []))

abbrev pub nodes_by : List Node → Node → Outcome → List Node
nodes_by ns n Stay = entered ns n
nodes_by ns n (At p) = ns
nodes_by ns n (Put m) = entered ns m

abbrev pub place_by : List Node → Node → Outcome → ℕ
place_by ns n Stay = find ns n
place_by ns n (At p) = p
place_by ns n (Put m) = find ns m

abbrev pub applied_lists : Lists → Node → Outcome → Lists
applied_lists s n v = record { nodes = nodes_by s.nodes n v; places = s.places ++ (place_by s.nodes n v ∷ []) }

abbrev pub step_lists : Lists → Node → Lists
step_lists s n = applied_lists s (renamed s.places n) (law s.nodes (renamed s.places n))

abbrev pub rebuilt : List Node → Lists
rebuilt ns = foldl step_lists no_lists ns

-- ---- the second pass
abbrev pub keep_lists : ℕ → Lists → Node → Lists
keep_lists ms s n = record {
  nodes = pick (bit ms (length s.places)) (s.nodes ++ (renamed s.places n ∷ [])) s.nodes;
  places = s.places ++ (length s.nodes ∷ []);
}

abbrev pub swept : ℕ → List Node → Lists
swept ms ns = foldl (keep_lists ms) no_lists ns

-- ---- the table
abbrev pub simplified : Table → Table
simplified t =
    let first : Lists = rebuilt (take t.node_count t.nodes) in
    let rules : List Rule = map (renamed_rule first.places) t.rules in
    let second : Lists = swept (needed (mark_watched (take t.rule_count rules)) first.nodes) first.nodes in
    record {
      nodes = padded no_node 64 second.nodes;
      node_count = length second.nodes;
      rules = map (renamed_rule second.places) rules;
      rule_count = t.rule_count;
    }
