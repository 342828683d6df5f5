-- What the code makes of one node: the outcome of the laws for a node n over the operands l and r.
use Rattle.std.specs.Prelude.{ℕ, ◌+◌, Bool, ◌&&◌, ◌||◌, List, get_or, leb, eqb}
use Rattle.lists.specs.Choice.{pick}
use Rattle.table.specs.Nodes.{Op, Unknown, Signal, Top, Bottom, Not, And, Or, Finally, Globally, Until, Release, op_of, no_node}
use Rattle.table.specs.declared.Node.{Node}
use Rattle.simplify.specs.declared.Outcome.{Outcome}
use Rattle.simplify.specs.declared.Outcome.TheVariants.{Stay, At, Put}

abbrev pub same_node : Node → Node → Bool
same_node a b =
    eqb a.kind b.kind && eqb a.arg b.arg && eqb a.lo b.lo && eqb a.hi b.hi && eqb a.left b.left && eqb a.right b.right

abbrev pub is : ℕ → Node → Bool
is k n = eqb n.kind k

-- a node with no field but its kind
abbrev pub constant : ℕ → Node
constant k = record { kind = k; arg = 0; lo = 0; hi = 0; left = 0; right = 0 }

-- F[a,b] F[c,d] x as F[a+c,b+d] x, and G alike
abbrev pub merged : Node → Node → Node
merged n l = record { kind = n.kind; arg = 0; lo = n.lo + l.lo; hi = n.hi + l.hi; left = l.left; right = 0 }

-- both of kind k, over one operand
abbrev pub over_one : ℕ → Node → Node → Bool
over_one k l r = is k l && is k r && eqb l.left r.left

-- the interval of l lies inside that of r
abbrev pub is_inside : Node → Node → Bool
is_inside l r = leb r.lo l.lo && leb l.hi r.hi

-- not: of not, and of a constant
abbrev pub law_not : Node → Outcome
law_not l = pick (is 4 l) (At l.left) (pick (is 2 l) (Put (constant 3)) (pick (is 3 l) (Put (constant 2)) Stay))

-- F, and G: at [0,0], of the constant that it leaves as it is, and of its own kind, where both is one node for the two
abbrev pub law_one_by : ℕ → Node → Node → Node → Outcome
law_one_by fixed n l both = pick (eqb n.hi 0 || is fixed l) (At n.left) (pick (is n.kind l) (Put both) Stay)

abbrev pub law_one : ℕ → Node → Node → Outcome
law_one fixed n l = law_one_by fixed n l (merged n l)

-- U, and R: at [0,0], and with the constant on the right that it leaves as it is
abbrev pub law_two : ℕ → Node → Node → Outcome
law_two fixed n r = pick (eqb n.hi 0 || is fixed r) (At n.right) Stay

-- and, and or: the left operand has the value of both, by the kinds of the neutral and the absorbing constant,
-- and those of which the inner and the outer interval stays
abbrev pub left_stays : ℕ → ℕ → ℕ → ℕ → Node → Node → Bool
left_stays neutral absorbing inner outer l r =
    is neutral r || is absorbing l || (over_one inner l r && is_inside l r) || (over_one outer l r && is_inside r l)

abbrev pub law_join : ℕ → ℕ → ℕ → ℕ → Node → Node → Node → Outcome
law_join neutral absorbing inner outer n l r =
    pick (eqb n.left n.right || left_stays neutral absorbing inner outer l r) (At n.left)
    (pick (left_stays neutral absorbing inner outer r l) (At n.right) Stay)

abbrev pub law_as : Node → Node → Node → Op → Outcome
law_as n l r Unknown = Stay
law_as n l r Signal = Stay
law_as n l r Top = Stay
law_as n l r Bottom = Stay
law_as n l r Not = law_not l
law_as n l r And = law_join 2 3 7 8 n l r
law_as n l r Or = law_join 3 2 8 7 n l r
law_as n l r Finally = law_one 3 n l
law_as n l r Globally = law_one 2 n l
law_as n l r Until = law_two 3 n r
law_as n l r Release = law_two 2 n r

-- a node among others
abbrev pub node_within : List Node → ℕ → Node
node_within ns i = get_or ns i no_node

abbrev pub law : List Node → Node → Outcome
law ns n = law_as n (node_within ns n.left) (node_within ns n.right) (op_of n.kind)
