-- Reading a line byte by byte. What is read so far is a configuration: a mode, and around it what awaits the unary that is being read,
-- its prefixes, the open brackets, and what is built. What is built is left open: `Actions` says how a node is made and how a number grows.
use Rattle.std.specs.Prelude.{ℕ, suc, ◌+◌, ◌*◌, ◌-◌, Bool, true, false, ◌&&◌, List, [], ◌∷◌, ltb, leb, eqb}
use Rattle.std.proofs.Math.Bool.{not}
use Rattle.std.proofs.Math.Option.{Option, none, some}
use Rattle.limits.specs.Limits.{max_depth}
use Rattle.refusals.specs.Numbers.{SYNTAX, DEEP}
use Rattle.lists.specs.Choice.{pick}
use Rattle.mltl.specs.Mltl.{Formula, signal, const, neg, and, or, F, G, U, R}
use Rattle.table.specs.Nodes.{Op, Unknown, Signal, Top, Bottom, Not, And, Or, Finally, Globally, Until, Release, op_of}
use Rattle.grammar.specs.declared.Item.{Item}
use Rattle.grammar.specs.Grammar.{is_digit}

-- a node without its operands, by the numbers of document 01
abbrev pub item : ℕ → ℕ → ℕ → ℕ → Item
item k n lo hi = record { kind = k; arg = n; lo = lo; hi = hi }

abbrev pub plain_item : ℕ → Item
plain_item k = item k 0 0 0

abbrev pub const_item : Bool → Item
const_item true = plain_item 2
const_item false = plain_item 3

-- B is what is built, N a node in it: the node made last; one more node, whose left operand is v, the last node being its only or right
-- one; and a number with one more digit
pub record Actions (B N : Type 0) : Type 0 where
  pub last_node : B → N
  pub emit : B → Item → N → B
  pub more : ℕ → ℕ → ℕ

-- what a number is: a name, a signal's, the lo or the hi of the operator k
pub data Purpose : Type 0 where
  Name Sig : Purpose
  Lo : ℕ → Purpose
  Hi : ℕ → ℕ → Purpose

-- what a wanted byte leads to: a formula, the numbers of the operator k, the operator k itself
pub data Goal : Type 0 where
  ToFormula : ℕ → Goal
  ToLo : ℕ → Goal
  ToHi : ℕ → ℕ → Goal
  ToOp : ℕ → ℕ → ℕ → Goal

-- the colon, [, the comma and ]
abbrev pub wanted : Goal → ℕ
wanted (ToFormula n) = 58
wanted (ToLo k) = 91
wanted (ToHi k lo) = 44
wanted (ToOp k lo hi) = 93

-- what awaits a unary: it is the first of its formula; or it goes on a conjunction, whose and has the left side a if there is one, in a
-- disjunction, whose or has the left side o if there is one; or it is the right side of U or R
pub data Awaited (N : Type 0) : Type 0 where
  First : Awaited N
  Chain : Option N → Option N → Awaited N
  Right : Item → N → Awaited N

-- the open brackets, each with what awaits it, down to the line with its name
pub data Stack (N : Type 0) : Type 0 where
  bottom : ℕ → Stack N
  push : Awaited N → List Item → Stack N → Stack N

unfoldable pub depth : {N : Type 0} → Stack N → ℕ
depth (bottom n) = 0
depth (push p is st) = suc (depth st)

pub data Mode (N : Type 0) : Type 0 where
  -- a number awaited; within a number; a byte wanted; within true or false, the byte awaited and those behind it
  AwaitNumber : Purpose → Mode N
  InNumber : Purpose → ℕ → Mode N
  AwaitByte : Goal → Mode N
  InWord : ℕ → List ℕ → Bool → Mode N
  -- a unary awaited; the first unary of a formula read; a conjunction; a formula that only its end can follow
  AwaitUnary : Mode N
  FirstRead : Mode N
  ChainRead : Option N → Mode N
  AllRead : Mode N

pub data Config (B N : Type 0) : Type 0 where
  cf : Mode N → Awaited N → List Item → Stack N → B → Config B N

-- what a byte does
pub data Next (B N : Type 0) : Type 0 where
  on : Config B N → Next B N
  stop : ℕ → Next B N
  ended : ℕ → B → Next B N

-- what becomes of a line: a fault with its place; or its name, what is built, the place behind it and the bytes there
pub data Fate (B : Type 0) : Type 0 where
  Fault : ℕ → ℕ → Fate B
  Finished : ℕ → B → ℕ → List ℕ → Fate B

-- 's with its number' has no space within
abbrev pub spaced : Purpose → Bool
spaced Name = true
spaced Sig = false
spaced (Lo k) = true
spaced (Hi k lo) = true

module _ {B N : Type 0} (A : Actions B N) where
  -- an atom or a prefix
  abbrev pub put : B → Item → B
  put b i = A.emit b i (A.last_node b)

  -- the prefixes of a unary, the innermost, which was read last, first
  unfoldable pub puts : B → List Item → B
  puts b [] = b
  puts b (i ∷ is) = puts (put b i) is

  -- the or of a disjunction, if there is one
  abbrev pub orred : Option N → B → B
  orred none b = b
  orred (some l) b = A.emit b (plain_item 6) l

  -- a unary is read, and what awaits it is done
  unfoldable pub unary_done : Awaited N → Stack N → B → Config B N
  unary_done First st b = cf FirstRead First [] st b
  unary_done (Chain o none) st b = cf (ChainRead o) First [] st b
  unary_done (Chain o (some l)) st b = cf (ChainRead o) First [] st (A.emit b (plain_item 5) l)
  unary_done (Right i l) st b = cf AllRead First [] st (A.emit b i l)

  abbrev pub atom_done : Awaited N → List Item → Stack N → B → Config B N
  atom_done p is st b = unary_done p st (puts b is)

  -- where a wanted byte leads; the operators 7 and 8 stand before a unary, 9 and 10 between two
  abbrev pub go : Goal → Awaited N → List Item → Stack N → B → Config B N
  go (ToFormula n) p is st b = cf AwaitUnary First [] (bottom n) b
  go (ToLo k) p is st b = cf (AwaitNumber (Lo k)) p is st b
  go (ToHi k lo) p is st b = cf (AwaitNumber (Hi k lo)) p is st b
  go (ToOp k lo hi) p is st b =
      pick (leb k 8) (cf AwaitUnary p (item k 0 lo hi ∷ is) st b) (cf AwaitUnary (Right (item k 0 lo hi) (A.last_node b)) [] st b)

  -- a number is read
  abbrev pub number_read : Purpose → ℕ → Awaited N → List Item → Stack N → B → Config B N
  number_read Name n p is st b = cf (AwaitByte (ToFormula n)) p is st b
  number_read Sig n p is st b = atom_done p is st (put b (item 1 n 0 0))
  number_read (Lo k) n p is st b = cf (AwaitByte (ToHi k n)) p is st b
  number_read (Hi k lo) n p is st b = cf (AwaitByte (ToOp k lo n)) p is st b

  -- a letter of true or false is read
  abbrev pub spelt : List ℕ → Bool → Awaited N → List Item → Stack N → B → Config B N
  spelt [] v p is st b = atom_done p is st (put b (const_item v))
  spelt (y ∷ w) v p is st b = cf (InWord y w v) p is st b

  -- an opening bracket, where `lim` may be open
  abbrev pub bracket_opened : ℕ → Awaited N → List Item → Stack N → B → Next B N
  bracket_opened lim p is st b = pick (ltb (depth st) lim) (on (cf AwaitUnary First [] (push p is st) b)) (stop DEEP)

  -- the end of a formula: its bracket's, or the line's
  abbrev pub formula_ended : Stack N → B → ℕ → Next B N
  formula_ended (bottom n) b x = pick (eqb x 10) (ended n b) (stop SYNTAX)
  formula_ended (push p is st) b x = pick (eqb x 41) (on (atom_done p is st b)) (stop SYNTAX)

  -- the byte x in every mode but within a number
  unfoldable pub plain : ℕ → Config B N → ℕ → Next B N
  plain lim (cf (AwaitNumber q) p is st b) x =
      pick (is_digit x) (on (cf (InNumber q (x - 48)) p is st b))
      (pick (eqb x 32 && spaced q) (on (cf (AwaitNumber q) p is st b)) (stop SYNTAX))
  plain lim (cf (InNumber q n) p is st b) x = stop SYNTAX
  plain lim (cf (AwaitByte g) p is st b) x =
      pick (eqb x 32) (on (cf (AwaitByte g) p is st b))
      (pick (eqb x (wanted g)) (on (go g p is st b)) (stop SYNTAX))
  plain lim (cf (InWord y w v) p is st b) x = pick (eqb x y) (on (spelt w v p is st b)) (stop SYNTAX)
  plain lim (cf AwaitUnary p is st b) x =
      pick (eqb x 32) (on (cf AwaitUnary p is st b))
      (pick (eqb x 33) (on (cf AwaitUnary p (plain_item 4 ∷ is) st b))
      (pick (eqb x 70) (on (cf (AwaitByte (ToLo 7)) p is st b))
      (pick (eqb x 71) (on (cf (AwaitByte (ToLo 8)) p is st b))
      (pick (eqb x 115) (on (cf (AwaitNumber Sig) p is st b))
      (pick (eqb x 116) (on (cf (InWord 114 (117 ∷ 101 ∷ []) true) p is st b))
      (pick (eqb x 102) (on (cf (InWord 97 (108 ∷ 115 ∷ 101 ∷ []) false) p is st b))
      (pick (eqb x 40) (bracket_opened lim p is st b) (stop SYNTAX))))))))
  plain lim (cf FirstRead p is st b) x =
      pick (eqb x 32) (on (cf FirstRead First [] st b))
      (pick (eqb x 38) (on (cf AwaitUnary (Chain none (some (A.last_node b))) [] st b))
      (pick (eqb x 124) (on (cf AwaitUnary (Chain (some (A.last_node b)) none) [] st b))
      (pick (eqb x 85) (on (cf (AwaitByte (ToLo 9)) First [] st b))
      (pick (eqb x 82) (on (cf (AwaitByte (ToLo 10)) First [] st b))
      (formula_ended st b x)))))
  plain lim (cf (ChainRead o) p is st b) x =
      pick (eqb x 32) (on (cf (ChainRead o) First [] st b))
      (pick (eqb x 38) (on (cf AwaitUnary (Chain o (some (A.last_node b))) [] st b))
      (pick (eqb x 124) (on (cf AwaitUnary (Chain (some (A.last_node (orred o b))) none) [] st (orred o b)))
      (formula_ended st (orred o b) x)))
  plain lim (cf AllRead p is st b) x = pick (eqb x 32) (on (cf AllRead First [] st b)) (formula_ended st b x)

  -- the byte x in every mode; a digit follows a number that is not 0, any other byte comes after the number
  unfoldable pub step : ℕ → Config B N → ℕ → Next B N
  unfolding plain
  step lim (cf (AwaitNumber q) p is st b) x = plain lim (cf (AwaitNumber q) p is st b) x
  step lim (cf (InNumber q n) p is st b) x =
      pick (is_digit x && not (eqb n 0)) (on (cf (InNumber q (A.more n (x - 48))) p is st b)) (plain lim (number_read q n p is st b) x)
  step lim (cf (AwaitByte g) p is st b) x = plain lim (cf (AwaitByte g) p is st b) x
  step lim (cf (InWord y w v) p is st b) x = plain lim (cf (InWord y w v) p is st b) x
  step lim (cf AwaitUnary p is st b) x = plain lim (cf AwaitUnary p is st b) x
  step lim (cf FirstRead p is st b) x = plain lim (cf FirstRead p is st b) x
  step lim (cf (ChainRead o) p is st b) x = plain lim (cf (ChainRead o) p is st b) x
  step lim (cf AllRead p is st b) x = plain lim (cf AllRead p is st b) x

  abbrev pub follow : Next B N → (Config B N → Fate B) → ℕ → List ℕ → Fate B
  follow (on c) k i xs = k c
  follow (stop n) k i xs = Fault n i
  follow (ended n b) k i xs = Finished n b (i + 1) xs

  -- the fate of the bytes, the first of which has the place i; a text that ends within a line is at fault there
  unfoldable pub fate : ℕ → Config B N → ℕ → List ℕ → Fate B
  fate lim c i [] = Fault SYNTAX i
  fate lim c i (x ∷ xs) = follow (step lim c x) (λ (k : Config B N). fate lim k (i + 1) xs) i xs

  -- a line, before which b was built
  abbrev pub begin : B → Config B N
  begin b = cf (AwaitNumber Name) First [] (bottom 0) b

  -- the formula t built onto b: operands before users, left first
  unfoldable pub build : B → Formula → B
  build b (signal n) = put b (item 1 n 0 0)
  build b (const v) = put b (const_item v)
  build b (neg t) = put (build b t) (plain_item 4)
  build b (and l r) = A.emit (build (build b l) r) (plain_item 5) (A.last_node (build b l))
  build b (or l r) = A.emit (build (build b l) r) (plain_item 6) (A.last_node (build b l))
  build b (F lo hi t) = put (build b t) (item 7 0 lo hi)
  build b (G lo hi t) = put (build b t) (item 8 0 lo hi)
  build b (U lo hi l r) = A.emit (build (build b l) r) (item 9 0 lo hi) (A.last_node (build b l))
  build b (R lo hi l r) = A.emit (build (build b l) r) (item 10 0 lo hi) (A.last_node (build b l))

-- ---- formulas: what is built is the formula read last
abbrev pub tree_as : Op → Item → Formula → Formula → Formula
tree_as Unknown i l r = r
tree_as Signal i l r = signal i.arg
tree_as Top i l r = const true
tree_as Bottom i l r = const false
tree_as Not i l r = neg l
tree_as And i l r = and l r
tree_as Or i l r = or l r
tree_as Finally i l r = F i.lo i.hi l
tree_as Globally i l r = G i.lo i.hi l
tree_as Until i l r = U i.lo i.hi l r
tree_as Release i l r = R i.lo i.hi l r

abbrev pub tree_of : Formula → Item → Formula → Formula
tree_of r i l = tree_as (op_of i.kind) i l r

abbrev pub trees : Actions Formula Formula
trees = record { last_node = λ (b : Formula). b; emit = tree_of; more = λ (n d : ℕ). 10 * n + d }

-- the reading of a line at the place i, within the depth of brackets
abbrev pub read_line : ℕ → List ℕ → Fate Formula
read_line i bs = fate trees max_depth (begin trees (const false)) i bs
