-- One reading as the image of another: numbers held at 1,000,000, what is built by g, its nodes by h.
use Rattle.std.specs.Prelude.{ℕ, ◌+◌, ◌*◌, min, ◌≡◌, List, map}
use Rattle.std.proofs.Math.Option.{Option, none, some}
use Rattle.grammar.specs.declared.Item.{Item}
use Rattle.grammar.specs.Machine.{item, Actions, Purpose, Name, Sig, Lo, Hi, Goal, ToFormula, ToLo, ToHi, ToOp, Awaited, First, Chain, Right, Stack, bottom, push, Mode, AwaitNumber, InNumber, AwaitByte, InWord, AwaitUnary, FirstRead, ChainRead, AllRead, Config, cf, Next, on, stop, ended, Fate, Fault, Finished}

unfoldable pub held : ℕ → ℕ
held n = min n 1000000

-- a number with one more digit, held at 1,000,000, which is above every limit of a typed number
unfoldable pub sat : ℕ → ℕ → ℕ
sat n d = min (10 * n + d) 1000000

abbrev pub item_m : Item → Item
item_m i = item i.kind (held i.arg) (held i.lo) (held i.hi)

abbrev pub items_m : List Item → List Item
items_m is = map item_m is

abbrev pub purpose_m : Purpose → Purpose
purpose_m Name = Name
purpose_m Sig = Sig
purpose_m (Lo k) = Lo k
purpose_m (Hi k lo) = Hi k (held lo)

abbrev pub goal_m : Goal → Goal
goal_m (ToFormula n) = ToFormula (held n)
goal_m (ToLo k) = ToLo k
goal_m (ToHi k lo) = ToHi k (held lo)
goal_m (ToOp k lo hi) = ToOp k (held lo) (held hi)

module _ {B N C M : Type 0} (g : B → C) (h : N → M) where
  abbrev pub opt_m : Option N → Option M
  opt_m none = none
  opt_m (some v) = some (h v)

  abbrev pub awaited_m : Awaited N → Awaited M
  awaited_m First = First
  awaited_m (Chain o a) = Chain (opt_m o) (opt_m a)
  awaited_m (Right i v) = Right (item_m i) (h v)

  abbrev pub stack_m : Stack N → Stack M
  stack_m (bottom n) = bottom (held n)
  stack_m (push p is st) = push (awaited_m p) (items_m is) (stack_m st)

  abbrev pub mode_m : Mode N → Mode M
  mode_m (AwaitNumber q) = AwaitNumber (purpose_m q)
  mode_m (InNumber q n) = InNumber (purpose_m q) (held n)
  mode_m (AwaitByte t) = AwaitByte (goal_m t)
  mode_m (InWord y ys z) = InWord y ys z
  mode_m AwaitUnary = AwaitUnary
  mode_m FirstRead = FirstRead
  mode_m (ChainRead o) = ChainRead (opt_m o)
  mode_m AllRead = AllRead

  abbrev pub config_m : Config B N → Config C M
  config_m (cf s p is st b) = cf (mode_m s) (awaited_m p) (items_m is) (stack_m st) (g b)

  abbrev pub next_m : Next B N → Next C M
  next_m (on c) = on (config_m c)
  next_m (stop n) = stop n
  next_m (ended n b) = ended (held n) (g b)

  abbrev pub fate_m : Fate B → Fate C
  fate_m (Fault n p) = Fault n p
  fate_m (Finished n b j r) = Finished (held n) (g b) j r

-- the two readings do the same
pub record Image {B N C M : Type 0} (A : Actions B N) (D : Actions C M) (g : B → C) (h : N → M) : Type 0 where
  pub more : (n d : ℕ) → D.more (held n) d ≡ held (A.more n d)
  pub last_node : (b : B) → D.last_node (g b) ≡ h (A.last_node b)
  pub emit : (b : B) (i : Item) (v : N) → D.emit (g b) (item_m i) (h v) ≡ g (A.emit b i v)
