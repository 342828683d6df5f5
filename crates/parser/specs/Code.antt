-- Definitions of the parser's own steps: each takes the fate of the line from one configuration to another, at a later place of the text, or
-- tells the fault that the fate is. A place moves on only behind a byte that is there: what is answered lies inside the text, or where the
-- step began.
use Rattle.std.specs.Prelude.{ℕ, ◌+◌, ◌-◌, ◌%◌, ◌≤◌, ◌<◌, min, max, ◌≡◌, Bool, true, false, List, [], ◌∷◌, Option as Maybe, Some, None, Result, Ok, Err, eqb, length, get_or, set, drop}
use Rattle.std.specs.Option.{is_some, unwrap_or}
use Rattle.std.proofs.Math.Option.{Option, none, some}
use Rattle.limits.specs.Limits.{max_depth}
use Rattle.lists.specs.Sequence.{ticks}
use Rattle.grammar.specs.Grammar.{Spaces, is_digit}
use Rattle.grammar.specs.declared.Item.{Item}
use Rattle.grammar.specs.Tape.{kept_nodes, Tape, tapes}
use Rattle.grammar.specs.Machine.{item, plain_item, const_item, Purpose, Name, Sig, Lo, Hi, Goal, ToFormula, ToLo, ToHi, ToOp, wanted, Awaited, First, Stack, bottom, push, depth, AwaitNumber, InNumber, AwaitByte, AwaitUnary, ChainRead, AllRead, cf, spaced, number_read, spelt, unary_done, atom_done, go, Finished}
use Rattle.parser.specs.declared.faults.Fault.{Fault}
use Rattle.parser.specs.declared.tape.Prefix.{Prefix}
use Rattle.parser.specs.Reads.{from, told, byte_at}

-- ---- what a reader answers: the place behind what it read, or that of its fault; and what it read, which is nothing at a fault
abbrev pub end_of : Result ℕ Fault → ℕ
end_of (Ok j) = j
end_of (Err f) = f.at

abbrev pub place_of : {A : Type 0} → Result (A × ℕ) Fault → ℕ
place_of (Ok r) = r.1
place_of (Err f) = f.at

abbrev pub value_of : Result (ℕ × ℕ) Fault → ℕ
value_of (Ok r) = r.0
value_of (Err f) = 0

abbrev pub lo_of : Result ((ℕ × ℕ) × ℕ) Fault → ℕ
lo_of (Ok r) = r.0.0
lo_of (Err f) = 0

abbrev pub hi_of : Result ((ℕ × ℕ) × ℕ) Fault → ℕ
hi_of (Ok r) = r.0.1
hi_of (Err f) = 0

-- a prefix as the item that it is
abbrev pub prefix_item : Prefix → Item
prefix_item p = item (p.kind % 256) 0 p.lo p.hi

abbrev pub no_prefix : Prefix
no_prefix = record { kind = 0; lo = 0; hi = 0 }

abbrev pub more_of : Result (Maybe Prefix × ℕ) Fault → Bool
more_of (Ok r) = is_some r.0
more_of (Err f) = false

abbrev pub item_of : Result (Maybe Prefix × ℕ) Fault → Item
item_of (Ok r) = prefix_item (unwrap_or r.0 no_prefix)
item_of (Err f) = plain_item 0

-- the left operand of an or, if there is one
abbrev pub left_of : Maybe ℕ → Option ℕ
left_of (Some l) = some l
left_of None = none

-- ---- the leaves
pub record IsAt (text : List ℕ) (i x : ℕ) (r : Bool) : Type 0 where
  pub inside : r ≡ true → i < length text
  pub byte : r ≡ true → byte_at text i ≡ x
  pub other : r ≡ false → i < length text → byte_at text i ≡ x → ⊥

pub record DigitAt (text : List ℕ) (i : ℕ) (r : Bool) : Type 0 where
  pub inside : r ≡ true → i < length text
  pub digit : r ≡ true → is_digit (byte_at text i) ≡ true
  pub other : r ≡ false → i < length text → is_digit (byte_at text i) ≡ false

pub record Skipped (text : List ℕ) (i j : ℕ) : Type 0 where
  pub later : i ≤ j
  pub inside : j ≤ max i (length text)
  pub spaces : Spaces (drop i text) (drop j text)
  pub next : j < length text → byte_at text j ≡ 32 → ⊥

-- digits after a number with the value v, which is not 0, up to a byte that is none
pub record Grown (text : List ℕ) (i v j w : ℕ) : Type 0 where
  pub later : i ≤ j
  pub inside : j ≤ max i (length text)
  pub same : (q : Purpose) (p : Awaited ℕ) (is : List Item) (st : Stack ℕ) (β : Tape) → eqb v 0 ≡ false
      → from text (cf (InNumber q v) p is st β) i ≡ from text (number_read tapes q w p is st β) j

pub record Numbered (text : List ℕ) (i n j v : ℕ) : Type 0 where
  pub later : i ≤ j
  pub inside : j ≤ max i (length text)
  pub same : (q : Purpose) (p : Awaited ℕ) (is : List Item) (st : Stack ℕ) (β : Tape) → (spaced q ≡ true → i < length text → byte_at text i ≡ 32 → ⊥)
      → from text (cf (AwaitNumber q) p is st β) i ≡ told n j (from text (number_read tapes q v p is st β) j)

-- the goal of a number that is awaited over spaces
abbrev pub goal_of : Purpose → ℕ → Goal
goal_of Name n = ToFormula n
goal_of Sig n = ToFormula n
goal_of (Lo k) n = ToHi k n
goal_of (Hi k lo) n = ToOp k lo n

pub record Expected (text : List ℕ) (i x n j : ℕ) : Type 0 where
  pub later : i ≤ j
  pub further : n ≡ 0 → i < j
  pub inside : j ≤ max i (length text)
  pub same : (g : Goal) (p : Awaited ℕ) (is : List Item) (st : Stack ℕ) (β : Tape) → wanted g ≡ x
      → from text (cf (AwaitByte g) p is st β) i ≡ told n j (from text (go tapes g p is st β) j)
  -- the closing bracket of a formula
  pub closes : x ≡ 41 → (p : Awaited ℕ) (is : List Item) (st : Stack ℕ) (β : Tape)
      → from text (cf AllRead First [] (push p is st) β) i ≡ told n j (from text (atom_done tapes p is st β) j)
  -- the end of a line with the name v
  pub ends : x ≡ 10 → (v : ℕ) (β : Tape) → from text (cf AllRead First [] (bottom v) β) i ≡ told n j (Finished v β j (drop j text))

pub record Bounded (text : List ℕ) (i x n j v : ℕ) : Type 0 where
  pub later : i ≤ j
  pub further : n ≡ 0 → i < j
  pub inside : j ≤ max i (length text)
  pub same : (q : Purpose) (p : Awaited ℕ) (is : List Item) (st : Stack ℕ) (β : Tape) → spaced q ≡ true → wanted (goal_of q v) ≡ x
      → from text (cf (AwaitNumber q) p is st β) i ≡ told n j (from text (go tapes (goal_of q v) p is st β) j)

pub record Spanned (text : List ℕ) (i n j lo hi : ℕ) : Type 0 where
  pub later : i ≤ j
  pub inside : j ≤ max i (length text)
  pub same : (k : ℕ) (p : Awaited ℕ) (is : List Item) (st : Stack ℕ) (β : Tape)
      → from text (cf (AwaitByte (ToLo k)) p is st β) i ≡ told n j (from text (go tapes (ToOp k lo hi) p is st β) j)

pub record Spelt (text : List ℕ) (i : ℕ) (w : List ℕ) (n j : ℕ) : Type 0 where
  pub later : i ≤ j
  pub inside : j ≤ max i (length text)
  pub same : (v : Bool) (p : Awaited ℕ) (is : List Item) (st : Stack ℕ) (β : Tape)
      → from text (spelt tapes w v p is st β) i ≡ told n j (from text (spelt tapes [] v p is st β) j)

-- the next byte is no space and no prefix
pub record NoPrefix (text : List ℕ) (i : ℕ) : Type 0 where
  pub none : i < length text → (byte_at text i ≡ 32 → ⊥) × (byte_at text i ≡ 33 → ⊥) × (byte_at text i ≡ 70 → ⊥) × (byte_at text i ≡ 71 → ⊥)

-- the prefixes, with one more where there is one
abbrev pub extended : Bool → Item → List Item → List Item
extended true it is = it ∷ is
extended false it is = is

-- F or G, whose letter is read, with its interval
pub record Windowed (text : List ℕ) (i kind n j : ℕ) (more : Bool) (it : Item) : Type 0 where
  pub span : Spanned text i n j it.lo it.hi
  pub some : n ≡ 0 → more ≡ true
  pub made : n ≡ 0 → it ≡ item kind 0 it.lo it.hi

-- a prefix, or, where `more` is false, none and no space either
pub record Prefixes (text : List ℕ) (i n j : ℕ) (more : Bool) (it : Item) : Type 0 where
  pub later : i ≤ j
  pub inside : j ≤ max i (length text)
  pub further : n ≡ 0 → more ≡ true → i < j
  pub same : (p : Awaited ℕ) (is : List Item) (st : Stack ℕ) (β : Tape)
      → from text (cf AwaitUnary p is st β) i ≡ told n j (from text (cf AwaitUnary p (extended more it is) st β) j)
  pub last : n ≡ 0 → more ≡ false → NoPrefix text j

-- U, 9, or R, 10, or neither
pub data Between (text : List ℕ) (i : ℕ) : Maybe ℕ → Type 0 where
  until : i < length text → byte_at text i ≡ 85 → Between text i (Some 9)
  release : i < length text → byte_at text i ≡ 82 → Between text i (Some 10)
  neither : (i < length text → byte_at text i ≡ 85 → ⊥) → (i < length text → byte_at text i ≡ 82 → ⊥) → Between text i None

-- ---- the prefixes of a unary: the last 65 of them, in a ring
abbrev pub slot : ℕ → ℕ
slot n = n % kept_nodes

abbrev pub held_in : List Prefix → ℕ → Prefix → List Prefix
held_in ring n p = set ring (slot n) p

abbrev pub prefix_at : List Prefix → ℕ → Item
prefix_at ring n = prefix_item (get_or ring (slot n) no_prefix)

-- of n prefixes that were held, the last one first
abbrev pub last_prefixes : List Prefix → ℕ → List Item
last_prefixes ring n = ticks (λ (k : ℕ). prefix_at ring (n - 1 - k)) (min n kept_nodes)

-- ---- atoms without brackets, whose first byte is read; the tape goes from α to β
pub record SignalRead (text : List ℕ) (i : ℕ) (α : Tape) (n j : ℕ) (β : Tape) : Type 0 where
  pub later : i ≤ j
  pub inside : j ≤ max i (length text)
  pub same : (p : Awaited ℕ) (is : List Item) (st : Stack ℕ)
      → from text (cf (AwaitNumber Sig) p is st α) i ≡ told n j (from text (atom_done tapes p is st β) j)

pub record ConstantRead (text : List ℕ) (i : ℕ) (w : List ℕ) (kind : ℕ) (α : Tape) (n j : ℕ) (β : Tape) : Type 0 where
  pub later : i ≤ j
  pub inside : j ≤ max i (length text)
  pub same : (v : Bool) → const_item v ≡ plain_item kind → (p : Awaited ℕ) (is : List Item) (st : Stack ℕ)
      → from text (spelt tapes w v p is st α) i ≡ told n j (from text (atom_done tapes p is st β) j)

-- ---- the five readers; d brackets may still be opened, and the tape goes from α to β
pub record AtomRead (text : List ℕ) (i d : ℕ) (α : Tape) (n j : ℕ) (β : Tape) : Type 0 where
  pub later : i ≤ j
  pub inside : j ≤ max i (length text)
  pub same : (p : Awaited ℕ) (is : List Item) (st : Stack ℕ) → depth st + d ≡ max_depth
      → from text (cf AwaitUnary p is st α) i ≡ told n j (from text (atom_done tapes p is st β) j)

pub record UnaryRead (text : List ℕ) (i d : ℕ) (α : Tape) (n j : ℕ) (β : Tape) : Type 0 where
  pub later : i ≤ j
  pub inside : j ≤ max i (length text)
  pub same : (p : Awaited ℕ) (st : Stack ℕ) → depth st + d ≡ max_depth
      → from text (cf AwaitUnary p [] st α) i ≡ told n j (from text (unary_done tapes p st β) j)

-- a conjunction whose first unary is read; what follows it is no & and no space
pub record ConjRead (text : List ℕ) (i d : ℕ) (α : Tape) (n j : ℕ) (β : Tape) : Type 0 where
  pub later : i ≤ j
  pub inside : j ≤ max i (length text)
  pub same : (o : Option ℕ) (st : Stack ℕ) → depth st + d ≡ max_depth
      → from text (cf (ChainRead o) First [] st α) i ≡ told n j (from text (cf (ChainRead o) First [] st β) j)
  pub last : n ≡ 0 → j < length text → (byte_at text j ≡ 32 → ⊥) × (byte_at text j ≡ 38 → ⊥)

pub record DisjRead (text : List ℕ) (i d : ℕ) (α : Tape) (n j : ℕ) (β : Tape) : Type 0 where
  pub later : i ≤ j
  pub inside : j ≤ max i (length text)
  pub same : (st : Stack ℕ) → depth st + d ≡ max_depth
      → from text (cf (ChainRead none) First [] st α) i ≡ told n j (from text (cf AllRead First [] st β) j)

pub record FormulaRead (text : List ℕ) (i d : ℕ) (α : Tape) (n j : ℕ) (β : Tape) : Type 0 where
  pub later : i ≤ j
  pub inside : j ≤ max i (length text)
  pub same : (st : Stack ℕ) → depth st + d ≡ max_depth
      → from text (cf AwaitUnary First [] st α) i ≡ told n j (from text (cf AllRead First [] st β) j)
