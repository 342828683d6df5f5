-- The rules that a book keeps, each as a statement, without an order of checks. A book is accepted exactly where it keeps them
-- (proofs/Accepts.antt). `wait` is a measure of how many states a verdict waits for.
use Rattle.std.specs.Prelude.{ℕ, ◌*◌, ◌≤◌, ◌<◌, ◌≡◌, true, false, length}
use mathlib.Core.List.{List, [], ◌∷◌, ◌++◌, Memᴰ}
use Rattle.limits.specs.Limits.{max_nodes, max_rules, max_signal, max_interval, max_delay, record_bytes, max_records}
use Rattle.mltl.specs.Mltl.{Formula, delay, old_delay}
use Rattle.table.specs.Nodes.{formula_over, formulas}
use Rattle.book.specs.declared.Entry.{Entry}
use Rattle.book.specs.Entries.{entry_of, uses_in, name_of}
use Rattle.book.specs.Reading.{nodes_in, rules_in, node_of, nodes, table_of, accepted, reading}

-- 1: 1 to 255 records of 12 bytes
pub record Size (n : ℕ) : Type 0 where
  pub records : ℕ
  pub bytes : n ≡ record_bytes * records
  pub some : 1 ≤ records
  pub few : records ≤ max_records

-- 2: a head is all zero but its next
pub record Head (e : Entry) : Type 0 where
  pub kind : e.kind ≡ 0
  pub arg : e.arg ≡ 0
  pub lo : e.lo ≡ 0
  pub hi : e.hi ≡ 0
  pub left : e.left ≡ 0
  pub right : e.right ≡ 0
  pub upper : e.upper ≡ 0
  pub tail0 : e.tail0 ≡ 0
  pub tail1 : e.tail1 ≡ 0

-- 3: next is 0, or a record of the book that is none of those passed
pub record Linked (s passed : List ℕ) (next : ℕ) : Type 0 where
  pub inside : ¬ (next ≡ 0) → record_bytes * next < length s
  pub new : ¬ (next ≡ 0) → ¬ (Memᴰ next passed)

-- 4: a kind that is known, and no field set that it does not use
pub record Formed (e : Entry) : Type 0 where
  pub low : 1 ≤ e.kind
  pub high : e.kind ≤ 11
  pub arg : (uses_in e.kind).arg ≡ false → e.arg ≡ 0
  pub lo : (uses_in e.kind).interval ≡ false → e.lo ≡ 0
  pub hi : (uses_in e.kind).interval ≡ false → e.hi ≡ 0
  pub left : (uses_in e.kind).left ≡ false → e.left ≡ 0
  pub right : (uses_in e.kind).right ≡ false → e.right ≡ 0
  pub upper : ¬ (e.kind ≡ 11) → e.upper ≡ 0
  pub tail0 : e.tail0 ≡ 0
  pub tail1 : e.tail1 ≡ 0

-- a node has a kind from 1 to 10
pub record NodeKind (k : ℕ) : Type 0 where
  pub low : 1 ≤ k
  pub high : k ≤ 10

-- 7: q is a record before, and a node
pub record EarlierNode (s before : List ℕ) (q : ℕ) : Type 0 where
  pub earlier : Memᴰ q before
  pub node : NodeKind (entry_of s q).kind

-- the record r holds e, and the records before it on the chain are these, the head first
pub record KeptBy (wait : Formula → ℕ) (s before : List ℕ) (r : ℕ) (e : Entry) : Type 0 where
  pub linked : Linked s (before ++ (r ∷ [])) e.next
  pub formed : Formed e
  -- 5
  pub signal : e.kind ≡ 1 → e.arg ≤ max_signal
  pub name : e.kind ≡ 11 → 1 ≤ name_of e
  -- 6
  pub ordered : e.lo ≤ e.hi
  pub limited : e.hi ≤ max_interval
  -- 7
  pub left : (uses_in e.kind).left ≡ true → EarlierNode s before e.left
  pub right : (uses_in e.kind).right ≡ true → EarlierNode s before e.right
  -- 8
  pub node_room : NodeKind e.kind → length (nodes_in s before) < max_nodes
  pub rule_room : e.kind ≡ 11 → length (rules_in s before) < max_rules
  -- 9
  pub delay : NodeKind e.kind → wait (formula_over (formulas (nodes s before)) (node_of (nodes_in s before) e)) ≤ max_delay
  -- 10: no earlier rule has the name
  pub own : e.kind ≡ 11 → (q : ℕ) → Memᴰ q before → (entry_of s q).kind ≡ 11 → ¬ (name_of (entry_of s q) ≡ name_of e)

-- from the record r on, the chain goes along the records of the list, to its end, and each keeps the rules
pub data AlongBy (wait : Formula → ℕ) (s : List ℕ) : List ℕ → ℕ → List ℕ → Type 0 where
  over : {before : List ℕ} → AlongBy wait s before 0 []
  on : {before rest : List ℕ} {r : ℕ} → ¬ (r ≡ 0) → KeptBy wait s before r (entry_of s r)
      → AlongBy wait s (before ++ (r ∷ [])) (entry_of s r).next rest → AlongBy wait s before r (r ∷ rest)

pub record KeepsBy (wait : Formula → ℕ) (s : List ℕ) : Type 0 where
  pub size : Size (length s)
  pub head : Head (entry_of s 0)
  pub linked : Linked s (0 ∷ []) (entry_of s 0).next
  pub chain : List ℕ
  pub along : AlongBy wait s (0 ∷ []) (entry_of s 0).next chain
  -- 11
  pub ruled : 1 ≤ length (rules_in s chain)

-- ---- by the delay
abbrev pub Kept : List ℕ → List ℕ → ℕ → Entry → Type 0
Kept s before r e = KeptBy delay s before r e

abbrev pub Along : List ℕ → List ℕ → ℕ → List ℕ → Type 0
Along s before r chain = AlongBy delay s before r chain

abbrev pub Keeps : List ℕ → Type 0
Keeps s = KeepsBy delay s

-- a book that kept the rules when the delay was the one before A5 keeps them, and reads as the table of the same chain
pub record StaysKept (s : List ℕ) (old : KeepsBy old_delay s) : Type 0 where
  pub keeps : Keeps s
  pub read : reading s ≡ accepted (table_of s (0 ∷ old.chain))
