-- What reading a text comes to, by the grammar.
use Rattle.std.specs.Prelude.{ℕ, ◌+◌, ◌<◌, ◌≡◌, false, List, [], ◌∷◌, length, get_or}
use Rattle.limits.specs.Limits.{max_depth, max_nodes, max_rules}
use Rattle.refusals.specs.Numbers.{ARGUMENT, INTERVAL, FULL, LONG, NAME, RULELESS, SYNTAX, DEEP}
use Rattle.mltl.specs.Mltl.{Formula, const}
use Rattle.table.specs.Nodes.{no_table, rule_at, watched_formula}
use Rattle.table.specs.declared.Table.{Table}
use Rattle.grammar.specs.Grammar.{Line, Fault32, Fault33}
use Rattle.grammar.specs.Made.{nodes_of}
use Rattle.text.specs.Typing.{Typed, added, line_added, refused, accepted}

-- some whole lines of the text are read into the table t; what is left of it is bs, from the place i on, and its first line has the
-- number `line`
pub data Reached (text : List ℕ) : Table → ℕ → ℕ → List ℕ → Type 0 where
  begins : Reached text no_table 0 1 text
  goes_on : {t u : Table} {i j line n : ℕ} {f : Formula} {bs r : List ℕ}
      → Reached text t i line bs → Line max_depth n f bs r → i + length bs ≡ j + length r → line_added t n (nodes_of f) ≡ added 0 u → Reached text u j (line + 1) r

-- the numbers that a line which is whole can be at fault with
abbrev pub line_faults : List ℕ
line_faults = ARGUMENT ∷ INTERVAL ∷ FULL ∷ LONG ∷ NAME ∷ []

-- the answers: no line; a fault of syntax at its earliest place, in a line that has begun; a line that is whole, but at fault as for books;
-- the table
pub data Outcome (text : List ℕ) : Typed → Type 0 where
  empty : text ≡ [] → Outcome text (refused RULELESS 0)
  byte : {t : Table} {i line p : ℕ} {bs : List ℕ} → Reached text t i line bs → ¬ (bs ≡ []) → Fault32 i bs p → Outcome text (refused SYNTAX p)
  deep : {t : Table} {i line p : ℕ} {bs : List ℕ} → Reached text t i line bs → Fault33 i bs p → Outcome text (refused DEEP p)
  faulty : {t : Table} {i line n : ℕ} {f : Formula} {bs r : List ℕ}
      → Reached text t i line bs → Line max_depth n f bs r → ¬ ((line_added t n (nodes_of f)).number ≡ 0) → Outcome text (refused (line_added t n (nodes_of f)).number line)
  whole : {t : Table} {i line : ℕ} → ¬ (text ≡ []) → Reached text t i line [] → Outcome text (accepted t)

-- ---- what an accepted text means
-- the rules of the table t have these names and watch these formulas, in this order
pub record Watches (t : Table) (names : List ℕ) (fs : List Formula) : Type 0 where
  pub places : length t.nodes ≡ max_nodes
  pub rule_places : length t.rules ≡ max_rules
  pub count : t.rule_count ≡ length names
  pub formulas : t.rule_count ≡ length fs
  pub inside : (r : ℕ) → r < t.rule_count → (rule_at t r).watched < t.node_count
  pub name : (r : ℕ) → r < t.rule_count → (rule_at t r).name ≡ get_or names r 0
  pub watched : (r : ℕ) → r < t.rule_count → watched_formula t r ≡ get_or fs r (const false)
