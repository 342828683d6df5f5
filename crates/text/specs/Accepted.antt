-- The texts that are accepted: every line is of the grammar, and the limits of books hold (document 02, A2; document 01, The book).
use Rattle.std.specs.Prelude.{ℕ, ◌+◌, ◌≤◌, ◌<◌, max, ◌≡◌, false, List, [], ◌∷◌, ◌++◌, length, get_or}
use Rattle.limits.specs.Limits.{max_depth, max_nodes, max_rules, max_signal, max_name, max_interval, max_delay}
use Rattle.mltl.specs.Mltl.{Formula, signal, const, neg, and, or, F, G, U, R, delay, old_delay}
use Rattle.grammar.specs.Grammar.{Line}

-- whole lines from bs up to r, with their names and their formulas
pub data Lines (bs : List ℕ) : List ℕ → List Formula → List ℕ → Type 0 where
  none : Lines bs [] [] bs
  more : {names : List ℕ} {fs : List Formula} {n : ℕ} {f : Formula} {m r : List ℕ}
      → Lines bs names fs m → Line max_depth n f m r → Lines bs (names ++ (n ∷ [])) (fs ++ (f ∷ [])) r

-- 'one node per atom without brackets and per operator'
unfoldable pub size : Formula → ℕ
size (signal n) = 1
size (const b) = 1
size (neg a) = size a + 1
size (and a b) = size a + size b + 1
size (or a b) = size a + size b + 1
size (F lo hi a) = size a + 1
size (G lo hi a) = size a + 1
size (U lo hi a b) = size a + size b + 1
size (R lo hi a b) = size a + size b + 1

unfoldable pub sizes : List Formula → ℕ
sizes [] = 0
sizes (f ∷ fs) = size f + sizes fs

-- the numbers of every node within the limits
pub record FitInterval (lo hi : ℕ) : Type 0 where
  pub ordered : lo ≤ hi
  pub short : hi ≤ max_interval

unfoldable pub NumbersFit : Formula → Type 0
NumbersFit (signal n) = n ≤ max_signal
NumbersFit (const b) = Unit {0}
NumbersFit (neg a) = NumbersFit a
NumbersFit (and a b) = NumbersFit a × NumbersFit b
NumbersFit (or a b) = NumbersFit a × NumbersFit b
NumbersFit (F lo hi a) = FitInterval lo hi × NumbersFit a
NumbersFit (G lo hi a) = FitInterval lo hi × NumbersFit a
NumbersFit (U lo hi a b) = FitInterval lo hi × NumbersFit a × NumbersFit b
NumbersFit (R lo hi a b) = FitInterval lo hi × NumbersFit a × NumbersFit b

-- the longest wait among a formula's nodes, by a measure of how many states a verdict waits for: U and R may wait less than their left operand
unfoldable pub longest_by : (Formula → ℕ) → Formula → ℕ
longest_by wait (signal n) = wait (signal n)
longest_by wait (const b) = wait (const b)
longest_by wait (neg a) = max (wait (neg a)) (longest_by wait a)
longest_by wait (and a b) = max (wait (and a b)) (max (longest_by wait a) (longest_by wait b))
longest_by wait (or a b) = max (wait (or a b)) (max (longest_by wait a) (longest_by wait b))
longest_by wait (F lo hi a) = max (wait (F lo hi a)) (longest_by wait a)
longest_by wait (G lo hi a) = max (wait (G lo hi a)) (longest_by wait a)
longest_by wait (U lo hi a b) = max (wait (U lo hi a b)) (max (longest_by wait a) (longest_by wait b))
longest_by wait (R lo hi a b) = max (wait (R lo hi a b)) (max (longest_by wait a) (longest_by wait b))

-- the limits of books
pub record WithinBy (wait : Formula → ℕ) (names : List ℕ) (fs : List Formula) : Type 0 where
  pub few_nodes : sizes fs ≤ max_nodes
  pub some_rule : 1 ≤ length fs
  pub few_rules : length fs ≤ max_rules
  pub numbers : (r : ℕ) → r < length fs → NumbersFit (get_or fs r (const false))
  pub short : (r : ℕ) → r < length fs → longest_by wait (get_or fs r (const false)) ≤ max_delay
  pub named : (r : ℕ) → r < length names → 1 ≤ get_or names r 0
  pub largest : (r : ℕ) → r < length names → get_or names r 0 ≤ max_name
  pub distinct : (r s : ℕ) → r < s → s < length names → ¬ (get_or names r 0 ≡ get_or names s 0)

pub record AcceptedBy (wait : Formula → ℕ) (text : List ℕ) : Type 0 where
  pub names : List ℕ
  pub formulas : List Formula
  pub lines : Lines text names formulas []
  pub within : WithinBy wait names formulas

-- ---- by the delay
abbrev pub longest : Formula → ℕ
longest f = longest_by delay f

abbrev pub Within : List ℕ → List Formula → Type 0
Within names fs = WithinBy delay names fs

abbrev pub Accepted : List ℕ → Type 0
Accepted text = AcceptedBy delay text

-- a text that was accepted when the delay was the one before A5 is accepted, with the same names and formulas
pub record StaysAccepted (text : List ℕ) (old : AcceptedBy old_delay text) : Type 0 where
  pub accepted : Accepted text
  pub names : accepted.names ≡ old.names
  pub formulas : accepted.formulas ≡ old.formulas
