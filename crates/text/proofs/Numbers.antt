-- The numbers that a text is answered with: an operand is never at fault. Assumes nothing.
use Prim.Native.Nat.{ℕ}
use mathlib.Core.Path.{◌≡◌, refl, ap}
use mathlib.Core.Bool.{Bool, true, false, ◌||◌, false≢true}
use mathlib.Core.List.{List, [], ◌∷◌}
use lib.Dec.{eqb}
use Rattle.refusals.specs.Numbers.{ARGUMENT, INTERVAL, FULL, LONG, NAME, RULELESS, SYNTAX, DEEP}
use Rattle.lists.specs.Sequence.{among}
use Rattle.mltl.specs.Mltl.{Formula}
use Rattle.table.specs.declared.Table.{Table}
use Rattle.builder.specs.Adding.{Added}
use Rattle.grammar.specs.Made.{nodes_of}
use Rattle.text.specs.Typing.{Typed, line_added, typed}
use Rattle.text.specs.Outcome.{Reached, line_faults, Outcome, empty, byte, deep, faulty, whole}
use Rattle.text.proofs.Grows.{Refusal}
use Rattle.text.proofs.Holds.{Line, taken, turned, line}
use Rattle.text.proofs.Means.{reached_means}
use Rattle.text.proofs.Outcomes.{outcome}

abbrev answers : List ℕ
answers = 0 ∷ ARGUMENT ∷ INTERVAL ∷ FULL ∷ LONG ∷ NAME ∷ RULELESS ∷ SYNTAX ∷ DEEP ∷ []

line_number : {ns : List ℕ} {fs : List Formula} {t : Table} {n : ℕ} {f : Formula} → Line ns fs t n f → ¬ ((line_added t n (nodes_of f)).number ≡ 0)
    → Refusal (line_added t n (nodes_of f)).number
line_number (taken u l e h) z = absurd (z (ap (λ (a : Added). a.number) e))
line_number (turned y r) z = r

refusal_answer : (n : ℕ) → Refusal n → among n answers ≡ true
refusal_answer n = go (eqb n 0) (eqb n 5) (eqb n 6) (eqb n 8) (eqb n 9) (eqb n 10) _
  where
    go : (z a b c d e f : Bool) → (a || (b || (c || (d || (e || false))))) ≡ true → (z || (a || (b || (c || (d || (e || f)))))) ≡ true
    go true a b c d e f h = refl
    go false true b c d e f h = refl
    go false false true c d e f h = refl
    go false false false true d e f h = refl
    go false false false false true e f h = refl
    go false false false false false true f h = refl
    go false false false false false false f h = absurd (false≢true h)

-- the number of a line that is whole, but at fault
pub line_answer : {text bs : List ℕ} {t : Table} {i m : ℕ} → Reached text t i m bs → (n : ℕ) (f : Formula) → ¬ ((line_added t n (nodes_of f)).number ≡ 0)
    → among (line_added t n (nodes_of f)).number line_faults ≡ true
line_answer {t = t} r n f z = let m = reached_means r in line_number (line m.names m.formulas t m.holds n f) z

outcome_number : {text : List ℕ} {x : Typed} → Outcome text x → among x.number answers ≡ true
outcome_number (empty e) = refl
outcome_number (byte r z f) = refl
outcome_number (deep r f) = refl
outcome_number (faulty {t = t} {n = n} {f = f} r l z) = refusal_answer (line_added t n (nodes_of f)).number (line_answer r n f z)
outcome_number (whole z r) = refl

-- THE LAW
pub numbers : (text : List ℕ) → among (typed text).number (0 ∷ ARGUMENT ∷ INTERVAL ∷ FULL ∷ LONG ∷ NAME ∷ RULELESS ∷ SYNTAX ∷ DEEP ∷ []) ≡ true
numbers text = outcome_number (outcome text)
