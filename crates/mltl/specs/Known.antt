-- What is known of a formula while its trace still grows: yes, no, or undecided, which document 02 calls open.
-- The states seen are xs, for the ticks below length xs; the ticks from there on are not yet seen.
use Rattle.std.specs.Prelude.{ℕ, zero, suc, ◌+◌, ◌-◌, Bool, true, false, ◌||◌, List, ltb, length, get_or}
use Rattle.lists.specs.Bits.{bit}
use Rattle.lists.specs.Choice.{pick}
use Rattle.mltl.specs.Mltl.{Formula, signal, const, neg, and, or, F, G, U, R, some_tick, every_tick}

-- in this order: undecided is in the middle
pub data Value : Type 0 where
  no undecided yes : Value

abbrev pub decided : Bool → Value
decided true = yes
decided false = no

abbrev pub is_yes : Value → Bool
is_yes no = false
is_yes undecided = false
is_yes yes = true

abbrev pub is_no : Value → Bool
is_no no = true
is_no undecided = false
is_no yes = false

-- ---- not turns the order round, and is the smaller of two values, or the larger
abbrev pub turned : Value → Value
turned no = yes
turned undecided = undecided
turned yes = no

abbrev pub smaller : Value → Value → Value
smaller no b = no
smaller undecided no = no
smaller undecided undecided = undecided
smaller undecided yes = undecided
smaller yes b = b

abbrev pub larger : Value → Value → Value
larger no b = b
larger undecided no = undecided
larger undecided undecided = undecided
larger undecided yes = yes
larger yes b = yes

-- the or, and the and, of a's values at the `count` ticks from `from` on; of no tick they are no and yes
unfoldable pub largest_from : ℕ → ℕ → (ℕ → Value) → Value
largest_from zero from a = no
largest_from (suc count) from a = larger (a from) (largest_from count (suc from) a)

unfoldable pub smallest_from : ℕ → ℕ → (ℕ → Value) → Value
smallest_from zero from a = yes
smallest_from (suc count) from a = smaller (a from) (smallest_from count (suc from) a)

-- at every tick i with from ≤ i < below
unfoldable pub largest : ℕ → ℕ → (ℕ → Value) → Value
largest from below a = largest_from (below - from) from a

unfoldable pub smallest : ℕ → ℕ → (ℕ → Value) → Value
smallest from below a = smallest_from (below - from) from a

-- ---- the operators, on values a, b at every tick; no interval is cut where the states seen end
-- F is the or, G the and, of a at every tick i with t + lo ≤ i ≤ t + hi
unfoldable pub eventually_known : ℕ → ℕ → (ℕ → Value) → ℕ → Value
eventually_known lo hi a t = largest (t + lo) (t + hi + 1) a

unfoldable pub always_known : ℕ → ℕ → (ℕ → Value) → ℕ → Value
always_known lo hi a t = smallest (t + lo) (t + hi + 1) a

-- U is the or, over every such i, of: b at i, and a at every j with t + lo ≤ j < i
unfoldable pub until_known : ℕ → ℕ → (ℕ → Value) → (ℕ → Value) → ℕ → Value
until_known lo hi a b t = largest (t + lo) (t + hi + 1) (λ i. smaller (b i) (smallest (t + lo) i a))

-- R: not (not a U not b)
unfoldable pub release_known : ℕ → ℕ → (ℕ → Value) → (ℕ → Value) → ℕ → Value
release_known lo hi a b t = turned (until_known lo hi (λ i. turned (a i)) (λ i. turned (b i)) t)

-- ---- the value of a formula at tick t: at a tick not yet seen it is undecided, whatever the formula
abbrev pub if_seen : ℕ → ℕ → Value → Value
if_seen n t v = pick (ltb t n) v undecided

unfoldable pub known : Formula → List ℕ → ℕ → Value
known (signal s) xs t = if_seen (length xs) t (decided (bit (get_or xs t 0) s))
known (const b) xs t = if_seen (length xs) t (decided b)
known (neg a) xs t = if_seen (length xs) t (turned (known a xs t))
known (and a b) xs t = if_seen (length xs) t (smaller (known a xs t) (known b xs t))
known (or a b) xs t = if_seen (length xs) t (larger (known a xs t) (known b xs t))
known (F lo hi a) xs t = if_seen (length xs) t (eventually_known lo hi (known a xs) t)
known (G lo hi a) xs t = if_seen (length xs) t (always_known lo hi (known a xs) t)
known (U lo hi a b) xs t = if_seen (length xs) t (until_known lo hi (known a xs) (known b xs) t)
known (R lo hi a b) xs t = if_seen (length xs) t (release_known lo hi (known a xs) (known b xs) t)

-- ---- on columns of bits: a at every tick i with t + lo ≤ i ≤ t + hi, those not yet seen included
unfoldable pub whole : ℕ → ℕ → (ℕ → Bool) → ℕ → Bool
whole lo hi a t = every_tick (t + lo) (t + hi + 1) a

-- at every such tick i b, or a at some tick j with t + lo ≤ j < i
unfoldable pub whole_release : ℕ → ℕ → (ℕ → Bool) → (ℕ → Bool) → ℕ → Bool
whole_release lo hi a b t = every_tick (t + lo) (t + hi + 1) (λ i. b i || some_tick (t + lo) i a)
