-- How long U and R wait, and the delay beside the one before A5 and beside document 000's computation length. Assumes nothing.
use Prim.Native.Nat.{ℕ, ◌+◌, ◌-◌, ◌≤◌, ◌<◌, max}
use native.Mathlib.Omega.{arith}
use mathlib.Core.Path.{◌≡◌, refl, ap, ap₂, ◌∙◌}
use mathlib.Core.Bool.{true, false≢true}
use mathlib.Core.Logic.{⊎_elim}
use borrow.Author.Tests.{ltb-true, eq-eqb, ne_eqb}
use lib.Dec.{ltb, eqb}
use Rattle.lists.specs.Choice.{pick}
use Rattle.lists.proofs.Tests.{lt_or_le, true_left, true_right}
use Rattle.mltl.proofs.Until.{until_early, until_once}
use Rattle.mltl.specs.Mltl.{Formula, signal, const, neg, and, or, F, G, U, R, until_delay, old_until_delay, delay_by, delay, old_delay, computation_length, every_until, until_free}

module _ (lo hi a b : ℕ) where
  -- A5 in its words
  pub until_worded : lo ≤ hi → until_delay lo hi a b ≡ pick (eqb lo hi) (hi + b) (hi + max (a - 1) b)
  until_worded h =
      ⊎_elim (λ (l : lo < hi). until_early lo hi a b l ∙ rw (ne_eqb lo hi (λ e. omega arith)))
      (λ (l : hi ≤ lo). let e : lo ≡ hi = omega arith in until_once lo hi a b l ∙ rw (eq-eqb lo hi e)) (lt_or_le lo hi)

  pub until_left : lo < hi → hi + a ≤ until_delay lo hi a b + 1
  until_left l = let e = until_early lo hi a b l in omega arith

  pub until_right : hi + b ≤ until_delay lo hi a b
  until_right = ⊎_elim (λ (l : lo < hi). let e = until_early lo hi a b l in omega arith) (λ (l : hi ≤ lo). let e = until_once lo hi a b l in omega arith) (lt_or_le lo hi)

-- operands that wait no longer
pub until_no_longer : (lo hi a b a' b' : ℕ) → a ≤ a' → b ≤ b' → until_delay lo hi a b ≤ until_delay lo hi a' b'
until_no_longer lo hi a b a' b' p q =
    ⊎_elim
    (λ (l : lo < hi). let e = until_early lo hi a b l in let f = until_early lo hi a' b' l in omega arith)
    (λ (l : hi ≤ lo). let e = until_once lo hi a b l in let f = until_once lo hi a' b' l in omega arith) (lt_or_le lo hi)

-- never above the old delay
until_sooner : (lo hi a b : ℕ) → until_delay lo hi a b ≤ old_until_delay lo hi a b
until_sooner lo hi a b =
    ⊎_elim (λ (l : lo < hi). let e = until_early lo hi a b l in omega arith) (λ (l : hi ≤ lo). let e = until_once lo hi a b l in omega arith) (lt_or_le lo hi)

both_sooner : (lo hi a b a' b' : ℕ) → a ≤ a' → b ≤ b' → until_delay lo hi a b ≤ old_until_delay lo hi a' b'
both_sooner lo hi a b a' b' p q = omega (arith, until_no_longer lo hi a b a' b' p q, until_sooner lo hi a' b')

pub delay_sooner : (f : Formula) → delay f ≤ old_delay f
unfolding delay_by
delay_sooner (signal s) = omega arith
delay_sooner (const b) = omega arith
delay_sooner (neg a) = delay_sooner a
delay_sooner (and a b) = let p = delay_sooner a in let q = delay_sooner b in omega arith
delay_sooner (or a b) = let p = delay_sooner a in let q = delay_sooner b in omega arith
delay_sooner (F lo hi a) = let p = delay_sooner a in omega arith
delay_sooner (G lo hi a) = let p = delay_sooner a in omega arith
delay_sooner (U lo hi a b) = both_sooner lo hi _ _ _ _ (delay_sooner a) (delay_sooner b)
delay_sooner (R lo hi a b) = both_sooner lo hi _ _ _ _ (delay_sooner a) (delay_sooner b)

-- ---- the delay beside the computation length: a tick's own state and those that it waits for are no more
until_length : (lo hi a b d e : ℕ) → d + 1 ≤ a → e + 1 ≤ b → until_delay lo hi d e + 1 ≤ hi + max (a - 1) b
until_length lo hi a b d e p q =
    ⊎_elim (λ (l : lo < hi). let k = until_early lo hi d e l in omega arith) (λ (l : hi ≤ lo). let k = until_once lo hi d e l in omega arith) (lt_or_le lo hi)

pub within_length : (f : Formula) → delay f + 1 ≤ computation_length f
unfolding delay_by computation_length
within_length (signal s) = omega arith
within_length (const b) = omega arith
within_length (neg a) = within_length a
within_length (and a b) = let p = within_length a in let q = within_length b in omega arith
within_length (or a b) = let p = within_length a in let q = within_length b in omega arith
within_length (F lo hi a) = let p = within_length a in omega arith
within_length (G lo hi a) = let p = within_length a in omega arith
within_length (U lo hi a b) = until_length lo hi _ _ _ _ (within_length a) (within_length b)
within_length (R lo hi a b) = until_length lo hi _ _ _ _ (within_length a) (within_length b)

-- as many, where every interval of U and R has lo below hi
until_exactly : (lo hi d e : ℕ) → lo < hi → until_delay lo hi d e + 1 ≡ hi + max (d + 1 - 1) (e + 1)
until_exactly lo hi d e l = let k = until_early lo hi d e l in omega arith

pub length_exactly : (f : Formula) → every_until ltb f ≡ true → delay f + 1 ≡ computation_length f
unfolding delay_by computation_length every_until
length_exactly (signal s) h = refl
length_exactly (const b) h = refl
length_exactly (neg a) h = length_exactly a h
length_exactly (and a b) h = let p = length_exactly a (true_left _ _ h) in let q = length_exactly b (true_right (every_until ltb a) _ h) in omega arith
length_exactly (or a b) h = let p = length_exactly a (true_left _ _ h) in let q = length_exactly b (true_right (every_until ltb a) _ h) in omega arith
length_exactly (F lo hi a) h = let p = length_exactly a h in omega arith
length_exactly (G lo hi a) h = let p = length_exactly a h in omega arith
length_exactly (U lo hi a b) h =
    let k = true_right (ltb lo hi) _ h in
    let p = length_exactly a (true_left _ _ k) in
    let q = length_exactly b (true_right (every_until ltb a) _ k) in
    rw (← p, ← q) (until_exactly lo hi (delay a) (delay b) (ltb-true lo hi (true_left _ _ h)))
length_exactly (R lo hi a b) h =
    let k = true_right (ltb lo hi) _ h in
    let p = length_exactly a (true_left _ _ k) in
    let q = length_exactly b (true_right (every_until ltb a) _ k) in
    rw (← p, ← q) (until_exactly lo hi (delay a) (delay b) (ltb-true lo hi (true_left _ _ h)))

-- ---- without U and R there is one delay
pub one_delay : (f : Formula) → until_free f ≡ true → old_delay f ≡ delay f
unfolding delay_by every_until
one_delay (signal s) h = refl
one_delay (const b) h = refl
one_delay (neg a) h = one_delay a h
one_delay (and a b) h = ap₂ max (one_delay a (true_left _ _ h)) (one_delay b (true_right (until_free a) _ h))
one_delay (or a b) h = ap₂ max (one_delay a (true_left _ _ h)) (one_delay b (true_right (until_free a) _ h))
one_delay (F lo hi a) h = ap (λ (d : ℕ). hi + d) (one_delay a h)
one_delay (G lo hi a) h = ap (λ (d : ℕ). hi + d) (one_delay a h)
one_delay (U lo hi a b) h = absurd (false≢true h)
one_delay (R lo hi a b) h = absurd (false≢true h)
