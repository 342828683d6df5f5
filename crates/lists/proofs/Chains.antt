-- Chains of iterators over an array: what `all` answers, by the test at each element and its place. Assumes nothing.
use Prim.Native.Nat.{ℕ, suc, ◌+◌, ◌-◌, ◌≤◌, ◌<◌}
use native.Mathlib.Numerals.{add-one, unary_clauses}
use native.Mathlib.Omega.{arith}
use mathlib.Core.Path.{◌≡◌, refl, ap}
use mathlib.Core.Bool.{Bool, true, false, not, ◌&&◌}
use mathlib.Core.List.{List, [], ◌∷◌}
use borrow.Author.Tests.{ltb-true, ltb-false}
use lib.Dec.{ltb}
use lib.ListN.{take}
use lib.Seq.{take-nil}
use Rattle.std.specs.List.{list_all, enumerate_from}
use Rattle.lists.specs.Sequence.{every}

-- a test that does not ask for the place
pub every_all : {A : Type 0} (p : A → Bool) (i : ℕ) (xs : List A) → list_all p xs ≡ every (λ k. p) i xs
unfolding every
every_all p i [] = refl
every_all p i (x ∷ xs) = ap (λ b. p x && b) (every_all p (suc i) xs)

-- a test that does
pub every_enumerate : {A : Type 0} (f : ℕ → A → Bool) (i : ℕ) (xs : List A) → list_all (λ p. f p.0 p.1) (enumerate_from i xs) ≡ every f i xs
unfolding every
every_enumerate f i [] = refl
every_enumerate f i (x ∷ xs) = ap (λ b. f i x && b) (rw add-one (every_enumerate f (suc i) xs))

-- no element before place c passes the test
none_from : {A : Type 0} (p : A → Bool) (c i : ℕ) (xs : List A) → list_all (λ x. not (p x)) (take (c - i) xs) ≡ every (λ k x. not (ltb k c && p x)) i xs
unfolding every
none_from p c i [] = ap (list_all (λ x. not (p x))) (take-nil (c - i))
none_from {A} p c i (x ∷ xs) = go (ltb i c) refl (none_from p c (suc i) xs)
  where
    go : (b : Bool) → ltb i c ≡ b → list_all (λ y. not (p y)) (take (c - suc i) xs) ≡ every (λ k y. not (ltb k c && p y)) (suc i) xs
        → list_all (λ y. not (p y)) (take (c - i) (x ∷ xs)) ≡ (not (b && p x) && every (λ k y. not (ltb k c && p y)) (suc i) xs)
    go true e rest =
        let h : i < c = ltb-true i c e in
        let n : c - i ≡ suc (c - suc i) = omega arith in
        rw n (ap (λ b. not (p x) && b) rest)
    go false e rest =
        let h : c ≤ i = ltb-false i c e in
        let n : c - i ≡ 0 = omega arith in
        let m : c - suc i ≡ 0 = omega arith in
        rw n (rw m at rest)

pub none_before : {A : Type 0} (p : A → Bool) (c : ℕ) (xs : List A) → list_all (λ x. not (p x)) (take c xs) ≡ every (λ k x. not (ltb k c && p x)) 0 xs
none_before p c xs = simp unary_clauses at (none_from p c 0 xs)
