-- The laws of `some`; and that a list in which m tests pass, no two of them at one element, has at least m elements. Assumes nothing.
use Prim.Native.Nat.{ℕ, zero, suc, ◌+◌, ◌≤◌, ◌<◌}
use native.Mathlib.Omega.{arith}
use mathlib.Core.Path.{◌≡◌, refl, sym, ap, ap₂, ◌∙◌}
use mathlib.Core.Bool.{Bool, true, false, ◌||◌, or_assoc, or-true}
use mathlib.Core.List.{List, [], ◌∷◌, ◌++◌, map}
use mathlib.Core.Logic.{⊎_elim}
use lib.ListN.{length}
use Rattle.lists.specs.Bits.{digit}
use Rattle.lists.specs.Sequence.{some}
use Rattle.lists.proofs.Tests.{or_split, true_or_false}

pub some_append : {A : Type 0} (f : A → Bool) (xs ys : List A) → some f (xs ++ ys) ≡ (some f xs || some f ys)
unfolding some
some_append f [] ys = refl
some_append f (x ∷ xs) ys = ap (λ (b : Bool). f x || b) (some_append f xs ys) ∙ sym (or_assoc (f x) (some f xs) (some f ys))

pub some_map : {A B : Type 0} (f : B → Bool) (g : A → B) (h : A → Bool) → ((x : A) → f (g x) ≡ h x) → (xs : List A) → some f (map g xs) ≡ some h xs
unfolding some
some_map f g h e [] = refl
some_map f g h e (x ∷ xs) = ap₂ ◌||◌ (e x) (some_map f g h e xs)

pub some_mono : {A : Type 0} (f g : A → Bool) → ((x : A) → f x ≡ true → g x ≡ true) → (xs : List A) → some f xs ≡ true → some g xs ≡ true
unfolding some
some_mono f g h [] e = e
some_mono f g h (x ∷ xs) e =
    ⊎_elim (λ p. ap (λ (b : Bool). b || some g xs) (h x p))
    (λ p. ap (λ (b : Bool). g x || b) (some_mono f g h xs p) ∙ or-true (g x))
    (or_split (f x) (some f xs) e)

-- ---- how many of the numbers below m pass a test
unfoldable passing : ℕ → (ℕ → Bool) → ℕ
passing zero p = 0
passing (suc m) p = digit (p m) + passing m p

passing_all : (m : ℕ) (p : ℕ → Bool) → ((i : ℕ) → i < m → p i ≡ true) → passing m p ≡ m
unfolding passing
passing_all zero p h = refl
passing_all (suc m) p h = rw (h m (omega arith), passing_all m p (λ i l. h i (omega arith))) (omega arith)

passing_none : (m : ℕ) (p : ℕ → Bool) → ((i : ℕ) → i < m → p i ≡ false) → passing m p ≡ 0
unfolding passing
passing_none zero p h = refl
passing_none (suc m) p h = rw (h m (omega arith), passing_none m p (λ i l. h i (omega arith)))

-- no two of them
passing_one : (m : ℕ) (p : ℕ → Bool) → ((i j : ℕ) → p i ≡ true → p j ≡ true → i ≡ j) → passing m p ≤ 1
unfolding passing
passing_one zero p h = omega arith
passing_one (suc m) p h = go (p m) refl (passing_one m p h)
  where
    other : p m ≡ true → (i : ℕ) → i < m → p i ≡ false
    other e i l = ⊎_elim (λ (q : p i ≡ true). let s = h i m q e in absurd (omega arith)) (λ q. q) (true_or_false (p i))

    go : (b : Bool) → p m ≡ b → passing m p ≤ 1 → digit b + passing m p ≤ 1
    go true e r = let z = passing_none m p (other e) in omega arith
    go false e r = omega arith

passing_or : (m : ℕ) (p q : ℕ → Bool) → passing m (λ i. p i || q i) ≤ passing m p + passing m q
unfolding passing
passing_or zero p q = omega arith
passing_or (suc m) p q = go (p m) (q m) (passing_or m p q)
  where
    go : (a b : Bool) → passing m (λ i. p i || q i) ≤ passing m p + passing m q
        → digit (a || b) + passing m (λ i. p i || q i) ≤ (digit a + passing m p) + (digit b + passing m q)
    go true b r = omega arith
    go false b r = omega arith

module _ {A : Type 0} (f : ℕ → A → Bool) (single : (x : A) (i j : ℕ) → f i x ≡ true → f j x ≡ true → i ≡ j) where
  at_most : (m : ℕ) (xs : List A) → passing m (λ i. some (f i) xs) ≤ length xs
  unfolding some
  at_most m [] = let z = passing_none m (λ i. false) (λ i l. refl) in omega arith
  at_most m (x ∷ xs) =
      let a = passing_or m (λ i. f i x) (λ i. some (f i) xs) in
      let b = passing_one m (λ i. f i x) (single x) in
      let c = at_most m xs in
      omega arith

  pub no_fewer : (m : ℕ) (xs : List A) → ((i : ℕ) → i < m → some (f i) xs ≡ true) → m ≤ length xs
  no_fewer m xs h = omega (arith, at_most m xs, passing_all m (λ i. some (f i) xs) h)
