-- What one element more does to `afterLast` and to `some` of it, and what a list behind another one does to `last_or`. Assumes nothing.
use mathlib.Core.Path.{◌≡◌, refl, ap, ◌∙◌}
use mathlib.Core.Bool.{Bool, true, false, ◌||◌, or_assoc, or-false}
use mathlib.Core.List.{List, [], ◌∷◌, ◌++◌}
use Rattle.lists.specs.Choice.{pick}
use Rattle.lists.specs.Sequence.{some}
use Rattle.lists.proofs.Some.{some_append}
use Rattle.registers.specs.History.{after_last, last_or}

module _ {A : Type 0} where
  pub last_append : (d : A) (xs ys : List A) → last_or d (xs ++ ys) ≡ last_or (last_or d xs) ys
  last_append d [] ys = refl
  last_append d (x ∷ xs) ys = last_append x xs ys

  module _ (test : A → Bool) (x : A) where
    some_snoc : (xs : List A) → some test (xs ++ (x ∷ [])) ≡ (some test xs || test x)
    unfolding some
    some_snoc xs = some_append test xs (x ∷ []) ∙ ap (λ (b : Bool). some test xs || b) (or-false (test x))

    -- the last one passes, or else an earlier one
    last_first : (b c : Bool) (xs ys : List A) → pick (b || c) (pick c [] (xs ++ (x ∷ []))) (ys ++ (x ∷ [])) ≡ pick c [] (pick b xs ys ++ (x ∷ []))
    last_first true true xs ys = refl
    last_first true false xs ys = refl
    last_first false true xs ys = refl
    last_first false false xs ys = refl

    pub after_snoc : (xs : List A) → after_last test (xs ++ (x ∷ [])) ≡ pick (test x) [] (after_last test xs ++ (x ∷ []))
    unfolding some
    after_snoc [] = rw or-false
    after_snoc (y ∷ ys) =
        rw (after_snoc ys, some_snoc ys, ← (or_assoc (test y) (some test ys) (test x))) (last_first (test y || some test ys) (test x) (after_last test ys) (y ∷ ys))

  pub since_snoc : (test f : A → Bool) (xs : List A) (x : A)
      → some f (after_last test (xs ++ (x ∷ []))) ≡ pick (test x) false (some f (after_last test xs) || f x)
  unfolding some
  since_snoc test f xs x = rw (after_snoc test x xs) (go (test x))
    where
      go : (b : Bool) → some f (pick b [] (after_last test xs ++ (x ∷ []))) ≡ pick b false (some f (after_last test xs) || f x)
      go true = refl
      go false = some_snoc f x (after_last test xs)
