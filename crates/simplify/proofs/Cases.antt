-- Cases of a test, and the parts of a conjunction and of a disjunction. Assumes nothing.
use mathlib.Core.Path.{◌≡◌, refl}
use mathlib.Core.Bool.{Bool, ◌&&◌, ◌||◌, false, true}
use Rattle.lists.specs.Choice.{pick}
use Rattle.lists.proofs.Tests.{or_left, or_right, true_left, true_right}

pub by_test : {A : Type 0} (P : A → Type 0) (b : Bool) {x y : A} → (b ≡ true → P x) → (b ≡ false → P y) → P (pick b x y)
by_test P true f g = f refl
by_test P false f g = g refl

pub both : (a b : Bool) → (a && b) ≡ true → (a ≡ true) × (b ≡ true)
both a b h = (true_left a b h, true_right a b h)

pub neither : (a b : Bool) → (a || b) ≡ false → (a ≡ false) × (b ≡ false)
neither a b h = (or_left a b h, or_right a b h)

pub left_true : (a b : Bool) → a ≡ true → (a || b) ≡ true
left_true a b h = rw h

pub right_true : (a b : Bool) → b ≡ true → (a || b) ≡ true
right_true true b h = refl
right_true false b h = h

-- a test that cannot be true is false, and one that cannot be false is true
pub is_false : (b : Bool) → (b ≡ true → ⊥) → b ≡ false
is_false true h = absurd (h refl)
is_false false h = refl

pub is_true : (b : Bool) → (b ≡ false → ⊥) → b ≡ true
is_true true h = refl
is_true false h = absurd (h refl)
