-- The place of the first no among verdicts. Assumes nothing.
use Prim.Native.Nat.{ℕ, zero, suc, ◌≤◌, ◌<◌}
use native.Mathlib.Omega.{arith}
use mathlib.Core.Path.{◌≡◌, refl}
use mathlib.Core.Bool.{Bool, true, false, not, false≢true}
use mathlib.Core.List.{List, [], ◌∷◌}
use lib.ListN.{length, get_or}
use Rattle.lists.specs.Sequence.{some}
use Rattle.noted.specs.Noted.{place_of_no}

pub place_among : (vs : List Bool) → some not vs ≡ true → place_of_no vs < length vs
unfolding some
place_among [] e = absurd (false≢true e)
place_among (true ∷ vs) e = let h = place_among vs e in omega arith
place_among (false ∷ vs) e = omega arith

pub place_no : (vs : List Bool) → some not vs ≡ true → get_or vs (place_of_no vs) true ≡ false
unfolding some
place_no [] e = absurd (false≢true e)
place_no (true ∷ vs) e = place_no vs e
place_no (false ∷ vs) e = refl

pub place_earlier : (vs : List Bool) (i : ℕ) → i < place_of_no vs → get_or vs i false ≡ true
place_earlier [] i h = absurd (omega arith)
place_earlier (true ∷ vs) zero h = refl
place_earlier (true ∷ vs) (suc i) h = place_earlier vs i (omega arith)
place_earlier (false ∷ vs) i h = absurd (omega arith)

-- ---- whether there is one
pub some_no : (vs : List Bool) → place_of_no vs < length vs → some not vs ≡ true
unfolding some
some_no [] h = absurd (omega arith)
some_no (true ∷ vs) h = some_no vs (omega arith)
some_no (false ∷ vs) h = refl

pub all_yes : (vs : List Bool) → length vs ≤ place_of_no vs → some not vs ≡ false
unfolding some
all_yes [] h = refl
all_yes (true ∷ vs) h = all_yes vs (omega arith)
all_yes (false ∷ vs) h = absurd (omega arith)
