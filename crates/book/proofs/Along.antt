-- Reading along the chain, step by step, however names are written. Assumes nothing.
use mathlib.Core.Path.{◌≡◌, refl}
use mathlib.Core.Bool.{Bool, true, false}
use mathlib.Core.List.{List, [], ◌∷◌, ◌++◌}
use Prim.Native.Nat.{ℕ, zero, suc, ◌<◌}
use native.Mathlib.Omega.{arith}
use borrow.Author.Tests.{eqb-true, eq-eqb, ne_eqb}
use lib.Dec.{eqb}
use Rattle.lists.specs.Choice.{pick}
use Rattle.book.specs.Entries.{Naming, entry_of}
use Rattle.book.specs.Reading.{Reading, fault_by, head_fault, refused, unless, finished_by, along_by, reading_by}

-- what is accepted has no fault
pub none : (n r : ℕ) (x : Reading) → (unless n r x).number ≡ 0 → n ≡ 0
none n r x = go (eqb n 0) refl
  where
    go : (b : Bool) → eqb n 0 ≡ b → (pick b x (refused n r)).number ≡ 0 → n ≡ 0
    go true e h = eqb-true n 0 e
    go false e h = h

module _ (names : Naming) (s : List ℕ) where
  pub reading_begins : head_fault s ≡ 0 → along_by names s 255 (0 ∷ []) (entry_of s 0).next ≡ reading_by names s
  unfolding reading_by
  reading_begins n = rw n

  pub head_none : (reading_by names s).number ≡ 0 → head_fault s ≡ 0
  unfolding reading_by
  head_none h = none (head_fault s) 0 (along_by names s 255 (0 ∷ []) (entry_of s 0).next) h

  module _ (before : List ℕ) (r : ℕ) where
    pub along_ends : (f : ℕ) → r ≡ 0 → along_by names s f before r ≡ finished_by names s before
    unfolding along_by
    along_ends zero z = refl
    along_ends (suc f) z = rw (eq-eqb r 0 z)

    -- a fault that is found is the answer
    pub along_stops : (f : ℕ) → 0 < f → ¬ (r ≡ 0) → ¬ (fault_by names s before r ≡ 0) → along_by names s f before r ≡ refused (fault_by names s before r) r
    unfolding along_by
    along_stops zero h z q = absurd (omega arith)
    along_stops (suc f) h z q = rw (ne_eqb r 0 z, ne_eqb (fault_by names s before r) 0 q)

    pub along_goes : (f : ℕ) → ¬ (r ≡ 0) → fault_by names s before r ≡ 0
        → along_by names s (suc f) before r ≡ along_by names s f (before ++ (r ∷ [])) (entry_of s r).next
    unfolding along_by
    along_goes f z q = rw (ne_eqb r 0 z, q)
