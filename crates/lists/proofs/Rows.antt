-- Rows of refusals, and the first one that fits. Assumes nothing.
use Prim.Native.Nat.{ℕ, zero, suc, ◌≤◌, ◌<◌}
use native.Mathlib.Omega.{arith}
use mathlib.Core.Path.{◌≡◌, refl}
use mathlib.Core.Logic.{◌↔◌}
use mathlib.Core.Bool.{Bool, true, false, ◌||◌, true≢false, false≢true}
use mathlib.Core.List.{List, [], ◌∷◌, ◌++◌}
use borrow.Author.Tests.{ltb-true, leb-true}
use lib.Dec.{ltb, leb}
use lib.ListN.{get_or}
use Rattle.lists.specs.Choice.{Row, pick, ◌if◌, first, some_fits, numbered, numbered_to}
use Rattle.lists.proofs.Tests.{true_left, true_right, ◌also◌}

-- a row more, as the code takes it
pub row_more : (n : ℕ) {b t : Bool} {f g h : ℕ} → f ≡ pick b n g → b ≡ t → g ≡ h → f ≡ pick t n h
row_more n p q r = rw (p, q, r)

-- of a choice that is 0 the test is false, and the rest is 0
none_test : (n : ℕ) (b : Bool) (g : ℕ) → 0 < n → pick b n g ≡ 0 → b ≡ false
none_test n true g h e = absurd (omega arith)
none_test n false g h e = refl

none_rest : (n : ℕ) (b : Bool) (g : ℕ) → 0 < n → pick b n g ≡ 0 → g ≡ 0
none_rest n true g h e = absurd (omega arith)
none_rest n false g h e = e

-- the number is 0, so every test is false
pub no_row : (rs : List Row) → numbered rs ≡ true → first rs ≡ 0 → (i : ℕ) → (get_or rs i (0 if false)).test ≡ false
no_row [] p e i = refl
no_row (r ∷ rs) p e zero = none_test r.number r.test (first rs) (ltb-true 0 r.number (true_left _ _ p)) e
no_row (r ∷ rs) p e (suc i) =
    no_row rs (true_right (ltb 0 r.number) _ p) (none_rest r.number r.test (first rs) (ltb-true 0 r.number (true_left _ _ p)) e) i

-- refused exactly if some row fits
row_fits : (n : ℕ) (b c : Bool) (rest : ℕ) → 0 < n → (¬ (rest ≡ 0)) ↔ (c ≡ true) → (¬ (pick b n rest ≡ 0)) ↔ ((b || c) ≡ true)
row_fits n true c rest h r = (λ k. refl, λ e z. omega arith)
row_fits n false c rest h r = r

pub refused_exactly : (rs : List Row) → numbered rs ≡ true → (¬ (first rs ≡ 0)) ↔ (some_fits rs ≡ true)
refused_exactly [] p = (λ k. absurd (k refl), λ e. absurd (false≢true e))
refused_exactly (r ∷ rs) p =
    row_fits r.number r.test (some_fits rs) (first rs) (ltb-true 0 r.number (true_left _ _ p)) (refused_exactly rs (true_right (ltb 0 r.number) _ p))

-- accepted exactly if none does
row_passes : (n : ℕ) (b c : Bool) (rest : ℕ) → 0 < n → (rest ≡ 0) ↔ (c ≡ false) → (pick b n rest ≡ 0) ↔ ((b || c) ≡ false)
row_passes n true c rest h r = (λ e. absurd (omega arith), λ e. absurd (true≢false e))
row_passes n false c rest h r = r

pub accepted_exactly : (rs : List Row) → numbered rs ≡ true → (first rs ≡ 0) ↔ (some_fits rs ≡ false)
accepted_exactly [] p = (λ e. refl, λ e. refl)
accepted_exactly (r ∷ rs) p =
    row_passes r.number r.test (some_fits rs) (first rs) (ltb-true 0 r.number (true_left _ _ p)) (accepted_exactly rs (true_right (ltb 0 r.number) _ p))

-- the number is at most the largest of the rows
row_within : (n m : ℕ) (b : Bool) (rest : ℕ) → m ≤ n → rest ≤ n → pick b m rest ≤ n
row_within n m true rest h r = h
row_within n m false rest h r = r

pub first_within : (n : ℕ) (rs : List Row) → numbered_to n rs ≡ true → first rs ≤ n
first_within n [] p = omega arith
first_within n (r ∷ rs) p =
    row_within n r.number r.test (first rs) (leb-true r.number n (true_left _ _ p)) (first_within n rs (true_right (leb r.number n) _ p))

-- ---- rows, and more rows behind them
pub numbered_append : (rs ts : List Row) → numbered rs ≡ true → numbered ts ≡ true → numbered (rs ++ ts) ≡ true
numbered_append [] ts p q = q
numbered_append (r ∷ rs) ts p q = true_left (ltb 0 r.number) (numbered rs) p also numbered_append rs ts (true_right (ltb 0 r.number) (numbered rs) p) q

-- where none of all fits, none of the last ones does
pub last_none : (rs ts : List Row) → numbered rs ≡ true → first (rs ++ ts) ≡ 0 → first ts ≡ 0
last_none [] ts p e = e
last_none (r ∷ rs) ts p e =
    last_none rs ts (true_right (ltb 0 r.number) (numbered rs) p)
    (none_rest r.number r.test (first (rs ++ ts)) (ltb-true 0 r.number (true_left _ _ p)) e)

-- the same with other last rows
pub last_other : (rs ts us : List Row) → numbered rs ≡ true → (first ts ≡ 0 → first us ≡ 0) → first (rs ++ ts) ≡ 0 → first (rs ++ us) ≡ 0
last_other [] ts us p k e = k e
last_other (r ∷ rs) ts us p k e =
    let h : 0 < r.number = ltb-true 0 r.number (true_left _ _ p) in
    rw (none_test r.number r.test (first (rs ++ ts)) h e)
    (last_other rs ts us (true_right (ltb 0 r.number) (numbered rs) p) k (none_rest r.number r.test (first (rs ++ ts)) h e))

-- ---- rows and others after them
-- the first that fits, where one does; and that of the others, where none does
pub first_of : (rs others : List Row) → ¬ (first rs ≡ 0) → first rs ≡ first (rs ++ others)
first_of [] others z = absurd (z refl)
first_of (r ∷ rs) others z = go r.test (first_of rs others) z
  where
    go : (x : Bool) → (¬ (first rs ≡ 0) → first rs ≡ first (rs ++ others)) → ¬ (pick x r.number (first rs) ≡ 0)
        → pick x r.number (first rs) ≡ pick x r.number (first (rs ++ others))
    go true h z = refl
    go false h z = h z

pub first_rest : (rs others : List Row) → numbered rs ≡ true → first rs ≡ 0 → first (rs ++ others) ≡ first others
first_rest [] others p e = refl
first_rest (r ∷ rs) others p e = go r.test (first_rest rs others (true_right (ltb 0 r.number) _ p)) e
  where
    go : (x : Bool) → (first rs ≡ 0 → first (rs ++ others) ≡ first others) → pick x r.number (first rs) ≡ 0
        → pick x r.number (first (rs ++ others)) ≡ first others
    go true h e = let l : 0 < r.number = ltb-true 0 r.number (true_left _ _ p) in absurd (omega arith)
    go false h e = h e

-- ---- row by row
-- ---- rows
-- the same test and number, and the rest where the test fails
pub row_same : (n : ℕ) {a : Bool} (b : Bool) {g h : ℕ} → a ≡ b → (b ≡ false → g ≡ h) → pick a n g ≡ pick b n h
row_same n true p q = rw p
row_same n false p q = rw p (q refl)

-- a row that never fits
pub row_none : (n : ℕ) (b : Bool) {g h : ℕ} → b ≡ false → g ≡ h → g ≡ pick b n h
row_none n b p q = rw p q
