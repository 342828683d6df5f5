-- Which places fit: the tests, and what they say. Assumes nothing.
use mathlib.Core.Path.{◌≡◌, sym, ap, ◌∙◌}
use mathlib.Core.Logic.{◌⊎◌, inl, inr}
use mathlib.Core.Bool.{Bool, true, false, not, ◌&&◌, ◌||◌, or-true}
use mathlib.Core.List.{List}
use Prim.Native.Nat.{ℕ, ◌+◌, ◌≤◌}
use borrow.Author.Tests.{leb-true, le-leb, not-true}
use lib.Dec.{leb}
use lib.ListN.{length}
use Rattle.lists.specs.Choice.{pick}
use Rattle.lists.proofs.Tests.{true_left, true_right, ◌also◌}
use Rattle.interval.specs.Parts.{bad_interval}
use Rattle.operators.specs.Operators.{one_fits, copy_fits, two_fit, four_fit, Operand}

-- ---- by a test that holds, another list
pub turns : (xs ys : List ℕ) {t : Bool} {zs : List ℕ} → t ≡ true → zs ≡ ys → zs ≡ pick t ys xs
turns xs ys e q = q ∙ sym (ap (λ (t : Bool). pick t ys xs) e)

-- ---- what the tests say
module _ {a b m : ℕ} {xs : List ℕ} where
  pub one_is : one_fits a b m (length xs) ≡ true → Operand a b m xs
  one_is e =
      record {
        before = leb-true (a + m) b (true_left (leb (a + m) b) (leb (b + m) (length xs)) e);
        enough = leb-true (b + m) (length xs) (true_right (leb (a + m) b) (leb (b + m) (length xs)) e);
      }

  pub two_is : {c : ℕ} → two_fit a c b m (length xs) ≡ true → Operand a b m xs × Operand c b m xs
  two_is {c} e =
      let o = one_is (true_left (one_fits a b m (length xs)) (leb (c + m) b) e) in
      (o, record { before = leb-true (c + m) b (true_right (one_fits a b m (length xs)) (leb (c + m) b) e); enough = o.enough })

-- the registers of U and R in n words
pub record Four (a c b l w m n : ℕ) : Type 0 where
  pub left : a + m ≤ b
  pub right : c + m ≤ b
  pub result : b + m ≤ l
  pub copy : l + m ≤ w
  pub work : w + m ≤ n

pub four_is : {a c b l w m n : ℕ} → four_fit a c b l w m n ≡ true → Four a c b l w m n
four_is {a} {c} {b} {l} {w} {m} {n} e =
    let h = true_left (two_fit a c b m l && leb (l + m) w) (leb (w + m) n) e in
    let i = true_left (two_fit a c b m l) (leb (l + m) w) h in
    let j = true_left (one_fits a b m l) (leb (c + m) b) i in
    record {
      left = leb-true (a + m) b (true_left (leb (a + m) b) (leb (b + m) l) j);
      right = leb-true (c + m) b (true_right (one_fits a b m l) (leb (c + m) b) i);
      result = leb-true (b + m) l (true_right (leb (a + m) b) (leb (b + m) l) j);
      copy = leb-true (l + m) w (true_right (two_fit a c b m l) (leb (l + m) w) h);
      work = leb-true (w + m) n (true_right (two_fit a c b m l && leb (l + m) w) (leb (w + m) n) e);
    }

-- places that fit, and an interval that is not refused
module _ (t : Bool) (lo hi : ℕ) (e : (t && not (bad_interval lo hi)) ≡ true) where
  pub places_fit : t ≡ true
  places_fit = true_left t (not (bad_interval lo hi)) e

  pub not_refused : bad_interval lo hi ≡ false
  not_refused = not-true (bad_interval lo hi) (true_right t (not (bad_interval lo hi)) e)

-- ---- what a caller shows
pub one_fits_lem : {a b m : ℕ} {xs : List ℕ} → Operand a b m xs → one_fits a b m (length xs) ≡ true
one_fits_lem {a} {b} {m} {xs} h = le-leb (a + m) b h.before also le-leb (b + m) (length xs) h.enough

-- a copy, of an operand before the result or behind it
pub copy_fits_lem : {a b m : ℕ} {xs : List ℕ} → Operand a b m xs ⊎ Operand b a m xs → copy_fits a b m (length xs) ≡ true
copy_fits_lem {a} {b} {m} {xs} (inl h) = ap (λ (t : Bool). t || one_fits b a m (length xs)) (one_fits_lem h)
copy_fits_lem {a} {b} {m} {xs} (inr h) = ap (λ (t : Bool). one_fits a b m (length xs) || t) (one_fits_lem h) ∙ or-true (one_fits a b m (length xs))

pub two_fit_lem : {a c b m : ℕ} {xs : List ℕ} → Operand a b m xs → Operand c b m xs → two_fit a c b m (length xs) ≡ true
two_fit_lem {a} {c} {b} {m} h k = one_fits_lem h also le-leb (c + m) b k.before

pub four_fit_lem : {a c b l w m n : ℕ} → Four a c b l w m n → four_fit a c b l w m n ≡ true
four_fit_lem {a} {c} {b} {l} {w} {m} {n} h =
    le-leb (a + m) b h.left also le-leb (b + m) l h.result also le-leb (c + m) b h.right also le-leb (l + m) w h.copy also le-leb (w + m) n h.work
