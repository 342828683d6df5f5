-- The operators that have what doubling and widening ask: F and `whole` of one operand, U and `wholeRelease` of two. Assumes nothing.
use mathlib.Core.Path.{◌≡◌, sym, ap, ◌∙◌, subst}
use mathlib.Core.Logic.Iff
use mathlib.Core.Logic.{inl, inr, ⊎_elim}
use mathlib.Core.Bool.{Bool, true, false, ◌||◌, ◌&&◌, false≢true}
use Prim.Native.Nat.{ℕ, ◌+◌, ◌-◌, ◌^◌, ◌≤◌, ◌<◌}
use native.Mathlib.Nat.{zero-add, two-pow-succ}
use native.Mathlib.Numerals.{add-one}
use native.Mathlib.Omega.{arith}
use Rattle.lists.proofs.Tests.{lt_or_le, same_test, and_iff, or_iff}
use Rattle.mltl.specs.Mltl.{eventually, until}
use Rattle.mltl.specs.Known.{whole, whole_release}
use Rattle.mltl.proofs.Readings.{some_tick_iff, every_tick_iff}
use Rattle.mltl.proofs.Operators.{ever, eventually_at, eventually_now, eventually_past, eventually_join, until_now, until_past, until_join, until_split, until_moved}
use Rattle.mltl.proofs.KnownColumns.{until_uncut}
use Rattle.mltl.proofs.Whole.{whole_release_now, whole_release_clear, whole_release_join, whole_release_split, whole_release_moved, whole_now, whole_clear, whole_join, whole_moved}
use Rattle.windows.specs.Windows.{all, any}
pub use Rattle.windows.specs.Laws.{Ends, Unary, Binary}

-- two windows of 2 ^ j ticks
pub twice : (j : ℕ) → 2 ^ j + 2 ^ j ≡ 2 ^ (j + 1)
twice j = sym (two-pow-succ j) ∙ ap (λ (n : ℕ). 2 ^ n) (sym (add-one j))

-- ---- bits all set
module _ (f : ℕ → Bool) (t : ℕ) where
  all_one : all 1 f t ≡ f t
  unfolding all
  all_one = same_test _ _ (every_tick_iff t (t + 1) f) Iff.rfl (λ k. k t (omega arith) (omega arith)) (λ e j x y. subst (λ (i : ℕ). f i ≡ true) (omega arith) e)

  all_none : (m : ℕ) → 0 < m → f t ≡ false → all m f t ≡ false
  unfolding all
  all_none m h z =
      same_test _ _ (every_tick_iff t (t + m) f) Iff.rfl (λ k. sym z ∙ k t (omega arith) (omega arith)) (λ e. absurd (false≢true e))

  all_add : (a b : ℕ) → all (a + b) f t ≡ all a f t && all b f (t + a)
  unfolding all
  all_add a b =
      same_test _ _ (every_tick_iff t (t + (a + b)) f) (and_iff _ _ (every_tick_iff t (t + a) f) (every_tick_iff (t + a) (t + a + b) f))
      (λ k. (λ j x y. k j x (omega arith), λ j x y. k j (omega arith) (omega arith)))
      (λ k j x y. ⊎_elim (λ (l : j < t + a). k.0 j x l) (λ (l : t + a ≤ j). k.1 j l (omega arith)) (lt_or_le j (t + a)))

-- ---- one bit set
module _ (f : ℕ → Bool) (t : ℕ) where
  any_one : any 1 f t ≡ f t
  unfolding any
  any_one =
      same_test _ _ (some_tick_iff t (t + 1) f) Iff.rfl (λ r. subst (λ (i : ℕ). f i ≡ true) (omega arith) r.is)
      (λ e. record { at = t; late = omega arith; early = omega arith; is = e })

  any_none : (m : ℕ) → Ends t f → any m f t ≡ false
  unfolding any
  any_none m z = same_test _ _ (some_tick_iff t (t + m) f) Iff.rfl (λ r. sym (z r.at r.late) ∙ r.is) (λ e. absurd (false≢true e))

  any_add : (a b : ℕ) → any (a + b) f t ≡ any a f t || any b f (t + a)
  unfolding any
  any_add a b =
      same_test _ _ (some_tick_iff t (t + (a + b)) f) (or_iff _ _ (some_tick_iff t (t + a) f) (some_tick_iff (t + a) (t + a + b) f))
      (λ r.
      ⊎_elim (λ (l : r.at < t + a). inl (record { at = r.at; late = r.late; early = l; is = r.is }))
      (λ (l : t + a ≤ r.at). inr (record { at = r.at; late = l; early = omega arith; is = r.is })) (lt_or_le r.at (t + a)))
      (⊎_elim (λ r. record { at = r.at; late = r.late; early = omega arith; is = r.is })
      (λ r. record { at = r.at; late = omega arith; early = omega arith; is = r.is }))

-- ---- F
-- the right operand is clear past n: no interval has to be cut there
until_moved_ends : (n lo v : ℕ) (a b : ℕ → Bool) → Ends n b → (t : ℕ) → until n 0 v (λ i. a (i + lo)) (λ i. b (i + lo)) t ≡ until n lo (lo + v) a b t
until_moved_ends n lo v a b z t =
    until_moved n lo v a b t
    ∙ same_test _ _ (until_uncut lo (lo + v) a {q = b} (λ i h. z i (omega arith)) t) (until_uncut lo (lo + v) a {q = b} z t) (λ s. s) (λ s. s)

pub eventually_laws : Unary eventually ◌||◌
eventually_laws =
    record {
      now = eventually_now;
      ends = λ n v f z t k. eventually_past n 0 v f t (omega arith);
      joined = λ n u by f t p. sym (eventually_join n u by u f t p (omega arith));
      moved = λ n lo v f z t.
          eventually_at n 0 v (λ i. f (i + lo)) t ∙ until_moved_ends n lo v (ever true) f z t ∙ sym (eventually_at n lo (lo + v) f t);
    }

-- ---- every tick of an interval
pub whole_laws : Unary (λ n. whole) ◌&&◌
whole_laws =
    record {
      now = λ n f t h. whole_now f t;
      ends = λ n v f z t k. whole_clear f t 0 v (omega arith) (z (t + 0) (omega arith));
      joined = λ n u by f t p. sym (whole_join f t u by u p (omega arith));
      moved = λ n lo v f z t. whole_moved lo v f t;
    }

-- ---- U
pub until_laws : Binary until all (λ x y z. x || (y && z)) ◌&&◌
unfolding all
until_laws =
    record {
      now = λ n f g t h. until_now n f g t h;
      ends = λ n v f g z t k. until_past n 0 v f g t (omega arith);
      double = λ n w f g t p.
          sym (until_join n (w - 1) w (w - 1) f g t (all w f t) (omega arith) (omega arith) (λ x. every_tick_iff t (t + w) f))
          ∙ ap (λ (v : ℕ). until n 0 v f g t) (let e : w + (w - 1) ≡ w + w - 1 = omega arith in e);
      split = λ n u v f g. sym (subst (λ (w : ℕ). until n 0 (w + v) f g ≡ until n 0 w f (until n 0 v f g)) (zero-add u) (until_split n 0 u v f g));
      moved = until_moved_ends;
      left_one = all_one;
      left_ends = λ n w f p z t k. all_none f t w p (z t k);
      left_double = λ w f t. sym (all_add f t w w);
    }

-- ---- R over the whole interval
pub whole_release_laws : Binary (λ n. whole_release) any (λ x y z. x && (y || z)) ◌||◌
unfolding any
whole_release_laws =
    record {
      now = λ n f g t h. whole_release_now f g t;
      ends = λ n v f g z t k. whole_release_clear f g t 0 v (omega arith) (z (t + 0) (omega arith));
      double = λ n w f g t p.
          sym (whole_release_join f g t (w - 1) w (w - 1) (any w f t) (omega arith) (omega arith) (some_tick_iff t (t + w) f))
          ∙ ap (λ (v : ℕ). whole_release 0 v f g t) (let e : w + (w - 1) ≡ w + w - 1 = omega arith in e);
      split = λ n u v f g. sym (subst (λ (w : ℕ). whole_release 0 (w + v) f g ≡ whole_release 0 w f (whole_release 0 v f g)) (zero-add u) (whole_release_split 0 u v f g));
      moved = λ n lo v f g z t. whole_release_moved lo v f g t;
      left_one = any_one;
      left_ends = λ n w f p z t k. any_none f t w (λ i l. z i (omega arith));
      left_double = λ w f t. sym (any_add f t w w);
    }
