-- The operators over a whole interval, ticks not yet seen included: `whole` and `wholeRelease` are G and R on a trace that is long enough, so that their
-- laws are those of U turned round. Assumes nothing.
use Prim.Native.Nat.{ℕ, ◌+◌, ◌≤◌, ◌<◌, min}
use native.Mathlib.Omega.{arith}
use mathlib.Core.Path.{◌≡◌, refl, sym, ap, ap₂, ◌∙◌, fun_ext, subst}
use mathlib.Core.Logic.Iff
use mathlib.Core.Logic.{⊎_elim, ◌↔◌}
use mathlib.Core.Bool.{Bool, true, false, not, ◌&&◌, ◌||◌, false≢true, or-false}
use Rattle.lists.proofs.Tests.{same_test, not_iff, true_or_false}
use Rattle.mltl.specs.Mltl.{some_tick, every_tick, until, opposite}
use Rattle.mltl.specs.Known.{whole, whole_release}
use Rattle.mltl.proofs.Readings.{Some, some_tick_iff, until_iff}
use Rattle.mltl.proofs.Operators.{ever, until_now, until_split, until_join, until_like, until_moved}

not_not : (b : Bool) → not (not b) ≡ b
not_not true = refl
not_not false = refl

-- ---- on a trace that is long enough
module _ (N lo hi : ℕ) (a b : ℕ → Bool) (t : ℕ) (h : t + hi < N) where
  uncut : t + hi + 1 ≡ min N (t + hi + 1)
  uncut = omega arith

  whole_release_at : whole_release lo hi a b t ≡ not (until N lo hi (opposite a) (opposite b) t)
  unfolding whole_release every_tick until opposite
  whole_release_at = ap₂ (λ (e : ℕ) (p : ℕ → Bool). not (some_tick (t + lo) e p)) uncut (fun_ext λ i. dual (b i) i)
    where
      dual : (x : Bool) (i : ℕ) → not (x || some_tick (t + lo) i a) ≡ (not x && not (some_tick (t + lo) i (λ j. not (not (a j)))))
      dual true i = refl
      dual false i = ap (λ (p : ℕ → Bool). not (some_tick (t + lo) i p)) (fun_ext λ j. sym (not_not (a j)))

-- ---- the laws of whole_release
module _ (a b : ℕ → Bool) (t : ℕ) where
  pub whole_release_now : whole_release 0 0 a b t ≡ b t
  unfolding opposite
  whole_release_now =
      whole_release_at (t + 1) 0 0 a b t (omega arith) ∙ ap not (until_now (t + 1) (opposite a) (opposite b) t (omega arith)) ∙ not_not (b t)

  -- the right is wanted at the first tick
  pub whole_release_clear : (lo hi : ℕ) → lo ≤ hi → b (t + lo) ≡ false → whole_release lo hi a b t ≡ false
  unfolding opposite
  whole_release_clear lo hi l e =
      let N : ℕ = t + hi + 1 in
      whole_release_at N lo hi a b t (omega arith)
      ∙ ap not ((until_iff N lo hi (opposite a) (opposite b) t).1 (record {
        at = t + lo;
        late = omega arith;
        early = omega arith;
        inside = omega arith;
        right = ap not e;
        left = λ j x y. absurd (omega arith);
      }))

  -- a window, and a second one w ticks later: `before` says that a holds at one of the w ticks between
  pub whole_release_join : (u w v : ℕ) (before : Bool) → w ≤ u + 1 → u ≤ w + v → (before ≡ true) ↔ Some t (t + w) a
      → whole_release 0 (w + v) a b t ≡ (whole_release 0 u a b t && (before || whole_release 0 v a b (t + w)))
  unfolding opposite
  whole_release_join u w v before p q k =
      let N : ℕ = t + w + v + 1 in
      let A : ℕ → Bool = opposite a in
      let B : ℕ → Bool = opposite b in
      whole_release_at N 0 (w + v) a b t (omega arith)
      ∙ ap not (until_join N u w v A B t (not before) p q (λ l. none))
      ∙ dual (until N 0 u A B t) before (until N 0 v A B (t + w))
      ∙ ap₂ (λ (x y : Bool). x && (before || y)) (sym (whole_release_at N 0 u a b t (omega arith))) (sym (whole_release_at N 0 v a b (t + w) (omega arith)))
    where
      none : (not before ≡ true) ↔ ((j : ℕ) → t ≤ j → j < t + w → not (a j) ≡ true)
      none =
          let n = not_iff before k in (
            λ e j x y. ⊎_elim (λ s. absurd (n.0 e (record { at = j; late = x; early = y; is = s }))) (λ s. ap not s) (true_or_false (a j)),
            λ g. n.1 λ s. false≢true (sym (ap not s.is) ∙ g s.at s.late s.early),
          )

      dual : (x y z : Bool) → not (x || (not y && z)) ≡ (not x && (y || not z))
      dual true y z = refl
      dual false true z = refl
      dual false false z = refl

-- one window after another
pub whole_release_split : (lo u v : ℕ) (a b : ℕ → Bool) → whole_release lo (lo + u + v) a b ≡ whole_release lo (lo + u) a (whole_release 0 v a b)
unfolding opposite
whole_release_split lo u v a b = fun_ext λ t.
    let N : ℕ = t + lo + u + v + 1 in
    let A : ℕ → Bool = opposite a in
    let B : ℕ → Bool = opposite b in
    whole_release_at N lo (lo + u + v) a b t (omega arith)
    ∙ ap (λ (f : ℕ → Bool). not (f t)) (until_split N lo u v A B)
    ∙ ap not (until_like N N lo (lo + u) A (until N 0 v A B) A (opposite (whole_release 0 v a b)) t t λ i j x y e.
    let s : i ≡ j = omega arith in (
      subst (λ (k : ℕ). (i < N) ↔ (k < N)) s Iff.rfl,
      λ l. (
        λ z. ap A s,
        sym (not_not (until N 0 v A B i)) ∙ ap not (sym (whole_release_at N 0 v a b i (omega arith))) ∙ ap (λ (k : ℕ). not (whole_release 0 v a b k)) s,
      ),
    ))
    ∙ sym (whole_release_at N lo (lo + u) a (whole_release 0 v a b) t (omega arith))

-- a window that begins later
pub whole_release_moved : (lo v : ℕ) (a b : ℕ → Bool) (t : ℕ) → whole_release 0 v (λ i. a (i + lo)) (λ i. b (i + lo)) t ≡ whole_release lo (lo + v) a b t
unfolding opposite
whole_release_moved lo v a b t =
    let N : ℕ = t + v + 1 in
    whole_release_at N 0 v (λ i. a (i + lo)) (λ i. b (i + lo)) t (omega arith)
    ∙ ap not (until_moved N lo v (opposite a) (opposite b) t)
    ∙ sym (whole_release_at (N + lo) lo (lo + v) a b t (omega arith))

-- ---- G is R with a left that never holds
never : (f e : ℕ) → some_tick f e (ever false) ≡ false
never f e = same_test _ _ (some_tick_iff f e (ever false)) Iff.rfl (λ r. r.is) (λ z. absurd (false≢true z))

whole_release_lem : (lo hi : ℕ) (b : ℕ → Bool) (t : ℕ) → whole lo hi b t ≡ whole_release lo hi (ever false) b t
unfolding whole whole_release
whole_release_lem lo hi b t = ap (every_tick (t + lo) (t + hi + 1)) (fun_ext λ i. sym (ap (λ (x : Bool). b i || x) (never (t + lo) i) ∙ or-false (b i)))

module _ (b : ℕ → Bool) (t : ℕ) where
  pub whole_now : whole 0 0 b t ≡ b t
  whole_now = whole_release_lem 0 0 b t ∙ whole_release_now (ever false) b t

  pub whole_clear : (lo hi : ℕ) → lo ≤ hi → b (t + lo) ≡ false → whole lo hi b t ≡ false
  whole_clear lo hi l e = whole_release_lem lo hi b t ∙ whole_release_clear (ever false) b t lo hi l e

  -- a window, and a second one w ticks later that begins no later than the tick after it
  pub whole_join : (u w v : ℕ) → w ≤ u + 1 → u ≤ w + v → whole 0 (w + v) b t ≡ (whole 0 u b t && whole 0 v b (t + w))
  whole_join u w v p q =
      simp whole_release_lem (whole_release_join (ever false) b t u w v false p q (λ z. absurd (false≢true z), λ r. r.is))

pub whole_moved : (lo v : ℕ) (b : ℕ → Bool) (t : ℕ) → whole 0 v (λ i. b (i + lo)) t ≡ whole lo (lo + v) b t
whole_moved lo v b t = whole_release_lem 0 v (λ i. b (i + lo)) t ∙ whole_release_moved lo v (ever false) b t ∙ sym (whole_release_lem lo (lo + v) b t)
