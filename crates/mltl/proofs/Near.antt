-- The near distance beside the delay, and what the simplifying laws do to it. Assumes nothing.
use Prim.Native.Nat.{ℕ, ◌+◌, ◌≤◌, min}
use native.Mathlib.Omega.{arith}
use mathlib.Core.Path.{◌≡◌, refl}
use mathlib.Core.Bool.{Bool, true}
use borrow.Author.Tests.{leb-true}
use lib.Dec.{leb}
use Rattle.lists.proofs.Tests.{true_left, true_right}
use Rattle.mltl.specs.Mltl.{Formula, signal, const, neg, and, or, F, G, U, R, delay_by, delay, near, ordered}
use Rattle.mltl.proofs.Delays.{until_right}

-- it is at most the delay
pub near_within : (f : Formula) → ordered f ≡ true → near f ≤ delay f
unfolding near ordered delay_by
near_within (signal s) h = omega arith
near_within (const b) h = omega arith
near_within (neg a) h = near_within a h
near_within (and a b) h = let p = near_within a (true_left _ _ h) in let q = near_within b (true_right (ordered a) _ h) in omega arith
near_within (or a b) h = let p = near_within a (true_left _ _ h) in let q = near_within b (true_right (ordered a) _ h) in omega arith
near_within (F lo hi a) h = let l = leb-true lo hi (true_left _ _ h) in let p = near_within a (true_right (leb lo hi) _ h) in omega arith
near_within (G lo hi a) h = let l = leb-true lo hi (true_left _ _ h) in let p = near_within a (true_right (leb lo hi) _ h) in omega arith
near_within (U lo hi a b) h =
    let l = leb-true lo hi (true_left _ _ h) in
    let p = near_within b (true_right (ordered a) _ (true_right (leb lo hi) _ h)) in
    omega (arith, until_right lo hi (delay a) (delay b))
near_within (R lo hi a b) h =
    let l = leb-true lo hi (true_left _ _ h) in
    let p = near_within b (true_right (ordered a) _ (true_right (leb lo hi) _ h)) in
    omega (arith, until_right lo hi (delay a) (delay b))

-- ---- what the simplifying laws do to it, over the operator: one that makes it of its operands' as and does, as F, or as U
abbrev AsAnd : (Formula → Formula → Formula) → Type 0
AsAnd C = (a b : Formula) → near (C a b) ≡ min (near a) (near b)

abbrev AsF : (ℕ → ℕ → Formula → Formula) → Type 0
AsF T = (lo hi : ℕ) (a : Formula) → near (T lo hi a) ≡ lo + near a

abbrev AsU : (ℕ → ℕ → Formula → Formula → Formula) → Type 0
AsU S = (lo hi : ℕ) (a b : Formula) → near (S lo hi a b) ≡ lo + min (near a) (near b)

pub not_not_keeps : (a : Formula) → near a ≡ near (neg (neg a))
unfolding near
not_not_keeps a = refl

-- not of a constant, and any constant for another
pub constant_keeps : (b c : Bool) → near (const b) ≡ near (neg (const c))
unfolding near
constant_keeps b c = refl

constant_zero : (b : Bool) → near (const b) ≡ 0
unfolding near
constant_zero b = refl

-- and, or, with their sides exchanged too: of one node twice, and beside a constant, where a formula or a constant stays
pub exchanged : (C : Formula → Formula → Formula) → AsAnd C → AsAnd (λ a b. C b a)
exchanged C p a b = omega (arith, p b a)

module _ (C : Formula → Formula → Formula) (p : AsAnd C) where
  pub same_keeps : (a : Formula) → near a ≡ near (C a a)
  same_keeps a = omega (arith, p a a)

  pub constant_grows : (a : Formula) (b : Bool) → near (C a (const b)) ≤ near a
  constant_grows a b = omega (arith, p a (const b))

  pub constant_stays : (a : Formula) (b : Bool) → near (const b) ≡ near (C a (const b))
  constant_stays a b = omega (arith, p a (const b), constant_zero b)

  -- two intervals, one inside the other: the outer one stays, or the inner one
  module _ (T : ℕ → ℕ → Formula → Formula) (q : AsF T) (lo hi c d : ℕ) (h : lo ≤ c) (a : Formula) where
    pub outer_keeps : near (T lo hi a) ≡ near (C (T lo hi a) (T c d a))
    outer_keeps = omega (arith, p (T lo hi a) (T c d a), q lo hi a, q c d a)

    pub inner_grows : near (C (T lo hi a) (T c d a)) ≤ near (T c d a)
    inner_grows = omega (arith, p (T lo hi a) (T c d a), q lo hi a, q c d a)

-- F, G: at [0,0], one after another, and of a constant
module _ (T : ℕ → ℕ → Formula → Formula) (q : AsF T) where
  pub now_keeps : (a : Formula) → near a ≡ near (T 0 0 a)
  now_keeps a = omega (arith, q 0 0 a)

  pub twice_keeps : (lo hi c d : ℕ) (a : Formula) → near (T (lo + c) (hi + d) a) ≡ near (T lo hi (T c d a))
  twice_keeps lo hi c d a = omega (arith, q (lo + c) (hi + d) a, q lo hi (T c d a), q c d a)

  pub constant_falls : (lo hi : ℕ) (b : Bool) → near (const b) + lo ≡ near (T lo hi (const b))
  constant_falls lo hi b = omega (arith, q lo hi (const b))

-- U, R: at [0,0], and with a constant on the right
module _ (S : ℕ → ℕ → Formula → Formula → Formula) (q : AsU S) where
  pub right_grows : (a b : Formula) → near (S 0 0 a b) ≤ near b
  right_grows a b = omega (arith, q 0 0 a b)

  pub right_constant_falls : (lo hi : ℕ) (a : Formula) (b : Bool) → near (const b) + lo ≡ near (S lo hi a (const b))
  right_constant_falls lo hi a b = omega (arith, q lo hi a (const b), constant_zero b)

-- which these are
pub as_and : AsAnd and × AsAnd or
unfolding near
as_and = (λ a b. refl, λ a b. refl)

pub as_F : AsF F × AsF G
unfolding near
as_F = (λ lo hi a. refl, λ lo hi a. refl)

pub as_U : AsU U × AsU R
unfolding near
as_U = (λ lo hi a b. refl, λ lo hi a b. refl)
