-- What doubling and widening ask of an operator.
use Rattle.std.specs.Prelude.{◌≡◌, Bool, false, ℕ, ◌+◌, ◌-◌, ◌≤◌, ◌<◌}

-- a column that is clear from n on
abbrev pub Ends : ℕ → (ℕ → Bool) → Type 0
Ends n f = (t : ℕ) → n ≤ t → f t ≡ false

-- ---- the laws
-- of an operator of one operand, by the number n of ticks and its interval: two windows of u + 1 ticks joined, of which the second begins no later than the
-- tick after the first, are one window
pub record Unary (W : ℕ → ℕ → ℕ → (ℕ → Bool) → ℕ → Bool) (join : Bool → Bool → Bool) : Type 0 where
  pub now : (n : ℕ) (f : ℕ → Bool) (t : ℕ) → t < n → W n 0 0 f t ≡ f t
  pub ends : (n v : ℕ) (f : ℕ → Bool) → Ends n f → Ends n (W n 0 v f)
  pub joined : (n u by : ℕ) (f : ℕ → Bool) (t : ℕ) → by ≤ u + 1 → join (W n 0 u f t) (W n 0 u f (t + by)) ≡ W n 0 (by + u) f t
  pub moved : (n lo v : ℕ) (f : ℕ → Bool) → Ends n f → (t : ℕ) → W n 0 v (λ i. f (i + lo)) t ≡ W n lo (lo + v) f t

-- of one of two operands: Q, all or any, of the left one's w ticks tells how the second window counts
pub record Binary (W : ℕ → ℕ → ℕ → (ℕ → Bool) → (ℕ → Bool) → ℕ → Bool) (Q : ℕ → (ℕ → Bool) → ℕ → Bool) (step : Bool → Bool → Bool → Bool)
    (join : Bool → Bool → Bool) : Type 0 where
  pub now : (n : ℕ) (f g : ℕ → Bool) (t : ℕ) → t < n → W n 0 0 f g t ≡ g t
  pub ends : (n v : ℕ) (f g : ℕ → Bool) → Ends n g → Ends n (W n 0 v f g)
  pub double : (n w : ℕ) (f g : ℕ → Bool) (t : ℕ) → 0 < w → step (W n 0 (w - 1) f g t) (Q w f t) (W n 0 (w - 1) f g (t + w)) ≡ W n 0 (w + w - 1) f g t
  pub split : (n u v : ℕ) (f g : ℕ → Bool) → W n 0 u f (W n 0 v f g) ≡ W n 0 (u + v) f g
  pub moved : (n lo v : ℕ) (f g : ℕ → Bool) → Ends n g → (t : ℕ) → W n 0 v (λ i. f (i + lo)) (λ i. g (i + lo)) t ≡ W n lo (lo + v) f g t
  pub left_one : (f : ℕ → Bool) (t : ℕ) → Q 1 f t ≡ f t
  pub left_ends : (n w : ℕ) (f : ℕ → Bool) → 0 < w → Ends n f → Ends n (Q w f)
  pub left_double : (w : ℕ) (f : ℕ → Bool) (t : ℕ) → join (Q w f t) (Q w f (t + w)) ≡ Q (w + w) f t
