-- The shorter splitting: what `double` returns, and what a caller reads off it. Assumes nothing.
use mathlib.Core.Path.{◌≡◌, ap, ◌∙◌}
use mathlib.Core.Logic.{⊎_elim}
use Rattle.lists.proofs.Tests.{true_or_false}
use mathlib.Core.Bool.{true, false}
use Prim.Native.Nat.{ℕ, ◌+◌, ◌-◌, ◌^◌, ◌≤◌}
use native.Mathlib.Omega.{arith}
use lib.Pow.{pow_pos}
use Rattle.interval.specs.Parts.{top, left, bad_interval}
use Rattle.std.specs.Prelude.{Ok, Err}
use Rattle.refusals.specs.declared.Refusal.{Refusal}
use Rattle.refusals.proofs.Positive.{refusal_above}
use Rattle.interval.specs.declared.Moves.{Moves}
use Rattle.interval.specs.Doubling.{Doubling, double_told, leftover, moves_for, move_count, doubling}
use Rattle.interval.proofs.Laws.{interval_fits, top_largest, top_12}

-- the leftover is what the first splitting leaves of v without its largest part
pub leftover_is : (v : ℕ) → leftover v ≡ left v
unfolding leftover left
leftover_is v = omega (arith, pow_pos (top v))

pub doubling_is : (lo hi : ℕ) {k l n : ℕ} → bad_interval lo hi ≡ false → k ≡ top (hi - lo) → l ≡ left (hi - lo) → n ≡ moves_for k l
    → ◌≡◌ {A = Doubling} (record { number = 0; exponent = k; leftover = l; count = n }) (doubling lo hi)
unfolding doubling move_count
doubling_is lo hi e ek el en = simp (e, leftover_is (hi - lo), en, ek, el)

-- what is answered for an interval that is not refused: a window of 2 ^ exponent ticks joined with itself moved down by the leftover is that of the whole
-- length, and the two have no gap between them
pub record Overlapping (v : ℕ) (d : Doubling) : Type 0 where
  pub small : d.exponent ≤ 12
  pub gapless : d.leftover ≤ (2 ^ d.exponent - 1) + 1
  pub whole : d.leftover + (2 ^ d.exponent - 1) ≡ v

pub overlapping : (lo hi : ℕ) {d : Doubling} → bad_interval lo hi ≡ false → d ≡ doubling lo hi → Overlapping (hi - lo) d
unfolding doubling leftover
overlapping lo hi {d} e q =
    let f = interval_fits lo hi e in
    let v : ℕ = hi - lo in
    let l = top_largest v in
    let s : d ≡ record { number = 0; exponent = top v; leftover = leftover v; count = move_count v } = q ∙ simp e in
    rw s
    (record {
      small = top_12 v (omega arith);
      gapless = omega (arith, l.low, l.high, pow_pos (top v));
      whole = omega (arith, l.low, pow_pos (top v));
    })

-- ---- what the answer says of the interval
pub double_refused : (lo hi : ℕ) (e : Refusal) → double_told (Err e) ≡ doubling lo hi → bad_interval lo hi ≡ true
unfolding doubling
double_refused lo hi e p =
    ⊎_elim (λ (b : bad_interval lo hi ≡ true). b)
    (λ (b : bad_interval lo hi ≡ false). absurd (refusal_above e (ap (λ (x : Doubling). x.number) (simp b at p))))
    (true_or_false (bad_interval lo hi))

pub double_taken : (lo hi : ℕ) {m : Moves} → double_told (Ok m) ≡ doubling lo hi → bad_interval lo hi ≡ false
unfolding doubling
double_taken lo hi {m} p =
    ⊎_elim (λ (b : bad_interval lo hi ≡ true). absurd (let n : ◌≡◌ {A = ℕ} 0 6 = ap (λ (x : Doubling). x.number) (simp b at p) in omega arith))
    (λ (b : bad_interval lo hi ≡ false). b) (true_or_false (bad_interval lo hi))
