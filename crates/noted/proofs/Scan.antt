-- The first no, word by word: the clear bit of a word by its trailing ones, and the verdicts of the words that are passed by. Assumes nothing.
use Prim.Native.Nat.{ℕ, zero, suc, ◌+◌, ◌-◌, ◌*◌, ◌/◌, ◌%◌, ◌^◌, ◌≤◌, ◌<◌, min}
use native.Mathlib.Omega.{arith}
use mathlib.Core.Path.{◌≡◌, refl, sym, ap, ◌∙◌}
use mathlib.Core.Bool.{Bool, true, false}
use mathlib.Core.List.{List, [], ◌∷◌, ◌++◌}
use mathlib.Core.Logic.{⊎_elim}
use lib.Count.{count_trailing_zeros}
use lib.ListN.{length, get_or}
use Rattle.lists.specs.Sequence.{ticks}
use Rattle.lists.specs.Bits.{bit, bit_at}
use Rattle.lists.proofs.Tests.{lt_or_le}
use Rattle.lists.proofs.Sequences.{length_ticks, ticks_add, ticks_ext}
use Rattle.lists.proofs.Bits.{bit_zero, bit_suc, half, not_half, not_last}
use Rattle.lists.proofs.Columns.{bit_at_at, bit_at_past}
use Rattle.noted.specs.Noted.{place_of_no}

-- ---- verdicts after others
place_within : (vs us : List Bool) → place_of_no vs < length vs → place_of_no (vs ++ us) ≡ place_of_no vs
place_within [] us h = absurd (omega arith)
place_within (true ∷ vs) us h = ap suc (place_within vs us (omega arith))
place_within (false ∷ vs) us h = refl

place_past : (vs us : List Bool) → place_of_no vs ≡ length vs → place_of_no (vs ++ us) ≡ length vs + place_of_no us
place_past [] us h = omega arith
place_past (true ∷ vs) us h = let e = place_past vs us (omega arith) in omega arith
place_past (false ∷ vs) us h = absurd (omega arith)

-- ---- one word: its first clear bit among n
module _ (k x n : ℕ) (h : x < 2 ^ suc k) (rest : place_of_no (ticks (bit (x / 2)) n) ≡ min (count_trailing_zeros k ((2 ^ k - 1) - x / 2)) n) where
  later : ticks (λ i. bit x (suc i)) n ≡ ticks (bit (x / 2)) n
  later = ticks_ext (λ i. bit x (suc i)) (bit (x / 2)) n (λ i l. bit_suc x i)

  last_yes : x % 2 ≡ 1 → place_of_no (ticks (bit x) (suc n)) ≡ min (count_trailing_zeros (suc k) ((2 ^ suc k - 1) - x)) (suc n)
  unfolding count_trailing_zeros
  last_yes e =
      rw (bit_zero x, e, later, rest, not_last k x h, e, not_half k x h) (omega arith)

  last_no : x % 2 ≡ 0 → place_of_no (ticks (bit x) (suc n)) ≡ min (count_trailing_zeros (suc k) ((2 ^ suc k - 1) - x)) (suc n)
  unfolding count_trailing_zeros
  last_no e = rw (bit_zero x, e, not_last k x h, e) (omega arith)

clear_bit : (k x n : ℕ) → x < 2 ^ k → n ≤ k → place_of_no (ticks (bit x) n) ≡ min (count_trailing_zeros k ((2 ^ k - 1) - x)) n
clear_bit k x zero h l = omega arith
clear_bit zero x (suc n) h l = absurd (omega arith)
clear_bit (suc k) x (suc n) h l =
    let rest = clear_bit k (x / 2) n (half k x h) (omega arith) in
    ⊎_elim (λ (e : x % 2 < 1). last_no k x n h rest (omega arith)) (λ (e : 1 ≤ x % 2). last_yes k x n h rest (omega arith)) (lt_or_le (x % 2) 1)

-- ---- word w of the words, of which the count has `left` verdicts left
abbrev pub from : List ℕ → ℕ → ℕ → Bool
from ws w i = bit_at ws (64 * w + i)

-- all verdicts before word w are yes
pub record Passed (ws : List ℕ) (count w : ℕ) : Type 0 where
  pub few : 64 * w ≤ count
  pub place : place_of_no (ticks (bit_at ws) count) ≡ 64 * w + place_of_no (ticks (from ws w) (count - 64 * w))

pub passed_none : (ws : List ℕ) (count : ℕ) → Passed ws count 0
passed_none ws count = record {
  few = omega arith;
  place =
      let n : count - 0 ≡ count = omega arith in
      let e : place_of_no (ticks (from ws 0) (count - 0)) ≡ place_of_no (ticks (bit_at ws) count) =
      ap (λ (k : ℕ). place_of_no (ticks (from ws 0) k)) n ∙ ap place_of_no (ticks_ext (from ws 0) (bit_at ws) count (λ i l. ap (bit_at ws) (omega arith))) in
      omega arith;
}

-- no verdict is yes past the words
pub passed_all : (ws : List ℕ) (count : ℕ) → Passed ws count (length ws) → place_of_no (ticks (bit_at ws) count) ≡ 64 * length ws
passed_all ws count p = let e = beyond (count - 64 * length ws) in omega (arith, p.place)
  where
    beyond : (n : ℕ) → place_of_no (ticks (from ws (length ws)) n) ≡ 0
    beyond zero = refl
    beyond (suc n) = rw (bit_at_past ws (64 * length ws + 0) (omega arith))

module _ (ws : List ℕ) (count w : ℕ) {yes : ℕ} (small : get_or ws w 0 < 2 ^ 64) (ones : yes ≡ count_trailing_zeros 64 ((2 ^ 64 - 1) - get_or ws w 0)) (p : Passed ws count w) where
  abbrev left : ℕ
  left = count - 64 * w

  first_word : (n : ℕ) → n ≤ 64 → place_of_no (ticks (from ws w) n) ≡ min yes n
  first_word n l =
      ap place_of_no (ticks_ext (from ws w) (bit (get_or ws w 0)) n (λ i h. bit_at_at ws (64 * w + i) w i refl (omega arith)))
      ∙ clear_bit 64 (get_or ws w 0) n small l ∙ ap (λ (y : ℕ). min y n) (sym ones)

  -- the verdicts of the word, and those behind it
  abbrev behind : List Bool
  behind = ticks (λ i. from ws w (64 + i)) (left - 64)

  cut : 64 ≤ left → ticks (from ws w) left ≡ ticks (from ws w) 64 ++ behind
  cut l = ap (ticks (from ws w)) (sym split) ∙ ticks_add (from ws w) 64 (left - 64)
    where
      split : 64 + (left - 64) ≡ left
      split = omega arith

  pub found_last : left ≤ 64 → 64 * w + min yes left ≡ place_of_no (ticks (bit_at ws) count)
  found_last l = let e = first_word left l in omega (arith, p.place)

  found_inside : yes < 64 → 64 ≤ left → 64 * w + min yes left ≡ place_of_no (ticks (bit_at ws) count)
  found_inside y l =
      let f = first_word 64 (omega arith) in
      let n : length (ticks (from ws w) 64) ≡ 64 = length_ticks (from ws w) 64 in
      let e : place_of_no (ticks (from ws w) left) ≡ place_of_no (ticks (from ws w) 64) = ap place_of_no (cut l) ∙ place_within (ticks (from ws w) 64) behind (omega arith) in
      omega (arith, p.place)

  -- all its verdicts are yes, and others follow
  pub pass : 64 ≤ yes → 64 ≤ left → Passed ws count (w + 1)
  pass y l =
      let f = first_word 64 (omega arith) in
      let n : length (ticks (from ws w) 64) ≡ 64 = length_ticks (from ws w) 64 in
      let e : place_of_no (ticks (from ws w) left) ≡ length (ticks (from ws w) 64) + place_of_no behind =
      ap place_of_no (cut l) ∙ place_past (ticks (from ws w) 64) behind (omega arith) in
      let m : left - 64 ≡ count - 64 * (w + 1) = omega arith in
      let b : place_of_no behind ≡ place_of_no (ticks (from ws (w + 1)) (count - 64 * (w + 1))) =
      ap place_of_no (ticks_ext (λ i. from ws w (64 + i)) (from ws (w + 1)) (left - 64) (λ i h. ap (bit_at ws) (omega arith)))
      ∙ ap (λ (k : ℕ). place_of_no (ticks (from ws (w + 1)) k)) m in
      record { few = omega arith; place = omega (arith, p.place) }

  pub found_few : yes < 64 → 64 * w + min yes left ≡ place_of_no (ticks (bit_at ws) count)
  found_few y = ⊎_elim (λ (l : 64 < left). found_inside y (omega arith)) (λ (l : left ≤ 64). found_last l) (lt_or_le 64 left)
