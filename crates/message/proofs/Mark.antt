-- The mark stands under the place. Assumes nothing.
use Prim.Native.Nat.{ℕ, zero, suc, ◌+◌, ◌-◌, ◌≤◌, ◌<◌, min}
use native.Mathlib.Omega.{arith}
use mathlib.Core.Path.{◌≡◌, refl, sym, ap, ◌∙◌}
use mathlib.Core.Logic.{⊎_elim}
use mathlib.Core.Bool.{Bool, true, false}
use mathlib.Core.List.{List, ◌++◌}
use borrow.Author.Tests.{lt-ltb, le-ltb}
use lib.Dec.{eqb, ltb}
use lib.ListN.{length, get_or, length-append, get_or-append}
use lib.Seq.{get_or-append-add}
use Rattle.lists.specs.Ascii.{ascii}
use Rattle.lists.specs.Choice.{pick}
use Rattle.lists.specs.Sequence.{ticks}
use Rattle.lists.proofs.Tests.{lt_or_le}
use Rattle.lists.proofs.Sequences.{length_ticks, get_or_ticks}
use Rattle.message.specs.Message.{line_start, shown_bytes, shown_from, shown_to, shown_byte, dots, shown_line, mark_at}

-- a line begins at the place or before it
pub start_below : (bs : List ℕ) (p : ℕ) → line_start bs p ≤ p
unfolding line_start
start_below bs zero = omega arith
start_below bs (suc p) = go (eqb (get_or bs p 0) 10) (start_below bs p)
  where
    go : (b : Bool) → line_start bs p ≤ p → pick b (suc p) (line_start bs p) ≤ suc p
    go true h = omega arith
    go false h = omega arith

-- a place of a line is shown, and so is the line's end where it is the place
pub from_below : (s e p : ℕ) → s ≤ p → p ≤ e → (shown_from s e p ≤ p) × (min (p + 1) e ≤ shown_from s e p + shown_bytes)
from_below s e p h k =
    ⊎_elim
    (λ (l : shown_bytes < e - s). rw (lt-ltb shown_bytes (e - s) l) (omega arith, omega arith))
    (λ (l : e - s ≤ shown_bytes). rw (le-ltb shown_bytes (e - s) l) (omega arith, omega arith))
    (lt_or_le shown_bytes (e - s))

dots_length : (cut : Bool) → length (dots cut) ≡ pick cut 3 0
dots_length true = refl
dots_length false = refl

-- THE LAWS: in the line that is shown, the byte of the place stands above the mark
pub under_place : (bs : List ℕ) (s e p : ℕ) → s ≤ p → p < e → get_or (shown_line bs s e p) (mark_at s e p) 0 ≡ shown_byte (get_or bs p 0)
under_place bs s e p h k =
    let from = shown_from s e p in
    let n = shown_to s e p - from in
    let f : ℕ → ℕ = λ i. shown_byte (get_or bs (from + i) 0) in
    let d = dots (ltb s from) in
    let x = dots (ltb (shown_to s e p) e) in
    let b = from_below s e p h (omega arith) in
    let i : p - from < n = omega (arith, b.0, b.1) in
    let at : mark_at s e p ≡ length d + (p - from) = ap (λ (j : ℕ). j + (p - from)) (sym (dots_length (ltb s from))) in
    let l : length (d ++ ticks f n) ≡ length d + n = length-append d (ticks f n) ∙ ap (λ (j : ℕ). length d + j) (length_ticks f n) in
    let w : length (d ++ ticks f n ++ x) ≡ length d + n + length x = length-append (d ++ ticks f n) x ∙ ap (λ (j : ℕ). j + length x) l in
    let same : from + (p - from) ≡ p = omega (arith, b.0) in
    ap (λ (j : ℕ). get_or (d ++ ticks f n ++ x ++ ascii "\n") j 0) at
    ∙ get_or-append (d ++ ticks f n ++ x) (ascii "\n") 0 (length d + (p - from)) (omega (arith, w, i))
    ∙ get_or-append (d ++ ticks f n) x 0 (length d + (p - from)) (omega (arith, l, i))
    ∙ get_or-append-add d (ticks f n) (p - from) 0
    ∙ get_or_ticks f n (p - from) 0 i
    ∙ ap (λ (j : ℕ). shown_byte (get_or bs j 0)) same

-- and where the place is the line's end, the mark stands behind its last byte
pub behind_line : (s e : ℕ) → s ≤ e → (bs : List ℕ) → length (shown_line bs s e e) ≡ mark_at s e e + 1
behind_line s e h bs =
    let from = shown_from s e e in
    let to = shown_to s e e in
    let f : ℕ → ℕ = λ i. shown_byte (get_or bs (from + i) 0) in
    let d = dots (ltb s from) in
    let b = from_below s e e h (omega arith) in
    let t : to ≡ e = omega (arith, b.1) in
    let x : length (dots (ltb to e)) ≡ 0 = rw (t, le-ltb e e (omega arith)) refl in
    let l = length-append d (ticks f (to - from)) ∙ ap (λ (j : ℕ). length d + j) (length_ticks f (to - from)) in
    let w = length-append (d ++ ticks f (to - from)) (dots (ltb to e)) in
    let z = length-append (d ++ ticks f (to - from) ++ dots (ltb to e)) (ascii "\n") in
    let k = dots_length (ltb s from) in
    omega (arith, l, w, z, x, k, t, b.0)
