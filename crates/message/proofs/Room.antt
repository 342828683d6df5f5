-- How long each part of a message is at most. Assumes nothing.
use Prim.Native.Nat.{ℕ, ◌+◌, ◌-◌, ◌≤◌}
use native.Mathlib.Omega.{arith}
use mathlib.Core.Path.{◌≡◌, refl}
use mathlib.Core.Bool.{Bool, true, false, ◌&&◌}
use mathlib.Core.List.{List, [], ◌∷◌, ◌++◌}
use borrow.Author.Tests.{leb-true}
use lib.Dec.{eqb, ltb, leb}
use lib.ListN.{length, get_or, replicate, length-append, length-replicate}
use Rattle.lists.specs.Ascii.{ascii}
use Rattle.lists.specs.Choice.{pick}
use Rattle.lists.proofs.Tests.{true_left, true_right}
use Rattle.lists.proofs.Sequences.{length_ticks}
use Rattle.rows.specs.Rows.{decimal}
use Rattle.rows.proofs.Laws.{decimal_short}
use Rattle.message.specs.Message.{Sentence, placed, machine_line, sentences, said, lines_before, line_start, line_end, where_line, shown, shown_from, shown_to, shown_byte, dots, shown_line, mark_at, mark_line, place_shown}
use Rattle.message.proofs.Mark.{start_below, from_below}

pick_few : (k : ℕ) (xs ys : List ℕ) (b : Bool) → length xs ≤ k → length ys ≤ k → length (pick b xs ys) ≤ k
pick_few k xs ys true h l = h
pick_few k xs ys false h l = l

more : (xs ys : List ℕ) {a b : ℕ} → length xs ≤ a → length ys ≤ b → length (xs ++ ys) ≤ a + b
more xs ys h l = omega (arith, length-append xs ys, h, l)

pub machine_few : (number place : ℕ) → length (machine_line number place) ≤ 52
machine_few number place =
    let front = ascii "text " ++ decimal number in
    let between = pick (placed number) (ascii " ") (ascii " line ") in
    let n : length between ≤ 6 = pick_few 6 (ascii " ") (ascii " line ") (placed number) (omega arith) (omega arith) in
    let a = more (ascii "text ") (decimal number) {a = 5} (omega arith) (decimal_short number) in
    let b = more (front ++ between) (decimal place) (more front between a n) (decimal_short place) in
    more (front ++ between ++ decimal place) (ascii "\n") {b = 1} b (omega arith)

-- no sentence is longer
abbrev short : List Sentence → Bool
short [] = true
short (s ∷ ss) = leb (length (ascii s.says)) 92 && short ss

said_short : (ss : List Sentence) (n : ℕ) → short ss ≡ true → length (said ss n) ≤ 92
said_short [] n h = omega arith
said_short (s ∷ ss) n h =
    pick_few 92 (ascii s.says) (said ss n) (eqb n s.number) (leb-true (length (ascii s.says)) 92 (true_left (leb (length (ascii s.says)) 92) (short ss) h))
    (said_short ss n (true_right (leb (length (ascii s.says)) 92) (short ss) h))

pub said_few : (n : ℕ) → length (said sentences n) ≤ 92
said_few n = said_short sentences n refl

where_few : (line column : ℕ) → length (where_line line column) ≤ 56
where_few line column =
    let front = ascii "line " ++ decimal line in
    let a = more (ascii "line ") (decimal line) {a = 5} (omega arith) (decimal_short line) in
    let b = more front (ascii ", column ") {b = 9} a (omega arith) in
    let d = more (front ++ ascii ", column ") (decimal column) b (decimal_short column) in
    more (front ++ ascii ", column " ++ decimal column) (ascii ":\n") {b = 2} d (omega arith)

dots_few : (cut : Bool) → length (dots cut) ≤ 3
dots_few true = omega arith
dots_few false = omega arith

line_few : (bs : List ℕ) (s e p : ℕ) → length (shown_line bs s e p) ≤ 79
line_few bs s e p =
    let from = shown_from s e p in
    let to = shown_to s e p in
    let f : ℕ → ℕ = λ i. shown_byte (get_or bs (from + i) 0) in
    let n : length (shown bs from to) ≤ 72 = omega (arith, length_ticks f (to - from)) in
    more _ (ascii "\n") {b = 1} (more _ (dots (ltb to e)) (more (dots (ltb s from)) (shown bs from to) (dots_few _) n) (dots_few _)) (omega arith)

indent_few : (b : Bool) → pick b 3 0 ≤ 3
indent_few true = omega arith
indent_few false = omega arith

mark_few : (s e p : ℕ) → s ≤ p → p ≤ e → length (mark_line s e p) ≤ 77
mark_few s e p h k =
    let b = from_below s e p h k in
    let n : length (replicate (mark_at s e p) 32) ≤ 75 = omega (arith, length-replicate {A = ℕ} (mark_at s e p) 32, b.0, b.1, indent_few (ltb s (shown_from s e p))) in
    more (replicate (mark_at s e p) 32) (ascii "^\n") {b = 2} n (omega arith)

pub place_few : (bs : List ℕ) (p : ℕ) → length (place_shown bs p) ≤ 212
place_few bs p =
    let s = line_start bs p in
    let e = line_end bs p in
    let head = where_line (lines_before bs p + 1) (p - s + 1) in
    let a = more head (shown_line bs s e p) (where_few _ _) (line_few bs s e p) in
    more (head ++ shown_line bs s e p) (mark_line s e p) a (mark_few s e p (start_below bs p) (omega arith))
