-- The message of a refusal in its parts. Assumes nothing.
use Prim.Native.Nat.{ℕ, ◌≤◌, min}
use native.Mathlib.Omega.{arith}
use mathlib.Core.Path.{◌≡◌, ap}
use mathlib.Core.Bool.{true, false, ◌&&◌}
use mathlib.Core.List.{List, [], ◌++◌, append-nil}
use borrow.Author.Tests.{le-leb}
use lib.Dec.{leb}
use lib.ListN.{length, length-append}
use Rattle.lists.specs.Ascii.{ascii}
use Rattle.lists.specs.Choice.{pick}
use Rattle.rows.specs.Rows.{decimal}
use Rattle.message.specs.Message.{max_text, placed, machine_line, sentences, said, place_shown, refusal_message}

module _ (bs : List ℕ) (number place : ℕ) where
  -- without its place, and with it
  pub message_short : (placed number && leb (length bs) max_text) ≡ false → refusal_message bs number place ≡ machine_line number place ++ said sentences number
  unfolding refusal_message
  message_short e = rw (e, append-nil (machine_line number place ++ said sentences number))

  pub message_at : placed number ≡ true → length bs ≤ max_text → {p : ℕ} → p ≡ min place (length bs)
      → refusal_message bs number place ≡ machine_line number place ++ said sentences number ++ place_shown bs p
  unfolding refusal_message
  message_at e h {p} w =
      let chosen : pick (placed number && leb (length bs) max_text) (place_shown bs (min place (length bs))) [] ≡ place_shown bs p = rw (e, le-leb (length bs) max_text h, ← w) in
      rw chosen

  -- it is never empty
  line_some : 1 ≤ length (machine_line number place)
  line_some = omega (arith, length-append (ascii "text " ++ decimal number ++ pick (placed number) (ascii " ") (ascii " line ") ++ decimal place) (ascii "\n"))

  pub message_some : ¬ (refusal_message bs number place ≡ [])
  unfolding refusal_message
  message_some e =
      let a = length-append (machine_line number place ++ said sentences number) (pick (placed number && leb (length bs) max_text) (place_shown bs (min place (length bs))) []) in
      let b = length-append (machine_line number place) (said sentences number) in
      let c = line_some in
      let n : ◌≡◌ {A = ℕ} (length (refusal_message bs number place)) 0 = ap length e in
      omega (arith, a, b, c, n)
