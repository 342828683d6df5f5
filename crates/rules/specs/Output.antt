-- What is written for a text: the book of its table, or what is told of its refusal.
use Rattle.std.specs.Prelude.{ℕ, ◌+◌, ◌-◌, ◌≤◌, ◌<◌, ◌≡◌, ◌⊎◌, List, [], ◌++◌, eqb, ltb, length, take, get_or}
use Rattle.refusals.specs.Numbers.{SYNTAX, DEEP}
use Rattle.lists.specs.Choice.{pick}
use Rattle.table.specs.declared.Table.{Table}
use Rattle.book.specs.Reading.{reading, accepted}
use Rattle.book.specs.Writing.{book_of}
use Rattle.grammar.specs.Grammar.{Fault32, Fault33}
use Rattle.text.specs.Typing.{typed}
use Rattle.text.specs.Outcome.{Reached, Outcome}
use Rattle.rows.specs.Rows.{Put}
use Rattle.message.specs.Message.{max_text, machine_line, sentences, said, lines_before, line_start, line_end, where_line, shown_byte, shown_line, mark_at, mark_line, refusal_message, long_message}
use Rattle.rules.specs.declared.Compiled.{Compiled}

-- what goes to standard output, and what to standard error
pub record Output : Type 0 where
  pub book : List ℕ
  pub message : List ℕ

abbrev pub book_only : List ℕ → Output
book_only b = record { book = b; message = [] }

abbrev pub message_only : List ℕ → Output
message_only m = record { book = []; message = m }

unfoldable pub output : List ℕ → Output
output text =
    pick (ltb max_text (length text)) (message_only long_message)
    (pick (eqb (typed text).number 0) (book_only (book_of (typed text).table)) (message_only (refusal_message text (typed text).number (typed text).place)))

-- one of the two is empty, and the other is not
abbrev pub OneEmpty : Output → Type 0
OneEmpty o = (¬ (o.book ≡ []) × (o.message ≡ [])) ⊎ ((o.book ≡ []) × ¬ (o.message ≡ []))

-- ---- the step that makes it: what its two buffers held and hold, and how many of their first bytes are to be written
pub record Compiles (text book message book' message' : List ℕ) (r : Compiled) : Type 0 where
  pub books : Put book 0 (output text).book book' r.book_bytes
  pub tells : Put message 0 (output text).message message' r.message_bytes

-- ---- the place of a fault of syntax: it is in the line that is at fault by the grammar
-- the place p is in the line that begins at the place i and has the number `line`, from 1
pub record InLine (text : List ℕ) (p i line : ℕ) : Type 0 where
  pub counted : lines_before text p + 1 ≡ line
  pub start : line_start text p ≡ i
  pub inside : p ≤ length text

-- the message of a fault at the place p: that line, the column in it, the line itself and the mark
pub record FaultTold (Fault : ℕ → List ℕ → ℕ → Type 0) (text : List ℕ) (number p : ℕ) : Type 0 where
  pub t : Table
  pub i : ℕ
  pub line : ℕ
  pub bs : List ℕ
  pub reached : Reached text t i line bs
  pub fault : Fault i bs p
  pub in_line : InLine text p i line
  pub message : refusal_message text number p
      ≡ machine_line number p ++ said sentences number ++ (where_line line (p - i + 1) ++ shown_line text i (line_end text p) p ++ mark_line i (line_end text p) p)
  -- above the mark stands the byte of the place; where that is the line's end, the mark stands behind its last byte
  pub above : p < line_end text p → get_or (shown_line text i (line_end text p) p) (mark_at i (line_end text p) p) 0 ≡ shown_byte (get_or text p 0)
  pub behind : p ≡ line_end text p → length (shown_line text i (line_end text p) p) ≡ mark_at i (line_end text p) p + 1

-- ---- what is relied on
pub record Relied : Type 0 where
  -- what is handed to be written
  pub handed : (text book message book' message' : List ℕ) (r : Compiled) → Compiles text book message book' message' r
      → (take r.book_bytes book' ≡ (output text).book) × (take r.message_bytes message' ≡ (output text).message)
  -- of a text that is accepted: the book of its table, which is read as that table
  pub of_accepted : (text : List ℕ) → length text ≤ max_text → (typed text).number ≡ 0
      → (output text ≡ book_only (book_of (typed text).table)) × (reading (output text).book ≡ accepted (typed text).table)
  -- of one that is refused: no book, and the message of its refusal, which has a sentence
  pub of_refused : (text : List ℕ) → length text ≤ max_text → ¬ ((typed text).number ≡ 0)
      → output text ≡ message_only (refusal_message text (typed text).number (typed text).place)
  pub sentence : (text : List ℕ) → ¬ ((typed text).number ≡ 0) → ¬ (said sentences (typed text).number ≡ [])
  pub of_long : (text : List ℕ) → max_text < length text → output text ≡ message_only long_message
  pub one : (text : List ℕ) → OneEmpty (output text)
  -- which texts are refused, and where, by the grammar
  pub outcome : (text : List ℕ) → Outcome text (typed text)
  -- what is told of the place of a fault of syntax
  pub syntax : (text : List ℕ) → length text ≤ max_text → (typed text).number ≡ SYNTAX → FaultTold Fault32 text SYNTAX (typed text).place
  pub deep : (text : List ℕ) → length text ≤ max_text → (typed text).number ≡ DEEP → FaultTold Fault33 text DEEP (typed text).place
