-- What is relied on of the program. Assumes nothing.
use Prim.Native.Nat.{ℕ, ◌-◌, ◌+◌, ◌≤◌, ◌<◌, min}
use native.Mathlib.Omega.{arith}
use mathlib.Core.Path.{◌≡◌, refl, sym, ap, subst, ◌∙◌}
use mathlib.Core.Logic.{inl, inr, ⊎_elim}
use mathlib.Core.Bool.{Bool, true, false, false≢true}
use mathlib.Core.List.{List, [], ◌++◌}
use borrow.Author.Tests.{eqb-true, eqb-false, ne_eqb}
use lib.Dec.{eqb}
use lib.ListN.{length, get_or}
use Rattle.refusals.specs.Numbers.{SYNTAX, DEEP}
use Rattle.lists.specs.Sequence.{among}
use Rattle.lists.proofs.Tests.{lt_or_le}
use Rattle.table.specs.declared.Table.{Table}
use Rattle.book.specs.Reading.{reading, accepted}
use Rattle.book.specs.Writing.{book_of, book_length}
use Rattle.book.proofs.Writes.{length_book}
use Rattle.book.proofs.Complete.{sound_reads}
use Rattle.grammar.specs.Grammar.{Fault32, Fault33}
use Rattle.text.specs.Typing.{Typed, typed}
use Rattle.text.specs.Outcome.{Reached, line_faults, Outcome, empty, byte, deep, faulty, whole}
use Rattle.text.proofs.Outcomes.{outcome}
use Rattle.text.proofs.Numbers.{line_answer, numbers}
use Rattle.text.proofs.Sounds.{typed_sound}
use Rattle.rows.proofs.Laws.{put_bytes}
use Rattle.message.specs.Message.{max_text, placed, machine_line, sentences, said, line_end, where_line, shown_byte, shown_line, mark_at, mark_line, refusal_message}
use Rattle.message.proofs.Whole.{message_at, message_some}
use Rattle.message.proofs.Sentences.{sentence_some}
use Rattle.message.proofs.Mark.{start_below, under_place, behind_line}
use Rattle.rules.specs.Output.{Output, OneEmpty, output, InLine, FaultTold, Relied}
use Rattle.rules.proofs.Laws.{output_long, output_refused, output_book}
use Rattle.rules.proofs.Places.{in_line_32, in_line_33}

-- ---- the message of a fault of syntax
module _ {text : List ℕ} (short : length text ≤ max_text) {p i line : ℕ} (w : InLine text p i line) where
  shown_as : (number : ℕ) → placed number ≡ true
      → refusal_message text number p ≡ machine_line number p ++ said sentences number ++ (where_line line (p - i + 1) ++ shown_line text i (line_end text p) p ++ mark_line i (line_end text p) p)
  shown_as number e =
      let m : p ≡ min p (length text) = omega (arith, w.inside) in
      rw (message_at text number p e short m, w.counted, w.start)

  above_mark : p < line_end text p → get_or (shown_line text i (line_end text p) p) (mark_at i (line_end text p) p) 0 ≡ shown_byte (get_or text p 0)
  above_mark h = under_place text i (line_end text p) p (rw w.start at (start_below text p)) h

  behind_mark : p ≡ line_end text p → length (shown_line text i (line_end text p) p) ≡ mark_at i (line_end text p) p + 1
  behind_mark h = ends (line_end text p) h
    where
      ends : (e : ℕ) → p ≡ e → length (shown_line text i e p) ≡ mark_at i e p + 1
      ends e h = rw (← h) (behind_line i p (rw w.start at (start_below text p)) text)

-- a line at fault as for books has another number
other : (n : ℕ) {m : ℕ} → among n line_faults ≡ true → n ≡ m → among m line_faults ≡ true
other n h e = rw e at h

module _ {text : List ℕ} (short : length text ≤ max_text) where
  fault_told : {Fault : ℕ → List ℕ → ℕ → Type 0} {t : Table} {i line p : ℕ} {bs : List ℕ} (number : ℕ) → placed number ≡ true → Reached text t i line bs → Fault i bs p → InLine text p i line
      → FaultTold Fault text number p
  fault_told {t = t} {i = i} {line = line} {bs = bs} number e r f w = record {
    t = t;
    i = i;
    line = line;
    bs = bs;
    reached = r;
    fault = f;
    in_line = w;
    message = shown_as short w number e;
    above = above_mark short w;
    behind = behind_mark short w;
  }

  syntax_told : {x : Typed} → Outcome text x → x.number ≡ SYNTAX → FaultTold Fault32 text SYNTAX x.place
  syntax_told (empty e) z = absurd (omega arith)
  syntax_told (byte r n f) z = fault_told SYNTAX refl r f (in_line_32 r f)
  syntax_told (deep r f) z = absurd (omega arith)
  syntax_told (faulty {n = n} {f = f} r l y) z = absurd (false≢true (other _ (line_answer r n f y) z))
  syntax_told (whole n r) z = absurd (omega arith)

  deep_told : {x : Typed} → Outcome text x → x.number ≡ DEEP → FaultTold Fault33 text DEEP x.place
  deep_told (empty e) z = absurd (omega arith)
  deep_told (byte r n f) z = absurd (omega arith)
  deep_told (deep r f) z = fault_told DEEP refl r f (in_line_33 r f)
  deep_told (faulty {n = n} {f = f} r l y) z = absurd (false≢true (other _ (line_answer r n f y) z))
  deep_told (whole n r) z = absurd (omega arith)

-- ---- the book
read_as : (text : List ℕ) → length text ≤ max_text → (typed text).number ≡ 0 → reading (output text).book ≡ accepted (typed text).table
read_as text h z = ap (λ (o : Output). reading o.book) (output_book text h z) ∙ sound_reads (typed text).table (typed_sound text z)

-- ---- a book has bytes, as a message has
book_some : (t : Table) → ¬ (book_of t ≡ [])
book_some t e = let n : ◌≡◌ {A = ℕ} (book_length t) 0 = sym (length_book t) ∙ ap length e in omega arith

one_empty : (text : List ℕ) → OneEmpty (output text)
one_empty text = ⊎_elim (λ (h : max_text < length text). by (output_long text h) (inr (refl, λ e. let n : ◌≡◌ {A = ℕ} 39 0 = ap length e in omega arith))) (go (eqb (typed text).number 0) refl) (lt_or_le max_text (length text))
  where
    by : {o : Output} → output text ≡ o → OneEmpty o → OneEmpty (output text)
    by e p = subst OneEmpty (sym e) p

    go : (b : Bool) → eqb (typed text).number 0 ≡ b → length text ≤ max_text → OneEmpty (output text)
    go true e h = by (output_book text h (eqb-true (typed text).number 0 e)) (inl (book_some (typed text).table, refl))
    go false e h = by (output_refused text h (eqb-false (typed text).number 0 e)) (inr (refl, message_some text (typed text).number (typed text).place))

-- THE THEOREM
pub relied : Relied
relied = record {
  handed = λ text book message book' message' r c. (put_bytes c.books, put_bytes c.tells);
  of_accepted = λ text h z. (output_book text h z, read_as text h z);
  of_refused = output_refused;
  sentence = λ text z. sentence_some (typed text).number (rw (ne_eqb (typed text).number 0 z) at (numbers text));
  of_long = output_long;
  one = one_empty;
  outcome = outcome;
  syntax = λ text h z. syntax_told h (outcome text) z;
  deep = λ text h z. deep_told h (outcome text) z;
}
