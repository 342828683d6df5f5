-- What the step leaves in its two buffers. Assumes nothing.
use Prim.Native.Nat.{ℕ, ◌≤◌, ◌<◌}
use native.Mathlib.Omega.{arith}
use mathlib.Core.Path.{◌≡◌, sym, ap, subst, ◌∙◌}
use mathlib.Core.List.{List}
use borrow.Author.Tests.{lt-ltb, le-ltb, eq-eqb, ne_eqb}
use lib.ListN.{length}
use Rattle.limits.specs.Limits.{written_bytes}
use Rattle.table.specs.Sound.{Sound}
use Rattle.table.specs.declared.Table.{Table}
use Rattle.book.specs.Writing.{Writing, book_of, book_length, writing, written_into}
use Rattle.book.proofs.Writes.{length_book}
use Rattle.book.proofs.Back.{relied, into_is, length_is}
use Rattle.text.specs.Typing.{Typed, typed}
use Rattle.text.proofs.Sounds.{typed_sound}
use Rattle.rows.specs.Rows.{Put}
use Rattle.rows.proofs.Laws.{put_nothing, put_start}
use Rattle.message.specs.Message.{max_text, refusal_message, long_message}
use Rattle.rules.specs.declared.Compiled.{Compiled}
use Rattle.rules.specs.Output.{Output, book_only, message_only, output, Compiles}

-- ---- which output it is
module _ (text : List ℕ) where
  pub output_long : max_text < length text → output text ≡ message_only long_message
  unfolding output
  output_long h = rw (lt-ltb max_text (length text) h)

  module _ (h : length text ≤ max_text) where
    pub output_refused : ¬ ((typed text).number ≡ 0) → output text ≡ message_only (refusal_message text (typed text).number (typed text).place)
    unfolding output
    output_refused z = rw (le-ltb max_text (length text) h, ne_eqb (typed text).number 0 z)

    pub output_book : (typed text).number ≡ 0 → output text ≡ book_only (book_of (typed text).table)
    unfolding output
    output_book z = rw (le-ltb max_text (length text) h, eq-eqb (typed text).number 0 z)

-- ---- the book of a sound table, written into a buffer that is long enough
book_put : (t : Table) (out : List ℕ) → Sound t → written_bytes ≤ length out → Put out 0 (book_of t) (written_into t out) (writing t (length out)).length
book_put t out s h =
    let e = relied.enough t s in
    let l = length_book t in
    let k : book_length t ≤ length out = omega arith in
    put_start out (book_of t) (rw l (sym (into_is t s out k))) (length_is t s out k ∙ sym l) (omega arith)

-- ---- the answers of the step
module _ (text book message : List ℕ) where
  compiles_by : (o : Output) → output text ≡ o → {book' message' : List ℕ} {r : Compiled} → Put book 0 o.book book' r.book_bytes → Put message 0 o.message message' r.message_bytes
      → Compiles text book message book' message' r
  compiles_by o e {book'} {message'} {r} p q =
      record {
        books = subst (λ (x : Output). Put book 0 x.book book' r.book_bytes) (sym e) p;
        tells = subst (λ (x : Output). Put message 0 x.message message' r.message_bytes) (sym e) q;
      }

  pub compiled_long : max_text < length text → {message' : List ℕ} {n : ℕ} → Put message 0 long_message message' n
      → Compiles text book message book message' (record { book_bytes = 0; message_bytes = n })
  compiled_long h p = compiles_by (message_only long_message) (output_long text h) (put_nothing book) p

  module _ (h : length text ≤ max_text) {x : Typed} (e : x ≡ typed text) where
    pub compiled_refused : ¬ (x.number ≡ 0) → {message' : List ℕ} {n : ℕ} → Put message 0 (refusal_message text x.number x.place) message' n
        → Compiles text book message book message' (record { book_bytes = 0; message_bytes = n })
    compiled_refused z {message'} {n} p =
        compiles_by _ (output_refused text h (λ w. z (ap (λ (y : Typed). y.number) e ∙ w))) (put_nothing book)
        (subst (λ (y : Typed). Put message 0 (refusal_message text y.number y.place) message' n) e p)

    pub compiled_book : x.number ≡ 0 → written_bytes ≤ length book → {book' : List ℕ} {w : Writing} → w ≡ writing x.table (length book) → book' ≡ written_into x.table book
        → Compiles text book message book' message (record { book_bytes = w.length; message_bytes = 0 })
    compiled_book z room {book'} {w} a b =
        let n = ap (λ (y : Typed). y.number) (sym e) ∙ z in
        let t = ap (λ (y : Typed). y.table) e in
        let p = book_put (typed text).table book (typed_sound text n) room in
        let a' : w ≡ writing (typed text).table (length book) = a ∙ ap (λ (u : Table). writing u (length book)) t in
        let b' : book' ≡ written_into (typed text).table book = b ∙ ap (λ (u : Table). written_into u book) t in
        compiles_by _ (output_book text h n) (rw (a', b') p) (put_nothing message)
