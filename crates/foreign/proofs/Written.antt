-- What C programs rely on of `juntreak_write`. Assumes nothing.
use Prim.Native.Nat.{ℕ, ◌≤◌}
use native.Mathlib.Omega.{arith}
use mathlib.Core.Path.{◌≡◌, refl, sym, ap, subst, ◌∙◌}
use mathlib.Core.Bool.{Bool, true, false}
use mathlib.Core.Logic.{⊎_elim}
use mathlib.Core.List.{List}
use lib.Dec.{eqb}
use lib.ListN.{length, take, drop, length-take}
use lib.Seq.{take_all}
use Rattle.lists.proofs.Rows.{first_within}
use Rattle.lists.proofs.Tests.{true_or_false}
use Rattle.table.specs.Sound.{Sound}
use Rattle.table.specs.declared.Table.{Table}
use Rattle.book.specs.Entries.{Bytes}
use Rattle.book.specs.Reading.{Reading, reading, code_of}
use Rattle.book.specs.Reading as book
use Rattle.book.specs.Writing.{write_rows, writing}
use Rattle.book.specs.Back.{Back}
use Rattle.book.proofs.Back.{relied}
use Rattle.flat.specs.Flat.{table_from, written}
use Rattle.flat.specs.Sessions.{session_from}
use Rattle.flat.proofs.Laws.{same_table, written_all, bytes_back}
use Rattle.flat.proofs.Sessions.{take_four, take_eight, table_first}
use Rattle.session.specs.Session.{Answer, Effect}
use Rattle.shell.specs.Answers.{leaves, counted, Called}
use Rattle.acts.specs.World.{Width, narrow, wide}
use Rattle.foreign.specs.Demand.{held_in, renewed_in, Call, feed, close, widen, lent, Contract, answered_number, width_of, Calls, begin, accepted, refused, Start}
use Rattle.foreign.proofs.Demand.{widened_bytes, session_first, table_held}
use Rattle.foreign.specs.Written.{written_number, written_length, out_after, book_after, WrittenBack, ForeignWritten}

number_small : (t : Table) (n : ℕ) → (writing t n).number ≤ 34
unfolding writing
number_small t n = first_within 34 (write_rows t n) refl

-- the answer holds the number and the length
module _ (table out : List ℕ) where
  abbrev t : Table
  t = table_from table

  number_is : written_number table out ≡ (writing t (length out)).number
  number_is = omega (arith, number_small t (length out))

  length_is : written_length table out ≡ (writing t (length out)).length
  length_is = omega (arith, number_small t (length out))

  module _ (byte : Bytes table) (size : length table ≡ 546) (z : Sound t) (b : Back t out) where
    reads : reading (book_after table out) ≡ book.accepted t
    reads = ap (λ (n : ℕ). reading (take n (out_after table out))) length_is ∙ b.reads

    same_bytes : (old : List ℕ) → length old ≡ 546
        → leaves (reading (book_after table out)).number (written (reading (book_after table out)).table old) old ≡ table
    same_bytes old l =
        ap (λ (x : Reading). leaves x.number (written x.table old) old) reads ∙ written_all t old (omega arith) l
        ∙ bytes_back table (λ j h. byte.byte j (omega arith)) size z

    written_back : WrittenBack table out
    written_back = record {
      accepted = ap code_of reads;
      same_bytes = same_bytes;
      beyond = subst (λ (n : ℕ). drop n (out_after table out) ≡ drop n out) (sym (length_is ∙ b.answers)) b.beyond;
    }

-- ---- the table of a session
-- a call renews the count, which stands behind the table; a widening writes the table again
renewed_keeps : (width : Width) (n : ℕ) (b : List ℕ) → take 546 (renewed_in width n b) ≡ take 546 b
renewed_keeps narrow n b = take_four b 550 n 546 (omega arith)
renewed_keeps wide n b = take_eight b 550 n 546 (omega arith)

count_only : (width : Width) (r : Answer) (b : List ℕ) → take 546 (counted (renewed_in width) r b) ≡ take 546 b
count_only width r b =
    ⊎_elim (λ (e : eqb r.number 0 ≡ true). rw e (renewed_keeps width r.session.seen b)) (λ (e : eqb r.number 0 ≡ false). rw e)
    (true_or_false (eqb r.number 0))

called_keeps : (width : Width) {e : Effect} {b b' h x o : List ℕ} {r : ℕ} → Called (renewed_in width) e b r b' h x o → take 546 b' ≡ take 546 b
called_keeps width {e} {b} k = ap (take 546) k.session ∙ count_only width e.answer b

module _ (m : Start) where
  call_keeps : {width : Width} {cs : List Call} (c : Call) → Calls width m.session m.history cs (width_of c) (lent c).session (lent c).history false
      → Contract c → answered_number c ≡ 0 → take 546 (lent c).session ≡ m.simple → take 546 (lent c).session' ≡ m.simple
  call_keeps (feed width block l) a k z e = called_keeps width k ∙ e
  call_keeps (close width l) a k z e = called_keeps width k ∙ e
  call_keeps (widen old size l) a k z e =
      ap (take 546) (widened_bytes false old size l k z) ∙ table_first (held_in narrow l.session) old (omega (arith, size)) ∙ table_held false m a

  running : {width width' : Width} {cs : List Call} {b h : List ℕ} {ended : Bool} → Calls width m.session m.history cs width' b h ended → take 546 b ≡ m.simple
  running begin = session_first false m
  running (accepted c a k z) = call_keeps c a k z (running a)
  running (refused c a k n) = running a

of_session : (s : List ℕ) → length s ≡ 558 → table_from (take 546 s) ≡ (session_from s).table
unfolding session_from
of_session s h =
    same_table (take 546 s) s (take_all 546 (take 546 s) (omega (arith, length-take 546 s))) (omega (arith, length-take 546 s)) (omega arith)

pub foreign_written : ForeignWritten
foreign_written = record {
  back = λ table out byte size e.
      let n = sym (number_is table out) ∙ e in
      written_back table out byte size ((relied.accepted_exactly (table_from table) (length out)).0 n).0 (relied.back (table_from table) out n);
  refused = λ table out n.
      let r = relied.refused (table_from table) out (λ e. n (number_is table out ∙ e)) in
      (length_is table out ∙ r.0, r.1);
  running = λ m width width' cs b h ended l. running m l;
  of_session = of_session;
}
