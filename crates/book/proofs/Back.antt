-- What is relied on of writing. Assumes nothing.
use Prim.Native.Nat.{ℕ, suc, ◌≤◌}
use native.Mathlib.Omega.{arith}
use mathlib.Core.Path.{◌≡◌, refl, sym, ap, subst, ◌∙◌}
use mathlib.Core.Logic.{◌↔◌, ⊎_elim}
use mathlib.Core.List.{List, [], ◌∷◌, ◌++◌}
use borrow.Author.Tests.{eqb-true, ne_eqb, le-ltb, ltb-false, not-false}
use lib.Dec.{eqb}
use lib.ListN.{length, take, drop}
use lib.Seq.{take_at, drop_at}
use Rattle.lists.specs.Sequence.{ticks}
use Rattle.lists.proofs.Rows.{no_row}
use Rattle.lists.proofs.Tests.{true_or_false}
use Rattle.table.specs.Sound.{Sound, is_sound}
use Rattle.table.specs.declared.Table.{Table}
use Rattle.table.proofs.Soundness.{sound_iff}
use Rattle.book.specs.Entries.{Bytes, entry_of}
use Rattle.book.specs.Reading.{Reading, reading, accepted}
use Rattle.book.specs.Keeps.{Along}
use Rattle.book.specs.Writing.{Writing, many, book_of, book_length, write_rows, write_number, writing, written_into}
use Rattle.book.specs.Back.{book_in, Back, Relied}
use Rattle.book.proofs.Accepts.{accepted_keeps, keeps_accepted}
use Rattle.book.proofs.Sound.{accepted_sound}
use Rattle.book.proofs.Writes.{length_book, whole_written}
use Rattle.book.proofs.Complete.{sound_bytes, sound_chain, sound_reads}

-- ---- no row fits exactly where the table is sound and the output long enough
exactly : (t : Table) (n : ℕ) → ((writing t n).number ≡ 0) ↔ (Sound t × (book_length t ≤ n))
unfolding writing
exactly t n = (
  λ e. let no = no_row (write_rows t n) refl e in ((sound_iff t).0 (not-false (is_sound t) (no 0)), ltb-false n (book_length t) (no 1)),
  λ p. rw ((sound_iff t).1 p.0, le-ltb n (book_length t) p.1),
)

nothing : (t : Table) (out : List ℕ) → ¬ ((writing t (length out)).number ≡ 0) → ((writing t (length out)).length ≡ 0) × (written_into t out ≡ out)
unfolding writing written_into
nothing t out n = let e = ne_eqb (write_number t (length out)) 0 n in (rw e, rw e)

-- ---- the output of an accepted call
module _ (t : Table) (z : Sound t) (out : List ℕ) (h : book_length t ≤ length out) where
  accepted_is : ◌≡◌ {A = Writing} (record { number = 0; length = book_length t }) (writing t (length out))
  accepted_is = (whole_written t out ((sound_iff t).1 z) h refl).0

  pub into_is : book_of t ++ drop (book_length t) out ≡ written_into t out
  into_is = (whole_written t out ((sound_iff t).1 z) h refl).1

  pub length_is : (writing t (length out)).length ≡ book_length t
  length_is = ap (λ (w : Writing). w.length) (sym accepted_is)

  book_is : book_in t out ≡ book_of t
  book_is =
      ap (λ (n : ℕ). take n (written_into t out)) length_is ∙ ap (take (book_length t)) (sym into_is)
      ∙ take_at (book_of t) (drop (book_length t) out) (book_length t) (length_book t)

-- ---- and what it is read as
module _ (t : Table) (z : Sound t) (out : List ℕ) (h : book_length t ≤ length out) where
  reads_back : reading (book_in t out) ≡ accepted t
  reads_back = ap reading (book_is t z out h) ∙ sound_reads t z

  written_again : (other : List ℕ) → book_length t ≤ length other → book_in (reading (book_in t out)).table other ≡ book_in t out
  written_again other k =
      ap (λ (x : Reading). book_in x.table other) reads_back ∙ book_is t z other k ∙ sym (book_is t z out h)

  back : Back t out
  back = record {
    is = book_is t z out h;
    answers = length_is t z out h;
    size = ap length (book_is t z out h) ∙ length_book t;
    beyond = ap (drop (book_length t)) (sym (into_is t z out h)) ∙ drop_at (book_of t) (drop (book_length t) out) (book_length t) (length_book t);
    bytes = subst Bytes (sym (book_is t z out h)) (sound_bytes t z);
    chain = subst (λ (s : List ℕ). Along s (0 ∷ []) (entry_of s 0).next (ticks suc (many t))) (sym (book_is t z out h)) (sound_chain t z);
    reads = reads_back;
    again = written_again;
  }

-- ---- the length that is answered
enough : (t : Table) → Sound t → book_length t ≤ 876
enough t z = omega (arith, z.few_nodes, z.few_rules)

short : (t : Table) (n : ℕ) → (writing t n).length ≤ 876
unfolding writing
short t n =
    ⊎_elim (λ e. rw e (enough t ((exactly t n).0 (eqb-true (write_number t n) 0 e)).0)) (λ e. rw e (omega arith)) (true_or_false (eqb (write_number t n) 0))

-- ---- a book that is accepted reads as `accepted` says
read_as : (s : List ℕ) → (reading s).number ≡ 0 → reading s ≡ accepted (reading s).table
read_as s e =
    let k = keeps_accepted s (accepted_keeps s e) in
    k ∙ ap (λ (x : Reading). accepted x.table) (sym k)

-- THE LAW
pub relied : Relied
relied = record {
  accepted_exactly = exactly;
  refused = nothing;
  back = λ t out e. let p = (exactly t (length out)).0 e in back t p.0 out p.1;
  enough = enough;
  short = short;
  same_table = λ s b e. sound_reads (reading s).table (accepted_sound s b e) ∙ sym (read_as s e);
}
