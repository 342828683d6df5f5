-- The laws of pieces that are put one after the other, and of where a place of a text stands. Assumes nothing.
use Prim.Native.Nat.{ℕ, zero, suc, ◌+◌, ◌≤◌, ◌<◌, min}
use native.Mathlib.Numerals.{add-one}
use native.Mathlib.Omega.{arith}
use mathlib.Core.Path.{◌≡◌, refl, sym, ap, ◌∙◌}
use mathlib.Core.Bool.{Bool, true, false, cond, ◌&&◌}
use mathlib.Core.List.{List, [], ◌∷◌, ◌++◌}
use borrow.Author.Tests.{eq-eqb, ne_eqb, lt-leb}
use lib.Dec.{eqb, leb}
use lib.ListN.{length, get_or, take, length-append}
use lib.Seq.{get_or-take, length-take-le, take-length}
use Rattle.std.specs.List.{filter}
use Rattle.std.proofs.lemmas.List.Filters.{length-filter_more}
use Rattle.std.proofs.lemmas.List.Sums.{length-filter, count_by-le-length}
use Rattle.lists.specs.Choice.{pick}
use Rattle.lists.specs.Sequence.{ticks}
use Rattle.lists.proofs.Sequences.{ticks_snoc}
use Rattle.rows.specs.Rows.{Put, PutIfRoom}
use Rattle.rows.proofs.Laws.{put_then, put_length}
use Rattle.message.specs.Message.{max_text, placed, machine_line, sentences, said, place_shown, refusal_message, lines_before, line_start, up_to_end}
use Rattle.message.proofs.Lines.{stays, next_line, first_line}
use Rattle.message.proofs.Whole.{message_short, message_at}
use Rattle.message.proofs.Room.{machine_few, said_few, place_few}
use Rattle.message.specs.Code.Steps.{PutInRoom}

-- ---- pieces
pub fit_none : {old : List ℕ} {at : ℕ} → PutInRoom old at [] old at
fit_none = record { put = λ h. record { list = refl; place = omega arith; room = omega (arith, h) } }

pub fit_piece : {old xs new : List ℕ} {at next : ℕ} → PutIfRoom old at xs new next → PutInRoom old at xs new next
fit_piece p = record { put = p.put }

-- one after the other
module _ {a b xs : List ℕ} {at n : ℕ} (p : PutInRoom a at xs b n) where
  pub fit_then : {ys c : List ℕ} {m : ℕ} → PutInRoom b n ys c m → PutInRoom a at (xs ++ ys) c m
  fit_then {ys} q = record {
    put = λ h.
        let l = length-append xs ys in
        let o = p.put (omega (arith, l, h)) in
        put_then o (q.put (omega (arith, l, h, o.place, put_length o)));
  }

  pub fit_more : {ys c : List ℕ} {m : ℕ} → PutIfRoom b n ys c m → PutInRoom a at (xs ++ ys) c m
  fit_more q = fit_then (fit_piece q)

-- one byte more, by its place
pub fit_tick : (f : ℕ → ℕ) {old mid new : List ℕ} {at n m i v : ℕ} → v ≡ f i → PutInRoom old at (ticks f i) mid n → PutIfRoom mid n (v ∷ []) new m
    → PutInRoom old at (ticks f (i + 1)) new m
fit_tick f {i = i} {v = v} e p q =
    let w : ticks f (i + 1) ≡ ticks f i ++ (v ∷ []) = rw (add-one i, e) (ticks_snoc f i) in
    rw w (fit_more p q)

-- ---- lines
ends_counted : (bs : List ℕ) (p : ℕ) → p ≤ length bs → length (filter (λ x. eqb x 10) (take p bs)) ≡ lines_before bs p
unfolding lines_before
ends_counted bs zero h = refl
ends_counted bs (suc p) h =
    let more = length-filter_more (λ x. eqb x 10) bs p 0 (omega arith) in
    rw (← add-one p, more, ends_counted bs p (omega arith)) (ap (λ (n : ℕ). lines_before bs p + n) (as_pick (eqb (get_or bs p 0) 10)))
  where
    as_pick : (b : Bool) → ◌≡◌ {A = ℕ} (cond b 1 0) (pick b 1 0)
    as_pick true = refl
    as_pick false = refl

all_ends : (bs : List ℕ) → length (filter (λ x. eqb x 10) bs) ≡ lines_before bs (length bs)
all_ends bs = ap (λ (l : List ℕ). length (filter (λ x. eqb x 10) l)) (sym (take-length bs)) ∙ ends_counted bs (length bs) (omega arith)

pub lines_counted : (bs : List ℕ) {n : ℕ} → n ≡ length (filter (λ x. eqb x 10) bs) → (n ≡ lines_before bs (length bs)) × (n ≤ length bs)
lines_counted bs e = (e ∙ all_ends bs, rw (e, length-filter (λ x. eqb x 10) bs) (count_by-le-length (λ x. eqb x 10) bs))

start_within : (bs : List ℕ) (n p : ℕ) → p ≤ n → line_start (take n bs) p ≡ line_start bs p
unfolding line_start
start_within bs n zero h = refl
start_within bs n (suc p) h = rw (get_or-take n bs p 0 (omega arith), start_within bs n p (omega arith)) refl

-- the bytes before a place tell the same of it as all
module _ (bs : List ℕ) {before : List ℕ} (p : ℕ) (h : p ≤ length bs) (e : before ≡ take p bs) where
  pub lines_part : lines_before before (length before) ≡ lines_before bs p
  lines_part = sym (all_ends before) ∙ ap (λ (l : List ℕ). length (filter (λ x. eqb x 10) l)) e ∙ ends_counted bs p h

  pub start_part : line_start before (length before) ≡ line_start bs p
  start_part = rw (e, length-take-le p bs h) (start_within bs p p (omega arith))

module _ (bs : List ℕ) where
  pub start_here : (i : ℕ) → get_or bs i 0 ≡ 10 → i + 1 ≡ line_start bs (i + 1)
  start_here i e = rw (add-one i) (sym (next_line bs i e).1)

  pub start_before : (i j : ℕ) → j ≡ i + 1 → (get_or bs i 0 ≡ 10 → ⊥) → line_start bs j ≡ line_start bs i
  start_before i j h e = rw (h, add-one i) (stays bs i (ne_eqb (get_or bs i 0) 10 e)).start

  pub start_first : (i : ℕ) → i ≡ 0 → 0 ≡ line_start bs i
  start_first i e = rw e (sym (first_line bs).1)

-- how many bytes stand before the first line end
pub end_none : up_to_end [] ≡ 0
unfolding up_to_end
end_none = refl

pub end_here : (x : ℕ) (xs : List ℕ) → x ≡ 10 → up_to_end (x ∷ xs) ≡ 0
unfolding up_to_end
end_here x xs e = rw (eq-eqb x 10 e)

pub end_later : (x : ℕ) (xs : List ℕ) → (x ≡ 10 → ⊥) → up_to_end (x ∷ xs) ≡ up_to_end xs + 1
unfolding up_to_end
end_later x xs e = rw (ne_eqb x 10 e) (omega arith)

pub end_most : (xs : List ℕ) → up_to_end xs ≤ length xs
unfolding up_to_end
end_most [] = omega arith
end_most (x ∷ xs) = go (eqb x 10) (end_most xs)
  where
    go : (b : Bool) → up_to_end xs ≤ length xs → pick b 0 (suc (up_to_end xs)) ≤ suc (length xs)
    go true h = omega arith
    go false h = omega arith

-- ---- all of it
module _ (bs : List ℕ) (number place : ℕ) {old a b : List ℕ} {n m : ℕ} (room : length old ≡ 356) (line : PutInRoom old 0 (machine_line number place) a n) (sentence : PutInRoom a n (said sentences number) b m) where
  -- told with a line; of a text that is too long; and with its place
  none_shown : (placed number && leb (length bs) max_text) ≡ false → Put old 0 (refusal_message bs number place) b m
  none_shown e =
      rw (message_short bs number place e) ((fit_then line sentence).put
      (omega (arith, room, length-append (machine_line number place) (said sentences number), machine_few number place, said_few number)))

  pub told_line : placed number ≡ false → Put old 0 (refusal_message bs number place) b m
  told_line e = none_shown (rw e)

  pub told_long : placed number ≡ true → max_text < length bs → Put old 0 (refusal_message bs number place) b m
  told_long e h = none_shown (rw (e, lt-leb (length bs) max_text h))

  pub told_place_lem : placed number ≡ true → length bs ≤ max_text → {c : List ℕ} {k p : ℕ} → p ≡ min place (length bs) → PutInRoom b m (place_shown bs p) c k
      → Put old 0 (refusal_message bs number place) c k
  told_place_lem e h {p = p} w shown =
      rw (message_at bs number place e h w) ((fit_then (fit_then line sentence) shown).put
      (omega (arith, room, length-append (machine_line number place ++ said sentences number) (place_shown bs p), length-append (machine_line number place) (said sentences number), machine_few number place, said_few number, place_few bs p)))
