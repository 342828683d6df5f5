-- The laws of what is put into a buffer. Assumes nothing.
use mathlib.Core.Path.{◌≡◌, refl, sym, ap, ◌∙◌}
use mathlib.Core.Logic.{◌⊎◌, inl, inr, ⊎_elim}
use mathlib.Core.Bool.{Bool, true, false, ◌||◌}
use mathlib.Core.List.{List, [], ◌∷◌, ◌++◌, append_assoc, append-nil}
use Prim.Native.Nat.{ℕ, zero, suc, ◌+◌, ◌-◌, ◌*◌, ◌/◌, ◌%◌, ◌^◌, ◌≤◌, ◌<◌}
use native.Mathlib.Nat.{add-zero, zero-add, eq-or-lt_of_le, pow-le-pow_right, pow-succ'}
use native.Mathlib.Numerals.{add-one}
use native.Mathlib.Omega.{arith}
use borrow.Author.Tests.{lt-ltb, le-ltb}
use lib.Dec.{eqb, ltb}
use lib.ListN.{length, take, drop, set, length-append}
use lib.Seq.{sets-eq, take-append_seam, length-sets, take-length}
use borrow.Rule.Slice.PartMut.{put_mid}
use Rattle.std.proofs.lemmas.Slice.{put_mid-paste}
use Rattle.io.specs.Digits.{last_digits, IsDigitCount, hex_digit_ascii}
use Rattle.lists.proofs.Tests.{lt_or_le, same_test as equal-tests, ltb_iff, eqb_iff}
use Rattle.lists.proofs.Sequences.{sets_append, ticks_snoc, length_ticks}
use Rattle.rows.specs.Rows.{Put, places_from, decimal, row, rows_from, fitting}
use Rattle.rows.specs.Code.Steps.{front, row_end, Fronted}
use Rattle.lists.specs.Choice.{pick}
use Rattle.lists.specs.Sequence.{ticks}
use Rattle.lists.specs.Bits.{bit_at, digit}

-- a part of the buffer that was copied over
pub put_part : (xs : List ℕ) {b s : List ℕ} (at : ℕ) → b ≡ s → at + length s ≤ length xs → Put xs at s (put_mid at (at + length s - at) xs b) (at + length s)
put_part xs {b} {s} at e h =
    let list = put_mid-paste at (at + length s - at) xs b s (length s) e (omega arith) refl ∙ rw (take-length s) (sym (sets-eq s xs at h)) in
    record { list = list; place = refl; room = h }

pub put_length : {a b xs : List ℕ} {at n : ℕ} → Put a at xs b n → length b ≡ length a
put_length {a} {b} {xs} {at} {n} p = ap length p.list ∙ length-sets a at xs

-- one put after the other
pub put_then : {a b c xs ys : List ℕ} {at n m : ℕ} → Put a at xs b n → Put b n ys c m → Put a at (xs ++ ys) c m
put_then {a} {b} {c} {xs} {ys} {at} {n} {m} p q = record {
  list = q.list ∙ rw (p.list, p.place) (sym (sets_append a at xs ys));
  place = rw (length-append xs ys) (omega (arith, p.place, q.place));
  room = rw (length-append xs ys) (omega (arith, p.place, q.room, put_length p));
}

-- nothing is put; and what begins with xs and goes on as before has xs put at its start
pub put_nothing : (old : List ℕ) → Put old 0 [] old 0
put_nothing old = record { list = refl; place = refl; room = omega arith }

pub put_start : (old xs : List ℕ) {new : List ℕ} {n : ℕ} → new ≡ xs ++ drop (length xs) old → n ≡ length xs → length xs ≤ length old → Put old 0 xs new n
put_start old xs {new} e p h =
    let w : new ≡ xs ++ drop (0 + length xs) old = rw (zero-add (length xs)) e in
    record { list = w ∙ sym (sets-eq xs old 0 (omega arith)); place = omega arith; room = omega arith }

-- one byte more, by its place
pub put_tick : (f : ℕ → ℕ) {old mid : List ℕ} {at i v : ℕ} → Put old at (ticks f i) mid (at + i) → at + i < length old → v ≡ f i
    → Put old at (ticks f (i + 1)) (set mid (at + i) v) (at + (i + 1))
put_tick f {old} {mid} {at} {i} {v} p h e =
    let w : ticks f (i + 1) ≡ ticks f i ++ (v ∷ []) = rw (add-one i, e) (ticks_snoc f i) in
    rw w (put_then p (record { list = refl; place = omega arith; room = rw (put_length p) (omega arith) }))

-- the fewest places that hold n are those that a search finds
places_are : (f j k n : ℕ) → 1 ≤ j → j ≤ k → k ≤ j + f → IsDigitCount 10 1 n k → places_from f j n ≡ k
unfolding places_from
places_are zero j k n a b h w = omega arith
places_are (suc f) j k n a b h w =
    ⊎_elim
    (λ (e : j ≡ k). rw (e, lt-ltb n (10 ^ k) w.1))
    (λ (lt : j < k).
    let p : 10 ^ j ≤ 10 ^ (k - 1) = pow-le-pow_right (omega arith) (omega arith) in
    let q : 10 ^ j ≤ n = omega (arith, w.2 (omega arith)) in
    rw (le-ltb n (10 ^ j) q) (places_are f (j + 1) k n (omega arith) (omega arith) (omega arith) w))
    (eq-or-lt_of_le b)

pub decimal_is : (n k : ℕ) → k ≤ 20 → IsDigitCount 10 1 n k → last_digits 10 k n ≡ decimal n
unfolding decimal
decimal_is n k h w = rw (places_are 19 1 k n (omega arith) w.0 (omega arith) w)

-- so many digits are enough for any number that is spelled
places_few : (f k n : ℕ) → places_from f k n ≤ k + f
unfolding places_from
places_few zero k n = omega arith
places_few (suc f) k n =
    ⊎_elim
    (λ (lt : n < 10 ^ k). rw (lt-ltb n (10 ^ k) lt) (omega arith))
    (λ (le : 10 ^ k ≤ n). rw (le-ltb n (10 ^ k) le) (omega (arith, places_few f (k + 1) n)))
    (lt_or_le n (10 ^ k))

length_digits : (k n : ℕ) → length (last_digits 10 k n) ≡ k
length_digits zero n = refl
length_digits (suc k) n = length-append (last_digits 10 k (n / 10)) (hex_digit_ascii (n % 10) ∷ []) ∙ rw (length_digits k (n / 10)) (add-one k)

pub decimal_short : (n : ℕ) → length (decimal n) ≤ 20
unfolding decimal
decimal_short n = rw (length_digits (places_from 19 1 n) n) (places_few 19 1 n)

-- m places are enough
pub places_most : (m n k : ℕ) → 1 ≤ m → n < 10 ^ m → IsDigitCount 10 1 n k → k ≤ m
places_most m n k one h w =
    ⊎_elim
    (λ (lt : m < k).
    let p : 10 ^ m ≤ 10 ^ (k - 1) = pow-le-pow_right {n = 10} (omega arith) {i = m} {j = k - 1} (omega arith) in
    absurd (omega (arith, w.2 (omega arith))))
    (λ (le : k ≤ m). le)
    (lt_or_le m k)

pub places_20 : (n k : ℕ) → n < 2 ^ 64 → IsDigitCount 10 1 n k → k ≤ 20
places_20 n k h = places_most 20 n k (omega arith) (omega arith)

-- the search finds the fewest places
places_found : (f j n : ℕ) → 1 ≤ j → (1 < j → 10 ^ (j - 1) ≤ n) → n < 10 ^ (j + f) → IsDigitCount 10 1 n (places_from f j n)
unfolding places_from
places_found zero j n one low high = let e : j + 0 ≡ j = omega arith in (one, rw e at high, low)
places_found (suc f) j n one low high =
    ⊎_elim
    (λ (lt : n < 10 ^ j). rw (lt-ltb n (10 ^ j) lt) (one, lt, low))
    (λ (le : 10 ^ j ≤ n).
    let e : j + suc f ≡ j + 1 + f = omega arith in
    let d : j + 1 - 1 ≡ j = omega arith in
    rw (le-ltb n (10 ^ j) le) (places_found f (j + 1) n (omega arith) (λ h. rw d le) (rw e at high)))
    (lt_or_le n (10 ^ j))

-- one digit more
fewest_suc : (n k : ℕ) → 10 ≤ n → IsDigitCount 10 1 (n / 10) k → IsDigitCount 10 1 n (suc k)
fewest_suc n k h w =
    let p = pow-succ' 10 k in
    let d : suc k - 1 ≡ k = omega arith in
    (omega arith, omega (arith, p, w.1), λ _. rw d (low (eq-or-lt_of_le w.0)))
  where
    low : (1 ≡ k) ⊎ (1 < k) → 10 ^ k ≤ n
    low (inl e) = rw (← e) (omega arith)
    low (inr lt) =
        let e : k ≡ suc (k - 1) = omega arith in
        let q = pow-succ' 10 (k - 1) in
        let r = w.2 lt in
        rw e (omega (arith, q, r))

glyph_is : (d : ℕ) → d < 10 → hex_digit_ascii d ≡ 48 + d
glyph_is d h = rw (lt-ltb d 10 h)

-- a number in decimal is all its digits but the last, and the last
decimal_last : (n : ℕ) → n < 100000000000000000000 → decimal n ≡ pick (ltb n 10) [] (decimal (n / 10)) ++ ((48 + n % 10) ∷ [])
unfolding decimal
decimal_last n h =
    ⊎_elim
    (λ (lt : n < 10).
    let w : IsDigitCount 10 1 n 1 = (omega arith, omega arith, λ l. absurd (omega arith)) in
    sym (decimal_is n 1 (omega arith) w) ∙ rw (lt-ltb n 10 lt, glyph_is (n % 10) (omega arith)))
    (λ (le : 10 ≤ n).
    let k = places_from 19 1 (n / 10) in
    let w : IsDigitCount 10 1 (n / 10) k = places_found 19 1 (n / 10) (omega arith) (λ l. absurd (omega arith)) (omega arith) in
    let v = fewest_suc n k le w in
    sym (decimal_is n (suc k) (places_most 20 n (suc k) (omega arith) h v) v) ∙ rw (le-ltb n 10 le, glyph_is (n % 10) (omega arith)))
    (lt_or_le n 10)

-- the sum of two numbers of 64 bits
carry : (x y u v : ℕ) → (10 * x + u + (10 * y + v)) / 10 ≡ x + y + (u + v) / 10
carry x y u v = omega arith

carried : (x y u v : ℕ) → (10 * x + u + (10 * y + v)) % 10 ≡ (u + v) % 10
carried x y u v = omega arith

none_high : (x y u v : ℕ) → ltb (10 * x + u + (10 * y + v)) 10 ≡ eqb (x + y + (u + v) / 10) 0
none_high x y u v =
    equal-tests _ _ (ltb_iff (10 * x + u + (10 * y + v)) 10) (eqb_iff (x + y + (u + v) / 10) 0) (λ l. omega arith) (λ l. omega arith)

pub sum_is : (a b : ℕ) → a < 2 ^ 64 → b < 2 ^ 64
    → let low = a % 10 + b % 10 in pick (eqb (a / 10 + b / 10 + low / 10) 0) [] (decimal (a / 10 + b / 10 + low / 10)) ++ ((48 + low % 10) ∷ []) ≡ decimal (a + b)
sum_is a b h k =
    let e : a + b ≡ 10 * (a / 10) + a % 10 + (10 * (b / 10) + b % 10) = omega arith in
    sym
    (decimal_last (a + b) (omega arith)
    ∙ rw (e, none_high (a / 10) (b / 10) (a % 10) (b % 10), carry (a / 10) (b / 10) (a % 10) (b % 10), carried (a / 10) (b / 10) (a % 10) (b % 10)))

-- ---- a row in two parts
row_is : (name : List ℕ) (tick v : ℕ) → tick < 2 ^ 64 → row name tick v ≡ row_end (front name tick) tick v
unfolding row
row_is name tick v h =
    let xs = pick (ltb tick 10) [] (decimal (tick / 10)) in
    let d : decimal tick ≡ xs ++ ((48 + tick % 10) ∷ []) = decimal_last tick (omega arith) in
    rw (d, append_assoc xs ((48 + tick % 10) ∷ []) (32 ∷ (48 + v) ∷ 10 ∷ []))
    (sym (append_assoc name (32 ∷ xs) ((48 + tick % 10) ∷ 32 ∷ (48 + v) ∷ 10 ∷ [])))

-- the front stays, but for every tenth tick
same_test : (tick : ℕ) → 0 < tick → (tick % 10 ≡ 0 → ⊥) → ltb (tick - 1) 10 ≡ ltb tick 10
same_test tick h n =
    ⊎_elim
    (λ (lt : tick < 10). rw (lt-ltb tick 10 lt, lt-ltb (tick - 1) 10 (omega arith)))
    (λ (le : 10 ≤ tick). rw (le-ltb tick 10 le, le-ltb (tick - 1) 10 (⊎_elim (λ (e : 10 ≡ tick). absurd (n (rw (← e) refl))) (λ (lt : 10 < tick). omega arith) (eq-or-lt_of_le le))))
    (lt_or_le tick 10)

pub fronted_same : (name : List ℕ) (tick : ℕ) (buffer : List ℕ) (k : ℕ) → 0 < tick → (tick % 10 ≡ 0 → ⊥) → Fronted name (tick - 1) buffer k → Fronted name tick buffer k
fronted_same name tick buffer k h n f =
    let e : (tick - 1) / 10 ≡ tick / 10 = omega arith in
    record { bytes = f.bytes ∙ rw (e, same_test tick h n); short = f.short; within = f.within }

-- ---- rows of verdicts, and then others
pub rows_append : (name : List ℕ) (tick : ℕ) (us vs : List Bool) → rows_from name tick (us ++ vs) ≡ rows_from name tick us ++ rows_from name (tick + length us) vs
unfolding rows_from
rows_append name tick [] vs = rw (add-zero tick)
rows_append name tick (u ∷ us) vs =
    let e : tick + suc (length us) ≡ tick + 1 + length us = omega arith in
    rw (e, rows_append name (tick + 1) us vs) (sym (append_assoc (row name tick (digit u)) (rows_from name (tick + 1) us) (rows_from name (tick + 1 + length us) vs)))

-- one row more
rows_snoc : (name : List ℕ) (tick : ℕ) (vs : List Bool) (v : Bool) → rows_from name tick (vs ++ (v ∷ [])) ≡ rows_from name tick vs ++ row name (tick + length vs) (digit v)
unfolding rows_from
rows_snoc name tick vs v = rows_append name tick vs (v ∷ []) ∙ rw (append-nil (row name (tick + length vs) (digit v)))

-- one row more in the buffer
pub rows_more : (name old mid new : List ℕ) (tick at n i : ℕ) (f : ℕ → Bool) → tick + i < 2 ^ 64 → Put old 0 (rows_from name tick (ticks f i)) mid at
    → (xs : List ℕ) (v : ℕ) → xs ≡ front name (tick + i) → v ≡ digit (f i) → Put mid at (row_end xs (tick + i) v) new n
    → Put old 0 (rows_from name tick (ticks f (i + 1))) new n
rows_more name old mid new tick at n i f h p xs v x y q =
    let e : ticks f (i + 1) ≡ ticks f i ++ (f i ∷ []) = rw (add-one i) (ticks_snoc f i) in
    let w : rows_from name tick (ticks f (i + 1)) ≡ rows_from name tick (ticks f i) ++ row_end (front name (tick + i)) (tick + i) (digit (f i)) =
    rw (e, rows_snoc name tick (ticks f i) (f i), length_ticks f i, row_is name (tick + i) (digit (f i)) h) in
    rw (w, ← x, ← y) (put_then p q)

pub digit_is : (r : ℕ) → r < 2 → r ≡ digit (eqb r 1)
digit_is zero h = refl
digit_is (suc zero) h = refl
digit_is (suc (suc r)) h = absurd (omega arith)

pub rows_none : (name buffer : List ℕ) (tick : ℕ) (f : ℕ → Bool) → Put buffer 0 (rows_from name tick (ticks f 0)) buffer 0
unfolding rows_from
rows_none name buffer tick f = put_nothing buffer

-- the tick after the last passes 64 bits, as the code tests it
pub past_last : (tick count : ℕ) → tick < 2 ^ 64 → ltb (18446744073709551615 - tick) count ≡ ltb 18446744073709551615 (tick + count)
past_last tick count h =
    equal-tests _ _ (ltb_iff (18446744073709551615 - tick) count) (ltb_iff 18446744073709551615 (tick + count)) (λ l. omega arith) (λ l. omega arith)

-- rows that do not fit are not put, and rows that fit are
module _ (name tick : ℕ) (words : List ℕ) (count : ℕ) (old : List ℕ) where
  pub put_none : (ltb 4096 count || ltb 18446744073709551615 (tick + count)) ≡ true → Put old 0 (fitting name tick words count) old 0
  put_none e = rw e (put_nothing old)

  pub put_fitting : (new : List ℕ) (n : ℕ) (xs : List ℕ) → (ltb 4096 count || ltb 18446744073709551615 (tick + count)) ≡ false → xs ≡ decimal name
      → Put old 0 (rows_from xs tick (ticks (bit_at words) count)) new n → Put old 0 (fitting name tick words count) new n
  put_fitting new n xs e d p = rw (e, ← d) p

-- what was put at the start of a buffer
pub put_bytes : {old xs new : List ℕ} {n : ℕ} → Put old 0 xs new n → take n new ≡ xs
put_bytes {old} {xs} {new} {n} p =
    let k : n ≡ length xs = omega (arith, p.place) in
    let w : new ≡ xs ++ drop (0 + length xs) old = p.list ∙ sets-eq xs old 0 p.room in
    rw (w, k) (take-append_seam xs (drop (0 + length xs) old))

-- a row's front that was put at the start of a buffer
pub fronted_put : (name : List ℕ) (tick : ℕ) (old xs new : List ℕ) (n : ℕ) → 32 ≤ length old → n ≤ 28 → xs ≡ front name tick → Put old 0 xs new n → Fronted name tick new n
fronted_put name tick old xs new n h short e p = record { bytes = put_bytes p ∙ e; short = short; within = rw (put_length p) h }
