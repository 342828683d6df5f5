-- What the line reader's contract comes to: lines byte by byte, parts of a text, and a text in parts. Assumes nothing.
use mathlib.Core.Path.{◌≡◌, refl, sym, ap, ap₂, ◌∙◌}
use mathlib.Core.Logic.{⊎_elim}
use mathlib.Core.Bool.{Bool, true, false, ◌&&◌, false≢true, true≢false}
use mathlib.Core.List.{List, [], ◌∷◌, ◌++◌, map, append_assoc, append-nil}
use Prim.Native.Nat.{ℕ, zero, suc, ◌+◌, ◌-◌, ◌*◌, ◌≤◌, ◌<◌}
use native.Mathlib.Nat.{add-zero}
use native.Mathlib.Numerals.{add-one}
use native.Mathlib.Omega.{arith}
use borrow.Author.Tests.{eq-eqb, ne_eqb, lt-ltb, le-ltb, le-leb, lt-leb, leb-true, ltb-false}
use Rattle.std.proofs.Common.{Option, Some, None}
use Rattle.std.specs.Option.{is_some, unwrap_or}
use lib.ListN.{length, take, drop, set, get_or, drop_of_length-le, length-append, length-set, length-drop}
use lib.Dec.{eqb, leb, ltb}
use lib.Seq.{drop-cons, drop-drop, sets}
use Rattle.lists.specs.Choice.{pick}
use Rattle.lists.proofs.Tests.{lt_or_le, true_right, and_right, true_or_false}
use Rattle.lists.proofs.Sequences.{sets_append}
use Rattle.lines.specs.declared.Line.{Line}
use Rattle.lines.specs.declared.Scan.{Scan}
use Rattle.lines.specs.declared.Filled.{Filled}
use Rattle.lines.specs.Lines.{Parsed, state, bad, last_line_of, lines_from, all_digits, value_from, line_after_digits, line_of, parsed_lines, empty, no_state, with_byte, is_state, parsed_of, parsed_from, Filling, none_read, preceded, line_ended, filling, filled_from}
use Rattle.lines.specs.Code.Steps.{scanned}

pick_same : {A : Type 0} {a : A} (t : Bool) → pick t a a ≡ a
pick_same true = refl
pick_same false = refl

-- ---- `scanned` at a place of a list: past its end, at a line end, at any other byte
module _ (s : List ℕ) (i : ℕ) (l : Line) where
  pub scan_none : length s ≤ i → scanned (drop i s) i l ≡ record { line = l; end = None }
  unfolding scanned
  scan_none h = rw (drop_of_length-le s h)

  pub scan_end : i < length s → get_or s i 0 ≡ 10 → scanned (drop i s) i l ≡ record { line = l; end = Some (i + 1) }
  unfolding scanned
  scan_end h e = rw (drop-cons s i 0 h, eq-eqb (get_or s i 0) 10 e)

  pub scan_more : i < length s → (get_or s i 0 ≡ 10 → ⊥) → scanned (drop i s) i l ≡ scanned (drop (i + 1) s) (i + 1) (with_byte l (get_or s i 0))
  unfolding scanned
  scan_more h n = rw (drop-cons s i 0 h, ne_eqb (get_or s i 0) 10 n, add-one i)

-- a state has 32 bits
pub value_fits : (l : Line) → is_state l ≡ true → l.value ≤ 4294967295
value_fits l e = leb-true l.value 4294967295 (true_right (leb 1 l.digits && leb l.digits 10) (leb l.value 4294967295) e)

-- ---- byte by byte, a line says what it says as a whole
abbrev bytewise : Line → List ℕ → Line
bytewise l [] = l
bytewise l (b ∷ bs) = bytewise (with_byte l b) bs

bad_stays : (bs : List ℕ) → parsed_of (bytewise no_state bs) ≡ bad
unfolding with_byte
bad_stays [] = refl
bad_stays (b ∷ bs) = bad_stays bs

-- a value only grows
value_grows : (bs : List ℕ) (v : ℕ) → v ≤ value_from v bs
value_grows [] v = omega arith
value_grows (b ∷ bs) v = omega (arith, value_grows bs (v * 10 + (b - 48)))

-- where the digits are not all, or the value is none, the line is bad whatever its length
not_digits : (n v : ℕ) (bs : List ℕ) → all_digits bs ≡ false → line_after_digits n v bs ≡ bad
unfolding line_after_digits
not_digits n v bs e = rw e (rw (pick_same (leb (n + length bs) 10)) (pick_same (leb 1 (n + length bs))))

not_value : (n v : ℕ) (bs : List ℕ) → 4294967295 < value_from v bs → line_after_digits n v bs ≡ bad
unfolding line_after_digits
not_value n v bs h =
    rw (lt-leb (value_from v bs) 4294967295 h, pick_same (all_digits bs), pick_same (leb (n + length bs) 10), pick_same (leb 1 (n + length bs)))

not_long : (n v : ℕ) (bs : List ℕ) → 10 < n + length bs → line_after_digits n v bs ≡ bad
unfolding line_after_digits
not_long n v bs h = rw (lt-leb (n + length bs) 10 h, pick_same (leb 1 (n + length bs)))

module _ (l : Line) (b : ℕ) where
  with_long : 10 ≤ l.digits → with_byte l b ≡ no_state
  unfolding with_byte
  with_long h = rw (le-ltb l.digits 10 h)

  with_low : b < 48 → with_byte l b ≡ no_state
  unfolding with_byte
  with_low h = rw (lt-leb 48 b h) (pick_same (ltb l.digits 10))

  with_high : 57 < b → with_byte l b ≡ no_state
  unfolding with_byte
  with_high h = rw (lt-leb b 57 h, pick_same {a = no_state} (leb 48 b)) (pick_same (ltb l.digits 10))

  with_large : 4294967295 < l.value → with_byte l b ≡ no_state
  unfolding with_byte
  with_large h =
      rw (lt-leb l.value 4294967295 h, pick_same {a = no_state} (leb b 57), pick_same {a = no_state} (leb 48 b)) (pick_same (ltb l.digits 10))

  with_digit : l.digits < 10 → 48 ≤ b → b ≤ 57 → l.value ≤ 4294967295 → with_byte l b ≡ record { digits = l.digits + 1; value = l.value * 10 + (b - 48) }
  unfolding with_byte
  with_digit h i j k = rw (lt-ltb l.digits 10 h, le-leb 48 b i, le-leb b 57 j, le-leb l.value 4294967295 k)

  -- a byte that makes the line bad
  run_bad : (bs : List ℕ) → with_byte l b ≡ no_state → line_after_digits l.digits l.value (b ∷ bs) ≡ bad
      → parsed_of (bytewise l (b ∷ bs)) ≡ line_after_digits l.digits l.value (b ∷ bs)
  run_bad bs e w = ap (λ (m : Line). parsed_of (bytewise m bs)) e ∙ bad_stays bs ∙ sym w

  -- a byte that leads to the line m
  run_good : (bs : List ℕ) (m : Line) (r : Parsed) → with_byte l b ≡ m → parsed_of (bytewise m bs) ≡ r → parsed_of (bytewise l (b ∷ bs)) ≡ r
  run_good bs m r e w = ap (λ (k : Line). parsed_of (bytewise k bs)) e ∙ w

  digits_low : (bs : List ℕ) → b < 48 → all_digits (b ∷ bs) ≡ false
  digits_low bs h = rw (lt-leb 48 b h)

  digits_high : (bs : List ℕ) → 57 < b → all_digits (b ∷ bs) ≡ false
  digits_high bs h = rw (lt-leb b 57 h) (pick_same (leb 48 b))

  line_step : (bs : List ℕ) → 48 ≤ b → b ≤ 57 → line_after_digits (l.digits + 1) (l.value * 10 + (b - 48)) bs ≡ line_after_digits l.digits l.value (b ∷ bs)
  unfolding line_after_digits
  line_step bs i j =
      let e : l.digits + suc (length bs) ≡ l.digits + 1 + length bs = omega arith in
      rw (le-leb 48 b i, le-leb b 57 j, e)

-- the tests of a line that ends, in the definition's order
tests : (p q r : Bool) (x : Parsed) → pick (p && q && r) x bad ≡ pick p (pick q (pick r x bad) bad) bad
tests true true r x = refl
tests true false r x = refl
tests false q r x = refl

run_is : (bs : List ℕ) (l : Line) → parsed_of (bytewise l bs) ≡ line_after_digits l.digits l.value bs
unfolding line_after_digits
run_is [] l = rw (add-zero l.digits) (tests (leb 1 l.digits) (leb l.digits 10) (leb l.value 4294967295) (state l.value))
run_is (b ∷ bs) l =
    ⊎_elim
    (λ (hn : l.digits < 10).
    ⊎_elim
    (λ (low : b < 48). run_bad l b bs (with_low l b low) (not_digits l.digits l.value (b ∷ bs) (digits_low l b bs low)))
    (λ (i : 48 ≤ b).
    ⊎_elim
    (λ (high : 57 < b). run_bad l b bs (with_high l b high) (not_digits l.digits l.value (b ∷ bs) (digits_high l b bs high)))
    (λ (j : b ≤ 57).
    ⊎_elim
    (λ (large : 4294967295 < l.value).
    run_bad l b bs (with_large l b large) (not_value l.digits l.value (b ∷ bs) (omega (arith, value_grows (b ∷ bs) l.value))))
    (λ (k : l.value ≤ 4294967295).
    run_good l b bs _ _ (with_digit l b hn i j k) (run_is bs (record { digits = l.digits + 1; value = l.value * 10 + (b - 48) }) ∙ line_step l b bs i j))
    (lt_or_le 4294967295 l.value))
    (lt_or_le 57 b))
    (lt_or_le b 48))
    (λ (hn : 10 ≤ l.digits). run_bad l b bs (with_long l b hn) (not_long l.digits l.value (b ∷ bs) (omega arith)))
    (lt_or_le l.digits 10)

-- ---- byte by byte, a text says what its lines say
bytewise_snoc : (l : Line) (cs : List ℕ) (b : ℕ) → bytewise l (cs ++ (b ∷ [])) ≡ with_byte (bytewise l cs) b
bytewise_snoc l [] b = refl
bytewise_snoc l (c ∷ cs) b = bytewise_snoc (with_byte l c) cs b

pick_digits : (t u v w : Bool) (l m : Line) → 0 < l.digits → 0 < m.digits → 0 < (pick t (pick u (pick v (pick w l m) m) m) m).digits
pick_digits true true true true l m h k = h
pick_digits true true true false l m h k = k
pick_digits true true false w l m h k = k
pick_digits true false v w l m h k = k
pick_digits false u v w l m h k = k

begun : (l : Line) (b : ℕ) → 0 < (with_byte l b).digits
unfolding with_byte
begun l b = pick_digits (ltb l.digits 10) (leb 48 b) (leb b 57) (leb l.value 4294967295) _ no_state (omega arith) (omega arith)

still : (l : Line) (bs : List ℕ) → 0 < l.digits → 0 < (bytewise l bs).digits
still l [] h = h
still l (b ∷ bs) h = still (with_byte l b) bs (begun l b)

last_line : (line : List ℕ) → parsed_from (bytewise empty line) [] ≡ map line_of (last_line_of line)
unfolding parsed_from
last_line [] = refl
last_line (b ∷ bs) =
    let n : 0 < (bytewise (with_byte empty b) bs).digits = still (with_byte empty b) bs (begun empty b) in
    rw (ne_eqb (bytewise (with_byte empty b) bs).digits 0 (λ e. omega arith)) (ap (λ (r : Parsed). r ∷ []) (run_is (b ∷ bs) empty))

text_step : (line : List ℕ) (b : ℕ) (bs : List ℕ) (t : Bool) → parsed_from empty bs ≡ map line_of (lines_from [] bs)
    → parsed_from (bytewise empty (line ++ (b ∷ []))) bs ≡ map line_of (lines_from (line ++ (b ∷ [])) bs)
    → pick t (parsed_of (bytewise empty line) ∷ parsed_from empty bs) (parsed_from (with_byte (bytewise empty line) b) bs)
    ≡ map line_of (pick t (line ∷ lines_from [] bs) (lines_from (line ++ (b ∷ [])) bs))
text_step line b bs true e f = ap₂ (λ (x : Parsed) (xs : List Parsed). x ∷ xs) (run_is line empty) e
text_step line b bs false e f = ap (λ (l : Line). parsed_from l bs) (sym (bytewise_snoc empty line b)) ∙ f

text_from : (line text : List ℕ) → parsed_from (bytewise empty line) text ≡ map line_of (lines_from line text)
unfolding parsed_from
text_from line [] = last_line line
text_from line (b ∷ bs) = text_step line b bs (eqb b 10) (text_from [] bs) (text_from (line ++ (b ∷ [])) bs)

pub text_is : (text : List ℕ) → parsed_from empty text ≡ parsed_lines text
text_is = text_from []

-- ---- where a scan stops
abbrev ended : Scan → Bool
ended x = is_some x.end

abbrev place : Scan → ℕ
place x = unwrap_or x.end 0

module _ (b at : ℕ) (bs : List ℕ) (l : Line) where
  abbrev next : Scan
  next = scanned bs (at + 1) (with_byte l b)

  within_step : (t : Bool) → (ended next ≡ true → (at + 1 < (place next)) × ((place next) ≤ at + 1 + length bs))
      → ended (pick t (record { line = l; end = Some (at + 1) }) next) ≡ true
      → (at < (place (pick t (record { line = l; end = Some (at + 1) }) next)))
      × ((place (pick t (record { line = l; end = Some (at + 1) }) next)) ≤ at + suc (length bs))
  within_step true ih e = (omega arith, omega arith)
  within_step false ih e = let w = ih e in (omega (arith, w.0), omega (arith, w.1))

pub scan_within : (xs : List ℕ) (at : ℕ) (l : Line) → ended (scanned xs at l) ≡ true → (at < (place (scanned xs at l))) × ((place (scanned xs at l)) ≤ at + length xs)
unfolding scanned
scan_within [] at l e = absurd (false≢true e)
scan_within (b ∷ bs) at l e = within_step b at bs l (eqb b 10) (scan_within bs (at + 1) (with_byte l b)) e

-- ---- a part that is read into a block
-- no line end in it: the line so far
part_step : (t : Bool) (room b at : ℕ) (bs : List ℕ) (l : Line)
    → (ended (next b at bs l) ≡ false → filling (suc room) (with_byte l b) bs ≡ record { states = []; line = (next b at bs l).line; used = length bs; is_bad = false })
    → ended (pick t (record { line = l; end = Some (at + 1) }) (next b at bs l)) ≡ false
    → pick t (line_ended (parsed_of l) 1 (filling room empty bs)) (preceded [] 1 (filling (suc room) (with_byte l b) bs))
    ≡ record { states = []; line = (pick t (record { line = l; end = Some (at + 1) }) (next b at bs l)).line; used = suc (length bs); is_bad = false }
part_step true room b at bs l ih e = absurd (true≢false e)
part_step false room b at bs l ih e =
    ap (preceded [] 1) (ih e) ∙ (let w : 1 + length bs ≡ suc (length bs) = omega arith in rw w)

fill_part : (room : ℕ) (xs : List ℕ) (at : ℕ) (l : Line) → ended (scanned xs at l) ≡ false
    → filling (suc room) l xs ≡ record { states = []; line = (scanned xs at l).line; used = length xs; is_bad = false }
unfolding scanned filling
fill_part room [] at l e = refl
fill_part room (b ∷ bs) at l e = part_step (eqb b 10) room b at bs l (fill_part room bs (at + 1) (with_byte l b)) e

-- a line end in it: what the line says, and then the rest
after_one : (r : Parsed) (n : ℕ) (f : Filling) → preceded [] 1 (line_ended r n f) ≡ line_ended r (suc n) f
after_one (state v) n f = let e : 1 + (n + f.used) ≡ suc n + f.used = omega arith in rw e
after_one bad n f = let e : 1 + n ≡ suc n = omega arith in rw e

-- the line q, which ends n bytes further on
abbrev line_then : ℕ → List ℕ → Line → ℕ → Filling
line_then room xs l n = line_ended (parsed_of l) n (filling room empty (drop n xs))

end_step : (t : Bool) (room b at : ℕ) (bs : List ℕ) (l : Line)
    → (ended (next b at bs l) ≡ true → (at + 1 < (place (next b at bs l)))
    × (filling (suc room) (with_byte l b) bs ≡ line_then room bs (next b at bs l).line ((place (next b at bs l)) - (at + 1))))
    → (q : Scan) → q ≡ pick t (record { line = l; end = Some (at + 1) }) (next b at bs l) → ended q ≡ true
    → pick t (line_ended (parsed_of l) 1 (filling room empty bs)) (preceded [] 1 (filling (suc room) (with_byte l b) bs))
    ≡ line_then room (b ∷ bs) q.line ((place q) - at)
end_step true room b at bs l ih q s e =
    let g : (place q) - at ≡ suc 0 = (let w = ap (λ (x : Scan). (place x)) s in omega (arith, w)) in
    rw (g, ap (λ (x : Scan). x.line) s)
end_step false room b at bs l ih q s e =
    let w = ih (sym (ap (λ (x : Scan). ended x) s) ∙ e) in
    let a = ap (λ (x : Scan). (place x)) s in
    let g : (place q) - at ≡ suc ((place (next b at bs l)) - (at + 1)) = omega (arith, w.0, a) in
    rw (g, ap (λ (x : Scan). x.line) s, w.1) (after_one (parsed_of (next b at bs l).line) _ _)

fill_end : (room : ℕ) (xs : List ℕ) (at : ℕ) (l : Line) → ended (scanned xs at l) ≡ true
    → filling (suc room) l xs ≡ line_then room xs (scanned xs at l).line ((place (scanned xs at l)) - at)
unfolding scanned filling
fill_end room [] at l e = absurd (false≢true e)
fill_end room (b ∷ bs) at l e =
    end_step (eqb b 10) room b at bs l (λ w. ((scan_within bs (at + 1) (with_byte l b) w).0, fill_end room bs (at + 1) (with_byte l b) w)) _ refl e

-- no room, or no byte
fill_full : (l : Line) (xs : List ℕ) → filling 0 l xs ≡ none_read l
unfolding filling
fill_full l [] = refl
fill_full l (b ∷ bs) = refl

fill_none : (room : ℕ) (l : Line) → filling room l [] ≡ none_read l
unfolding filling
fill_none room l = refl

-- ---- the lines that were read so far: their states are in the block, and the rest is still to be read
pub record Reached (s block₀ : List ℕ) (at count : ℕ) (line : Line) (block : List ℕ) (i : ℕ) (l : Line) (k : ℕ) : Type 0 where
  pub done : List ℕ
  pub text : filling (length block₀ - count) line (drop at s) ≡ preceded done (i - at) (filling (length block₀ - k) l (drop i s))
  pub put : block ≡ sets block₀ count done
  pub place : k ≡ count + length done
  pub from : at ≤ i
  pub size : length block ≡ length block₀

after_none : (n : ℕ) (f : Filling) → n ≡ 0 → preceded [] n f ≡ f
after_none n f e = let z : n + f.used ≡ f.used = omega arith in rw z

pub reached_none : (s block : List ℕ) (at count : ℕ) (line : Line) → Reached s block at count line block at line count
reached_none s block at count line = record {
  done = [];
  text = sym (after_none (at - at) (filling (length block - count) line (drop at s)) (omega arith));
  put = refl;
  place = omega arith;
  from = omega arith;
  size = refl;
}

after_after : (xs : List ℕ) (m v n : ℕ) (f : Filling) → preceded xs m (preceded (v ∷ []) n f) ≡ preceded (xs ++ (v ∷ [])) (m + n) f
after_after xs m v n f =
    let e : m + (n + f.used) ≡ m + n + f.used = omega arith in
    rw (e, append_assoc xs (v ∷ []) f.states)

-- what is answered, and what the block holds then
abbrev pub Filling_is : List ℕ → List ℕ → ℕ → ℕ → Line → List ℕ → Filled → Type 0
Filling_is s block₀ at count line block r =
    (r ≡ filled_from at count (filling (length block₀ - count) line (drop at s)))
    × (block ≡ sets block₀ count (filling (length block₀ - count) line (drop at s)).states)

module _ {s block₀ block : List ℕ} {at count i k : ℕ} {line l : Line} (r : Reached s block₀ at count line block i l k) where
  abbrev q : Scan
  q = scanned (drop i s) i l

  room : k < length block → length block₀ - k ≡ suc (length block₀ - (k + 1))
  room h = omega (arith, r.size)

  -- a line ended: its reading, and then the rest
  line_text : k < length block → ended q ≡ true
      → filling (length block₀ - k) l (drop i s) ≡ line_ended (parsed_of q.line) ((place q) - i) (filling (length block₀ - (k + 1)) empty (drop (place q) s))
  line_text h e =
      let w = scan_within (drop i s) i l e in
      let j : i + ((place q) - i) ≡ (place q) = omega (arith, w.0) in
      rw (room h, fill_end (length block₀ - (k + 1)) (drop i s) i l e, drop-drop ((place q) - i) i s, j)

  -- one state more
  reached_more : k < length block → ended q ≡ true → is_state q.line ≡ true → Reached s block₀ at count line (set block k q.line.value) (place q) empty (k + 1)
  reached_more h e v =
      let t : i - at + ((place q) - i) ≡ (place q) - at = omega (arith, r.from, (scan_within (drop i s) i l e).0) in
      let z : parsed_of q.line ≡ state q.line.value = rw v in
      record {
        done = r.done ++ (q.line.value ∷ []);
        text = r.text ∙ rw (line_text h e, z) (after_after r.done (i - at) q.line.value ((place q) - i) _ ∙ rw t);
        put = rw (r.put, r.place) (sym (sets_append block₀ count r.done (q.line.value ∷ [])));
        place = rw (length-append r.done (q.line.value ∷ [])) (omega (arith, r.place));
        from = omega (arith, r.from, (scan_within (drop i s) i l e).0);
        size = length-set block k q.line.value ∙ r.size;
      }

  -- nothing more is put into the block
  reached_end : (m : Line) (n to : ℕ) (b : Bool) → filling (length block₀ - k) l (drop i s) ≡ record { states = []; line = m; used = n; is_bad = b } → i + n ≡ to
      → Filling_is s block₀ at count line block (record { at = to; line = m; count = k; bad = b })
  reached_end m n to b e h =
      let w : filling (length block₀ - count) line (drop at s) ≡ record { states = r.done; line = m; used = i - at + n; is_bad = b } =
      r.text ∙ rw (e, append-nil r.done) in
      let p : at + (i - at + n) ≡ to = omega (arith, r.from) in
      (rw (w, p, r.place), rw w r.put)

  -- the block is full; the part is used up; it has no line end any more; the line is bad
  reached_full : length block ≤ k → Filling_is s block₀ at count line block (record { at = i; line = l; count = k; bad = false })
  reached_full h =
      let e : length block₀ - k ≡ 0 = omega (arith, r.size) in
      reached_end l 0 i false (rw (e, fill_full l (drop i s))) (omega arith)

  reached_all : length s ≤ i → Filling_is s block₀ at count line block (record { at = i; line = l; count = k; bad = false })
  reached_all h = reached_end l 0 i false (rw (drop_of_length-le s h, fill_none (length block₀ - k) l)) (omega arith)

  pub reached_stop : (ltb i (length s) && ltb k (length block)) ≡ false → Filling_is s block₀ at count line block (record { at = i; line = l; count = k; bad = false })
  reached_stop e =
      ⊎_elim
      (λ (b : ltb i (length s) ≡ true). reached_full (ltb-false k (length block) (and_right (ltb i (length s)) (ltb k (length block)) e b)))
      (λ (b : ltb i (length s) ≡ false). reached_all (ltb-false i (length s) b))
      (true_or_false (ltb i (length s)))

  reached_part : k < length block → ended q ≡ false → i < length s → Filling_is s block₀ at count line block (record { at = length s; line = q.line; count = k; bad = false })
  reached_part h e le =
      reached_end q.line (length (drop i s)) (length s) false (rw (room h) (fill_part (length block₀ - (k + 1)) (drop i s) i l e)) (omega (arith, length-drop i s))

  reached_bad : k < length block → ended q ≡ true → is_state q.line ≡ false
      → Filling_is s block₀ at count line block (record { at = (place q); line = empty; count = k; bad = true })
  reached_bad h e v =
      let z : parsed_of q.line ≡ bad = rw v in
      reached_end empty ((place q) - i) (place q) true (line_text h e ∙ rw z) (omega (arith, (scan_within (drop i s) i l e).0))

  -- the same for what the scan answered
  module _ (x : Scan) (is : x ≡ q) (h : k < length block) where
    pub part_read : x.end ≡ None → i < length s → Filling_is s block₀ at count line block (record { at = length s; line = x.line; count = k; bad = false })
    part_read e le = rw is (reached_part h (ap is_some (ap (λ (y : Scan). y.end) (sym is) ∙ e)) le)

    module _ (j : ℕ) (e : x.end ≡ Some j) where
      stop : ended q ≡ true
      stop = ap is_some (ap (λ (y : Scan). y.end) (sym is) ∙ e)

      there : place q ≡ j
      there = ap (λ (o : Option ℕ). unwrap_or o 0) (ap (λ (y : Scan). y.end) (sym is) ∙ e)

      pub more_read : is_state x.line ≡ true → Reached s block₀ at count line (set block k x.line.value) j empty (k + 1)
      more_read v = rw (is, ← there) (reached_more h stop (rw is at v))

      pub bad_read : is_state x.line ≡ false → Filling_is s block₀ at count line block (record { at = j; line = empty; count = k; bad = true })
      bad_read v = rw (← there) (reached_bad h stop (rw is at v))

      pub further : i < length s → length s - j < length s - i
      further lt = rw (← there) (omega (arith, (scan_within (drop i s) i l stop).0))

-- ---- a text in parts: what the bytes that were read say, whatever follows
abbrev pub bad_if : Bool → List Parsed
bad_if t = pick t (bad ∷ []) []

abbrev pub Reads : Line → List ℕ → List ℕ → Filling → Type 0
Reads l xs later f = parsed_from l (take f.used xs ++ later) ≡ map state f.states ++ (bad_if f.is_bad ++ parsed_from f.line later)

-- one byte more in front, which ends a line
reads_line : (r : Parsed) (b : ℕ) (bs later : List ℕ) (f : Filling) → Reads empty bs later f → (l : Line) → parsed_of l ≡ r → eqb b 10 ≡ true
    → Reads l (b ∷ bs) later (line_ended r 1 f)
unfolding parsed_from
reads_line (state v) b bs later f e l s t =
    let w : 1 + f.used ≡ suc f.used = omega arith in
    rw (w, t, s) (ap (λ (rs : List Parsed). state v ∷ rs) e)
reads_line bad b bs later f e l s t = rw (t, s)

-- one that does not
reads_byte : (b : ℕ) (bs later : List ℕ) (l : Line) (f : Filling) → Reads (with_byte l b) bs later f → eqb b 10 ≡ false → Reads l (b ∷ bs) later (preceded [] 1 f)
unfolding parsed_from
reads_byte b bs later l f e t =
    let w : 1 + f.used ≡ suc f.used = omega arith in
    rw (w, t) e

reads_step : (t : Bool) (l : Line) (b : ℕ) (bs later : List ℕ) (f g : Filling) → eqb b 10 ≡ t → Reads empty bs later f → Reads (with_byte l b) bs later g
    → Reads l (b ∷ bs) later (pick t (line_ended (parsed_of l) 1 f) (preceded [] 1 g))
reads_step true l b bs later f g t d e = reads_line (parsed_of l) b bs later f d l refl t
reads_step false l b bs later f g t d e = reads_byte b bs later l g e t

pub fill_reads : (room : ℕ) (l : Line) (xs later : List ℕ) → Reads l xs later (filling room l xs)
unfolding filling
fill_reads room l [] later = refl
fill_reads zero l (b ∷ bs) later = refl
fill_reads (suc room) l (b ∷ bs) later =
    reads_step (eqb b 10) l b bs later (filling room empty bs) (filling (suc room) (with_byte l b) bs) refl (fill_reads room empty bs later) (fill_reads (suc room) (with_byte l b) bs later)

-- ---- where it stops: within the part; and unless a line was bad or the room is used up, at the part's end, with no line end left
pub record Stops (room : ℕ) (xs : List ℕ) (f : Filling) : Type 0 where
  pub within : f.used ≤ length xs
  pub fits : length f.states ≤ room
  pub whole : f.is_bad ≡ false → length f.states < room → f.used ≡ length xs
  pub spare : f.is_bad ≡ true → length f.states < room
  -- if there is room and a byte, a byte is read
  pub moves : 0 < room → 0 < length xs → 0 < f.used

stops_line : (r : Parsed) (room b : ℕ) (bs : List ℕ) (f : Filling) → Stops room bs f → Stops (suc room) (b ∷ bs) (line_ended r 1 f)
stops_line (state v) room b bs f s = record {
  within = omega (arith, s.within);
  fits = omega (arith, s.fits);
  whole = λ e h. omega (arith, s.whole e (omega arith));
  spare = λ e. omega (arith, s.spare e);
  moves = λ h k. omega arith;
}
stops_line bad room b bs f s = record { within = omega arith; fits = omega arith; whole = λ e h. absurd (true≢false e); spare = λ e. omega arith; moves = λ h k. omega arith }

stops_step : (t : Bool) (r : Parsed) (room b : ℕ) (bs : List ℕ) (f g : Filling) → Stops room bs f → Stops (suc room) bs g
    → Stops (suc room) (b ∷ bs) (pick t (line_ended r 1 f) (preceded [] 1 g))
stops_step true r room b bs f g s u = stops_line r room b bs f s
stops_step false r room b bs f g s u = record {
  within = omega (arith, u.within);
  fits = u.fits;
  whole = λ e h. omega (arith, u.whole e h);
  spare = u.spare;
  moves = λ h k. omega arith;
}

pub fill_stops : (room : ℕ) (l : Line) (xs : List ℕ) → Stops room xs (filling room l xs)
unfolding filling
fill_stops room l [] = record { within = omega arith; fits = omega arith; whole = λ e h. refl; spare = λ e. absurd (false≢true e); moves = λ h k. absurd (omega arith) }
fill_stops zero l (b ∷ bs) = record { within = omega arith; fits = omega arith; whole = λ e h. absurd (omega arith); spare = λ e. absurd (false≢true e); moves = λ h k. absurd (omega arith) }
fill_stops (suc room) l (b ∷ bs) =
    stops_step (eqb b 10) (parsed_of l) room b bs (filling room empty bs) (filling (suc room) (with_byte l b) bs) (fill_stops room empty bs) (fill_stops (suc room) (with_byte l b) bs)

-- after a line end there is no line so far
line_gone : (r : Parsed) → (line_ended r 1 (none_read empty)).line ≡ empty
line_gone (state v) = refl
line_gone bad = refl

pub fill_newline : (room : ℕ) (l : Line) → 0 < room → (filling room l (10 ∷ [])).line ≡ empty
unfolding filling
fill_newline zero l h = absurd (omega arith)
fill_newline (suc room) l h = line_gone (parsed_of l)
