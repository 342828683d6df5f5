-- What the parts of the calls answer, put together. Assumes nothing.
use Prim.Native.Nat.{ℕ, ◌+◌, ◌*◌, ◌≤◌, ◌<◌, min}
use native.Mathlib.Omega.{arith}
use mathlib.Core.Path.{◌≡◌, refl, sym, ap, ap₂, ◌∙◌, subst}
use mathlib.Core.Logic.{⊎_elim}
use mathlib.Core.Bool.{Bool, true, false}
use mathlib.Core.List.{List, ◌++◌}
use borrow.Author.Tests.{eq-eqb, ne_eqb, lt-ltb, le-ltb}
use borrow.Rule.Slice.PartMut.{mid_of, put_mid}
use lib.ListN.{length, take, drop, replicate, length-take}
use lib.Seq.{take-take, take_all, drop-drop, length-take-le}
use Rattle.std.proofs.lemmas.List.Edits.{paste_all}
use Rattle.std.proofs.lemmas.Slice.{put_mid-paste}
use Rattle.limits.specs.Limits.{history_words, waiting_words, scratch_words}
use Rattle.refusals.specs.Numbers.{UNSOUND}
use Rattle.refusals.specs.Refusals.{number_of}
use Rattle.refusals.specs.declared.Refusal.{Refusal}
use Rattle.refusals.proofs.Positive.{refuses, refusal_above}
use Rattle.lists.specs.Choice.{pick, first}
use Rattle.lists.proofs.Tests.{lt_or_le, true_or_false}
use Rattle.table.specs.declared.Table.{Table}
use Rattle.table.specs.Sound.{is_sound}
use Rattle.verdict.specs.Verdict.{cleared}
use Rattle.session.specs.declared.Session.{Session}
use Rattle.session.specs.Session.{Step, Answer, Effect, StepEffect, step_effect, feeding, closing}
use Rattle.records.specs.declared.Record.{Record}
use Rattle.records.specs.declared.Summary.{Summary}
use Rattle.records.specs.Records.{record_at}
use Rattle.scheduler.specs.Scheduler.{part_of, pasted, session_of, block_of, leave_rows, turn_rows, close_rows}
use Rattle.scheduler.specs.Work.{Turning, Closing, next_place, misfits, told_of, unchanged, Stored, leave_number_in, leave_work, Serving, not_served, fed_in, served_by, serve_work, turn_work, Ending, not_closed, closed_in, closed_by, close_work}

-- ---- the words of one record are a part of the buffer
first_words : (k n : ℕ) (xs : List ℕ) → take (min k n) xs ≡ take k (take n xs)
first_words k n xs =
    ⊎_elim (λ (h : k < n). let e : min k n ≡ k = omega arith in rw e (sym (take-take k n xs (omega arith))))
    (λ (h : n ≤ k). let e : min k n ≡ n = omega arith in
    rw e (sym (take_all k (take n xs) (let b = taken_few n xs in omega arith)))) (lt_or_le k n)
  where
    taken_few : (n : ℕ) (xs : List ℕ) → length (take n xs) ≤ n
    taken_few n xs = let e = length-take n xs in omega arith

pub fed_parts : (t : Table) (r : Record) (p : ℕ) (h w x o : List ℕ) {a : Step} {hl xl ol : List ℕ} (m kw kh : ℕ)
    → m ≡ min r.waiting waiting_words → kw ≡ m → kh ≡ history_words → length hl ≡ history_words
    → ◌≡◌ {A = StepEffect} (record { step = a; history = hl; scratch = xl; out = ol })
    (step_effect (feeding (session_of t r) (mid_of (waiting_words * p) kw w) (mid_of (history_words * p) kh h) x o))
    → ◌≡◌ {A = StepEffect} (record { step = a; history = put_mid (history_words * p) kh h hl; scratch = xl; out = ol }) (fed_in t r p h w x o)
fed_parts t r p h w x o {a} {hl} {xl} {ol} m kw kh em ew eh long e =
    let b : mid_of (waiting_words * p) kw w ≡ block_of r p w =
    ap (λ (k : ℕ). take k (drop (waiting_words * p) w)) (ew ∙ em) ∙ first_words r.waiting waiting_words (drop (waiting_words * p) w) in
    let c : mid_of (history_words * p) kh h ≡ part_of history_words p h = ap (λ (k : ℕ). take k (drop (history_words * p) h)) eh in
    let q : ◌≡◌ {A = StepEffect} (record { step = a; history = hl; scratch = xl; out = ol }) (step_effect (feeding (session_of t r) (block_of r p w) (part_of history_words p h) x o)) =
    e ∙ ap₂ (λ (u v : List ℕ). step_effect (feeding (session_of t r) u v x o)) b c in
    let d : put_mid (history_words * p) kh h hl ≡ pasted (history_words * p) hl h =
    ap (λ (z : List ℕ). take (history_words * p) h ++ (hl ++ z)) (drop-drop kh (history_words * p) h ∙ ap (λ (k : ℕ). drop (history_words * p + k) h) (eh ∙ sym long)) in
    (λ i. record { step = a; history = d i; scratch = xl; out = ol })
    ∙ ap (λ (f : StepEffect). record { step = f.step; history = pasted (history_words * p) f.history h; scratch = f.scratch; out = f.out }) q

pub closed_parts : (t : Table) (r : Record) (p : ℕ) (h x o : List ℕ) (a : Session → Answer) {z : Session} {xl ol : List ℕ} (kh : ℕ) → z ≡ session_of t r → kh ≡ history_words
    → ◌≡◌ {A = Effect} (record { answer = a z; history = mid_of (history_words * p) kh h; scratch = xl; out = ol }) (closing z (mid_of (history_words * p) kh h) x o)
    → ◌≡◌ {A = Effect} (record { answer = a (session_of t r); history = part_of history_words p h; scratch = xl; out = ol }) (closed_in t r p h x o)
closed_parts t r p h x o a {z} {xl} {ol} kh ez eh e =
    subst (λ (k : ℕ). ◌≡◌ {A = Effect} (record { answer = a (session_of t r); history = take k (drop (history_words * p) h); scratch = xl; out = ol }) (closing (session_of t r) (take k (drop (history_words * p) h)) x o)) eh
    (subst (λ (u : Session). ◌≡◌ {A = Effect} (record { answer = a u; history = mid_of (history_words * p) kh h; scratch = xl; out = ol }) (closing u (mid_of (history_words * p) kh h) x o)) ez e)

-- a block that was copied into its places
pub pasted_in : (at k : ℕ) (w : List ℕ) {z block : List ℕ} → z ≡ block → length block ≡ k → put_mid at k w z ≡ pasted at block w
pasted_in at k w {z} {block} e l = put_mid-paste at k w z block (length block) e l refl ∙ paste_all w at block (length block) refl

-- ---- a number that is told
told_sound : (t : Table) (n : ℕ) → told_of t n ≡ 0 → is_sound t ≡ true
told_sound t n e =
    ⊎_elim (λ (s : is_sound t ≡ true). s) (λ (s : is_sound t ≡ false). absurd (let q : UNSOUND ≡ 0 = rw s at e in omega arith)) (true_or_false (is_sound t))

pub told_none : (t : Table) (n : ℕ) → told_of t n ≡ 0 → n ≡ 0
told_none t n e = rw (told_sound t n e) at e

told_unsound : (t : Table) → (told_of t 0 ≡ 0 → ⊥) → is_sound t ≡ false
told_unsound t z =
    ⊎_elim (λ (s : is_sound t ≡ true). absurd (z (rw s))) (λ (s : is_sound t ≡ false). s) (true_or_false (is_sound t))

-- a table that is refused is refused whatever the rows say, and on one that is sound the rows decide
pub unsound_told : (t : Table) (e : Refusal) (m : ℕ) → number_of e ≡ told_of t 0 → number_of e ≡ told_of t m
unsound_told t e m p = p ∙ rw (told_unsound t (λ k. refusal_above e (p ∙ k)))

pub sound_told : (t : Table) {n m : ℕ} → 0 ≡ told_of t 0 → n ≡ m → n ≡ told_of t m
sound_told t p q = rw (told_sound t 0 (sym p)) q

-- ---- where nobody waits and the table is sound, the scratch is cleared
pub passed : (t : Table) (x : List ℕ) {z : List ℕ} → 0 ≡ told_of t 0 → z ≡ cleared x → z ≡ pick (is_sound t) (cleared x) x
passed t x p q = q ∙ rw (told_sound t 0 (sym p))

-- the first words of the scratch are zero
pub zeros_before : (k : ℕ) (x z : List ℕ) → k ≡ scratch_words → scratch_words ≤ length x → z ≡ replicate (length (mid_of 0 k x)) 0 → put_mid 0 k x z ≡ cleared x
zeros_before k x z e h q =
    let l : length (mid_of 0 k x) ≡ scratch_words = ap (λ (j : ℕ). length (take j x)) e ∙ length-take-le scratch_words x h in
    ap (λ (y : List ℕ). put_mid 0 k x y) (q ∙ ap (λ (j : ℕ). replicate j 0) l) ∙ ap (λ (j : ℕ). replicate scratch_words 0 ++ drop j x) e

-- ---- leaving a block
-- what is known where the rows are asked
pub record LeaveTried (t : Table) (s : Summary) (i : ℕ) (block w : List ℕ) (r : Record) (b : Bool) : Type 0 where
  pub found : r ≡ record_at s.records i
  pub bad : b ≡ misfits t.rule_count s

module _ {t : Table} {s : Summary} {i : ℕ} {block w : List ℕ} {r : Record} {b : Bool} (g : LeaveTried t s i block w r b) where
  abbrev pub of_leave : ℕ
  of_leave = first (leave_rows b s.count r i (length block) (length w))

  leave_is : {n : ℕ} → n ≡ told_of t of_leave → n ≡ leave_number_in t s i (length block) (length w)
  leave_is p = p ∙ ap (told_of t) (ap₂ (λ (b : Bool) (r : Record). first (leave_rows b s.count r i (length block) (length w))) g.bad g.found)

  pub left_no : (e : Refusal) → number_of e ≡ told_of t of_leave
      → ◌≡◌ {A = Stored} (record { done = record { number = number_of e; change = unchanged s.count }; waiting = w }) (leave_work t s i block w)
  unfolding leave_work
  left_no e p = rw (← leave_is p, refuses e)

  pub left_yes : {z : List ℕ} → 0 ≡ told_of t of_leave → z ≡ pasted (waiting_words * i) block w
      → ◌≡◌ {A = Stored} (record { done = record { number = 0; change = record { place = i; seen = r.seen; waiting = length block } }; waiting = z }) (leave_work t s i block w)
  unfolding leave_work
  left_yes p e =
      (λ j. record { done = record { number = 0; change = record { place = i; seen = (g.found j).seen; waiting = length block } }; waiting = e j }) ∙ rw (← leave_is p)

-- ---- a turn
-- what is known where the number n is found
pub record TurnTried (t : Table) (s : Summary) (from : ℕ) (h w x o : List ℕ) (p : ℕ) (r : Record) (b : Bool) (n : ℕ) : Type 0 where
  pub place : p ≡ next_place s.records s.count from
  pub found : r ≡ record_at s.records p
  pub bad : b ≡ misfits t.rule_count s
  pub number : n ≡ first (turn_rows b s.count r (length h) (length w) (length x) (length o))

module _ {t : Table} {s : Summary} {from : ℕ} {h w x o : List ℕ} {p : ℕ} {r : Record} {b : Bool} {n : ℕ} (g : TurnTried t s from h w x o p r b n) where
  abbrev served_place : ℕ
  served_place = next_place s.records s.count from

  record_is : r ≡ record_at s.records served_place
  record_is = g.found ∙ ap (record_at s.records) g.place

  abbrev of_turn : ℕ
  of_turn = first (turn_rows (misfits t.rule_count s) s.count (record_at s.records served_place) (length h) (length w) (length x) (length o))

  turn_is : n ≡ of_turn
  turn_is = g.number ∙ ap₂ (λ (b : Bool) (r : Record). first (turn_rows b s.count r (length h) (length w) (length x) (length o))) g.bad record_is

  pub turned_no : {k : ℕ} {d : Turning} → (n ≡ 0 → ⊥) → k ≡ told_of t n → d ≡ not_served k from s.count
      → ◌≡◌ {A = Serving} (record { done = d; history = h; scratch = x; out = o }) (turn_work t s from h w x o)
  unfolding turn_work
  turned_no z ek ed =
      ap (λ (u : Turning). record { done = u; history = h; scratch = x; out = o }) (ed ∙ ap (λ (k : ℕ). not_served k from s.count) (ek ∙ ap (told_of t) turn_is))
      ∙ rw (ne_eqb of_turn 0 (λ q. z (turn_is ∙ q)))

  pub turned_idle : {k : ℕ} {xl : List ℕ} → n ≡ 0 → s.count ≤ p → (k ≡ told_of t 0) × (xl ≡ pick (is_sound t) (cleared x) x)
      → ◌≡◌ {A = Serving} (record { done = not_served k from s.count; history = h; scratch = xl; out = o }) (turn_work t s from h w x o)
  unfolding turn_work
  turned_idle z l e =
      (λ j. record { done = not_served (e.0 j) from s.count; history = h; scratch = e.1 j; out = o })
      ∙ rw (eq-eqb of_turn 0 (sym turn_is ∙ z), le-ltb served_place s.count (omega (arith, g.place)))

  pub turned_served : {a : Step} {hl xl ol : List ℕ} {d : Turning} → n ≡ 0 → p < s.count
      → ◌≡◌ {A = StepEffect} (record { step = a; history = hl; scratch = xl; out = ol }) (fed_in t r p h w x o) → d ≡ served_by a r p from s.count
      → ◌≡◌ {A = Serving} (record { done = d; history = hl; scratch = xl; out = ol }) (turn_work t s from h w x o)
  unfolding turn_work
  turned_served {hl = hl} {xl = xl} {ol = ol} z l e ed =
      ap (λ (u : Turning). record { done = u; history = hl; scratch = xl; out = ol }) ed
      ∙ ap (λ (f : StepEffect). record { done = served_by f.step r p from s.count; history = f.history; scratch = f.scratch; out = f.out }) e
      ∙ ap₂ (λ (u : Record) (k : ℕ). serve_work t u k from s.count h w x o) record_is g.place
      ∙ rw (eq-eqb of_turn 0 (sym turn_is ∙ z), lt-ltb served_place s.count (omega (arith, g.place)))

-- ---- a close
-- what is known where the number n is found
pub record CloseTried (t : Table) (s : Summary) (i : ℕ) (h x o : List ℕ) (r : Record) (b : Bool) (n : ℕ) : Type 0 where
  pub found : r ≡ record_at s.records i
  pub bad : b ≡ misfits t.rule_count s
  pub number : n ≡ first (close_rows b s.count r i (length h) (length x) (length o))

module _ {t : Table} {s : Summary} {i : ℕ} {h x o : List ℕ} {r : Record} {b : Bool} {n : ℕ} (g : CloseTried t s i h x o r b n) where
  abbrev of_close : ℕ
  of_close = first (close_rows (misfits t.rule_count s) s.count (record_at s.records i) i (length h) (length x) (length o))

  close_is : n ≡ of_close
  close_is = g.number ∙ ap₂ (λ (b : Bool) (r : Record). first (close_rows b s.count r i (length h) (length x) (length o))) g.bad g.found

  pub ended_no : {k : ℕ} {d : Closing} → (n ≡ 0 → ⊥) → k ≡ told_of t n → d ≡ not_closed k s.count
      → ◌≡◌ {A = Ending} (record { done = d; scratch = x; out = o }) (close_work t s i h x o)
  unfolding close_work
  ended_no z ek ed =
      ap (λ (u : Closing). record { done = u; scratch = x; out = o }) (ed ∙ ap (λ (k : ℕ). not_closed k s.count) (ek ∙ ap (told_of t) close_is))
      ∙ rw (ne_eqb of_close 0 (λ q. z (close_is ∙ q)))

  pub ended_yes : {a : Answer} {hl xl ol : List ℕ} {d : Closing} → n ≡ 0
      → ◌≡◌ {A = Effect} (record { answer = a; history = hl; scratch = xl; out = ol }) (closed_in t r i h x o) → d ≡ closed_by a i s.count
      → ◌≡◌ {A = Ending} (record { done = d; scratch = xl; out = ol }) (close_work t s i h x o)
  unfolding close_work
  ended_yes {xl = xl} {ol = ol} z e ed =
      ap (λ (u : Closing). record { done = u; scratch = xl; out = ol }) ed
      ∙ ap (λ (f : Effect). record { done = closed_by f.answer i s.count; scratch = f.scratch; out = f.out }) (e ∙ ap (λ (u : Record). closed_in t u i h x o) g.found)
      ∙ rw (eq-eqb of_close 0 (sym close_is ∙ z))
