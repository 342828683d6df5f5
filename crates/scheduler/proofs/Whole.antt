-- The calls over the whole list: what the functions answer for what one pass has found is what the definitions say of the list. Assumes nothing.
use Prim.Native.Nat.{ℕ, ◌+◌, ◌*◌, ◌≤◌, ◌<◌}
use native.Mathlib.Omega.{arith}
use mathlib.Core.Path.{◌≡◌, refl, sym, ap, ap₂, ◌∙◌}
use mathlib.Core.Logic.{⊎_elim}
use mathlib.Core.Bool.{Bool, true, false, not, ◌||◌, ◌&&◌}
use mathlib.Core.List.{List, ◌++◌}
use borrow.Author.Tests.{eq-eqb, ne_eqb, lt-ltb, le-ltb, lt-leb, le-leb, eqb-true, eqb-false}
use lib.Dec.{ltb, leb, eqb}
use lib.ListN.{length, set, take, drop, take-append-drop, get_or-eq_default}
use lib.Seq.{set_out, set-get_or, drop-drop}
use Rattle.limits.specs.Limits.{max_list, max_block, max_seen, history_words, waiting_words}
use Rattle.refusals.specs.Numbers.{UNSOUND}
use Rattle.lists.specs.Choice.{pick, first}
use Rattle.lists.specs.Sequence.{every}
use Rattle.lists.proofs.Tests.{lt_or_le, true_or_false, ltb_not, leb_not, zero_not}
use Rattle.lists.proofs.Sequences.{every_both}
use Rattle.table.specs.declared.Table.{Table}
use Rattle.table.specs.Sound.{is_sound}
use Rattle.records.specs.declared.Record.{Record}
use Rattle.records.specs.Records.{no_record, record_at, seen_as, waiting_as, with_seen, with_waiting, applied}
use Rattle.records.specs.Reading.{greatest, summary_of}
use Rattle.records.proofs.Lists.{summary_at, summary_past, all_within, all_below}
use Rattle.records.proofs.Changes.{seen_at}
use Rattle.scheduler.specs.Rotation.{waits_at, next_waiting}
use Rattle.scheduler.specs.Scheduler.{part_of, pasted, session_of, block_of, fits, unfit, leave_rows, turn_rows, close_rows, Left, leave_number, leave_effect, Turned, fed_at, served, not_turned, turn_number, turn_effect, Closed, closed_at, close_number, close_effect}
use Rattle.scheduler.specs.Work.{next_place, misfits, told_of, unchanged, leave_work, Serving, not_served, served_by, serve_work, idle_work, turn_work, Ending, finish_work, close_work}
use Rattle.session.specs.Session.{Effect, step_effect, refused, feeding, closing}
use Rattle.session.proofs.Effects.{feed_number, feed_refused_lem, close_number_lem, close_refused}
use Rattle.verdict.specs.Verdict.{cleared}
use Rattle.scheduler.proofs.Parts.{part_length}
use Rattle.scheduler.proofs.Accepted.{fed_accepted, closed_accepted, closed_seen}
use Rattle.scheduler.proofs.Answers.{told_none}
use Rattle.scheduler.proofs.Fits.{leave_fits, TurnFits, turn_fits, close_fits}
use Rattle.scheduler.proofs.Search.{next_ext}

-- ---- 25: every record fits if the largest numbers do
not_all : (a b c : Bool) → not ((not a || not b) && not c) ≡ ((a && b) || c)
not_all true true true = refl
not_all true true false = refl
not_all true false true = refl
not_all true false false = refl
not_all false b true = refl
not_all false b false = refl

misfits_is : (rules : ℕ) (rs : List Record) → misfits rules (summary_of rs) ≡ not (every (λ i r. fits rules r) 0 rs)
unfolding summary_of
misfits_is rules rs =
    sym (ap not (every_both (λ i (r : Record). ltb r.rule rules) (λ i (r : Record). leb r.waiting max_block) 0 rs
    ∙ ap₂ (λ (a b : Bool). a && b) (all_below (λ r. r.rule) rules 0 rs) (all_within (λ r. r.waiting) max_block 0 rs)
    ∙ ap₂ (λ (a b : Bool). a && b)
    (ap₂ (λ (a b : Bool). a || b) (zero_not (length rs)) (ltb_not (greatest (λ r. r.rule) rs) rules)) (leb_not (greatest (λ r. r.waiting) rs) max_block))
    ∙ not_all (ltb 0 (length rs)) (leb rules (greatest (λ r. r.rule) rs)) (ltb max_block (greatest (λ r. r.waiting) rs)))

-- a row whose test is one of two: the first, or else by the second
two_tests : (s b : Bool) (rest : ℕ) → pick (not s || b) UNSOUND rest ≡ pick s (pick b UNSOUND rest) UNSOUND
two_tests true b rest = refl
two_tests false b rest = refl

-- ---- a change of the list
-- past its end nothing changes
pub unchanged_is : (rs : List Record) → applied rs (unchanged (length rs)) ≡ rs
unchanged_is rs =
    ap (λ (ys : List Record). with_waiting ys (length rs) 0) (set_out rs (length rs) (seen_as (record_at rs (length rs)) 0) (omega arith))
    ∙ set_out rs (length rs) (waiting_as (record_at rs (length rs)) 0) (omega arith)

-- a count that is what it was
waiting_only : (rs : List Record) (i k : ℕ) → applied rs (record { place = i; seen = (record_at rs i).seen; waiting = k }) ≡ with_waiting rs i k
waiting_only rs i k = ap (λ (ys : List Record). with_waiting ys i k) (set-get_or rs i no_record)

seen_only : (rs : List Record) (i v : ℕ) → i < length rs → (record_at rs i).waiting ≡ 0 → applied rs (record { place = i; seen = v; waiting = 0 }) ≡ with_seen rs i v
seen_only rs i v h e =
    let r : Record = record_at (with_seen rs i v) i in
    let z : r.waiting ≡ 0 = ap (λ (y : Record). y.waiting) (seen_at rs i v h) ∙ e in
    ap (λ (k : ℕ). set (with_seen rs i v) i (waiting_as r k)) (sym z) ∙ set-get_or (with_seen rs i v) i no_record

-- a part written back
pasted_same : (w i : ℕ) (xs : List ℕ) → length (part_of w i xs) ≡ w → pasted (w * i) (part_of w i xs) xs ≡ xs
pasted_same w i xs e =
    ap (λ (ys : List ℕ). take (w * i) xs ++ (part_of w i xs ++ ys)) (ap (λ (k : ℕ). drop (w * i + k) xs) e ∙ sym (drop-drop w (w * i) xs))
    ∙ ap (λ (ys : List ℕ). take (w * i) xs ++ ys) (take-append-drop w (drop (w * i) xs)) ∙ take-append-drop (w * i) xs

-- ---- the record in question: where the pass has not kept it, the list is too long, or has no such place
record_same : (rs : List Record) → length rs ≤ max_list → (j : ℕ) → record_at (summary_of rs).records j ≡ record_at rs j
record_same rs l j =
    ⊎_elim (λ (h : j < max_list). summary_at rs j h)
    (λ (h : max_list ≤ j). summary_past rs j h ∙ sym (get_or-eq_default rs no_record (omega arith))) (lt_or_le j max_list)

place_same : (rs : List Record) (from : ℕ) → length rs ≤ max_list → next_place (summary_of rs).records (length rs) from ≡ next_waiting rs from
place_same rs from l =
    rw (le-ltb max_list (length rs) l)
    (next_ext (waits_at (summary_of rs).records) (waits_at rs) (length rs) from (λ j h. ap (λ (r : Record). ltb 0 r.waiting) (record_same rs l j)))

outside : (n i : ℕ) → max_list ≤ i → (leb n i || ltb max_list n) ≡ true
outside n i h = ⊎_elim (λ (l : i < n). rw (lt-leb n i l, lt-ltb max_list n (omega arith))) (λ (l : n ≤ i). rw (le-leb n i l)) (lt_or_le i n)

or_three : (a b c : Bool) → (b || c) ≡ true → ((a || b) || c) ≡ true
or_three true b c e = refl
or_three false b c e = e

-- ---- the numbers
module _ (t : Table) (rs : List Record) where
  abbrev n : ℕ
  n = length rs

  abbrev bad : Bool
  bad = misfits t.rule_count (summary_of rs)

  -- row 25 of the list: the table first, then the records
  told_is : (rest : ℕ) → told_of t (pick bad UNSOUND rest) ≡ pick (unfit t rs) UNSOUND rest
  told_is rest =
      ap (λ (b : Bool). told_of t (pick b UNSOUND rest)) (misfits_is t.rule_count rs) ∙ sym (two_tests (is_sound t) (not (every (λ i r. fits t.rule_count r) 0 rs)) rest)

  leave_number_is : (i k w : ℕ) → told_of t (first (leave_rows bad n (record_at (summary_of rs).records i) i k w)) ≡ leave_number t rs i k w
  leave_number_is i k w =
      told_is _
      ∙ ⊎_elim (λ (h : i < max_list). ap (λ (r : Record). first (leave_rows (unfit t rs) n r i k w)) (summary_at rs i h))
      (λ (h : max_list ≤ i). rw (or_three (eqb k 0) (leb n i) (ltb max_list n) (outside n i h))) (lt_or_le i max_list)

  close_number_is : (i h x o : ℕ) → told_of t (first (close_rows bad n (record_at (summary_of rs).records i) i h x o)) ≡ close_number t rs i h x o
  close_number_is i h x o =
      told_is _
      ∙ ⊎_elim (λ (l : i < max_list). ap (λ (r : Record). first (close_rows (unfit t rs) n r i h x o)) (summary_at rs i l))
      (λ (l : max_list ≤ i). rw (outside n i l)) (lt_or_le i max_list)

  turn_number_is : (from h w x o : ℕ)
      → told_of t (first (turn_rows bad n (record_at (summary_of rs).records (next_place (summary_of rs).records n from)) h w x o)) ≡ turn_number t rs from h w x o
  turn_number_is from h w x o =
      told_is _
      ∙ ⊎_elim (λ (l : max_list < n). rw (lt-ltb max_list n l))
      (λ (l : n ≤ max_list). ap (λ (r : Record). first (turn_rows (unfit t rs) n r h w x o))
      (ap (record_at (summary_of rs).records) (place_same rs from l) ∙ record_same rs l (next_waiting rs from))) (lt_or_le max_list n)

-- ---- leaving a block
module _ (t : Table) (rs : List Record) (i : ℕ) (block w : List ℕ) where
  abbrev left_by : ℕ
  left_by = leave_number t rs i (length block) (length w)

  pub whole_left : let v = leave_work t (summary_of rs) i block w in
      ◌≡◌ {A = Left} (record { number = v.done.number; records = applied rs v.done.change; waiting = v.waiting }) (leave_effect t rs i block w)
  unfolding summary_of leave_work leave_effect
  whole_left =
      rw (leave_number_is t rs i (length block) (length w))
      (⊎_elim
      (λ (b : eqb left_by 0 ≡ true).
      let f = leave_fits (unfit t rs) (length rs) (record_at rs i) i (length block) (length w) (eqb-true left_by 0 b) in
      rw (b, record_same rs f.short i) (λ j. record { number = 0; records = waiting_only rs i (length block) j; waiting = pasted (waiting_words * i) block w }))
      (λ (b : eqb left_by 0 ≡ false). rw b (λ j. record { number = left_by; records = unchanged_is rs j; waiting = w }))
      (true_or_false (eqb left_by 0)))

-- ---- a table that is not sound is refused by the session
module _ (t : Table) (r : Record) (h x o : List ℕ) (unsound : is_sound t ≡ false) where
  feed_unsound : (block : List ℕ) → feeding (session_of t r) block h x o ≡ refused UNSOUND (session_of t r) h x o
  feed_unsound block =
      let n : (feeding (session_of t r) block h x o).answer.number ≡ UNSOUND = feed_number _ (session_of t r) h x o max_seen block ∙ rw unsound refl in
      let k = feed_refused_lem _ (session_of t r) h x o max_seen block (λ z. let q : UNSOUND ≡ 0 = sym n ∙ z in omega arith) in
      k.0 ∙ ap (λ (n : ℕ). refused n (session_of t r) h x o) (sym (feed_number _ (session_of t r) h x o max_seen block) ∙ n)

  close_unsound : closing (session_of t r) h x o ≡ refused UNSOUND (session_of t r) h x o
  close_unsound =
      let n : (closing (session_of t r) h x o).answer.number ≡ UNSOUND = close_number_lem _ (session_of t r) h x o ∙ rw unsound refl in
      let k = close_refused _ (session_of t r) h x o (λ z. let q : UNSOUND ≡ 0 = sym n ∙ z in omega arith) in
      k.0 ∙ ap (λ (n : ℕ). refused n (session_of t r) h x o) (sym (close_number_lem _ (session_of t r) h x o) ∙ n)

-- ---- a turn
module _ (t : Table) (rs : List Record) (from : ℕ) (h w x o : List ℕ) where
  abbrev turned : Serving → Turned
  turned v = record {
    number = v.done.number;
    served = v.done.served;
    place = v.done.place;
    count = v.done.count;
    records = applied rs v.done.change;
    history = v.history;
    scratch = v.scratch;
    out = v.out;
  }

  not_turned_lem : (n : ℕ) → turned (record { done = not_served n from (length rs); history = h; scratch = x; out = o }) ≡ not_turned n rs from h x o
  not_turned_lem n = λ j. record { number = n; served = false; place = from; count = 0; records = unchanged_is rs j; history = h; scratch = x; out = o }

  abbrev s : ℕ
  s = next_waiting rs from

  turn_served : turn_number t rs from (length h) (length w) (length x) (length o) ≡ 0 → s < length rs
      → turned (serve_work t (record_at rs s) s from (length rs) h w x o) ≡ served t rs s h w x o
  turn_served z l =
      rw (eq-eqb (fed_at t rs s h w x o).answer.number 0 (fed_accepted t rs s h w x o z l))
      refl

  turn_unsound : is_sound t ≡ false → history_words * length rs ≤ length h → s < length rs
      → turned (serve_work t (record_at rs s) s from (length rs) h w x o) ≡ not_turned UNSOUND rs from h x o
  turn_unsound unsound room l =
      ap (λ (e : Effect). turned (record { done = served_by (step_effect e).step (record_at rs s) s from (length rs); history = pasted (history_words * s) e.history h; scratch = e.scratch; out = e.out }))
      (feed_unsound t (record_at rs s) (part_of history_words s h) x o unsound (block_of (record_at rs s) s w))
      ∙ (λ j. record {
        number = UNSOUND;
        served = false;
        place = from;
        count = 0;
        records = unchanged_is rs j;
        history = pasted_same history_words s h (part_length history_words (length rs) h room s l) j;
        scratch = x;
        out = o;
      })

  abbrev found : ℕ
  found = next_place (summary_of rs).records (length rs) from

  abbrev number : ℕ
  number = first (turn_rows (misfits t.rule_count (summary_of rs)) (length rs) (record_at (summary_of rs).records found) (length h) (length w) (length x) (length o))

  known : number ≡ 0 → TurnFits (misfits t.rule_count (summary_of rs)) (length rs) (record_at (summary_of rs).records found) (length h) (length w) (length x) (length o)
  known z = turn_fits _ (length rs) _ (length h) (length w) (length x) (length o) z

  -- no row fits but, perhaps, that the table is not sound
  turn_clear : number ≡ 0 → turned (pick (ltb s (length rs)) (serve_work t (record_at rs s) s from (length rs) h w x o) (idle_work t from (length rs) h x o)) ≡ turn_effect t rs from h w x o
  unfolding turn_effect
  turn_clear z =
      let told : told_of t 0 ≡ turn_number t rs from (length h) (length w) (length x) (length o) = ap (told_of t) (sym z) ∙ turn_number_is t rs from (length h) (length w) (length x) (length o) in
      ⊎_elim
      (λ (sound : is_sound t ≡ true).
      let n : turn_number t rs from (length h) (length w) (length x) (length o) ≡ 0 = sym told ∙ rw sound in
      rw (eq-eqb _ 0 n)
      (⊎_elim (λ (l : s < length rs). rw (lt-ltb s (length rs) l) (turn_served n l))
      (λ (l : length rs ≤ s). rw (le-ltb s (length rs) l, sound)
      (λ j. record { number = 0; served = false; place = from; count = 0; records = unchanged_is rs j; history = h; scratch = cleared x; out = o }))
      (lt_or_le s (length rs))))
      (λ (unsound : is_sound t ≡ false).
      let n : turn_number t rs from (length h) (length w) (length x) (length o) ≡ UNSOUND = sym told ∙ rw unsound in
      rw n
      (⊎_elim (λ (l : s < length rs). rw (lt-ltb s (length rs) l) (turn_unsound unsound (known z).history l))
      (λ (l : length rs ≤ s). rw (le-ltb s (length rs) l, unsound) (not_turned_lem UNSOUND)) (lt_or_le s (length rs))))
      (true_or_false (is_sound t))

  turn_other : (number ≡ 0 → ⊥) → not_turned (told_of t number) rs from h x o ≡ turn_effect t rs from h w x o
  unfolding turn_effect
  turn_other z =
      let told : told_of t number ≡ turn_number t rs from (length h) (length w) (length x) (length o) = turn_number_is t rs from (length h) (length w) (length x) (length o) in
      rw (ne_eqb _ 0 (λ q. z (told_none t number (told ∙ q)))) (ap (λ (n : ℕ). not_turned n rs from h x o) told)

  pub whole_turned : turned (turn_work t (summary_of rs) from h w x o) ≡ turn_effect t rs from h w x o
  unfolding summary_of turn_work
  whole_turned =
      ⊎_elim
      (λ (b : eqb number 0 ≡ true).
      let z : number ≡ 0 = eqb-true number 0 b in
      let l : length rs ≤ max_list = (known z).short in
      rw (b, place_same rs from l, record_same rs l s) (turn_clear z))
      (λ (b : eqb number 0 ≡ false). rw b (not_turned_lem (told_of t number) ∙ turn_other (eqb-false number 0 b)))
      (true_or_false (eqb number 0))

-- ---- a close
module _ (t : Table) (rs : List Record) (i : ℕ) (h x o : List ℕ) where
  abbrev ended : Ending → Closed
  ended v = record { number = v.done.number; count = v.done.count; records = applied rs v.done.change; scratch = v.scratch; out = v.out }

  abbrev not_ended : ℕ → Closed
  not_ended n = record { number = n; count = 0; records = rs; scratch = x; out = o }

  abbrev close_found : ℕ
  close_found = first (close_rows (misfits t.rule_count (summary_of rs)) (length rs) (record_at (summary_of rs).records i) i (length h) (length x) (length o))

  close_clear : close_found ≡ 0 → ended (finish_work t (record_at rs i) i (length rs) h x o) ≡ close_effect t rs i h x o
  unfolding close_effect
  close_clear z =
      let k = close_fits (misfits t.rule_count (summary_of rs)) (length rs) (record_at (summary_of rs).records i) i (length h) (length x) (length o) z in
      let told : told_of t 0 ≡ close_number t rs i (length h) (length x) (length o) = ap (told_of t) (sym z) ∙ close_number_is t rs i (length h) (length x) (length o) in
      ⊎_elim
      (λ (sound : is_sound t ≡ true).
      let n : close_number t rs i (length h) (length x) (length o) ≡ 0 = sym told ∙ rw sound in
      let idle : (record_at rs i).waiting ≡ 0 = ap (λ (r : Record). r.waiting) (sym (record_same rs k.short i)) ∙ k.idle in
      rw (eq-eqb _ 0 n, eq-eqb (closed_at t rs i h x o).answer.number 0 (closed_accepted t rs i h x o n), closed_seen t rs i h x o n)
      (λ j. record {
        number = 0;
        count = (closed_at t rs i h x o).answer.count;
        records = seen_only rs i 0 k.within idle j;
        scratch = (closed_at t rs i h x o).scratch;
        out = (closed_at t rs i h x o).out;
      }))
      (λ (unsound : is_sound t ≡ false).
      let n : close_number t rs i (length h) (length x) (length o) ≡ UNSOUND = sym told ∙ rw unsound in
      rw (n, close_unsound t (record_at rs i) (part_of history_words i h) x o unsound)
      (λ j. record { number = UNSOUND; count = 0; records = unchanged_is rs j; scratch = x; out = o }))
      (true_or_false (is_sound t))

  close_other : (close_found ≡ 0 → ⊥) → not_ended (told_of t close_found) ≡ close_effect t rs i h x o
  unfolding close_effect
  close_other z =
      let told : told_of t close_found ≡ close_number t rs i (length h) (length x) (length o) = close_number_is t rs i (length h) (length x) (length o) in
      rw (ne_eqb _ 0 (λ q. z (told_none t close_found (told ∙ q)))) (ap not_ended told)

  pub whole_closed : ended (close_work t (summary_of rs) i h x o) ≡ close_effect t rs i h x o
  unfolding summary_of close_work
  whole_closed =
      ⊎_elim
      (λ (b : eqb close_found 0 ≡ true).
      let z : close_found ≡ 0 = eqb-true close_found 0 b in
      let k = close_fits (misfits t.rule_count (summary_of rs)) (length rs) (record_at (summary_of rs).records i) i (length h) (length x) (length o) z in
      rw (b, record_same rs k.short i) (close_clear z))
      (λ (b : eqb close_found 0 ≡ false).
      rw b ((λ j. record { number = told_of t close_found; count = 0; records = unchanged_is rs j; scratch = x; out = o }) ∙ close_other (eqb-false close_found 0 b)))
      (true_or_false (eqb close_found 0))
