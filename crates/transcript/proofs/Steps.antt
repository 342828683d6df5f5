-- Each step of the program keeps what was shown right for what was read. Assumes nothing.
use Prim.Native.Nat.{ℕ, ◌+◌, ◌-◌, ◌≤◌, ◌<◌, min}
use native.Mathlib.Omega.{arith}
use mathlib.Core.Path.{◌≡◌, refl, sym, ap, ◌∙◌}
use mathlib.Core.Bool.{Bool, true, false, not}
use mathlib.Core.Logic.{⊎_elim}
use mathlib.Core.List.{List, [], ◌∷◌, ◌++◌, map, map-append, append_assoc, append-nil}
use borrow.Author.Tests.{eq-eqb, ne_eqb, eqb-true, not-false, le-leb, lt-leb, le-ltb, ltb-true}
use lib.Dec.{eqb, ltb}
use lib.ListN.{length, take, length-append}
use Rattle.limits.specs.Limits.{max_seen}
use Rattle.lists.specs.Choice.{pick}
use Rattle.lists.specs.Sequence.{ticks}
use Rattle.lists.specs.Bits.{bit_at}
use Rattle.lists.proofs.Tests.{true_or_false}
use Rattle.lists.proofs.Sequences.{length_ticks, concat_map_snoc}
use Rattle.mltl.specs.Mltl.{delay}
use Rattle.table.proofs.Soundness.{watched_short}
use Rattle.session.specs.declared.Session.{Session}
use Rattle.session.specs.Session.{Effect, feeding, closing, unfit, with_seen, delay_of as delayIn}
use Rattle.session.proofs.Effects.{opened_is, opened_rule, opened_sound, opened_fit, feed_number, close_number_lem}
use Rattle.acts.specs.Claim.{Going}
use Rattle.acts.specs.World.{wide}
use Rattle.mission.specs.Calls.{as_wide, session_after, Call, feed, close, begin, accepted, states_of, verdicts_of, states_fed, verdicts_given}
use Rattle.mission.specs.Mission.{Start, session_of, start_delay, verdict_of}
use Rattle.mission.proofs.ThirdDemand.{third_demand, session_is, seen_within}
use Rattle.lines.specs.declared.Line.{Line}
use Rattle.lines.specs.Lines.{Parsed, state, bad, parsed_lines, parsed_from, empty, parsed_of, Filling, filling}
use Rattle.lines.proofs.Laws.{text_is, bad_if, fill_reads, fill_stops}
use Rattle.rows.specs.Rows.{rows_named, rows_from, decimal, bad_line, feed_line}
use Rattle.rows.proofs.Laws.{rows_append}
use Rattle.transcript.specs.Printed.{states_in, none_bad, in_blocks, rule_name, rows_up_to, feed_refused, told_all, told_bad, told, printed, Running, Stopped}

-- ---- readings that begin with states
states_first : (xs : List ℕ) (rs : List Parsed) → states_in (map state xs ++ rs) ≡ xs ++ states_in rs
states_first [] rs = refl
states_first (x ∷ xs) rs = ap (λ (ys : List ℕ). x ∷ ys) (states_first xs rs)

bad_first : (xs : List ℕ) (rs : List Parsed) → none_bad (map state xs ++ rs) ≡ none_bad rs
bad_first [] rs = refl
bad_first (x ∷ xs) rs = bad_first xs rs

either : (t : Bool) {a b c : List ℕ} → a ≡ c → b ≡ c → pick t a b ≡ c
either true e f = e
either false e f = f

-- ---- the session that was opened is fit
first_fit : (m : Start) → unfit (session_of m) ≡ false
first_fit m = opened_fit false m.simplified.table m.rule m.opened

module _ (m : Start) where
  abbrev D : ℕ
  D = start_delay m

  -- ---- the beginning
  pub running_begin : Running m false [] [] (session_of m) m.history empty [] 0
  unfolding rows_from
  running_begin = record {
    calls = [];
    reached = begin;
    rows = refl;
    next = refl;
    blocks = λ e. refl;
    fits = omega arith;
    text = λ later. sym (text_is later);
  }

  -- ---- what was settled so far
  module _ {last : Bool} {read shown : List ℕ} {s : Session} {h : List ℕ} {line : Line} {waiting : List ℕ} {tick : ℕ} (r : Running m last read shown s h line waiting tick) where
    abbrev fed : List ℕ
    fed = states_fed r.calls

    going : Going (verdict_of m) D m.history h fed (verdicts_given r.calls)
    going = third_demand.claim m wide r.calls (as_wide s) h false r.reached

    -- what was shown are the rows of the settled ticks, on every trace that begins with the states fed
    shown_is : (more : List ℕ) → shown ≡ rows_up_to m (fed ++ more) (length fed - D)
    shown_is more = r.rows ∙ ap (rows_named (rule_name m) 0) (going.exact more)

    -- ---- lines without a bad one
    module _ (xs : List ℕ) where
      abbrev f : Filling
      f = filling (1024 - length waiting) line xs

      said : (later : List ℕ) → parsed_lines ((read ++ take f.used xs) ++ later)
          ≡ map state (fed ++ waiting) ++ (map state f.states ++ (bad_if f.is_bad ++ parsed_from f.line later))
      said later =
          rw (append_assoc read (take f.used xs) later)
          (r.text (take f.used xs ++ later) ∙ ap (λ (rs : List Parsed). map state (fed ++ waiting) ++ rs) (fill_reads (1024 - length waiting) line xs later))

      states_join : (rs : List Parsed) → map state (fed ++ waiting) ++ (map state f.states ++ rs) ≡ map state (fed ++ (waiting ++ f.states)) ++ rs
      states_join rs =
          sym (append_assoc (map state (fed ++ waiting)) (map state f.states) rs)
          ∙ ap (λ (qs : List Parsed). qs ++ rs) (sym (map-append state (fed ++ waiting) f.states) ∙ ap (map state) (append_assoc fed waiting f.states))

      pub running_lines : f.is_bad ≡ false → Running m last (read ++ take f.used xs) shown s h f.line (waiting ++ f.states) tick
      running_lines e = record {
        calls = r.calls;
        reached = r.reached;
        rows = r.rows;
        next = r.next;
        blocks = r.blocks;
        fits = omega (arith, length-append waiting f.states, (fill_stops (1024 - length waiting) line xs).fits, r.fits);
        text = λ later. said later ∙ rw e (states_join (parsed_from f.line later));
      }

    -- ---- the session
    same_session : s ≡ with_seen (session_of m) (length fed)
    same_session = session_is false m wide r.calls (as_wide s) h false r.reached

    seen_is : s.seen ≡ length fed
    seen_is = ap (λ (q : Session). q.seen) same_session

    fit : unfit s ≡ false
    fit = rw same_session (first_fit m)

    delay_is : delayIn s ≡ D
    delay_is = rw (same_session, opened_is false m.simplified.table m.rule m.opened)

    -- a rule of a sound table has a short delay
    pub delay_short : delayIn s ≤ 4095
    delay_short =
        let u = m.simplified.table in
        rw delay_is
        (watched_short false u m.rule (opened_sound false u m.rule m.opened) (opened_rule false u m.rule m.opened))

    -- the count of states is within its limit, and so are the ticks whose verdicts a close gives
    counted : s.seen ≤ max_seen
    counted = seen_within false m wide r.calls (as_wide s) h false r.reached

    pub ticks_within_lem : tick + min s.seen (delayIn s) ≤ max_seen
    ticks_within_lem = rw delay_is (omega (arith, seen_is, r.next, going.sum, counted))

    -- ---- a bad line: nothing more is fed
    pub stopped_bad : last ≡ false → (xs : List ℕ) → (f xs).is_bad ≡ true
        → Stopped m (read ++ take (f xs).used xs) (shown ++ bad_line (s.seen + (length waiting + length (f xs).states) + 1))
    unfolding printed
    stopped_bad e xs b later =
        let all = fed ++ (waiting ++ (f xs).states) in
        let k = (fill_stops (1024 - length waiting) line xs).spare b in
        let w : parsed_lines ((read ++ take (f xs).used xs) ++ later) ≡ map state all ++ (bad ∷ parsed_from (f xs).line later) =
        said xs later ∙ rw b (states_join xs (bad ∷ parsed_from (f xs).line later)) in
        let n : length all ≡ length fed + (length waiting + length (f xs).states) =
        omega (arith, length-append fed (waiting ++ (f xs).states), length-append waiting (f xs).states) in
        let i : in_blocks (length all) ≡ length fed = omega (arith, n, k, r.blocks e) in
        let t : told_bad m all ≡ rows_up_to m all (length fed - D) ++ bad_line (length all + 1) = rw (i, le-leb (length fed) max_seen (omega (arith, counted, seen_is))) in
        let u : length all + 1 ≡ s.seen + (length waiting + length (f xs).states) + 1 = omega (arith, n, seen_is) in
        ap (told m) w
        ∙ rw (bad_first all (bad ∷ parsed_from (f xs).line later), states_first all (bad ∷ parsed_from (f xs).line later), append-nil all)
        (t ∙ rw (u, ← shown_is (waiting ++ (f xs).states)))

    -- ---- a feed of the states that wait
    module _ (x o : List ℕ) (hh : 4095 ≤ length h) (hx : 5280 ≤ length x) (ho : 16 ≤ length o) where
      abbrev answer : Effect
      answer = feeding s waiting h x o

      abbrev call : Call
      call = record { act = feed waiting; session = as_wide s; history = h; scratch = x; out = o; effect = answer }

      number_is : answer.answer.number ≡ pick (ltb max_seen (s.seen + length waiting)) 24 0
      number_is =
          feed_number delay s h x o max_seen waiting
          ∙ rw (fit, le-ltb 1024 (length waiting) r.fits, le-ltb (length h) 4095 hh, le-ltb (length x) 5280 hx, le-ltb (length o) 16 ho)

      pub running_fed : last ≡ false → answer.answer.number ≡ 0
          → Running m (not (eqb (length waiting) 1024)) read (shown ++ rows_named (rule_name m) tick (ticks (bit_at answer.out) answer.answer.count))
          answer.answer.session answer.history line [] (tick + answer.answer.count)
      running_fed e z =
          let us = ticks (bit_at answer.out) answer.answer.count in
          let g : verdicts_given (r.calls ++ (call ∷ [])) ≡ verdicts_given r.calls ++ us = concat_map_snoc verdicts_of r.calls call in
          let t : states_fed (r.calls ++ (call ∷ [])) ≡ fed ++ waiting = concat_map_snoc states_of r.calls call ∙ rw (eq-eqb answer.answer.number 0 z) in
          let a : 0 + length (verdicts_given r.calls) ≡ tick = omega (arith, r.next) in
          record {
            calls = r.calls ++ (call ∷ []);
            reached = accepted call r.reached (record { takes = tt; is = refl }) z;
            rows = rw (g, rows_append (decimal (rule_name m)) 0 (verdicts_given r.calls) us, a, ← r.rows);
            next = rw (g, length-append (verdicts_given r.calls) us, length_ticks (bit_at answer.out) answer.answer.count) (omega (arith, r.next));
            blocks = λ b. (let k : length waiting ≡ 1024 = eqb-true (length waiting) 1024 (not-false _ b) in
                rw (t, length-append fed waiting) (omega (arith, k, r.blocks e)));
            fits = omega arith;
            text = λ later. r.text later ∙ rw (t, append-nil (fed ++ waiting));
          }

      pub stopped_fed : last ≡ false → (answer.answer.number ≡ 0 → ⊥) → Stopped m read (shown ++ feed_line answer.answer.number)
      unfolding printed
      stopped_fed e z later =
          let over : ltb max_seen (s.seen + length waiting) ≡ true =
          ⊎_elim (λ (b : ltb max_seen (s.seen + length waiting) ≡ true). b) (λ (b : ltb max_seen (s.seen + length waiting) ≡ false). absurd (z (number_is ∙ rw b)))
          (true_or_false (ltb max_seen (s.seen + length waiting))) in
          let n : answer.answer.number ≡ 24 = number_is ∙ rw over in
          let lt = ltb-true max_seen (s.seen + length waiting) over in
          let most : length fed ≡ in_blocks max_seen = omega (arith, lt, counted, seen_is, r.fits, r.blocks e) in
          let rs = parsed_from line later in
          let all = (fed ++ waiting) ++ states_in rs in
          let long : max_seen < length all = omega (arith, lt, seen_is, length-append (fed ++ waiting) (states_in rs), length-append fed waiting) in
          let a : told_all m all ≡ feed_refused m all = rw (lt-leb (length all) max_seen long) in
          let b : told_bad m all ≡ feed_refused m all = rw (lt-leb (in_blocks (length all)) max_seen (omega (arith, long))) in
          let w : feed_refused m all ≡ shown ++ feed_line 24 = rw (← most, append_assoc fed waiting (states_in rs), ← shown_is (waiting ++ states_in rs)) in
          ap (told m) (r.text later)
          ∙ rw (bad_first (fed ++ waiting) rs, states_first (fed ++ waiting) rs) (either (none_bad rs) a b ∙ w ∙ rw (← n))

    -- ---- the end of the input
    -- a last line that lacks its line end says what it would with it
    pub newline : (line.digits ≡ 0 → ⊥) → printed m read ≡ printed m (read ++ (10 ∷ []))
    unfolding printed parsed_from
    newline n =
        let a : parsed_lines (read ++ []) ≡ map state (fed ++ waiting) ++ (parsed_of line ∷ []) = r.text [] ∙ rw (ne_eqb line.digits 0 n) in
        let b : parsed_lines (read ++ (10 ∷ [])) ≡ map state (fed ++ waiting) ++ (parsed_of line ∷ []) = r.text (10 ∷ []) in
        let c : parsed_lines read ≡ parsed_lines (read ++ (10 ∷ [])) = ap parsed_lines (sym (append-nil read)) ∙ a ∙ sym b in
        ap (told m) c

    -- the close
    module _ (x o : List ℕ) (hh : 4095 ≤ length h) (hx : 5280 ≤ length x) (ho : 64 ≤ length o) where
      abbrev closed : Effect
      closed = closing s h x o

      abbrev close_call : Call
      close_call = record { act = close; session = as_wide s; history = h; scratch = x; out = o; effect = closed }

      pub close_accepted : closed.answer.number ≡ 0
      close_accepted = close_number_lem delay s h x o ∙ rw (fit, le-ltb (length h) 4095 hh, le-ltb (length x) 5280 hx, le-ltb (length o) 64 ho)

      pub printed_all : line.digits ≡ 0 → waiting ≡ [] → printed m read ≡ shown ++ rows_named (rule_name m) tick (ticks (bit_at closed.out) closed.answer.count)
      unfolding printed parsed_from
      printed_all d none =
          let us = ticks (bit_at closed.out) closed.answer.count in
          let c = third_demand.claim m wide (r.calls ++ (close_call ∷ [])) (session_after close_call) closed.history true (accepted close_call r.reached (record { takes = tt; is = refl }) close_accepted) in
          let g : verdicts_given (r.calls ++ (close_call ∷ [])) ≡ verdicts_given r.calls ++ us = concat_map_snoc verdicts_of r.calls close_call in
          let t : states_fed (r.calls ++ (close_call ∷ [])) ≡ fed = concat_map_snoc states_of r.calls close_call ∙ rw (eq-eqb closed.answer.number 0 close_accepted) (append-nil fed) in
          let v : verdicts_given r.calls ++ us ≡ ticks (verdict_of m fed) (length fed) = sym g ∙ c.exact ∙ rw t in
          let a : 0 + length (verdicts_given r.calls) ≡ tick = omega (arith, r.next) in
          let k : shown ++ rows_named (rule_name m) tick us ≡ rows_up_to m fed (length fed) =
          rw (r.rows, ← a) (sym (rows_append (decimal (rule_name m)) 0 (verdicts_given r.calls) us)) ∙ ap (rows_named (rule_name m) 0) v in
          let w : parsed_lines read ≡ map state fed ++ [] =
          ap parsed_lines (sym (append-nil read)) ∙ r.text [] ∙ rw (none, eq-eqb line.digits 0 d, append-nil fed) in
          let q : told_all m fed ≡ rows_up_to m fed (length fed) = rw (le-leb (length fed) max_seen (omega (arith, counted, seen_is))) in
          ap (told m) w ∙ rw (bad_first fed [], states_first fed [], append-nil fed) (q ∙ sym k)
