-- The steps of the program, over the effects of the calls that they make. Assumes nothing.
use Prim.Native.Nat.{ℕ, suc, ◌+◌, ◌-◌, ◌≤◌, ◌<◌, min}
use native.Mathlib.Nat.{add_assoc}
use native.Mathlib.Omega.{arith}
use mathlib.Core.Path.{◌≡◌, refl, sym, ap, subst, ◌∙◌}
use mathlib.Core.Bool.{Bool, true, false, not, false≢true, true≢false}
use mathlib.Core.List.{List, [], ◌∷◌, ◌++◌, map, append_assoc, append-nil}
use borrow.Author.Tests.{le-ltb, lt-leb, eq-eqb}
use lib.Dec.{eqb}
use lib.ListN.{length, get_or, take, drop, length-append, length-drop, length-map, get_or-map}
use lib.Seq.{take-add, take_all, sets, sets-eq, length-take-le, take-append_seam}
use Rattle.std.specs.Prelude.{Result, Ok, Err}
use Rattle.std.specs.Result.{result_unwrap_or}
use Rattle.limits.specs.Limits.{max_seen}
use Rattle.refusals.specs.declared.Refusal.{Refusal}
use Rattle.lists.specs.Sequence.{ticks}
use Rattle.lists.specs.Bits.{bit_at}
use Rattle.mltl.specs.Mltl.{delay}
use Rattle.session.specs.declared.Session.{Session}
use Rattle.session.specs.Session.{Answer, Effect, no_session, opening_told, opening_by, opening, fed, feeding, closing, delay_of, unfit}
use Rattle.session.proofs.Answers.{feed_fits}
use Rattle.session.proofs.Effects.{feed_accepted, close_accepted as close_is}
use Rattle.table.specs.declared.Table.{Table}
use Rattle.table.specs.declared.Rule.{Rule}
use Rattle.table.specs.Sound.{is_sound}
use Rattle.table.proofs.Soundness.{sound_iff}
use Rattle.book.specs.Reading.{reading}
use Rattle.book.proofs.Sound.{accepted_sound}
use Rattle.simplify.specs.Promise.{Simplified, Promised, Simpler, simplified_told}
use Rattle.mission.specs.Mission.{Start}
use Rattle.mission.specs.Mission as mission
use Rattle.lines.specs.declared.Line.{Line}
use Rattle.lines.specs.declared.Filled.{Filled}
use Rattle.lines.specs.Lines.{empty, Filling, filling, filled_from}
use Rattle.lines.proofs.Laws.{fill_stops, fill_newline}
use Rattle.rows.specs.Rows.{Put, rows_named, max_rows, max_tick, fitting, bad_line, feed_line}
use Rattle.rows.proofs.Laws.{put_bytes}
use Rattle.transcript.specs.Printed.{name_in, rule_name, printed, Running, Stopped}
use Rattle.transcript.proofs.Steps.{running_begin, newline, ticks_within_lem, delay_short, running_lines, stopped_bad, running_fed, stopped_fed, close_accepted, printed_all}
use Rattle.watch.specs.declared.Progress.{Progress}
use Rattle.watch.specs.declared.StepAnswer.{StepAnswer}
use Rattle.watch.specs.Steps.{Runs, Follows, Begins, Ready, Fed, Steps, Closes, Passed, Consumed, Completed}

-- rows that fit, at the start of the text
fitting_is : (name tick : ℕ) (words : List ℕ) (count : ℕ) → count ≤ max_rows → tick + count ≤ max_tick
    → fitting name tick words count ≡ rows_named name tick (ticks (bit_at words) count)
fitting_is name tick words count h k = rw (le-ltb max_rows count h, le-ltb max_tick (tick + count) k)

-- ---- the start
-- what stands for an answer that is a refusal
pub simplified_or : (t : Table) (r : Result Table Refusal) → result_unwrap_or r t ≡ (simplified_told t r).table
simplified_or t (Ok u) = refl
simplified_or t (Err e) = refl

pub opened_or : (r : Result Session Refusal) → result_unwrap_or r no_session ≡ (opening_told r).session
opened_or (Ok s) = refl
opened_or (Err e) = refl

first_of : (xs : List ℕ) (a b : ℕ) → 0 < length xs → get_or xs 0 a ≡ get_or xs 0 b
first_of [] a b h = absurd (omega arith)
first_of (x ∷ xs) a b h = refl

module _ (t : Table) (s : Simplified) (promised : Promised t s) (d : Rule) where
  abbrev first_progress : Progress
  first_progress = record { session = (opening s.table 0).session; name = (get_or s.table.rules 0 d).name; line = empty; count = 0; tick = 0; going = true }

  -- a simplification has as many rules, with the same names, and one at least
  module _ (sound : is_sound t ≡ true) where
    simpler : Simpler t s.table
    simpler = (promised.accepted sound).1

    some_rule : 1 ≤ s.table.rule_count
    some_rule = ((sound_iff s.table).0 simpler.sound).some_rule

    opens : (opening s.table 0).number ≡ 0
    unfolding opening_by
    opens = rw (simpler.sound, lt-leb s.table.rule_count 0 some_rule)

    first_name : (get_or s.table.rules 0 d).name ≡ name_in t.rules 0
    first_name =
        sym (get_or-map (λ (r : Rule). r.name) s.table.rules 0 d)
        ∙ first_of (map (λ (r : Rule). r.name) s.table.rules) d.name 0 (rw (length-map s.table.rules (λ (r : Rule). r.name), ((sound_iff s.table).0 simpler.sound).rule_places) (omega arith))
        ∙ ap (λ (names : List ℕ). get_or names 0 0) simpler.names

  pub begins : Begins t first_progress
  begins book bytes n e h =
      let sound : is_sound t ≡ true = rw (← e) ((sound_iff (reading book).table).1 (accepted_sound book bytes n)) in
      let m : Start = record {
        source = mission.book book;
        read = n;
        simplified = s;
        promised = rw e promised;
        accepted = (promised.accepted sound).0;
        rule = 0;
        opened = opens sound;
        history = h;
      } in
      record {
        start = m;
        its_book = refl;
        first_rule = refl;
        its_history = refl;
        goes = refl;
        runs = λ block. (running_begin m, first_name sound ∙ rw e);
      }

-- ---- a feed
module _ (p : Progress) (at : ℕ) (h block x o : List ℕ) (a : Answer) (h' x' o' text text' : List ℕ) (used : ℕ)
    (is : record { answer = a; history = h'; scratch = x'; out = o' } ≡ feeding p.session (take p.count block) h x o)
    (fits : p.count ≤ 1024) (ticked : p.tick ≤ p.session.seen) (size : length block ≡ 1024)
    (hh : 4095 ≤ length h) (hx : 5280 ≤ length x) (ho : 16 ≤ length o) where
  abbrev E : Effect
  E = feeding p.session (take p.count block) h x o

  waits : length (take p.count block) ≡ p.count
  waits = length-take-le p.count block (omega (arith, size, fits))

  pub fed_refused : (a.number ≡ 0 → ⊥) → Put text 0 (feed_line a.number) text' used
      → Fed p at h block h' text' (record {
        progress = record { session = a.session; name = p.name; line = p.line; count = p.count; tick = p.tick; going = false };
        at = at;
        used = used;
      })
  fed_refused n put = record {
    place = refl;
    line = refl;
    ready = λ e. absurd (false≢true e);
    right = λ m read shown runs. record {
      onward = λ e. absurd (false≢true e);
      ended = λ e. (let q : E.answer.number ≡ a.number = ap (λ (y : Effect). y.answer.number) (sym is) in
          rw (put_bytes put, ← q) (stopped_fed m runs.0 x o hh hx ho refl (λ z. n (sym q ∙ z))));
    };
  }

  accepted : a.number ≡ 0 → record { answer = a; history = h'; scratch = x'; out = o' } ≡ fed (delay_of p.session) p.session (take p.count block) h x o
  accepted n = is ∙ (feed_accepted delay p.session h x o max_seen (take p.count block) (ap (λ (y : Effect). y.answer.number) (sym is) ∙ n)).0

  count_is : a.number ≡ 0
      → a.count ≡ (p.session.seen + length (take p.count block) - delay_of p.session) - (p.session.seen - delay_of p.session)
  count_is n = ap (λ (z : Effect). z.answer.count) (accepted n)

  seen_then : a.number ≡ 0 → a.session.seen ≡ p.session.seen + length (take p.count block)
  seen_then n = ap (λ (z : Effect). z.answer.session.seen) (accepted n)

  seen_fits : a.number ≡ 0 → p.session.seen + length (take p.count block) ≤ max_seen
  seen_fits n =
      let q = (feed_accepted delay p.session h x o max_seen (take p.count block) (ap (λ (y : Effect). y.answer.number) (sym is) ∙ n)).1 in
      (feed_fits max_seen (unfit p.session) p.session.seen (length (take p.count block)) (length h) (length x) (length o) q).count

  -- no tick passes the limit of the count
  pub count_few : a.number ≡ 0 → p.tick + a.count ≤ max_seen
  count_few n = omega (arith, count_is n, ticked, seen_fits n)

  pub fed_accepted : a.number ≡ 0 → Put text 0 (fitting p.name p.tick o' a.count) text' used
      → Fed p at h block h' text' (record {
        progress = record { session = a.session; name = p.name; line = p.line; count = 0; tick = p.tick + a.count; going = true };
        at = at;
        used = used;
      })
  fed_accepted n put =
      let q : E.answer.number ≡ 0 = ap (λ (y : Effect). y.answer.number) (sym is) ∙ n in
      let k = count_is n in
      let s = seen_then n in
      let w = put_bytes put ∙ fitting_is p.name p.tick o' a.count (omega (arith, k, waits, fits)) (count_few n) in
      record {
        place = refl;
        line = refl;
        ready = λ e. (refl, record { room = omega arith; ticks = omega (arith, k, s, ticked) });
        right = λ m read shown runs. record {
          onward = λ e. (
            rw (w, ← waits, runs.1)
                (subst
                (λ (z : Effect). Running m (not (eqb (length (take p.count block)) 1024)) read
                (shown ++ rows_named (rule_name m) p.tick (ticks (bit_at z.out) z.answer.count))
                z.answer.session z.history p.line [] (p.tick + z.answer.count))
                (sym is) (running_fed m runs.0 x o hh hx ho refl q)),
            runs.1,
          );
          ended = λ e. absurd (true≢false e);
        };
      }

-- ---- the close
module _ (p : Progress) (h x o : List ℕ) (a : Answer) (x' o' : List ℕ)
    (is : record { answer = a; history = h; scratch = x'; out = o' } ≡ closing p.session h x o)
    (hh : 4095 ≤ length h) (hx : 5280 ≤ length x) (ho : 64 ≤ length o) where
  same_number : (closing p.session h x o).answer.number ≡ a.number
  same_number = ap (λ (y : Effect). y.answer.number) (sym is)

  pub close_never : (text : List ℕ) → (a.number ≡ 0 → ⊥) → Closes p h text 0
  close_never text n m last read shown block runs d z = absurd (n (sym same_number ∙ close_accepted m runs.0 x o hh hx ho))

  pub close_always : (text text' : List ℕ) (used : ℕ) → Put text 0 (fitting p.name p.tick o' a.count) text' used → Closes p h text' used
  close_always text text' used put m last read shown block runs d z =
      let q = close_accepted m runs.0 x o hh hx ho in
      let y = is ∙ (close_is delay p.session h x o q).0 in
      let k : a.count ≡ min p.session.seen (delay_of p.session) = ap (λ (e : Effect). e.answer.count) y in
      let short : delay_of p.session ≤ 4095 = delay_short m runs.0 in
      let w = put_bytes put ∙ fitting_is p.name p.tick o' a.count (omega (arith, k, short)) (rw k (ticks_within_lem m runs.0)) in
      rw (w, runs.1)
      (subst (λ (e : Effect). printed m read ≡ shown ++ rows_named (rule_name m) p.tick (ticks (bit_at e.out) e.answer.count)) (sym is)
      (printed_all m runs.0 x o hh hx ho d (rw z refl)))

-- ---- a step
module _ (p : Progress) (part : List ℕ) (at : ℕ) (h block : List ℕ) (ready : Ready p) (size : length block ≡ 1024) where
  abbrev f : Filling
  f = filling (length block - p.count) p.line (drop at part)

  abbrev filled_block : List ℕ
  filled_block = sets block p.count f.states

  waiting : length (take p.count block) ≡ p.count
  waiting = length-take-le p.count block (omega (arith, size, ready.room))

  room : length block - p.count ≡ 1024 - length (take p.count block)
  room = omega (arith, size, waiting)

  fits_in : p.count + length f.states ≤ length block
  fits_in = omega (arith, (fill_stops (length block - p.count) p.line (drop at part)).fits, size, ready.room)

  -- the block's first places then: the states that waited, and those of the lines
  block_is : take (p.count + length f.states) filled_block ≡ take p.count block ++ f.states
  block_is =
      let e : filled_block ≡ take p.count block ++ f.states ++ drop (p.count + length f.states) block = sets-eq f.states block p.count fits_in in
      let n : p.count + length f.states ≡ length (take p.count block ++ f.states) = omega (arith, length-append (take p.count block) f.states, waiting) in
      rw e (ap (λ (k : ℕ). take k (take p.count block ++ f.states ++ drop (p.count + length f.states) block)) n
      ∙ take-append_seam (take p.count block ++ f.states) (drop (p.count + length f.states) block))

  -- how far the part was read
  further : at < length part → (at < at + f.used) × (at + f.used ≤ length part)
  further lt =
      let s = fill_stops (length block - p.count) p.line (drop at part) in
      let l = length-drop at part in
      (omega (arith, s.moves (omega (arith, size, ready.room)) (omega (arith, l))), omega (arith, s.within, l))

  -- the program after the lines of the part, if none of them is bad
  abbrev after : Progress
  after = record { session = p.session; name = p.name; line = f.line; count = p.count + length f.states; tick = p.tick; going = true }

  lines_run : f.is_bad ≡ false → (m : Start) (read shown : List ℕ) → Runs m false read shown p h block
      → Runs m false (read ++ take f.used (drop at part)) shown after h filled_block
  lines_run e m read shown runs = (
    rw block_is (subst (λ (n : ℕ). (filling n p.line (drop at part)).is_bad ≡ false
        → Running m false (read ++ take (filling n p.line (drop at part)).used (drop at part)) shown p.session h (filling n p.line (drop at part)).line
        (take p.count block ++ (filling n p.line (drop at part)).states) p.tick) (sym room) (running_lines m runs.0 (drop at part)) e),
    runs.1,
  )

  -- a line end alone
  gone : part ≡ 10 ∷ [] → at ≡ 0 → f.line ≡ empty
  gone e z = rw (e, z) (fill_newline (length block - p.count) p.line (omega (arith, size, ready.room)))

  took : at + f.used - at ≡ f.used
  took = omega arith

  step_bad : (text text' : List ℕ) (used : ℕ) → f.is_bad ≡ true → Put text 0 (bad_line (p.session.seen + (p.count + length f.states) + 1)) text' used
      → Steps p part at h block h filled_block text' (record {
        progress = record { session = p.session; name = p.name; line = f.line; count = p.count + length f.states; tick = p.tick; going = false };
        at = at + f.used;
        used = used;
      })
  step_bad text text' used e put = record {
    further = further;
    newline = gone;
    ready = λ g. absurd (false≢true g);
    right = λ m read shown runs. record {
      onward = λ g. absurd (false≢true g);
      ended = λ g. rw (took, put_bytes put)
          (subst (λ (k : ℕ). Stopped m (read ++ take f.used (drop at part)) (shown ++ bad_line (p.session.seen + (k + length f.states) + 1))) waiting
          (subst (λ (n : ℕ). (filling n p.line (drop at part)).is_bad ≡ true → Stopped m (read ++ take (filling n p.line (drop at part)).used (drop at part))
          (shown ++ bad_line (p.session.seen + (length (take p.count block) + length (filling n p.line (drop at part)).states) + 1)))
          (sym room) (stopped_bad m runs.0 refl (drop at part)) e));
    };
  }

  step_part : (text : List ℕ) → f.is_bad ≡ false → p.count + length f.states < 1024
      → Steps p part at h block h filled_block text (record { progress = after; at = at + f.used; used = 0 })
  step_part text e lt = record {
    further = further;
    newline = gone;
    ready = λ g. record { room = lt; ticks = ready.ticks };
    right = λ m read shown runs. record {
      onward = λ g. rw (took, append-nil shown) (lines_run e m read shown runs);
      ended = λ g. absurd (true≢false g);
    };
  }

  step_fed : (h' text : List ℕ) (r : StepAnswer) → f.is_bad ≡ false → 1024 ≤ p.count + length f.states → Fed after (at + f.used) h filled_block h' text r
      → Steps p part at h block h' filled_block text r
  step_fed h' text r e ge w =
      let full : p.count + length f.states ≡ 1024 = omega (arith, fits_in, size) in
      let t : r.at - at ≡ f.used = omega (arith, w.place) in
      record {
        further = rw w.place further;
        newline = λ e z. w.line ∙ gone e z;
        ready = λ g. (w.ready g).1;
        right = λ m read shown runs.
            rw t (subst (λ (b : Bool). Follows m (not b) (read ++ take f.used (drop at part)) (shown ++ take r.used text) r.progress h' filled_block)
            (eq-eqb (p.count + length f.states) 1024 full) (w.right m (read ++ take f.used (drop at part)) shown (lines_run e m read shown runs)));
      }

  -- the same for what the line reader answered, and for what the block holds then
  module _ (q : Filled) (b' : List ℕ) (is : q ≡ filled_from at p.count f) (bs : b' ≡ filled_block) where
    pub few_lines : q.count ≤ 1024
    few_lines = rw is (omega (arith, fits_in, size))

    pub bad_step : (text text' : List ℕ) (used : ℕ) → q.bad ≡ true → Put text 0 (bad_line (p.session.seen + (q.count + 1))) text' used
        → Steps p part at h block h b' text' (record {
          progress = record { session = p.session; name = p.name; line = q.line; count = q.count; tick = p.tick; going = false };
          at = q.at;
          used = used;
        })
    bad_step text text' used e put =
        rw bs
        (subst
        (λ (y : Filled). y.bad ≡ true → Put text 0 (bad_line (p.session.seen + y.count + 1)) text' used
        → Steps p part at h block h filled_block text' (record {
          progress = record { session = p.session; name = p.name; line = y.line; count = y.count; tick = p.tick; going = false };
          at = y.at;
          used = used;
        }))
        (sym is) (step_bad text text' used) e (subst (λ (n : ℕ). Put text 0 (bad_line n) text' used) (sym (add_assoc p.session.seen q.count 1)) put))

    pub part_step : (text : List ℕ) → q.bad ≡ false → q.count < 1024
        → Steps p part at h block h b' text (record {
          progress = record { session = p.session; name = p.name; line = q.line; count = q.count; tick = p.tick; going = true };
          at = q.at;
          used = 0;
        })
    part_step text =
        rw bs
        (subst
        (λ (y : Filled). y.bad ≡ false → y.count < 1024
        → Steps p part at h block h filled_block text (record {
          progress = record { session = p.session; name = p.name; line = y.line; count = y.count; tick = p.tick; going = true };
          at = y.at;
          used = 0;
        }))
        (sym is) (step_part text))

    pub fed_step : (h' text : List ℕ) (r : StepAnswer) → q.bad ≡ false → 1024 ≤ q.count
        → Fed (record { session = p.session; name = p.name; line = q.line; count = q.count; tick = p.tick; going = true }) q.at h b' h' text r
        → Steps p part at h block h' b' text r
    fed_step h' text r =
        rw bs
        (subst
        (λ (y : Filled). y.bad ≡ false → 1024 ≤ y.count
        → Fed (record { session = p.session; name = p.name; line = y.line; count = y.count; tick = p.tick; going = true }) y.at h filled_block h' text r
        → Steps p part at h block h' filled_block text r)
        (sym is) (step_fed h' text r))

-- ---- parts of the input
module _ (first : Progress) (part h₀ block₀ : List ℕ) where
  -- the bytes before `at` were read
  abbrev pub Through : ℕ → Progress → List ℕ → List ℕ → Type 0
  Through at p h block = (m : Start) (read : List ℕ) → Passed m read first h₀ block₀ → Passed m (read ++ take at part) p h block

  pub through_none : Through 0 first h₀ block₀
  through_none m read q = rw (append-nil read) q

  pub through_step : (at : ℕ) (p : Progress) (h block h' block' text : List ℕ) (o : StepAnswer) → at < length part → Through at p h block
      → Steps p part at h block h' block' text o → o.progress.going ≡ true → Through o.at o.progress h' block'
  through_step at p h block h' block' text o lt t s g m read q =
      let w = t m read q in
      let v = (s.right m (read ++ take at part) w.shown w.runs).onward g in
      let n : at + (o.at - at) ≡ o.at = omega (arith, (s.further lt).0) in
      let e : take at part ++ take (o.at - at) (drop at part) ≡ take o.at part = sym (take-add at (o.at - at) part) ∙ rw n in
      record { shown = _; runs = rw (append_assoc read (take at part) (take (o.at - at) (drop at part)), e) at v }

  pub through_all : (at : ℕ) (p : Progress) (h block : List ℕ) → length part ≤ at → Through at p h block
      → (m : Start) (read : List ℕ) → Passed m read first h₀ block₀ → p.going ≡ true → Passed m (read ++ part) p h block
  through_all at p h block le t m read q g = rw (take_all at part le) at (t m read q)

-- ---- the line end that the last line may lack
module _ (p : Progress) (h block : List ℕ) where
  pub complete_step : (h' block' text : List ℕ) (o : StepAnswer) → (p.line.digits ≡ 0 → ⊥) → Steps p (10 ∷ []) 0 h block h' block' text o
      → Completed p h block h' block' o.progress
  complete_step h' block' text o n s =
      let k = s.further (omega arith) in
      let w : o.at - 0 ≡ suc 0 = omega (arith, k.0, k.1) in
      record {
        ready = s.ready;
        whole = ap (λ (l : Line). l.digits) (s.newline refl refl);
        right = λ m read q g. record {
          input = read ++ (10 ∷ []);
          same = newline m q.runs.0 n;
          passed = record { shown = _; runs = rw w at ((s.right m read q.shown q.runs).onward g) };
        };
      }

  pub complete_ended : (h' block' : List ℕ) (r : Progress) → r.going ≡ false → r.line.digits ≡ 0 → Completed p h block h' block' r
  complete_ended h' block' r g e = record {
    ready = λ f. absurd (false≢true (sym g ∙ f));
    whole = e;
    right = λ m read q f. absurd (false≢true (sym g ∙ f));
  }

-- the program has ended
pub consumed_ended : (p : Progress) (part h block h' block' : List ℕ) (r : Progress) → r.going ≡ false → Consumed p part h block h' block' r
consumed_ended p part h block h' block' r g = record { ready = λ f. absurd (false≢true (sym g ∙ f)); right = λ m read q f. absurd (false≢true (sym g ∙ f)) }
