-- Calls through the C interface are calls of the third demand. Assumes nothing.
use Prim.Native.Nat.{ℕ, ◌/◌, ◌%◌, ◌≤◌}
use native.Mathlib.Omega.{arith}
use mathlib.Core.Path.{◌≡◌, refl, sym, ap, ◌∙◌, subst}
use mathlib.Core.Logic.{inl, ⊎_elim, ◌↔◌}
use mathlib.Core.Bool.{Bool, true, false}
use mathlib.Core.List.{List, [], ◌∷◌, ◌++◌, map, map-append}
use borrow.Author.Tests.{eq-eqb, ne_eqb, eqb-true, eqb-false}
use lib.Dec.{eqb}
use lib.ListN.{length, take}
use Rattle.lists.specs.Choice.{pick, some_fits}
use Rattle.lists.proofs.Rows.{first_within}
use Rattle.lists.proofs.Tests.{true_or_false}
use Rattle.table.specs.declared.Table.{Table}
use Rattle.mltl.specs.Mltl.{Formula, delay, old_delay}
use Rattle.table.specs.Nodes.{wait_of}
use Rattle.table.specs.Sound.{Sound}
use Rattle.table.proofs.Soundness.{wait_sound_iff, sound_now}
use Rattle.simplify.specs.Promise.{PromisedBy, SimplerBy}
use Rattle.session.specs.declared.Session.{Session}
use Rattle.session.specs.Session.{Answer, Opening, Effect, no_session, with_seen, unfit_by, opening_by, feed_rows, close_rows, feeding_by, closing_by}
use Rattle.session.proofs.Answers.{feed_fits}
use Rattle.session.proofs.Effects.{opened_is, opened_rule, opened_sound, feed_number, feed_accepted, feed_refused_lem, close_number_lem, close_accepted, close_refused}
use Rattle.narrow.specs.Narrow.{wide_of, widen_rows, widening_by}
use Rattle.narrow.proofs.Widening.{widened_fit, widen_refused, widen_same, widen_fit, fit_now, widened_alike}
use Rattle.flat.specs.Flat.{table_from, bytes_holding, written}
use Rattle.flat.specs.Sessions.{session_from, session_written, narrow_from}
use Rattle.flat.proofs.Laws.{length_written, written_all, table_back}
use Rattle.flat.proofs.Sessions.{table_first, session_back, renewed_back, narrow_wide, narrow_renewed, narrow_seen}
use Rattle.shell.specs.Answers.{leaves, stored, counted, Called}
use Rattle.acts.specs.World.{Width, narrow, wide, limit}
use Rattle.acts.specs.Claim.{Claim}
use Rattle.mission.specs.Calls.{MeetsBy, states_fed, verdicts_given}
use Rattle.mission.specs.Calls as calls
use Rattle.mission.specs.Mission.{Source, book, text, read_number, read_table}
use Rattle.mission.specs.Mission as mission
use Rattle.mission.proofs.Sources.{source_sound}
use Rattle.mission.proofs.Listed.{handed_back_lem}
use Rattle.mission.proofs.ThirdDemand.{simpler, third_demand_by, session_is}
use Rattle.mission.proofs.SecondClose.{list_fit, second_close}
use Rattle.foreign.specs.Demand.{held_in, renewed_in, Lent, Call, feed, close, widen, lent, ContractBy, answered_number, act_of, width_of, as_call, CallsBy, begin, accepted, refused, read_answer, StartBy, verdict_of, start_delay, ListBy, buffer_of, Untouched, ForeignDemandBy, Contract, Start, ForeignDemand, ForeignSecondClose}

-- ---- the bytes after a call
-- with another count of states the bytes hold the session with that count
renewed_held : (width : Width) (b : List ℕ) (n : ℕ) → length b ≡ 558 → n ≤ limit width → held_in width (renewed_in width n b) ≡ with_seen (held_in width b) n
renewed_held narrow b n l h = narrow_renewed b n l (omega arith)
renewed_held wide b n l h = renewed_back b n l (omega arith)

-- the bytes hold the session that the answer hands back
module _ (width : Width) (b : List ℕ) (l : length b ≡ 558) where
  abbrev s : Session
  s = held_in width b

  counted_back : (r : Answer) → (r.number ≡ 0 → (r.session ≡ with_seen s r.session.seen) × (r.session.seen ≤ limit width))
      → ((r.number ≡ 0 → ⊥) → r.session ≡ s)
      → held_in width (counted (renewed_in width) r b) ≡ r.session
  counted_back r given back =
      ⊎_elim
      (λ (e : eqb r.number 0 ≡ true). rw e (let z = eqb-true r.number 0 e in renewed_held width b r.session.seen l (given z).1 ∙ sym (given z).0))
      (λ (e : eqb r.number 0 ≡ false). rw e (sym (back (eqb-false r.number 0 e)))) (true_or_false (eqb r.number 0))

  -- what a call leaves, as an effect; its number is small
  module _ {e : Effect} {b' h' x' o' : List ℕ} {r : ℕ} (small : e.answer.number ≤ 25) (back : held_in width (counted (renewed_in width) e.answer b) ≡ e.answer.session)
      (c : Called (renewed_in width) e b r b' h' x' o') where
    effect_is : ◌≡◌ {A = Effect} (record {
      answer = record { number = r % 4294967296; count = r / 4294967296; session = held_in width b' };
      history = h';
      scratch = x';
      out = o';
    }) e
    effect_is =
        let n : r % 4294967296 ≡ e.answer.number = omega (arith, c.told) in
        let k : r / 4294967296 ≡ e.answer.count = omega (arith, c.told) in
        let s : held_in width b' ≡ e.answer.session = ap (held_in width) c.session ∙ back in
        λ i. record {
          answer = record { number = n i; count = k i; session = s i };
          history = c.history_is i;
          scratch = c.scratch_is i;
          out = c.out_is i;
        }

  module _ (old : Bool) (h x o : List ℕ) where
    module _ (block : List ℕ) where
      abbrev feed_effect : Effect
      feed_effect = feeding_by (wait_of old) (limit width) s block h x o

      feed_back : held_in width (counted (renewed_in width) feed_effect.answer b) ≡ feed_effect.answer.session
      feed_back =
          counted_back feed_effect.answer
          (λ z. let a = feed_accepted (wait_of old) s h x o (limit width) block z in
          let f = feed_fits (limit width) (unfit_by (wait_of old) s) s.seen (length block) (length h) (length x) (length o) a.1 in
          rw a.0 (refl, f.count))
          (λ n. ap (λ (e : Effect). e.answer.session) (feed_refused_lem (wait_of old) s h x o (limit width) block n).0)

      feed_small : feed_effect.answer.number ≤ 25
      feed_small =
          rw (feed_number (wait_of old) s h x o (limit width) block) (first_within 25 (feed_rows (limit width) (unfit_by (wait_of old) s) s.seen (length block) (length h) (length x) (length o)) refl)

    close_back : held_in width (counted (renewed_in width) (closing_by (wait_of old) s h x o).answer b) ≡ (closing_by (wait_of old) s h x o).answer.session
    close_back =
        counted_back (closing_by (wait_of old) s h x o).answer
        (λ z. let a = close_accepted (wait_of old) s h x o z in rw a.0 (refl, omega arith))
        (λ n. ap (λ (e : Effect). e.answer.session) (close_refused (wait_of old) s h x o n).0)

    close_small : (closing_by (wait_of old) s h x o).answer.number ≤ 25
    close_small = rw (close_number_lem (wait_of old) s h x o) (first_within 25 (close_rows (unfit_by (wait_of old) s) (length h) (length x) (length o)) refl)

-- the session that bytes hold, with its width
abbrev pub any_in : Width → List ℕ → calls.AnySession
any_in width b = record { base = held_in width b; width = width }

narrow_unseen : (b : List ℕ) → (session_from b).seen ≡ 0 → wide_of (narrow_from b) ≡ session_from b
unfolding session_from
narrow_unseen b e = narrow_wide b (omega (arith, e))

-- the answer 0 is the number 0
number_zero : (s : Source) → read_answer s ≡ 0 → read_number s ≡ 0
number_zero (book b) e = omega (arith, e)
number_zero (text x) e = omega (arith, e)

-- bytes that a refused call is given stay
bytes_stay : (number : ℕ) (new old : List ℕ) → (number ≡ 0 → ⊥) → leaves number new old ≡ old
bytes_stay number new old n = rw (ne_eqb number 0 n)

-- by either delay
module _ (old : Bool) where
  abbrev wait : Formula → ℕ
  wait = wait_of old

  -- ---- a widening
  module _ (before : List ℕ) (size : length before ≡ 558) (l : Lent) (k : ContractBy wait (widen before size l)) where
    abbrev wider : Session
    wider = held_in narrow l.session

    small_number : (widening_by wait wider).number ≤ 25
    unfolding widening_by
    small_number = first_within 25 (widen_rows (unfit_by wait wider)) refl

    -- an accepted widening writes its session, and the bytes hold it
    answer_zero : answered_number (widen before size l) ≡ 0 → l.answer ≡ 0
    answer_zero z = omega (arith, z, k.told, small_number)

    pub widened_bytes : answered_number (widen before size l) ≡ 0 → l.session' ≡ session_written wider before
    widened_bytes z =
        let n : (widening_by wait wider).number ≡ 0 = sym k.told ∙ answer_zero z in
        k.session ∙ rw (eq-eqb (widening_by wait wider).number 0 n, widen_same wait wider n)

    widened_back : answered_number (widen before size l) ≡ 0 → session_from l.session' ≡ wider
    widened_back z =
        let f = widen_fit old wider (sym k.told ∙ answer_zero z) in
        ap session_from (widened_bytes z)
        ∙ session_back wider before size (sound_now old wider.table f.0) (omega (arith, f.1, f.0.few_rules)) (omega (arith, narrow_seen l.session l.bytes.byte l.size))

    session_after_lem : pick (eqb l.answer 0) (session_from l.session') no_session ≡ (widening_by wait wider).session
    session_after_lem =
        ⊎_elim
        (λ (e : eqb l.answer 0 ≡ true). let z = eqb-true l.answer 0 e in rw e (widened_back (omega (arith, z)) ∙ sym (widen_same wait wider (sym k.told ∙ z))))
        (λ (e : eqb l.answer 0 ≡ false). rw e (sym (widen_refused wait wider (λ z. eqb-false l.answer 0 e (k.told ∙ z))).1))
        (true_or_false (eqb l.answer 0))

    meets_widen : MeetsBy wait (as_call (widen before size l))
    meets_widen =
        let n : l.answer % 4294967296 ≡ (widening_by wait wider).number = omega (arith, k.told, small_number) in
        let c : l.answer / 4294967296 ≡ 0 = omega (arith, k.told, small_number) in
        record {
          takes = refl;
          is = λ i. record {
            answer = record { number = n i; count = c i; session = session_after_lem i };
            history = k.history i;
            scratch = k.scratch i;
            out = k.out i;
          };
        }

  -- ---- every call
  pub meets : (c : Call) → ContractBy wait c → MeetsBy wait (as_call c)
  meets (feed width block l) k = record {
    takes = tt;
    is = effect_is width l.session l.size (feed_small width l.session l.size old l.history l.scratch l.out block) (feed_back width l.session l.size old l.history l.scratch l.out block) k;
  }
  meets (close width l) k = record {
    takes = tt;
    is = effect_is width l.session l.size (close_small width l.session l.size old l.history l.scratch l.out) (close_back width l.session l.size old l.history l.scratch l.out) k;
  }
  meets (widen before size l) k = meets_widen before size l k

  -- ---- refusals
  refusals : (c : Call) → ContractBy wait c
      → (¬ (answered_number c ≡ 0)) ↔ (some_fits (calls.rows_by wait (act_of c) (as_call c).session (lent c).history (lent c).scratch (lent c).out) ≡ true)
  refusals c k = (third_demand_by old).calls_refused (as_call c) (meets c k)

  -- a refused call hands back its buffers, and the bytes stay
  untouched_bytes : (c : Call) → ContractBy wait c → (answered_number c ≡ 0 → ⊥) → (lent c).session' ≡ buffer_of c
  untouched_bytes (feed width block l) k n = k.session ∙ bytes_stay _ _ _ (λ z. n (ap (λ (e : Effect). e.answer.number) (meets (feed width block l) k).is ∙ z))
  untouched_bytes (close width l) k n = k.session ∙ bytes_stay _ _ _ (λ z. n (ap (λ (e : Effect). e.answer.number) (meets (close width l) k).is ∙ z))
  untouched_bytes (widen before size l) k n = k.session ∙ bytes_stay _ _ _ (λ z. n (ap (λ (e : Effect). e.answer.number) (meets (widen before size l) k).is ∙ z))

  untouched : (c : Call) → ContractBy wait c → (answered_number c ≡ 0 → ⊥) → Untouched c
  untouched c k n =
      let p = handed_back_lem old (as_call c) (meets c k) n in
      record {
        session = untouched_bytes c k n;
        history = ap (λ (e : Effect). e.history) p;
        scratch = ap (λ (e : Effect). e.scratch) p;
        out = ap (λ (e : Effect). e.out) p;
      }

  -- ---- lists of calls
  -- the session that an accepted call hands back is that of the bytes afterwards
  pub back_is : (c : Call) → ContractBy wait c → answered_number c ≡ 0 → calls.session_after (as_call c) ≡ any_in (calls.width_after (act_of c) (width_of c)) (lent c).session'
  back_is (feed width block l) k z = refl
  back_is (close width l) k z = refl
  back_is (widen before size l) k z =
      rw (eq-eqb l.answer 0 (answer_zero before size l k z))

  module _ (width : Width) (first start : List ℕ) where
    abbrev Listed : List Call → Width → List ℕ → List ℕ → Bool → Type 0
    Listed cs width' b h ended = calls.CallsBy wait (any_in width first) start (map as_call cs) (any_in width' b) h ended

    listed_accepted : (cs : List Call) (c : Call) → Listed cs (width_of c) (lent c).session (lent c).history false → ContractBy wait c → answered_number c ≡ 0
        → Listed (cs ++ (c ∷ [])) (calls.width_after (act_of c) (width_of c)) (lent c).session' (lent c).history' (calls.ends (act_of c))
    listed_accepted cs c a k z = rw (map-append, ← back_is c k z) (calls.accepted (as_call c) a (meets c k) z)

    listed_refused : (cs : List Call) (width' : Width) (b h : List ℕ) (ended : Bool) (c : Call) → Listed cs width' b h ended → ContractBy wait c → (answered_number c ≡ 0 → ⊥)
        → Listed (cs ++ (c ∷ [])) width' b h ended
    listed_refused cs width' b h ended c a k n = rw map-append (calls.refused (as_call c) a (meets c k) n)

    listed : {cs : List Call} {width' : Width} {b h : List ℕ} {ended : Bool} → CallsBy wait width first start cs width' b h ended → Listed cs width' b h ended
    listed begin = calls.begin
    listed (accepted {cs = cs} c a k z) = listed_accepted cs c (listed a) k z
    listed (refused {cs = cs} {width' = width'} {b = b} {h = h} {ended = ended} c a k n) = listed_refused cs width' b h ended c (listed a) k n

  -- ---- the start
  module _ (m : StartBy wait) where
    abbrev t : Table
    t = read_table m.source

    abbrev u : Table
    u = m.simplified.answer.table

    pub accepts : read_number m.source ≡ 0
    accepts = number_zero m.source m.read

    sound : Sound t
    sound = source_sound m.source m.bytes accepts

    table_is : m.table ≡ written t m.old_table
    table_is = m.was_read ∙ rw (eq-eqb (read_number m.source) 0 accepts)

    held_table : table_from m.table ≡ t
    held_table = ap table_from table_is ∙ table_back t m.old_table (omega (arith, m.table_size)) sound

    pub promised : PromisedBy wait t m.simplified.answer
    promised = subst (λ (x : Table). PromisedBy wait x m.simplified.answer) held_table m.simplified.promised

    better : SimplerBy wait t u
    better = simpler old t m.simplified.answer promised (sym m.simplified.told)

    simple_is : m.simple ≡ written u m.table
    simple_is = m.simplified.bytes ∙ rw (eq-eqb m.simplified.answer.number 0 (sym m.simplified.told))

    table_long : length m.table ≡ 546
    table_long = ap length table_is ∙ length_written t m.old_table (omega (arith, m.table_size)) ∙ m.table_size

    pub held_simple : table_from m.simple ≡ u
    held_simple = ap table_from simple_is ∙ table_back u m.table (omega (arith, table_long)) (sound_now old u ((wait_sound_iff old u).0 better.sound))

    pub opens : (opening_by wait u m.rule).number ≡ 0
    opens = sym (ap (λ (x : Table). (opening_by wait x m.rule).number) held_simple) ∙ sym m.opened

    abbrev pub start_is : mission.StartBy wait
    start_is = record {
      source = m.source;
      read = accepts;
      simplified = m.simplified.answer;
      promised = promised;
      accepted = sym m.simplified.told;
      rule = m.rule;
      opened = opens;
      history = m.history;
    }

    bytes_opened : m.session ≡ session_written (record { table = u; rule = m.rule; seen = 0 }) m.old_session
    bytes_opened =
        m.was_opened
        ∙ rw (held_simple, eq-eqb (opening_by wait u m.rule).number 0 opens) (ap (λ (x : Session). session_written x m.old_session) (opened_is old u m.rule opens))

    held_session : session_from m.session ≡ mission.session_of start_is
    held_session =
        let k = opened_rule old u m.rule opens in
        let d = sound_now old u (opened_sound old u m.rule opens) in
        ap session_from bytes_opened
        ∙ session_back (record { table = u; rule = m.rule; seen = 0 }) m.old_session m.session_size d (omega (arith, d.few_rules)) (omega arith)
        ∙ sym (opened_is old u m.rule opens)

    -- a narrow one was the same bytes
    pub held_either : (width : Width) → held_in width m.session ≡ mission.session_of start_is
    held_either narrow =
        let e : (session_from m.session).seen ≡ 0 = ap (λ (s : Session). s.seen) (held_session ∙ opened_is old u m.rule opens) in
        narrow_unseen m.session e ∙ held_session
    held_either wide = held_session

    -- the session's bytes begin with those of the simplified table
    pub session_first : take 546 m.session ≡ m.simple
    session_first =
        ap (take 546) bytes_opened ∙ table_first (record { table = u; rule = m.rule; seen = 0 }) m.old_session (omega (arith, m.session_size))
        ∙ sym (simple_is ∙ written_all u m.table (omega (arith, table_long)) table_long)

    of_mission : {width width' : Width} {cs : List Call} {b h : List ℕ} {ended : Bool} → ListBy wait m width width' cs b h ended
        → calls.CallsBy wait (mission.opened_as width start_is) m.history (map as_call cs) (any_in width' b) h ended
    of_mission {width} l = rw (held_either width) at (listed width m.session m.history l)

    -- and so do those of the table that a list's session holds
    pub table_held : {width width' : Width} {cs : List Call} {b h : List ℕ} {ended : Bool} → ListBy wait m width width' cs b h ended
        → bytes_holding (held_in width' b).table ≡ m.simple
    table_held {width} {width'} {cs} {b} {h} {ended} l =
        let e = session_is old start_is width (map as_call cs) (any_in width' b) h ended (of_mission l) in
        ap (λ (s : Session). bytes_holding s.table) e ∙ ap (λ (s : Session). bytes_holding s.table) (opened_is old u m.rule opens)
        ∙ sym (simple_is ∙ written_all u m.table (omega (arith, table_long)) table_long)

  claim : (m : StartBy wait) (width width' : Width) (cs : List Call) (b h : List ℕ) (ended : Bool) → ListBy wait m width width' cs b h ended
      → Claim (verdict_of m) (start_delay m) m.history ended h (states_fed (map as_call cs)) (verdicts_given (map as_call cs))
  claim m width width' cs b h ended l = rw (held_simple m) ((third_demand_by old).claim (start_is m) width (map as_call cs) (any_in width' b) h ended (of_mission m l))

  reopened : (m : StartBy wait) (width width' : Width) (cs : List Call) (b h : List ℕ) → ListBy wait m width width' cs b h true
      → held_in width' b ≡ session_from m.session
  reopened m width width' cs b h l =
      ap (λ (s : calls.AnySession). s.base) ((third_demand_by old).reopened (start_is m) width (map as_call cs) (any_in width' b) h (of_mission m l)) ∙ sym (held_session m)

  pub foreign_demand_by : ForeignDemandBy wait
  foreign_demand_by = record {
    claim = claim;
    listed = λ m width width' cs b h ended l. record { start = start_is m; source = refl; table = sym (held_simple m); rule = refl; history = refl; calls = of_mission m l };
    calls = meets;
    reopened = reopened;
    refusals = refusals;
    untouched = untouched;
  }

pub foreign_demand : ForeignDemand
foreign_demand = foreign_demand_by false

-- ---- lists as the contracts were before A5, ended by juntreak_close_old
widens : (m : StartBy old_delay) (width : Width) (cs : List Call) (b h : List ℕ) → ListBy old_delay m width narrow cs b h false
    → (before : List ℕ) (size : length before ≡ 558) (l : Lent) → l.session ≡ b → Contract (widen before size l)
    → (answered_number (widen before size l) ≡ 0) × ContractBy old_delay (widen before size l)
widens m width cs b h c before size l e k =
    let s = held_in narrow l.session in
    let u : unfit_by old_delay s ≡ false =
    ap (λ (x : List ℕ). unfit_by old_delay (held_in narrow x)) e
    ∙ list_fit (start_is true m) width (map as_call cs) (any_in narrow b) h false (of_mission true m c) in
    let n : l.answer ≡ 0 = k.told ∙ sym (ap (λ (w : Opening). w.number) (widened_fit delay s (fit_now s u))) in (
      omega (arith, n),
      record {
        told = k.told ∙ ap (λ (w : Opening). w.number) (widened_alike s (inl u));
        session = k.session ∙ ap (λ (w : Opening). stored w before) (widened_alike s (inl u));
        history = k.history;
        scratch = k.scratch;
        out = k.out;
      },
    )

same_verdicts : (m : StartBy old_delay) (m' : Start) → m.source ≡ m'.source → m.rule ≡ m'.rule
    → (width width₁ width' width₁' : Width) (cs cs' : List Call) (b h b' h' : List ℕ)
    → ListBy old_delay m width width₁ cs b h true → ListBy delay m' width' width₁' cs' b' h' true → states_fed (map as_call cs) ≡ states_fed (map as_call cs')
    → verdicts_given (map as_call cs) ≡ verdicts_given (map as_call cs')
same_verdicts m m' e r width width₁ width' width₁' cs cs' b h b' h' l l' x =
    second_close.same_verdicts (start_is true m) (start_is false m') (record { source = e; rule = r }) width width' (map as_call cs) (map as_call cs') (any_in width₁ b) (any_in width₁' b') h h'
    (of_mission true m l) (of_mission false m' l') x

pub foreign_second_close : ForeignSecondClose
foreign_second_close = record { demand = foreign_demand_by true; closes = λ l k. k; widens = widens; same_verdicts = same_verdicts }
