-- What is known where a call is accepted, and what its effect then is. Assumes nothing.
use Prim.Native.Nat.{ℕ, ◌+◌, ◌-◌, ◌*◌, ◌≤◌, ◌<◌, min}
use native.Mathlib.Omega.{arith}
use mathlib.Core.Path.{◌≡◌, refl, sym, ap, ◌∙◌}
use mathlib.Core.Logic.{◌⊎◌, inl, inr, ⊎_elim}
use mathlib.Core.Bool.{Bool, true, false, not}
use mathlib.Core.List.{List, ◌++◌}
use borrow.Author.Tests.{lt-ltb, le-ltb, lt-leb, ltb-true, leb-true, eqb-true, eq-eqb, ne_eqb, not-false}
use lib.Dec.{ltb, leb, eqb}
use lib.ListN.{length, take, drop, length-append, length-take, length-drop}
use Rattle.limits.specs.Limits.{max_block, max_seen, history_words, waiting_words, scratch_words, feed_words, close_words}
use Rattle.lists.specs.Choice.{pick, first}
use Rattle.lists.specs.Sequence.{every, last_of}
use Rattle.lists.proofs.Tests.{true_or_false, or_left, or_right, true_left, true_right}
use Rattle.lists.proofs.Sequences.{every_iff}
use Rattle.table.specs.declared.Table.{Table}
use Rattle.table.specs.Sound.{is_sound}
use Rattle.verdict.specs.Verdict.{cleared}
use Rattle.session.specs.declared.Session.{Session}
use Rattle.session.specs.Session as session
use Rattle.session.proofs.Effects as effects
use Rattle.session.proofs.Answers.{unfit_short}
use Rattle.records.specs.declared.Record.{Record}
use Rattle.records.specs.Records.{no_record, record_at, with_seen, with_waiting}
use Rattle.scheduler.specs.Rotation.{next_waiting}
use Rattle.scheduler.specs.Scheduler.{part_of, pasted, session_of, block_of, fits, unfit, turn_rows, close_rows, Left, leave_effect, Turned, fed_at, turn_effect, Closed, closed_at, close_effect}
use Rattle.scheduler.specs.Calls.{State, Act, leave, turn, close, Effect, effect_of, rows_of, Call}
use Rattle.scheduler.proofs.Rotation.{Found, none_or_found}
use Rattle.scheduler.proofs.Fits.{LeaveFits, leave_fits, TurnFits, turn_fits, CloseFits, close_fits}
use Rattle.scheduler.proofs.Parts.{part_length}

-- ---- what row 25 says
module _ (t : Table) (rs : List Record) where
  -- leaving k states at place i is accepted
  abbrev pub Leavable : ℕ → ℕ → ℕ → Type 0
  Leavable i k w = LeaveFits (unfit t rs) (length rs) (record_at rs i) i k w

  -- the table is sound, and each record fits
  pub record Fit : Type 0 where
    pub sound : is_sound t ≡ true
    pub rule : (i : ℕ) → i < length rs → (record_at rs i).rule < t.rule_count
    pub small : (i : ℕ) → i < length rs → (record_at rs i).waiting ≤ max_block

  pub fit : unfit t rs ≡ false → Fit
  fit u =
      let e : every (λ i r. fits t.rule_count r) 0 rs ≡ true = not-false _ (or_right (not (is_sound t)) _ u) in
      let at = (every_iff (λ i r. fits t.rule_count r) no_record rs).0 e in
      record {
        sound = not-false (is_sound t) (or_left _ (not (every (λ i r. fits t.rule_count r) 0 rs)) u);
        rule = λ i h. ltb-true _ _ (true_left (ltb (record_at rs i).rule t.rule_count) (leb (record_at rs i).waiting max_block) (at i h));
        small = λ i h. leb-true _ _ (true_right (ltb (record_at rs i).rule t.rule_count) (leb (record_at rs i).waiting max_block) (at i h));
      }

  -- a record that fits is a session that is not unfit
  session_fit : Fit → (i : ℕ) → i < length rs → session.unfit (session_of t (record_at rs i)) ≡ false
  session_fit f i h = rw (f.sound, lt-leb t.rule_count (record_at rs i).rule (f.rule i h))

-- ---- the block that waits has as many states as the record says
pub block_length : (r : Record) (i n : ℕ) (w : List ℕ) → i < n → waiting_words * n ≤ length w → r.waiting ≤ max_block → length (block_of r i w) ≡ r.waiting
block_length r i n w h room small = length-take r.waiting (part_of waiting_words i w) ∙ omega (arith, part_length waiting_words n w room i h)

-- ---- a turn that serves record s
module _ (t : Table) (rs : List Record) (s : ℕ) (h w x o : List ℕ)
    (e : first (turn_rows (unfit t rs) (length rs) (record_at rs s) (length h) (length w) (length x) (length o)) ≡ 0) (within : s < length rs) where
  abbrev r : Record
  r = record_at rs s

  abbrev own : List ℕ
  own = part_of history_words s h

  abbrev block : List ℕ
  block = block_of r s w

  known : TurnFits (unfit t rs) (length rs) r (length h) (length w) (length x) (length o)
  known = turn_fits (unfit t rs) (length rs) r (length h) (length w) (length x) (length o) e

  fits_table : Fit t rs
  fits_table = fit t rs known.fit

  own_length : length own ≡ history_words
  own_length = part_length history_words (length rs) h known.history s within

  waited : length block ≡ r.waiting
  waited = block_length r s (length rs) w within known.room (fits_table.small s within)

  pub fed_accepted : (fed_at t rs s h w x o).answer.number ≡ 0
  fed_accepted =
      let k = known in
      effects.feed_number _ (session_of t r) own x o max_seen block
      ∙ rw (
        session_fit t rs fits_table s within,
        waited,
        own_length,
        le-ltb max_block r.waiting (fits_table.small s within),
        le-ltb (length x) scratch_words k.scratch,
        le-ltb (length o) feed_words k.out,
        le-ltb max_seen (r.seen + r.waiting) k.count,
      ) refl

  abbrev d : ℕ
  d = session.delay_of (session_of t r)

  fed_is : fed_at t rs s h w x o ≡ session.fed d (session_of t r) block own x o
  fed_is = (effects.feed_accepted _ (session_of t r) own x o max_seen block fed_accepted).0

  pub fed_session : (fed_at t rs s h w x o).answer.session ≡ session.session_with t r.rule (r.seen + r.waiting)
  fed_session = ap (λ (y : session.Effect). y.answer.session) fed_is ∙ ap (λ (k : ℕ). session.session_with t r.rule (r.seen + k)) waited

  pub fed_words : length (fed_at t rs s h w x o).history ≡ history_words
  fed_words =
      let short : d ≤ 4095 = unfit_short false (session_of t r) (session_fit t rs fits_table s within) in
      let trace : List ℕ = session.kept_of d (session_of t r) own ++ block in
      let kept : length (take (min r.seen d) own) ≡ min r.seen d = length-take (min r.seen d) own ∙ omega (arith, own_length) in
      let long : length trace ≡ min r.seen d + length block = length-append (take (min r.seen d) own) block ∙ ap (λ (k : ℕ). k + length block) kept in
      let last : length (last_of d trace) ≡ min (r.seen + length block) d = length-drop (length trace - d) trace ∙ omega arith in
      let rest : length (drop (min (r.seen + length block) d) own) ≡ 4095 - min (r.seen + length block) d = length-drop (min (r.seen + length block) d) own ∙ omega (arith, own_length) in
      ap (λ (y : session.Effect). length y.history) fed_is
      ∙ length-append (last_of d trace) (drop (min (r.seen + length block) d) own) ∙ omega arith

-- ---- a close
module _ (t : Table) (rs : List Record) (i : ℕ) (h x o : List ℕ)
    (e : first (close_rows (unfit t rs) (length rs) (record_at rs i) i (length h) (length x) (length o)) ≡ 0) where
  pub closed_accepted : (closed_at t rs i h x o).answer.number ≡ 0
  closed_accepted =
      let k = close_fits (unfit t rs) (length rs) (record_at rs i) i (length h) (length x) (length o) e in
      effects.close_number_lem _ (session_of t (record_at rs i)) (part_of history_words i h) x o
      ∙ rw (
        session_fit t rs (fit t rs k.fit) i k.within,
        part_length history_words (length rs) h k.history i k.within,
        le-ltb (length x) scratch_words k.scratch,
        le-ltb (length o) close_words k.out,
      ) refl

  closed_is : closed_at t rs i h x o ≡ session.closed (session.delay_of (session_of t (record_at rs i))) (session_of t (record_at rs i)) (part_of history_words i h) x o
  closed_is = (effects.close_accepted _ (session_of t (record_at rs i)) (part_of history_words i h) x o closed_accepted).0

  pub closed_session : (closed_at t rs i h x o).answer.session ≡ session.opened t (record_at rs i).rule
  closed_session = ap (λ (y : session.Effect). y.answer.session) closed_is

  pub closed_seen : (closed_at t rs i h x o).answer.session.seen ≡ 0
  closed_seen = ap (λ (y : Session). y.seen) closed_session

  pub closed_words : (closed_at t rs i h x o).history ≡ part_of history_words i h
  closed_words = ap (λ (y : session.Effect). y.history) closed_is

-- ---- calls
-- a call by its parts
abbrev pub call_by : Act → State → List ℕ → List ℕ → Effect → Call
call_by a st x o e = record { act = a; state = st; scratch = x; out = o; effect = e }

-- a choice by a number has that number
chosen_number : {E : Type 0} (number : E → ℕ) (n : ℕ) (one other : E) → number one ≡ 0 → number other ≡ n → number (pick (eqb n 0) one other) ≡ n
chosen_number number n one other p q =
    ⊎_elim (λ (b : eqb n 0 ≡ true). rw b (p ∙ sym (eqb-true n 0 b))) (λ (b : eqb n 0 ≡ false). rw b q) (true_or_false (eqb n 0))

-- what either has, the choice has
either_has : {E A : Type 0} (f : E → A) (b : Bool) (one other : E) (a : A) → f one ≡ a → f other ≡ a → f (pick b one other) ≡ a
either_has f true one other a p q = p
either_has f false one other a p q = q

module _ (t : Table) (st : State) (x o : List ℕ) where
  abbrev records : List Record
  records = st.records

  pub number_is : (a : Act) (e : Effect) → e ≡ effect_of t a st x o → e.number ≡ first (rows_of t a st x o)
  unfolding leave_effect turn_effect close_effect
  number_is (leave i block) e p = ap (λ (y : Effect). y.number) p ∙ chosen_number (λ (y : Left). y.number) _ _ _ refl refl
  number_is (turn from) e p =
      ap (λ (y : Effect). y.number) p
      ∙ chosen_number (λ (y : Turned). y.number) _ _ _
      (either_has (λ (y : Turned). y.number) (ltb (next_waiting records from) (length records)) _ _ 0 refl refl) refl
  number_is (close i) e p = ap (λ (y : Effect). y.number) p ∙ chosen_number (λ (y : Closed). y.number) _ _ _ refl refl

  -- a refused call serves nobody
  pub refused_serves : (a : Act) (e : Effect) → e ≡ effect_of t a st x o → (e.number ≡ 0 → ⊥) → e.served ≡ false
  unfolding turn_effect
  refused_serves (leave i block) e p z = ap (λ (y : Effect). y.served) p
  refused_serves (turn from) e p z =
      ap (λ (y : Effect). y.served) p
      ∙ rw (ne_eqb (first (rows_of t (turn from) st x o)) 0 (λ q. z (number_is (turn from) e p ∙ q)))
  refused_serves (close i) e p z = ap (λ (y : Effect). y.served) p

  -- ---- accepted calls
  abbrev pub left_by : ℕ → List ℕ → Effect
  left_by i block = record {
    number = 0;
    served = false;
    place = 0;
    count = 0;
    state = record { records = with_waiting records i (length block); history = st.history; waiting = pasted (waiting_words * i) block st.waiting };
    scratch = x;
    out = o;
  }

  abbrev pub fed_by : ℕ → session.Effect
  fed_by i = fed_at t records i st.history st.waiting x o

  abbrev pub served_by : ℕ → Effect
  served_by i = record {
    number = 0;
    served = true;
    place = i;
    count = (fed_by i).answer.count;
    state = record {
      records = with_waiting (with_seen records i ((record_at records i).seen + (record_at records i).waiting)) i 0;
      history = pasted (history_words * i) (fed_by i).history st.history;
      waiting = st.waiting;
    };
    scratch = (fed_by i).scratch;
    out = (fed_by i).out;
  }

  abbrev pub idle_by : ℕ → Effect
  idle_by from = record { number = 0; served = false; place = from; count = 0; state = st; scratch = cleared x; out = o }

  abbrev pub closed_by : ℕ → Effect
  closed_by i = record {
    number = 0;
    served = false;
    place = 0;
    count = (closed_at t records i st.history x o).answer.count;
    state = record { records = with_seen records i 0; history = st.history; waiting = st.waiting };
    scratch = (closed_at t records i st.history x o).scratch;
    out = (closed_at t records i st.history x o).out;
  }

  pub record Leaves (i : ℕ) (block : List ℕ) (e : Effect) : Type 0 where
    pub known : Leavable t records i (length block) (length st.waiting)
    pub is : e ≡ left_by i block

  pub leave_accepted : (i : ℕ) (block : List ℕ) (e : Effect) → e ≡ effect_of t (leave i block) st x o → e.number ≡ 0 → Leaves i block e
  unfolding leave_effect
  leave_accepted i block e p z =
      let n : first (rows_of t (leave i block) st x o) ≡ 0 = sym (number_is (leave i block) e p) ∙ z in
      record { known = leave_fits (unfit t records) (length records) (record_at records i) i (length block) (length st.waiting) n; is = p ∙ rw (eq-eqb _ 0 n) }

  -- an accepted turn serves the next record, or nobody waits
  pub record Serves (from : ℕ) (e : Effect) : Type 0 where
    pub found : Found records from (next_waiting records from)
    pub clear : first (rows_of t (turn from) st x o) ≡ 0
    pub known : TurnFits (unfit t records) (length records) (record_at records (next_waiting records from)) (length st.history) (length st.waiting) (length x) (length o)
    pub words : length (fed_by (next_waiting records from)).history ≡ history_words
    pub is : e ≡ served_by (next_waiting records from)

  pub record Idle (from : ℕ) (e : Effect) : Type 0 where
    pub none : next_waiting records from ≡ length records
    pub is : e ≡ idle_by from

  pub turn_accepted : (from : ℕ) (e : Effect) → e ≡ effect_of t (turn from) st x o → e.number ≡ 0 → Serves from e ⊎ Idle from e
  unfolding turn_effect
  turn_accepted from e p z =
      let n : first (rows_of t (turn from) st x o) ≡ 0 = sym (number_is (turn from) e p) ∙ z in
      ⊎_elim
      (λ (h : next_waiting records from ≡ length records).
      inr (record { none = h; is = p ∙ rw (eq-eqb _ 0 n, le-ltb (next_waiting records from) (length records) (omega arith)) }))
      (λ (f : Found records from (next_waiting records from)).
      inl (record {
        found = f;
        clear = n;
        known = turn_fits (unfit t records) (length records) (record_at records (next_waiting records from)) (length st.history) (length st.waiting) (length x) (length o) n;
        words = fed_words t records (next_waiting records from) st.history st.waiting x o n f.within;
        is = p ∙ rw (eq-eqb _ 0 n, lt-ltb (next_waiting records from) (length records) f.within);
      }))
      (none_or_found records from)

  pub record Closes (i : ℕ) (e : Effect) : Type 0 where
    pub clear : first (rows_of t (close i) st x o) ≡ 0
    pub known : CloseFits (unfit t records) (length records) (record_at records i) i (length st.history) (length x) (length o)
    pub is : e ≡ closed_by i

  pub close_accepted : (i : ℕ) (e : Effect) → e ≡ effect_of t (close i) st x o → e.number ≡ 0 → Closes i e
  unfolding close_effect
  close_accepted i e p z =
      let n : first (rows_of t (close i) st x o) ≡ 0 = sym (number_is (close i) e p) ∙ z in
      record { clear = n; known = close_fits (unfit t records) (length records) (record_at records i) i (length st.history) (length x) (length o) n; is = p ∙ rw (eq-eqb _ 0 n) }
