-- What the parts of open, feed and close answer, put together. Assumes nothing.
use Prim.Native.Nat.{ℕ, ◌+◌, ◌-◌, ◌≤◌, ◌<◌, min}
use native.Mathlib.Omega.{arith}
use mathlib.Core.Path.{◌≡◌, refl, sym, ap, ap₂, ◌∙◌}
use mathlib.Core.Bool.{Bool, true, false, not, ◌||◌}
use mathlib.Core.List.{List, [], ◌++◌, append_assoc, append-nil}
use borrow.Author.Tests.{lt-leb, eq-eqb, ne_eqb, not-false, leb-false, ltb-false}
use borrow.Rule.Slice.PartMut.{mid_of, put_mid}
use lib.Dec.{ltb, leb, eqb}
use lib.ListN.{length, take, drop, replicate, length-append, length-take, length-drop}
use lib.Seq.{take_at, drop_at, drop-drop}
use Rattle.limits.specs.Limits.{max_seen}
use Rattle.std.specs.Prelude.{Ok, Err}
use Rattle.refusals.specs.Refusals.{number_of}
use Rattle.refusals.specs.declared.Refusal.{Refusal}
use Rattle.refusals.proofs.Positive.{refuses}
use Rattle.lists.specs.Choice.{pick, first}
use Rattle.lists.specs.Sequence.{padded}
use Rattle.lists.proofs.Rows.{no_row}
use Rattle.lists.proofs.Tests.{same_test, ltb_iff, or_left, or_right}
use Rattle.mltl.specs.Mltl.{delay}
use Rattle.table.specs.declared.Table.{Table}
use Rattle.table.specs.Nodes.{formula_at, rule_at, wait_of}
use Rattle.table.specs.Sound.{RuleDelay, delay_told, SoundBy, is_sound_by, delay_number_by, rule_delay_by, delay_number, rule_delay}
use Rattle.table.proofs.Soundness.{wait_sound_iff, sound_now, watched_short}
use Rattle.verdict.specs.Verdict.{with_verdicts, cleared, ready, Judged}
use Rattle.verdict.proofs.Answers.{ready_sound}
use Rattle.session.specs.declared.Session.{Session}
use Rattle.session.specs.Session.{Opening, Effect, formula_of, delay_of, opening_told, opening_by, opening, refused, unfit_by, with_seen, verdict_words, feed_rows, feed_number_by, fed, feeding_by, feeding, close_rows, close_number_by, closed, closing_by}
use Rattle.session.specs.Code.Steps.{Writable, Fit, Feedable, Closable}

-- ---- open
module _ (t : Table) (r : ℕ) where
  pub open_refused : (e : Refusal) → delay_told (Err e) ≡ rule_delay t r → opening_told (Err e) ≡ opening t r
  unfolding opening_by rule_delay_by
  open_refused e p =
      let q : number_of e ≡ delay_number t r = ap (λ (x : RuleDelay). x.number) p in
      rw (← q, refuses e)

  pub open_accepted : {d : ℕ} → delay_told (Ok d) ≡ rule_delay t r → opening_told (Ok (record { table = t; rule = r; seen = 0 })) ≡ opening t r
  unfolding opening_by rule_delay_by
  open_accepted p =
      let q : delay_number t r ≡ 0 = sym (ap (λ (x : RuleDelay). x.number) p) in
      rw q

-- ---- the numbers
-- the count passes the limit
pub over_limit : (seen k : ℕ) → seen ≤ max_seen → ltb (max_seen - seen) k ≡ ltb max_seen (seen + k)
over_limit seen k h = same_test _ _ (ltb_iff (max_seen - seen) k) (ltb_iff max_seen (seen + k)) (λ l. omega arith) (λ l. omega arith)

module _ (old : Bool) where
  -- a session that is not unfit: its table is sound, and its rule is there
  fit_tests : (s : Session) → unfit_by (wait_of old) s ≡ false → (is_sound_by (wait_of old) s.table ≡ true) × (leb s.table.rule_count s.rule ≡ false)
  fit_tests s u = (
    not-false (is_sound_by (wait_of old) s.table) (or_left (not (is_sound_by (wait_of old) s.table)) _ u),
    or_right (not (is_sound_by (wait_of old) s.table)) (leb s.table.rule_count s.rule) u,
  )

  pub fit_sound : (s : Session) → unfit_by (wait_of old) s ≡ false → SoundBy (wait_of old) s.table × (s.rule < s.table.rule_count)
  fit_sound s u = let t = fit_tests s u in ((wait_sound_iff old s.table).0 t.0, leb-false s.table.rule_count s.rule t.1)

  pub sound_fit : (s : Session) → SoundBy (wait_of old) s.table → s.rule < s.table.rule_count → unfit_by (wait_of old) s ≡ false
  sound_fit s z r = rw ((wait_sound_iff old s.table).1 z, lt-leb s.table.rule_count s.rule r)

  pub unfit_short : (s : Session) → unfit_by (wait_of old) s ≡ false → wait_of old (formula_of s) ≤ 4095
  unfit_short s u = let f = fit_sound s u in watched_short old s.table s.rule f.0 f.1

  -- a session is unfit where the delay of its rule is refused
  module _ (s : Session) {d : RuleDelay} (e : d ≡ rule_delay_by (wait_of old) s.table s.rule) where
    delay_number_lem : d.number ≡ delay_number_by (wait_of old) s.table s.rule
    unfolding rule_delay_by
    delay_number_lem = ap (λ (x : RuleDelay). x.number) e

    pub unfit_is : not (eqb d.number 0) ≡ unfit_by (wait_of old) s
    unfit_is = rw delay_number_lem (go (is_sound_by (wait_of old) s.table) (leb s.table.rule_count s.rule))
      where
        go : (a b : Bool) → not (eqb (pick (not a) 25 (pick b 21 0)) 0) ≡ (not a || b)
        go true true = refl
        go true false = refl
        go false b = refl

    pub delay_is : unfit_by (wait_of old) s ≡ false → d.delay ≡ wait_of old (formula_of s)
    unfolding rule_delay_by
    delay_is u = let t = fit_tests s u in ap (λ (x : RuleDelay). x.delay) e ∙ rw (t.0, t.1)

    pub fit_is : unfit_by (wait_of old) s ≡ false → {h x : List ℕ} → 4095 ≤ length h → 5280 ≤ length x → Fit s d.delay h x
    fit_is u p q =
        let f = fit_sound s u in
        record { sound = sound_now old s.table f.0; rule = f.1; short = omega (arith, delay_is u, unfit_short s u); history_fits = p; scratch_fits = q }

  -- by the delay's answer
  pub unfit_told : (s : Session) (e : Refusal) → delay_told (Err e) ≡ rule_delay_by (wait_of old) s.table s.rule → unfit_by (wait_of old) s ≡ true
  unfit_told s e p = sym (unfit_is s p) ∙ rw (refuses e)

  pub fit_told : (s : Session) {d : ℕ} → delay_told (Ok d) ≡ rule_delay_by (wait_of old) s.table s.rule → unfit_by (wait_of old) s ≡ false
  fit_told s p = sym (unfit_is s p)

  -- ---- a close that is refused, and one that is accepted
  module _ (s : Session) (h x o : List ℕ) where
    pub closed_refused : (e : Refusal) → number_of e ≡ close_number_by (wait_of old) s (length h) (length x) (length o)
        → refused (number_of e) s h x o ≡ closing_by (wait_of old) s h x o
    unfolding closing_by
    closed_refused e n = rw (← n, refuses e)

    -- the rows of a session that is not unfit
    pub close_number_is : unfit_by (wait_of old) s ≡ false → {n : ℕ} → n ≡ first (close_rows false (length h) (length x) (length o))
        → n ≡ close_number_by (wait_of old) s (length h) (length x) (length o)
    close_number_is u e = rw u e

    pub closed_accepted : {z : Effect} {d : ℕ} → 0 ≡ close_number_by (wait_of old) s (length h) (length x) (length o) → d ≡ wait_of old (formula_of s)
        → z ≡ closed d s h x o → z ≡ closing_by (wait_of old) s h x o
    unfolding closing_by
    closed_accepted n q p = rw (← n, ← q) p

-- ---- a feed likewise
module _ (s : Session) (block h x o : List ℕ) where
  pub fed_refused : (e : Refusal) → number_of e ≡ feed_number_by delay max_seen s (length block) (length h) (length x) (length o)
      → refused (number_of e) s h x o ≡ feeding s block h x o
  unfolding feeding_by
  fed_refused e n = rw (← n, refuses e)

  pub feed_number_is : unfit_by delay s ≡ false → {n : ℕ} → n ≡ first (feed_rows max_seen false s.seen (length block) (length h) (length x) (length o))
      → n ≡ feed_number_by delay max_seen s (length block) (length h) (length x) (length o)
  feed_number_is u e = rw u e

  pub fed_accepted : {z : Effect} {d : ℕ} → 0 ≡ feed_number_by delay max_seen s (length block) (length h) (length x) (length o) → d ≡ delay_of s
      → z ≡ fed d s block h x o → z ≡ feeding s block h x o
  unfolding feeding_by
  fed_accepted n q p = rw (← n, ← q) p

-- what the number 0 says
pub record FeedFits (limit : ℕ) (bad : Bool) (seen k h x o : ℕ) : Type 0 where
  pub fit : bad ≡ false
  pub few : k ≤ 1024
  pub history : 4095 ≤ h
  pub scratch : 5280 ≤ x
  pub out : 16 ≤ o
  pub count : seen + k ≤ limit

buffers : (h x o m : ℕ) → (ltb h 4095 || ltb x 5280 || ltb o m) ≡ false → (4095 ≤ h) × (5280 ≤ x) × (m ≤ o)
buffers h x o m e =
    let a = or_left (ltb h 4095 || ltb x 5280) (ltb o m) e in (
      ltb-false h 4095 (or_left (ltb h 4095) (ltb x 5280) a),
      ltb-false x 5280 (or_right (ltb h 4095) (ltb x 5280) a),
      ltb-false o m (or_right (ltb h 4095 || ltb x 5280) (ltb o m) e),
    )

pub feed_fits : (limit : ℕ) (bad : Bool) (seen k h x o : ℕ) → first (feed_rows limit bad seen k h x o) ≡ 0 → FeedFits limit bad seen k h x o
feed_fits limit bad seen k h x o e =
    let no = no_row (feed_rows limit bad seen k h x o) refl e in
    let b = buffers h x o 16 (no 2) in
    record { fit = no 0; few = ltb-false 1024 k (no 1); history = b.0; scratch = b.1; out = b.2; count = ltb-false limit (seen + k) (no 3) }

pub record CloseFits (bad : Bool) (h x o : ℕ) : Type 0 where
  pub fit : bad ≡ false
  pub history : 4095 ≤ h
  pub scratch : 5280 ≤ x
  pub out : 64 ≤ o

pub close_fits : (bad : Bool) (h x o : ℕ) → first (close_rows bad h x o) ≡ 0 → CloseFits bad h x o
close_fits bad h x o e =
    let no = no_row (close_rows bad h x o) refl e in
    let b = buffers h x o 64 (no 1) in
    record { fit = no 0; history = b.0; scratch = b.1; out = b.2 }

-- ---- the words of out
module _ (p out mid : List ℕ) (m w : ℕ) (long : length p ≡ w) (room : w ≤ m) (fits : m ≤ length out) (e : mid ≡ p ++ drop w out) where
  -- the verdicts are there, and the words from w to m become zero
  pub zeros_behind : (j : ℕ) {z : List ℕ} → j ≡ m - w → z ≡ replicate (length (mid_of w j mid)) 0 → put_mid w j mid z ≡ padded 0 m p ++ drop m out
  zeros_behind j g q =
      let a : take w mid ≡ p = rw e (take_at p (drop w out) w long) in
      let b : drop w mid ≡ drop w out = rw e (drop_at p (drop w out) w long) in
      let l : length (mid_of w j mid) ≡ m - length p = rw b (simp (length-take, length-drop) (omega arith)) in
      let k : w + j ≡ m = omega arith in
      ap₂ (λ (u v : List ℕ). u ++ v) a
      (ap₂ (λ (u v : List ℕ). u ++ v) (q ∙ ap (λ (i : ℕ). replicate i 0) l) (ap (drop j) b ∙ drop-drop j w out ∙ ap (λ (i : ℕ). drop i out) k))
      ∙ sym (append_assoc p (replicate (m - length p) 0) (drop m out))

-- the evaluator runs on a sound table
pub writes_ready : (t : Table) (place : ℕ) (trace : List ℕ) (count m : ℕ) (scratch out : List ℕ) → Writable t place trace count m scratch out
    → ready t place trace count scratch out ≡ true
writes_ready t place trace count m scratch out w =
    ready_sound t place trace count scratch out w.sound.places w.sound w.node w.short w.ticks w.scratch_fits
    (let r = w.room in let o = w.out_fits in omega arith)

pub judged_words : {t : Table} {place : ℕ} {trace : List ℕ} {count m : ℕ} {scratch out : List ℕ} {b : Bool} {scratch' out' : List ℕ}
    → Writable t place trace count m scratch out → Judged t place trace count scratch out b scratch' out'
    → (scratch' ≡ cleared scratch) × (out' ≡ with_verdicts (formula_at t.nodes place) trace count out)
judged_words {t} {place} {trace} {count} {m} {scratch} {out} w j =
    let r = writes_ready t place trace count m scratch out w in
    (rw r at j.clears, rw r at j.tells)

-- ---- what history holds is short
pub kept_short : {s : Session} {d n : ℕ} {h x : List ℕ} → Fit s d h x → n ≡ min s.seen d → n ≤ 4095
kept_short f e = omega (arith, e, f.short)

-- the rule is one of 8, and it watches one of 64 nodes
pub fit_rule : {s : Session} {d : ℕ} {h x : List ℕ} → Fit s d h x → s.rule < 8
fit_rule f = omega (arith, f.rule, f.sound.few_rules)

pub fit_node : {s : Session} {d : ℕ} {h x : List ℕ} → Fit s d h x → (rule_at s.table s.rule).watched < 64
fit_node {s} f = omega (arith, (f.sound.rule s.rule f.rule).watched, f.sound.few_nodes)

-- the first n of a list, as a part from 0 on is lent
pub lent_part : (n : ℕ) (xs : List ℕ) → take (n - 0) xs ≡ take n xs
lent_part n xs = let e : n - 0 ≡ n = omega arith in ap (λ (i : ℕ). take i xs) e

-- ---- an accepted feed: hh states are kept, the block follows, and `left` are kept afterwards
module _ {s : Session} {d : ℕ} {block h x o : List ℕ} (f : Feedable s d block h x o) where
  abbrev k : ℕ
  k = length block

  abbrev place : ℕ
  place = (rule_at s.table s.rule).watched

  module _ {hh a b : ℕ} (p : hh ≡ min s.seen d) (q : a ≡ s.seen + k - d) (r : b ≡ s.seen - d) where
    abbrev trace : List ℕ
    trace = take hh h ++ block

    long : length trace ≡ hh + k
    long =
        let w = f.fit.history_fits in
        let e = f.fit.short in
        length-append (take hh h) block ∙ ap (λ (i : ℕ). i + k) (length-take hh h ∙ omega arith)

    pub feed_writes : {older : List ℕ} → older ≡ take hh h → Writable s.table place (older ++ block) (a - b) 16 x o
    feed_writes e =
        let n = f.few in
        let g = f.fit.short in
        rw e
        (record {
          sound = f.fit.sound;
          node = (f.fit.sound.rule s.rule f.fit.rule).watched;
          short = omega (arith, long);
          ticks = omega (arith, long);
          room = omega arith;
          scratch_fits = f.fit.scratch_fits;
          out_fits = f.out_fits;
        })

    pub feed_is : {left : ℕ} {older h' x' o' : List ℕ} → left ≡ min (s.seen + k) d → older ≡ take hh h
        → (x' ≡ cleared x) × (o' ≡ verdict_words 16 (a - b) (formula_at s.table.nodes place) (older ++ block) o)
        → h' ≡ drop (hh + k - left) trace ++ drop left h
        → ◌≡◌ {A = Effect} (record { answer = record { number = 0; count = a - b; session = with_seen s (s.seen + k) }; history = h'; scratch = x'; out = o' }) (fed d s block h x o)
    feed_is {left} t e (ex, eo) eh =
        let m : hh + k - left ≡ length trace - d = omega (arith, long) in
        rw (ex, eo, e, eh, m, p, q, r, t)

-- ---- an accepted close
module _ {s : Session} {d : ℕ} {h x o : List ℕ} (f : Closable s d h x o) where
  abbrev spot : ℕ
  spot = (rule_at s.table s.rule).watched

  module _ {count : ℕ} (p : count ≡ min s.seen d) where
    pub close_writes : {older none : List ℕ} → older ≡ take count h → none ≡ [] → Writable s.table spot (older ++ none) count 64 x o
    close_writes e z =
        let g = f.fit.short in
        let w = f.fit.history_fits in
        let l : length (take count h ++ []) ≡ count = ap length (append-nil (take count h)) ∙ length-take count h ∙ omega arith in
        rw (e, z)
        (record {
          sound = f.fit.sound;
          node = (f.fit.sound.rule s.rule f.fit.rule).watched;
          short = omega (arith, l);
          ticks = omega (arith, l);
          room = omega arith;
          scratch_fits = f.fit.scratch_fits;
          out_fits = f.out_fits;
        })

    pub close_is : {older none x' o' : List ℕ} → older ≡ take count h → none ≡ []
        → (x' ≡ cleared x) × (o' ≡ verdict_words 64 count (formula_at s.table.nodes spot) (older ++ none) o)
        → ◌≡◌ {A = Effect} (record { answer = record { number = 0; count = count; session = with_seen s 0 }; history = h; scratch = x'; out = o' }) (closed d s h x o)
    close_is e z (ex, eo) = rw (ex, eo, e, z, append-nil, p)
