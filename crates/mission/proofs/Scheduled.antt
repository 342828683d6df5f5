-- Each record of the scheduler is a session of its own, and the third demand holds for it. Assumes nothing.
use Prim.Native.Nat.{ℕ, ◌+◌, ◌<◌}
use mathlib.Core.Path.{◌≡◌, refl, sym, ap, ap₂, subst, ◌∙◌}
use mathlib.Core.Logic.{⊎_elim}
use mathlib.Core.Bool.{Bool, true, false}
use mathlib.Core.List.{List, [], ◌∷◌, ◌++◌, append_assoc, append-nil}
use borrow.Author.Tests.{eqb-true, eq-eqb, ne_eqb}
use lib.Dec.{eqb}
use lib.ListN.{length}
use Rattle.limits.specs.Limits.{history_words}
use Rattle.lists.specs.Choice.{first}
use Rattle.lists.specs.Sequence.{concat_map}
use Rattle.lists.proofs.Tests.{true_or_false}
use Rattle.lists.proofs.Sequences.{concat_map_append, concat_map_snoc}
use Rattle.table.specs.declared.Table.{Table}
use Rattle.session.specs.declared.Session.{Session}
use Rattle.session.specs.Session.{session_with, opened}
use Rattle.session.proofs.Effects.{opened_is}
use Rattle.records.specs.declared.Record.{Record}
use Rattle.records.proofs.Changes.{seen_at, waiting_at, both_at}
use Rattle.scheduler.specs.Rotation.{next_waiting}
use Rattle.scheduler.specs.Scheduler.{session_of, unfit, turn_rows, close_rows}
use Rattle.scheduler.specs.Calls as scheduler
use Rattle.scheduler.proofs.Fits.{turn_fits}
use Rattle.scheduler.proofs.Parts.{part_whole}
use Rattle.scheduler.proofs.Accepted.{fed_accepted, fed_session, fed_words, closed_accepted, closed_words, refused_serves, call_by, left_by, fed_by, served_by, idle_by, closed_by, leave_accepted, Serves, Idle, turn_accepted, close_accepted}
use Rattle.scheduler.proofs.Left.{stays}
use Rattle.acts.specs.World.{wide}
use Rattle.acts.specs.Claim.{Claim}
use Rattle.mission.specs.Calls.{AnySession, as_wide, feed, close, ends, Call, Meets, number_of, session_after, states_of, verdicts_of, states_fed, verdicts_given, Calls, begin, accepted}
use Rattle.mission.specs.Mission.{Start, verdict_of, start_delay}
use Rattle.mission.specs.Scheduled.{record_session, own_call, own_calls_of, own_calls, Reopened, going, closed, Claims, Apart, Scheduled}
use Rattle.mission.proofs.ThirdDemand.{third_demand}

-- ---- one call more on a session that each close opens anew
module _ (opening : AnySession) where
  feed_more : {start : List ℕ} {cs : List Call} (c : Call) → ends c.act ≡ false → Reopened opening start cs c.session c.history → Meets c → number_of c ≡ 0
      → Reopened opening start (cs ++ (c ∷ [])) (session_after c) c.effect.history
  feed_more {start} c e (going {cs = cs} l) m z =
      going (subst (λ (b : Bool). Calls opening start (cs ++ (c ∷ [])) (session_after c) c.effect.history b) e (accepted c l m z))
  feed_more {start} c e (closed {cs = cs} {ds = ds} l r) m z =
      subst (λ (xs : List Call). Reopened opening start xs (session_after c) c.effect.history) (sym (append_assoc cs ds (c ∷ []))) (closed l (feed_more c e r m z))

  close_more : {start : List ℕ} {cs : List Call} (c : Call) → ends c.act ≡ true → Reopened opening start cs c.session c.history → Meets c → number_of c ≡ 0
      → Reopened opening start (cs ++ (c ∷ [])) opening c.effect.history
  close_more {start} c e (going {cs = cs} l) m z =
      subst (λ (xs : List Call). Reopened opening start xs opening c.effect.history) (append-nil (cs ++ (c ∷ [])))
      (closed (subst (λ (b : Bool). Calls opening start (cs ++ (c ∷ [])) (session_after c) c.effect.history b) e (accepted c l m z)) (going begin))
  close_more {start} c e (closed {cs = cs} {ds = ds} l r) m z =
      subst (λ (xs : List Call). Reopened opening start xs opening c.effect.history) (sym (append_assoc cs ds (c ∷ []))) (closed l (close_more c e r m z))

-- the same list, come to an equal session and history
same_end : (opening : AnySession) (start : List ℕ) (cs : List Call) {s s' : AnySession} {h h' : List ℕ} → s ≡ s' → h ≡ h'
    → Reopened opening start cs s h → Reopened opening start cs s' h'
same_end opening start cs {s} {s'} {h} {h'} p q r =
    subst (λ (y : List ℕ). Reopened opening start cs s' y) q (subst (λ (y : AnySession). Reopened opening start cs y h) p r)

-- ---- record i
module _ (t : Table) (i : ℕ) (start : scheduler.State) where
  abbrev opening : AnySession
  opening = as_wide (opened t (scheduler.record_of start i).rule)

  record Goes (cs : List scheduler.Call) (st : scheduler.State) : Type 0 where
    pub rule : (scheduler.record_of st i).rule ≡ (scheduler.record_of start i).rule
    pub apart : Apart t i start cs st

  -- one call of the scheduler more, whose calls on the record's session are ds
  more : (cs : List scheduler.Call) (c : scheduler.Call) (st st' : scheduler.State) (ds : List Call) → own_calls_of t i c ≡ ds
      → states_fed ds ≡ concat_map (λ block. block) (scheduler.served_of i c) → verdicts_given ds ≡ scheduler.verdicts_of i c
      → (scheduler.record_of st' i).rule ≡ (scheduler.record_of st i).rule
      → Reopened opening (scheduler.history_of start i) (own_calls t i cs ++ ds) (record_session t i st') (scheduler.history_of st' i)
      → Goes cs st → Goes (cs ++ (c ∷ [])) st'
  more cs c st st' ds e p q r l g =
      let own : own_calls t i (cs ++ (c ∷ [])) ≡ own_calls t i cs ++ ds = concat_map_snoc (own_calls_of t i) cs c ∙ ap (λ (xs : List Call). own_calls t i cs ++ xs) e in
      record {
        rule = r ∙ g.rule;
        apart = record {
          calls = subst (λ (xs : List Call). Reopened opening (scheduler.history_of start i) xs (record_session t i st') (scheduler.history_of st' i)) (sym own) l;
          states =
              ap states_fed own ∙ concat_map_append states_of (own_calls t i cs) ds ∙ ap₂ (λ (xs ys : List ℕ). xs ++ ys) g.apart.states p
              ∙ sym (ap (concat_map (λ block. block)) (concat_map_snoc (scheduler.served_of i) cs c) ∙ concat_map_append (λ block. block) (concat_map (scheduler.served_of i) cs) (scheduler.served_of i c));
          verdicts =
              ap verdicts_given own ∙ concat_map_append verdicts_of (own_calls t i cs) ds ∙ ap₂ (λ (xs ys : List Bool). xs ++ ys) g.apart.verdicts q
              ∙ sym (concat_map_snoc (scheduler.verdicts_of i) cs c);
        };
      }

  -- it has none
  passes : (cs : List scheduler.Call) (c : scheduler.Call) (st st' : scheduler.State) → scheduler.serves i c ≡ false → scheduler.closes i c ≡ false
      → (scheduler.record_of st' i).rule ≡ (scheduler.record_of st i).rule → (scheduler.record_of st' i).seen ≡ (scheduler.record_of st i).seen
      → scheduler.history_of st' i ≡ scheduler.history_of st i → Goes cs st → Goes (cs ++ (c ∷ [])) st'
  passes cs c st st' p q r n h g =
      let s : record_session t i st' ≡ record_session t i st = ap₂ (λ (a b : ℕ). as_wide (session_with t a b)) r n in
      more cs c st st' [] (rw (p, q)) (rw p) (rw (p, q)) r
      (subst (λ (xs : List Call). Reopened opening (scheduler.history_of start i) xs (record_session t i st') (scheduler.history_of st' i)) (sym (append-nil (own_calls t i cs)))
      (same_end opening (scheduler.history_of start i) (own_calls t i cs) (sym s) (sym h) g.apart.calls)) g

  module _ (cs : List scheduler.Call) (st : scheduler.State) (x o : List ℕ) (before : Goes cs st) where
    abbrev After : scheduler.Act → scheduler.Effect → Type 0
    After a e = Goes (cs ++ (call_by a st x o e ∷ [])) e.state

    -- no row refuses a turn that serves record m, or a close of it
    abbrev Served : ℕ → Type 0
    Served m =
        first (turn_rows (unfit t st.records) (length st.records) (scheduler.record_of st m) (length st.history) (length st.waiting) (length x) (length o)) ≡ 0

    abbrev Closed : ℕ → Type 0
    Closed m = first (close_rows (unfit t st.records) (length st.records) (scheduler.record_of st m) m (length st.history) (length x) (length o)) ≡ 0

    -- a turn serves it
    feeds : (from : ℕ) → Served i → i < length st.records → After (scheduler.turn from) (served_by t st x o i)
    feeds from e h =
        let rs : List Record = st.records in
        let c : scheduler.Call = call_by (scheduler.turn from) st x o (served_by t st x o i) in
        let st' : scheduler.State = c.effect.state in
        let d : Call = own_call t i (feed (scheduler.block_at st i)) c in
        let k = turn_fits (unfit t rs) (length rs) (scheduler.record_of st i) (length st.history) (length st.waiting) (length x) (length o) e in
        let z : number_of d ≡ 0 = fed_accepted t rs i st.history st.waiting x o e h in
        let f = both_at rs i ((scheduler.record_of st i).seen + (scheduler.record_of st i).waiting) 0 h in
        let s : session_after d ≡ record_session t i st' =
        ap as_wide (fed_session t rs i st.history st.waiting x o e h ∙ sym (ap (session_of t) f)) in
        let w : d.effect.history ≡ scheduler.history_of st' i =
        sym (part_whole history_words (length rs) st.history k.history i h (fed_by t st x o i).history (fed_words t rs i st.history st.waiting x o e h)) in
        more cs c st st' (d ∷ []) (rw (eq-eqb i i refl)) (rw (eq-eqb (number_of d) 0 z, eq-eqb i i refl)) (rw (eq-eqb i i refl) (append-nil (verdicts_of d)))
        (ap (λ (r : Record). r.rule) f)
        (same_end opening (scheduler.history_of start i) (own_calls t i cs ++ (d ∷ [])) s w
        (feed_more opening d refl before.apart.calls (record { takes = tt; is = refl }) z)) before

    -- it is closed
    closes : Closed i → i < length st.records → After (scheduler.close i) (closed_by t st x o i)
    closes e h =
        let rs : List Record = st.records in
        let c : scheduler.Call = call_by (scheduler.close i) st x o (closed_by t st x o i) in
        let st' : scheduler.State = c.effect.state in
        let d : Call = own_call t i close c in
        let z : number_of d ≡ 0 = closed_accepted t rs i st.history x o e in
        let f = seen_at rs i 0 h in
        let s : opening ≡ record_session t i st' = ap (λ (n : ℕ). as_wide (opened t n)) (sym before.rule) ∙ sym (ap (λ (r : Record). as_wide (session_of t r)) f) in
        more cs c st st' (d ∷ []) (rw (eq-eqb i i refl)) (rw (eq-eqb (number_of d) 0 z)) (rw (eq-eqb i i refl) (append-nil (verdicts_of d)))
        (ap (λ (r : Record). r.rule) f)
        (same_end opening (scheduler.history_of start i) (own_calls t i cs ++ (d ∷ [])) s (closed_words t rs i st.history x o e)
        (close_more opening d refl before.apart.calls (record { takes = tt; is = refl }) z)) before

    -- the call is about another record
    elsewhere : (a : scheduler.Act) (e : scheduler.Effect) → e ≡ scheduler.effect_of t a st x o → e.number ≡ 0 → scheduler.serves i (call_by a st x o e) ≡ false
        → scheduler.leaves i (call_by a st x o e) ≡ false → scheduler.closes i (call_by a st x o e) ≡ false → After a e
    elsewhere a e g z p q r =
        let s = stays t i st x o a e g z p q r in
        passes cs (call_by a st x o e) st e.state p r (ap (λ (y : Record). y.rule) s.values) (ap (λ (y : Record). y.seen) s.values) s.history before

    -- a block is left with it
    left : (block : List ℕ) → i < length st.records → After (scheduler.leave i block) (left_by t st x o i block)
    left block h =
        let f = waiting_at st.records i (length block) h in
        passes cs (call_by (scheduler.leave i block) st x o (left_by t st x o i block)) st (left_by t st x o i block).state refl refl
        (ap (λ (y : Record). y.rule) f) (ap (λ (y : Record). y.seen) f) refl before

    after_act : (a : scheduler.Act) (e : scheduler.Effect) → e ≡ scheduler.effect_of t a st x o → e.number ≡ 0 → After a e
    after_act (scheduler.leave j block) e g z =
        let k = leave_accepted t st x o j block e g z in
        subst (λ (y : scheduler.Effect). After (scheduler.leave j block) y) (sym k.is) (⊎_elim
        (λ (b : eqb j i ≡ true).
        subst (λ (m : ℕ). m < length st.records → After (scheduler.leave m block) (left_by t st x o m block)) (sym (eqb-true j i b)) (left block) k.known.within)
        (λ (b : eqb j i ≡ false). elsewhere (scheduler.leave j block) (left_by t st x o j block) (sym k.is ∙ g) refl refl b refl)
        (true_or_false (eqb j i)))
    after_act (scheduler.turn from) e g z =
        ⊎_elim
        (λ (v : Serves t st x o from e).
        let n : ℕ = next_waiting st.records from in
        subst (λ (y : scheduler.Effect). After (scheduler.turn from) y) (sym v.is) (⊎_elim
        (λ (b : eqb n i ≡ true).
        subst (λ (m : ℕ). Served m → m < length st.records → After (scheduler.turn from) (served_by t st x o m)) (sym (eqb-true n i b)) (feeds from) v.clear v.found.within)
        (λ (b : eqb n i ≡ false). elsewhere (scheduler.turn from) (served_by t st x o n) (sym v.is ∙ g) refl b refl refl)
        (true_or_false (eqb n i))))
        (λ (v : Idle t st x o from e).
        subst (λ (y : scheduler.Effect). After (scheduler.turn from) y) (sym v.is) (elsewhere (scheduler.turn from) (idle_by t st x o from) (sym v.is ∙ g) refl refl refl refl))
        (turn_accepted t st x o from e g z)
    after_act (scheduler.close j) e g z =
        let k = close_accepted t st x o j e g z in
        subst (λ (y : scheduler.Effect). After (scheduler.close j) y) (sym k.is) (⊎_elim
        (λ (b : eqb j i ≡ true).
        subst (λ (m : ℕ). Closed m → m < length st.records → After (scheduler.close m) (closed_by t st x o m)) (sym (eqb-true j i b)) closes k.clear k.known.within)
        (λ (b : eqb j i ≡ false). elsewhere (scheduler.close j) (closed_by t st x o j) (sym k.is ∙ g) refl refl refl b)
        (true_or_false (eqb j i)))

  -- from a record that has seen nothing
  goes : (scheduler.record_of start i).seen ≡ 0 → {cs : List scheduler.Call} {st : scheduler.State} → scheduler.Calls t start cs st → Goes cs st
  goes n scheduler.begin = record {
    rule = refl;
    apart = record {
      calls = same_end opening (scheduler.history_of start i) [] (ap (λ (k : ℕ). as_wide (session_with t (scheduler.record_of start i).rule k)) (sym n)) refl (going begin);
      states = refl;
      verdicts = refl;
    };
  }
  goes n (scheduler.accepted {cs = cs} c l g z) = after_act cs c.state c.scratch c.out (goes n l) c.act c.effect g z
  goes n (scheduler.refused {cs = cs} {st = st} c l g z) =
      passes cs c st st (rw (refused_serves t c.state c.scratch c.out c.act c.effect g z)) (rw (ne_eqb (scheduler.number_of c) 0 z)) refl refl refl (goes n l)

-- ---- the third demand, for each part
-- the same start with another history
abbrev with_history : Start → List ℕ → Start
with_history m h = record {
  source = m.source;
  read = m.read;
  simplified = m.simplified;
  promised = m.promised;
  accepted = m.accepted;
  rule = m.rule;
  opened = m.opened;
  history = h;
}

module _ (m : Start) where
  abbrev fresh : AnySession
  fresh = as_wide (opened m.simplified.table m.rule)

  part_claim : {start : List ℕ} {cs : List Call} {s : AnySession} {h : List ℕ} {ended : Bool} → Calls fresh start cs s h ended
      → Claim (verdict_of m) (start_delay m) start ended h (states_fed cs) (verdicts_given cs)
  part_claim {start} {cs} {s} {h} {ended} l =
      third_demand.claim (with_history m start) wide cs s h ended
      (subst (λ (q : Session). Calls (as_wide q) start cs s h ended) (sym (opened_is false m.simplified.table m.rule m.opened)) l)

  claims : {start : List ℕ} {cs : List Call} {s : AnySession} {h : List ℕ} → Reopened fresh start cs s h → Claims (verdict_of m) (start_delay m) start cs h
  claims (going l) = going (part_claim l)
  claims (closed {cs = cs} l r) = closed cs (part_claim l) (claims r)

pub scheduled : Scheduled
scheduled = record {
  apart = λ t i start cs st l n. (goes t i start n l).apart;
  claim = λ m i start cs st l n r h.
      claims m (rw (r, h) at (goes m.simplified.table i start n l).apart.calls);
}
