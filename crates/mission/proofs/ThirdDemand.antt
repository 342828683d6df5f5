-- The third demand: every list of calls on a session over a book or a text that was read, and simplified. Assumes nothing.
use Prim.Native.Nat.{ℕ, ◌≤◌, ◌<◌}
use native.Mathlib.Nat.{zero-add}
use native.Mathlib.Omega.{arith}
use mathlib.Core.Path.{◌≡◌, refl, sym, ap, ◌∙◌}
use mathlib.Core.Bool.{Bool, true, false}
use mathlib.Core.Logic.{⊎_elim, ◌↔◌}
use mathlib.Core.List.{List}
use Rattle.lists.specs.Choice.{first, some_fits, numbered}
use Rattle.lists.proofs.Rows.{refused_exactly}
use Rattle.lists.proofs.Tests.{true_or_false}
use Rattle.table.specs.declared.Table.{Table}
use Rattle.mltl.specs.Mltl.{Formula}
use Rattle.table.specs.Nodes.{wait_of}
use Rattle.table.specs.Sound.{is_sound_by, table_rows, rule_rows}
use Rattle.simplify.specs.Promise.{PromisedBy, SimplerBy, Simplified}
use Rattle.session.specs.declared.Session.{Session}
use Rattle.session.specs.Session.{Effect, with_seen, opening_by}
use Rattle.session.proofs.Effects.{opened_is, opened_rule, feed_number, close_number_lem}
use Rattle.narrow.specs.Narrow.{widening_by}
use Rattle.acts.specs.World.{Width, limit}
use Rattle.acts.specs.Claim.{Claim}
use Rattle.acts.proofs.Listed.{within}
use Rattle.mission.specs.Calls.{AnySession, Act, feed, close, widen, effect_by, rows_by, Call, MeetsBy, number_of, CallsBy, states_fed, verdicts_given, seen_by}
use Rattle.mission.specs.Mission.{read_table, StartBy, session_of, opened_as, start_delay, verdict_of, ListBy, ThirdDemandBy, ThirdDemand}
use Rattle.mission.proofs.World.{Watch, Made, tables}
use Rattle.mission.proofs.Seen.{opened, seen}
use Rattle.mission.proofs.Listed.{come_session, come_claim, beginning}
use Rattle.mission.proofs.Widened.{widened_once, as_if_wide}

-- by either delay
module _ (old : Bool) where
  abbrev wait : Formula → ℕ
  wait = wait_of old

  -- an accepted simplification
  pub simpler : (t : Table) (r : Simplified) → PromisedBy wait t r → r.number ≡ 0 → SimplerBy wait t r.table
  simpler t r p e =
      ⊎_elim (λ (s : is_sound_by wait t ≡ true). (p.accepted s).1) (λ (s : is_sound_by wait t ≡ false). absurd (let k = ap (λ (q : Simplified). q.number) (p.refused s) in omega arith))
      (true_or_false (is_sound_by wait t))

  module _ (m : StartBy wait) where
    abbrev t : Table
    t = read_table m.source

    abbrev u : Table
    u = m.simplified.table

    pub better : SimplerBy wait t u
    better = simpler t m.simplified m.promised m.accepted

    pub watched : m.rule < t.rule_count
    watched = omega (arith, opened_rule old u m.rule m.opened, better.rule_count)

    fresh : session_of m ≡ record { table = u; rule = m.rule; seen = 0 }
    fresh = opened_is old u m.rule m.opened

    fresh_as : (width : Width) → opened_as width m ≡ record { base = record { table = u; rule = m.rule; seen = 0 }; width = width }
    fresh_as width = ap (λ (s : Session). record { base = s; width = width }) fresh

    abbrev pub simple : Watch
    simple = record { table = u; rule = m.rule }

    abbrev pub as_read : Watch
    as_read = record { table = t; rule = m.rule }

    pub made : Made simple as_read
    made = record { verdicts = better.verdicts m.rule watched }

    -- a list on the session that open gave
    from_fresh : {width : Width} {cs : List Call} {s : AnySession} {h : List ℕ} {ended : Bool} → ListBy wait m width cs s h ended
        → CallsBy wait (opened simple width) m.history cs s h ended
    from_fresh {width} l = rw (fresh_as width) at l

    -- its session has seen the states fed, and none after a close
    pub session_is : (width : Width) (cs : List Call) (s : AnySession) (h : List ℕ) (ended : Bool) → ListBy wait m width cs s h ended
        → s.base ≡ with_seen (session_of m) (seen_by ended cs)
    session_is width cs s h ended l =
        come_session old simple as_read made width m.history cs s h ended (from_fresh l)
        ∙ ap (λ (q : Session). with_seen q (seen_by ended cs)) (sym fresh)

    -- whose count is within its limit
    pub seen_within : (width : Width) (cs : List Call) (s : AnySession) (h : List ℕ) (ended : Bool) → ListBy wait m width cs s h ended
        → s.base.seen ≤ limit s.width
    seen_within width cs s h ended l = rw zero-add at (within (tables old) width simple m.history (seen old simple width m.history (from_fresh l)))

  claim : (m : StartBy wait) (width : Width) (cs : List Call) (s : AnySession) (h : List ℕ) (ended : Bool) → ListBy wait m width cs s h ended
      → Claim (verdict_of m) (start_delay m) m.history ended h (states_fed cs) (verdicts_given cs)
  claim m width cs s h ended l = come_claim old (simple m) (as_read m) (made m) width m.history cs s h ended (from_fresh m l)

  reopened : (m : StartBy wait) (width : Width) (cs : List Call) (s : AnySession) (h : List ℕ) → ListBy wait m width cs s h true → s ≡ opened_as s.width m
  reopened m width cs s h l =
      ap (λ (q : Session). record { base = q; width = s.width })
      (come_session old (simple m) (as_read m) (made m) width m.history cs s h true (from_fresh m l) ∙ sym (fresh m))

  -- ---- refusals
  number_of_lem : (a : Act) (s : AnySession) (h x o : List ℕ) → (effect_by wait a s h x o).answer.number ≡ first (rows_by wait a s h x o)
  unfolding widening_by
  number_of_lem (feed block) s h x o = feed_number wait s.base h x o (limit s.width) block
  number_of_lem close s h x o = close_number_lem wait s.base h x o
  number_of_lem widen s h x o = refl

  numbered_rows : (a : Act) (s : AnySession) (h x o : List ℕ) → numbered (rows_by wait a s h x o) ≡ true
  numbered_rows (feed block) s h x o = refl
  numbered_rows close s h x o = refl
  numbered_rows widen s h x o = refl

  refused_calls : (c : Call) → MeetsBy wait c → (¬ (number_of c ≡ 0)) ↔ (some_fits (rows_by wait c.act c.session c.history c.scratch c.out) ≡ true)
  refused_calls c m =
      rw (ap (λ (q : Effect). q.answer.number) m.is ∙ number_of_lem c.act c.session c.history c.scratch c.out)
      (refused_exactly (rows_by wait c.act c.session c.history c.scratch c.out) (numbered_rows c.act c.session c.history c.scratch c.out))

  simplify_exactly : (t : Table) (r : Simplified) → PromisedBy wait t r → (¬ (r.number ≡ 0)) ↔ (some_fits (table_rows (is_sound_by wait t)) ≡ true)
  simplify_exactly t r p =
      ⊎_elim
      (λ (s : is_sound_by wait t ≡ true). rw (s, (p.accepted s).0) (refused_exactly (table_rows true) refl))
      (λ (s : is_sound_by wait t ≡ false). rw (s, ap (λ (q : Simplified). q.number) (p.refused s)) (refused_exactly (table_rows false) refl))
      (true_or_false (is_sound_by wait t))

  open_exactly : (t : Table) (r : ℕ) → (¬ ((opening_by wait t r).number ≡ 0)) ↔ (some_fits (rule_rows (is_sound_by wait t) t.rule_count r) ≡ true)
  unfolding opening_by
  open_exactly t r = refused_exactly (rule_rows (is_sound_by wait t) t.rule_count r) refl

  pub third_demand_by : ThirdDemandBy wait
  third_demand_by = record {
    claim = claim;
    beginnings = λ m width cs s h ended l j. beginning old (opened_as width m) m.history j l;
    reopened = reopened;
    counted = λ m width cs s h ended l. (ap (λ (q : Session). q.seen) (session_is m width cs s h ended l), seen_within m width cs s h ended l);
    widened_once = λ m width cs s h ended l. widened_once old l;
    as_if_wide = λ m width cs s h ended l. as_if_wide old m l;
    calls_refused = refused_calls;
    simplify_refused = simplify_exactly;
    open_refused = open_exactly;
  }

pub third_demand : ThirdDemand
third_demand = third_demand_by false
