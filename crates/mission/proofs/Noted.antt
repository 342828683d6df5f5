-- Lists of calls with the status registers beside them: what the registers hold, and the third demand. Assumes nothing.
use Prim.Native.Nat.{ℕ, ◌+◌, ◌-◌}
use native.Mathlib.Omega.{arith}
use mathlib.Core.Path.{◌≡◌, refl, sym, ap, subst, ◌∙◌}
use mathlib.Core.Bool.{Bool, true, false, not}
use mathlib.Core.List.{List, [], ◌∷◌, ◌++◌, append_assoc, append-nil}
use lib.ListN.{length, get_or, length-append}
use lib.Seq.{get_or-append-add}
use Rattle.lists.specs.Sequence.{some}
use Rattle.lists.proofs.Sequences.{concat_map_snoc}
use Rattle.mltl.specs.Mltl.{Formula}
use Rattle.table.specs.Nodes.{wait_of}
use Rattle.session.specs.declared.Session.{Session}
use Rattle.session.specs.Session.{with_seen}
use Rattle.session.proofs.Effects.{opened_is}
use Rattle.acts.specs.World.{Width}
use Rattle.registers.specs.History.{Event, bytes_by, step}
use Rattle.registers.specs.History as history
use Rattle.registers.proofs.History.{by_history}
use Rattle.noted.specs.Noted.{place_of_no, given}
use Rattle.noted.proofs.Places.{place_among, place_no, place_earlier}
use Rattle.mission.specs.Calls.{AnySession, Call, verdicts_of, CallsBy, states_fed, verdicts_given}
use Rattle.mission.specs.Calls as calls
use Rattle.mission.specs.Mission.{StartBy, opened_as}
use Rattle.mission.specs.Noted.{Step, call, write, calls_of, calls_in, unwritten, without_writes, outcome_by, registers_after, events_of, events_in, NotedBy, begin, accepted, refused, written, Without, FirstNo, NotedDemandBy, NotedDemand}
use Rattle.mission.proofs.ThirdDemand.{third_demand_by, session_is}

-- ---- without its writes a list has the same calls
same_calls : (xs : List Step) → calls_in (without_writes xs) ≡ calls_in xs
same_calls [] = refl
same_calls (call told c ∷ xs) = ap (λ (cs : List Call). c ∷ cs) (same_calls xs)
same_calls (write place value ∷ xs) = same_calls xs

-- ---- the first no of a call is the first among all verdicts from the call's first on
first_no : (before verdicts : List Bool) → some not verdicts ≡ true → FirstNo (length before) (before ++ verdicts) (length before + place_of_no verdicts)
first_no before verdicts e = record {
  after = omega arith;
  among = omega (arith, length-append before verdicts, place_among verdicts e);
  says_no = get_or-append-add before verdicts (place_of_no verdicts) true ∙ place_no verdicts e;
  earlier = λ i l h.
      subst (λ (k : ℕ). get_or (before ++ verdicts) k false ≡ true) (omega arith)
      (get_or-append-add before verdicts (i - length before) false ∙ place_earlier verdicts (i - length before) (omega arith));
}

-- by either delay
module _ (old : Bool) where
  abbrev wait : Formula → ℕ
  wait = wait_of old

  -- ---- the bytes
  module _ (es : List Event) where
    abbrev Held : List Step → List ℕ → Type 0
    Held xs r = r ≡ bytes_by (es ++ events_in wait xs)

    events_snoc : (xs : List Step) (x : Step) → (es ++ events_in wait xs) ++ events_of wait x ≡ es ++ events_in wait (xs ++ (x ∷ []))
    events_snoc xs x =
        append_assoc es (events_in wait xs) (events_of wait x) ∙ ap (λ (ys : List Event). es ++ ys) (sym (concat_map_snoc (events_of wait) xs x))

    held_event : (xs : List Step) (x : Step) (e : Event) (r : List ℕ) → events_of wait x ≡ e ∷ [] → Held xs r → Held (xs ++ (x ∷ [])) (step r e)
    held_event xs x e r p k =
        ap (λ (b : List ℕ). step b e) k ∙ by_history.next (es ++ events_in wait xs) e
        ∙ ap bytes_by (ap (λ (ys : List Event). (es ++ events_in wait xs) ++ ys) (sym p) ∙ events_snoc xs x)

    held_call : (xs : List Step) (told : Bool) (c : Call) (r : List ℕ) → Held xs r → Held (xs ++ (call told c ∷ [])) (registers_after wait told c r)
    held_call xs true c r k = held_event xs (call true c) (history.call (outcome_by wait c)) r refl k
    held_call xs false c r k = k ∙ ap bytes_by (sym (append-nil (es ++ events_in wait xs)) ∙ events_snoc xs (call false c))

    held : {first : AnySession} {start : List ℕ} {xs : List Step} {s : AnySession} {h : List ℕ} {ended : Bool} {r : List ℕ}
        → NotedBy wait first start (bytes_by es) xs s h ended r → Held xs r
    held begin = ap bytes_by (sym (append-nil es))
    held (accepted {xs = xs} {r = r} told c l m z) = held_call xs told c r (held l)
    held (refused {xs = xs} {r = r} told c l m n) = held_call xs told c r (held l)
    held (written {xs = xs} {r = r} place value l) = held_event xs (write place value) (history.write place value) r refl (held l)

  module _ (first : AnySession) (start before : List ℕ) where
    -- ---- its calls are a list without registers
    listed : {xs : List Step} {s : AnySession} {h : List ℕ} {ended : Bool} {r : List ℕ} → NotedBy wait first start before xs s h ended r
        → CallsBy wait first start (calls_in xs) s h ended
    listed begin = calls.begin
    listed (accepted {xs = xs} told c l m z) = rw (concat_map_snoc calls_of xs (call told c)) (calls.accepted c (listed l) m z)
    listed (refused {xs = xs} told c l m n) = rw (concat_map_snoc calls_of xs (call told c)) (calls.refused c (listed l) m n)
    listed (written {xs = xs} place value l) = rw (concat_map_snoc calls_of xs (write place value), append-nil) (listed l)

    -- ---- without its writes it comes to the same session and history
    without : {xs ys : List Step} {s : AnySession} {h : List ℕ} {ended : Bool} {r : List ℕ} → without_writes xs ≡ ys → NotedBy wait first start before ys s h ended r
        → Without wait first start before xs s h ended
    without {xs} {r = r} e l = record { registers = r; noted = rw e l; calls = same_calls xs }

    kept : {xs : List Step} {s : AnySession} {h : List ℕ} {ended : Bool} {r : List ℕ} → NotedBy wait first start before xs s h ended r
        → Without wait first start before xs s h ended
    kept begin = without refl begin
    kept (accepted {xs = xs} told c l m z) = without (concat_map_snoc unwritten xs (call told c)) (accepted told c (kept l).noted m z)
    kept (refused {xs = xs} told c l m n) = without (concat_map_snoc unwritten xs (call told c)) (refused told c (kept l).noted m n)
    kept (written {xs = xs} place value l) = without (concat_map_snoc unwritten xs (write place value) ∙ append-nil (without_writes xs)) (kept l).noted

  -- ---- ticks count from the open
  module _ (m : StartBy wait) (width : Width) where
    given_is : (cs : List Call) (s : AnySession) (h : List ℕ) → CallsBy wait (opened_as width m) m.history cs s h false
        → given wait s.base ≡ length (verdicts_given cs)
    given_is cs s h l =
        let e = session_is old m width cs s h false l ∙ ap (λ (q : Session). with_seen q (length (states_fed cs))) (opened_is old m.simplified.table m.rule m.opened) in
        ap (given wait) e ∙ omega (arith, ((third_demand_by old).claim m width cs s h false l).sum)

    tick_is : (before : List ℕ) (xs : List Step) (h r : List ℕ) (c : Call) → NotedBy wait (opened_as width m) m.history before xs c.session h false r
        → (outcome_by wait c).fails ≡ true
        → FirstNo (length (verdicts_given (calls_in xs))) (verdicts_given (calls_in xs) ++ verdicts_of c) (outcome_by wait c).tick
    tick_is before xs h r c l e =
        rw (e, given_is (calls_in xs) c.session h (listed (opened_as width m) m.history before l)) (first_no (verdicts_given (calls_in xs)) (verdicts_of c) e)

  pub noted_demand_by : NotedDemandBy wait
  noted_demand_by = record {
    bytes = λ es first start xs s h ended r l. held es l;
    unwritten = λ first start before xs s h ended r l. kept first start before l;
    calls = λ first start before xs s h ended r l. listed first start before l;
    claim = λ m width before xs s h ended r l. (third_demand_by old).claim m width (calls_in xs) s h ended (listed (opened_as width m) m.history before l);
    ticks = tick_is;
  }

pub noted_demand : NotedDemand
noted_demand = noted_demand_by false
