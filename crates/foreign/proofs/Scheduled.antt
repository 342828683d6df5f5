-- The scheduler's calls through the C interface are calls of the scheduler. Assumes nothing.
use Prim.Native.Nat.{ℕ, ◌+◌, ◌*◌, ◌/◌, ◌%◌, ◌≤◌, ◌<◌}
use native.Mathlib.Omega.{arith}
use mathlib.Core.Path.{◌≡◌, refl, sym, ap, ◌∙◌}
use mathlib.Core.Logic.{⊎_elim}
use mathlib.Core.Bool.{Bool, true, false, true≢false, false≢true}
use mathlib.Core.List.{List, [], ◌∷◌, ◌++◌, map, map-append}
use borrow.Author.Tests.{eq-eqb, ne_eqb, eqb-true, eqb-false}
use lib.Dec.{eqb}
use Rattle.lists.specs.Choice.{first}
use Rattle.lists.proofs.Rows.{first_within}
use Rattle.lists.proofs.Tests.{true_or_false}
use Rattle.table.specs.declared.Table.{Table}
use Rattle.flat.specs.Flat.{table_from}
use Rattle.scheduler.specs.Scheduler.{leave_effect, turn_effect, close_effect}
use Rattle.scheduler.specs.Calls.{State, Act, leave, turn, close, Effect, effect_of, rows_of}
use Rattle.scheduler.specs.Calls as scheduler
use Rattle.scheduler.proofs.Accepted.{number_is, refused_serves, Serves, Idle, turn_accepted}
use Rattle.shell.specs.Scheduler.{turn_answer, TurnCall, CloseCall}
use Rattle.foreign.specs.Scheduled.{Call, LeaveContract, TurnContract, CloseContract, ContractOf, Contract, told_number, told_served, told_place, told_count, as_call, Calls, begin, accepted, refused, ForeignScheduled}

-- ---- the scheduler's effects
module _ (t : Table) (st : State) (x o : List ℕ) where
  -- every number is small
  rows_small : (a : Act) → first (rows_of t a st x o) ≤ 255
  rows_small (leave i block) = first_within 255 (rows_of t (leave i block) st x o) refl
  rows_small (turn from) = first_within 255 (rows_of t (turn from) st x o) refl
  rows_small (close i) = first_within 255 (rows_of t (close i) st x o) refl

  small : (a : Act) → (effect_of t a st x o).number ≤ 255
  small a = rw (number_is t st x o a (effect_of t a st x o) refl) (rows_small a)

  -- the test by which an effect is chosen, of a refused call
  refused_by_lem : (a : Act) (e : Effect) → e ≡ effect_of t a st x o → (e.number ≡ 0 → ⊥) → eqb (first (rows_of t a st x o)) 0 ≡ false
  refused_by_lem a e p z = ne_eqb (first (rows_of t a st x o)) 0 (λ q. z (number_is t st x o a e p ∙ q))

  -- a refused call hands back what it was given; a refused turn, its place too
  handed_back_lem : (a : Act) (e : Effect) → e ≡ effect_of t a st x o → (e.number ≡ 0 → ⊥) → (e.state ≡ st) × (e.scratch ≡ x) × (e.out ≡ o)
  unfolding leave_effect turn_effect close_effect
  handed_back_lem (leave i block) e p z = rw (p, refused_by_lem (leave i block) e p z) (refl, refl, refl)
  handed_back_lem (turn from) e p z = rw (p, refused_by_lem (turn from) e p z) (refl, refl, refl)
  handed_back_lem (close i) e p z = rw (p, refused_by_lem (close i) e p z) (refl, refl, refl)

  refused_place : (from : ℕ) (e : Effect) → e ≡ effect_of t (turn from) st x o → (e.number ≡ 0 → ⊥) → e.place ≡ from
  unfolding turn_effect
  refused_place from e p z = rw (p, refused_by_lem (turn from) e p z)

-- the place of a served record is small; where none was served, it is the one that the turn was given
record Placed (from : ℕ) (served : Bool) (place : ℕ) : Type 0 where
  small : served ≡ true → place < 8
  same : served ≡ false → place ≡ from

module _ (t : Table) (st : State) (x o : List ℕ) (from : ℕ) where
  abbrev given : Effect
  given = effect_of t (turn from) st x o

  placed : Placed from given.served given.place
  placed = ⊎_elim
      (λ (b : eqb given.number 0 ≡ true).
      ⊎_elim
      (λ (s : Serves t st x o from given). record {
        small = λ q. let at = ap (λ (y : Effect). y.place) s.is in omega (arith, at, s.found.within, s.known.short);
        same = λ q. absurd (true≢false (sym (ap (λ (y : Effect). y.served) s.is) ∙ q));
      })
      (λ (s : Idle t st x o from given). record {
        small = λ q. absurd (false≢true (sym (ap (λ (y : Effect). y.served) s.is) ∙ q));
        same = λ q. ap (λ (y : Effect). y.place) s.is;
      })
      (turn_accepted t st x o from given refl (eqb-true given.number 0 b)))
      (λ (b : eqb given.number 0 ≡ false).
      let z = eqb-false given.number 0 b in
      record {
        small = λ q. absurd (false≢true (sym (refused_serves t st x o (turn from) given refl z) ∙ q));
        same = λ q. refused_place t st x o from given refl z;
      })
      (true_or_false (eqb given.number 0))

-- ---- the parts of an answer
module _ (from number place count : ℕ) (few : number ≤ 255) where
  told_number_lem : (served : Bool) → told_number (turn from) (turn_answer number served place count) ≡ number
  told_number_lem true = omega (arith, few)
  told_number_lem false = omega (arith, few)

  told_served_lem : (served : Bool) → Placed from served place → told_served (turn from) (turn_answer number served place count) ≡ served
  told_served_lem true p = let l = p.small refl in eq-eqb (turn_answer number true place count / 256 % 256) 1 (omega (arith, few, l))
  told_served_lem false p = ne_eqb (turn_answer number false place count / 256 % 256) 1 (λ e. omega (arith, few, e))

  told_place_lem : (served : Bool) → Placed from served place → told_place (turn from) (turn_answer number served place count) ≡ place
  told_place_lem true p = let l = p.small refl in rw (told_served_lem true p) (omega (arith, few, l))
  told_place_lem false p = rw (told_served_lem false p) (sym (p.same refl))

  told_count_lem : (served : Bool) → Placed from served place → told_count (turn from) (turn_answer number served place count) ≡ count
  told_count_lem true p = let l = p.small refl in omega (arith, few, l)
  told_count_lem false p = omega (arith, few)

-- ---- each call is one of the scheduler's
module _ (t : Table) (c : Call) where
  -- what its answer and its buffers tell, were it a call of act a
  abbrev told_by : Act → Effect
  told_by a = record {
    number = told_number a c.answer;
    served = told_served a c.answer;
    place = told_place a c.answer;
    count = told_count a c.answer;
    state = c.state';
    scratch = c.scratch';
    out = c.out';
  }

  told_leave : (i : ℕ) (block : List ℕ) → LeaveContract t i block c → told_by (leave i block) ≡ effect_of t (leave i block) c.state c.scratch c.out
  told_leave i block k =
      let p = k.is in
      λ j. record {
        number = (p j).answer;
        served = false;
        place = 0;
        count = 0;
        state = record { records = (p j).records; history = k.history j; waiting = (p j).waiting };
        scratch = k.scratch j;
        out = k.out j;
      }

  told_turn : (from : ℕ) → TurnContract t from c → told_by (turn from) ≡ effect_of t (turn from) c.state c.scratch c.out
  told_turn from k =
      let e : Effect = effect_of t (turn from) c.state c.scratch c.out in
      let p = k.is in
      let a = ap (λ (y : TurnCall). y.answer) p in
      let few = small t c.state c.scratch c.out (turn from) in
      let at = placed t c.state c.scratch c.out from in
      let number = ap (told_number (turn from)) a ∙ told_number_lem from e.number e.place e.count few e.served in
      let served = ap (told_served (turn from)) a ∙ told_served_lem from e.number e.place e.count few e.served at in
      let place = ap (told_place (turn from)) a ∙ told_place_lem from e.number e.place e.count few e.served at in
      let count = ap (told_count (turn from)) a ∙ told_count_lem from e.number e.place e.count few e.served at in
      λ j. record {
        number = number j;
        served = served j;
        place = place j;
        count = count j;
        state = record { records = (p j).records; history = (p j).history; waiting = k.waiting j };
        scratch = (p j).scratch;
        out = (p j).out;
      }

  told_close : (i : ℕ) → CloseContract t i c → told_by (close i) ≡ effect_of t (close i) c.state c.scratch c.out
  told_close i k =
      let e : Effect = effect_of t (close i) c.state c.scratch c.out in
      let p = k.is in
      let a : c.answer ≡ e.number + 4294967296 * e.count = ap (λ (y : CloseCall). y.answer) p in
      let few = small t c.state c.scratch c.out (close i) in
      let number : c.answer % 4294967296 ≡ e.number = omega (arith, a, few) in
      let count : c.answer / 4294967296 ≡ e.count = omega (arith, a, few) in
      λ j. record {
        number = number j;
        served = false;
        place = 0;
        count = count j;
        state = record { records = (p j).records; history = k.history j; waiting = k.waiting j };
        scratch = (p j).scratch;
        out = (p j).out;
      }

  told_is : (a : Act) → ContractOf t a c → told_by a ≡ effect_of t a c.state c.scratch c.out
  told_is (leave i block) k = told_leave i block k
  told_is (turn from) k = told_turn from k
  told_is (close i) k = told_close i k

meets : (table : List ℕ) (c : Call) → Contract table c → scheduler.Meets (table_from table) (as_call c)
meets table c k = told_is (table_from table) c c.act k

-- ---- lists of calls
module _ (table : List ℕ) (start : State) where
  abbrev Listed : List Call → State → Type 0
  Listed cs st = scheduler.Calls (table_from table) start (map as_call cs) st

  listed_accepted : (cs : List Call) (c : Call) → Listed cs c.state → Contract table c → told_number c.act c.answer ≡ 0 → Listed (cs ++ (c ∷ [])) c.state'
  listed_accepted cs c l k z = rw map-append (scheduler.accepted (as_call c) l (meets table c k) z)

  listed_refused : (cs : List Call) (st : State) (c : Call) → Listed cs st → Contract table c → (told_number c.act c.answer ≡ 0 → ⊥) → Listed (cs ++ (c ∷ [])) st
  listed_refused cs st c l k z = rw map-append (scheduler.refused (as_call c) l (meets table c k) z)

  listed : {cs : List Call} {st : State} → Calls table start cs st → Listed cs st
  listed begin = scheduler.begin
  listed (accepted {cs = cs} c l k z) = listed_accepted cs c (listed l) k z
  listed (refused {cs = cs} {st = st} c l k z) = listed_refused cs st c (listed l) k z

pub foreign_scheduled : ForeignScheduled
foreign_scheduled = record {
  meets = meets;
  lists = λ table start cs st l. listed table start l;
  refused_same = λ table c k z. handed_back_lem (table_from table) c.state c.scratch c.out c.act (as_call c).effect (meets table c k) z;
}
