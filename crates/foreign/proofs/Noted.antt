-- Calls through the C interface with the status registers beside them are such calls of crate mission. Assumes nothing.
use Prim.Native.Nat.{ℕ}
use mathlib.Core.Path.{◌≡◌, refl, sym, ap}
use mathlib.Core.Bool.{Bool, true, false}
use mathlib.Core.List.{List, map, map-append}
use Rattle.lists.specs.Sequence.{some}
use Rattle.mltl.specs.Mltl.{Formula}
use Rattle.table.specs.Nodes.{wait_of}
use Rattle.session.specs.Session.{Effect}
use Rattle.registers.specs.declared.Kind.TheVariants.{Widen}
use Rattle.registers.specs.History.{bytes_by}
use Rattle.noted.specs.Noted.{outcome_of, verdicts_in, given, feed_outcome, close_outcome}
use Rattle.acts.specs.World.{Width, narrow}
use Rattle.mission.specs.Mission.{opened_as}
use Rattle.mission.specs.Noted.{outcome_by}
use Rattle.mission.specs.Noted as noted
use Rattle.mission.proofs.Noted.{noted_demand_by}
use Rattle.foreign.specs.Demand.{held_in, Call, feed, close, widen, ContractBy, as_call, StartBy}
use Rattle.foreign.specs.Noted.{told_by, Step, as_step, NotedBy, begin, accepted, refused, written, ForeignNotedBy, ForeignNoted}
use Rattle.foreign.proofs.Demand.{any_in, meets, back_is, held_simple, start_is, held_either}

-- by either delay
module _ (old : Bool) where
  abbrev wait : Formula → ℕ
  wait = wait_of old

  -- ---- one call
  tells : (c : Call) → ContractBy wait c → told_by wait c ≡ outcome_by wait (as_call c)
  unfolding some
  tells (feed width block l) k = sym (ap (feed_outcome wait (held_in width l.session)) (meets old (feed width block l) k).is)
  tells (close width l) k = sym (ap (close_outcome wait (held_in width l.session)) (meets old (close width l) k).is)
  tells (widen before size l) k =
      sym (ap (λ (e : Effect). outcome_of Widen e.answer.number (verdicts_in e) (given wait (held_in narrow l.session))) (meets old (widen before size l) k).is)

  -- ---- lists
  module _ (width : Width) (first start before : List ℕ) where
    listed : {xs : List Step} {width' : Width} {b h : List ℕ} {ended : Bool} {r : List ℕ} → NotedBy wait width first start before xs width' b h ended r
        → noted.NotedBy wait (any_in width first) start before (map as_step xs) (any_in width' b) h ended r
    listed begin = noted.begin
    listed (accepted told c l k z) = rw (map-append, ← back_is old c k z, tells c k) (noted.accepted told (as_call c) (listed l) (meets old c k) z)
    listed (refused told c l k n) = rw (map-append, tells c k) (noted.refused told (as_call c) (listed l) (meets old c k) n)
    listed (written place value l) = rw map-append (noted.written place value (listed l))

  of_mission : (m : StartBy wait) (width width' : Width) (before : List ℕ) (xs : List Step) (b h : List ℕ) (ended : Bool) (r : List ℕ)
      → NotedBy wait width m.session m.history before xs width' b h ended r
      → noted.NotedBy wait (opened_as width (start_is old m)) m.history before (map as_step xs) (any_in width' b) h ended r
  of_mission m width width' before xs b h ended r l = rw (held_either old m width) at (listed width m.session m.history before l)

  foreign_noted_by : ForeignNotedBy wait
  foreign_noted_by = record {
    tells = tells;
    listed = λ m width width' before xs b h ended r l.
        record {
          start = start_is old m;
          source = refl;
          table = sym (held_simple old m);
          rule = refl;
          history = refl;
          steps = of_mission m width width' before xs b h ended r l;
        };
    bytes = λ es m width width' xs b h ended r l.
        (noted_demand_by old).bytes es (opened_as width (start_is old m)) m.history (map as_step xs) (any_in width' b) h ended r
        (of_mission m width width' (bytes_by es) xs b h ended r l);
    claim = λ m width width' before xs b h ended r l.
        rw (held_simple old m)
        ((noted_demand_by old).claim (start_is old m) width before (map as_step xs) (any_in width' b) h ended r (of_mission m width width' before xs b h ended r l));
  }

pub foreign_noted : ForeignNoted
foreign_noted = record { lists = foreign_noted_by false; old_lists = foreign_noted_by true }
