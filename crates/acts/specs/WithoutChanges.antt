-- Lists of calls without changes: the base's claim.
use Rattle.std.specs.Prelude.{ℕ, ◌≡◌, Bool, true, false, ◌&&◌, List, [], ◌∷◌}
use Rattle.acts.specs.World.{World, Width, Session, Act, feed, close, widen, change}
use Rattle.acts.specs.Calls.{Call, states_fed, verdicts_given, Calls}
use Rattle.acts.specs.Demand.{opening}
use Rattle.acts.specs.Claim.{Claim}

module _ (w : World) where
  abbrev pub keeps_rule : Act w.Rule w.Source → Bool
  keeps_rule (feed block) = true
  keeps_rule close = true
  keeps_rule widen = true
  keeps_rule (change r b) = false

  abbrev pub unchanged : List (Call w) → Bool
  unchanged [] = true
  unchanged (c ∷ cs) = keeps_rule c.act && unchanged cs

  abbrev pub WithoutChanges : Type 0
  WithoutChanges = (width : Width) (r : w.Rule) (b : w.Source) (start : List ℕ) (cs : List (Call w)) (s : Session w.Rule) (h : List ℕ) (ended : Bool)
      → w.From r b → Calls w (opening w width r) start cs s h ended → unchanged cs ≡ true
      → Claim (w.val b) (w.D r) start ended h (states_fed w cs) (verdicts_given w cs)
