-- The third demand over every list of calls, as one statement.
use Rattle.std.specs.Prelude.{ℕ, ◌-◌, ◌≡◌, ◌↔◌, Bool, true, false, List, length, take}
use Rattle.lists.specs.Choice.{some_fits}
use Rattle.acts.specs.World.{World, Width, Session, rows_of}
use Rattle.acts.specs.Calls.{Call, Meets, states_fed, verdicts_given, Rules, opened, rules_by, first_tick_of, in_force, Calls, ClaimUnder}

module _ (w : World) where
  -- the session that an accepted open of the rule gives
  abbrev pub opening : Width → w.Rule → Session w.Rule
  opening width r = record { rule = r; seen = 0; first_tick = 0; width = width }

  abbrev pub rules_of : w.Rule → w.Source → List (Call w) → Rules w
  rules_of r b cs = rules_by w (opened r b) cs

  -- the first calls of such a list are such a list
  pub record Beginning (s₀ : Session w.Rule) (start : List ℕ) (cs : List (Call w)) : Type 0 where
    pub session : Session w.Rule
    pub history : List ℕ
    pub ended : Bool
    pub calls : Calls w s₀ start cs session history ended

  -- the session that a list has come to: its rule is the one in force, it has seen the states from its first tick on; after a close it
  -- is as an open of that rule gives it
  abbrev pub session_by : Bool → Width → Rules w → ℕ → Session w.Rule
  session_by false width p n = record { rule = in_force w p; seen = n - first_tick_of w p; first_tick = first_tick_of w p; width = width }
  session_by true width p n = opening width (in_force w p)

  pub record Demand : Type 0 where
    pub claim : (width : Width) (r : w.Rule) (b : w.Source) (start : List ℕ) (cs : List (Call w)) (s : Session w.Rule) (h : List ℕ) (ended : Bool)
        → w.From r b → Calls w (opening width r) start cs s h ended
        → ClaimUnder w (rules_of r b cs) start ended h (states_fed w cs) (verdicts_given w cs)
    pub session : (width : Width) (r : w.Rule) (b : w.Source) (start : List ℕ) (cs : List (Call w)) (s : Session w.Rule) (h : List ℕ) (ended : Bool)
        → w.From r b → Calls w (opening width r) start cs s h ended
        → s ≡ session_by ended s.width (rules_of r b cs) (length (states_fed w cs))
    pub beginnings : (s₀ : Session w.Rule) (start : List ℕ) (cs : List (Call w)) (s : Session w.Rule) (h : List ℕ) (ended : Bool)
        → Calls w s₀ start cs s h ended → (j : ℕ) → Beginning s₀ start (take j cs)
    pub calls_refused : (c : Call w) → Meets w c → (¬ (c.effect.number ≡ 0)) ↔ (some_fits (rows_of w c.act c.session c.history c.lent) ≡ true)
