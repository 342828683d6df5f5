-- Lists of calls on one session, and what is claimed of them (the third demand, with A4, A12).
use Rattle.std.specs.Prelude.{ℕ, ◌+◌, ◌-◌, ◌≤◌, ◌<◌, min, max, ◌≡◌, ◌↔◌, ◌⊎◌, Bool, true, false, List, [], ◌∷◌, ◌++◌, length, take, drop, leb, eqb}
use Rattle.lists.specs.Choice.{pick}
use Rattle.lists.specs.Sequence.{ticks, last_of, concat_map}
use Rattle.acts.specs.World.{World, Session, Act, feed, close, widen, change, Effect, effect_of, Takes, Lawful}

module _ (w : World) where
  -- ---- calls
  -- what a call was given, and its effect
  pub record Call : Type 0 where
    pub act : Act w.Rule w.Source
    pub session : Session w.Rule
    pub history : List ℕ
    pub lent : w.Lent
    pub effect : Effect w

  -- the call may be made, and its effect is what the act's definition says
  pub record Meets (c : Call) : Type 0 where
    pub takes : Takes w c.act c.session.width
    pub is : c.effect ≡ effect_of w c.act c.session c.history c.lent

  abbrev pub is_accepted : Call → Bool
  is_accepted c = eqb c.effect.number 0

  -- ---- the states fed and the verdicts given by a list of calls
  abbrev pub block_of : Act w.Rule w.Source → List ℕ
  block_of (feed block) = block
  block_of close = []
  block_of widen = []
  block_of (change r b) = []

  abbrev pub states_of : Call → List ℕ
  states_of c = pick (is_accepted c) (block_of c.act) []

  abbrev pub verdicts_of : Call → List Bool
  verdicts_of c = c.effect.verdicts

  abbrev pub states_fed : List Call → List ℕ
  states_fed cs = concat_map states_of cs

  abbrev pub verdicts_given : List Call → List Bool
  verdicts_given cs = concat_map verdicts_of cs

  -- ---- the rules of a list so far, the newest first: each with its first tick (A12)
  pub data Rules : Type 0 where
    opened : w.Rule → w.Source → Rules
    then : ℕ → w.Rule → w.Source → Rules → Rules

  abbrev pub first_tick_of : Rules → ℕ
  first_tick_of (opened r b) = 0
  first_tick_of (then f r b older) = f

  abbrev pub in_force : Rules → w.Rule
  in_force (opened r b) = r
  in_force (then f r b older) = r

  abbrev pub source_of : Rules → w.Source
  source_of (opened r b) = b
  source_of (then f r b older) = b

  -- the largest D so far
  abbrev pub largest : Rules → ℕ
  largest (opened r b) = w.D r
  largest (then f r b older) = max (w.D r) (largest older)

  -- a rule, as it stood in its book, judges from its own first tick to just below the next one's
  abbrev pub judged : Rules → List ℕ → ℕ → Bool
  judged (opened r b) xs t = w.val b xs t
  judged (then f r b older) xs t = pick (leb f t) (w.val b xs t) (judged older xs t)

  -- an accepted change adds its rule, with the first tick that its session came back with
  abbrev pub ruled : Act w.Rule w.Source → ℕ → Rules → Rules
  ruled (feed block) f p = p
  ruled close f p = p
  ruled widen f p = p
  ruled (change r b) f p = then f r b p

  abbrev pub rules_by : Rules → List Call → Rules
  rules_by p [] = p
  rules_by p (c ∷ cs) = rules_by (pick (is_accepted c) (ruled c.act c.effect.session.first_tick p) p) cs

  -- ---- lists of calls
  abbrev pub ends : Act w.Rule w.Source → Bool
  ends (feed block) = false
  ends close = true
  ends widen = false
  ends (change r b) = false

  -- The calls, the session and the history that they have come to, and whether a close was accepted. An accepted call is given the
  -- list's own session and history; a refused one may be given any, and the list's stay.
  pub data Calls (s₀ : Session w.Rule) (start : List ℕ) : List Call → Session w.Rule → List ℕ → Bool → Type 0 where
    begin : Calls s₀ start [] s₀ start false
    accepted : {cs : List Call} (c : Call) → Calls s₀ start cs c.session c.history false → Meets c → Lawful w c.act
        → c.effect.number ≡ 0
        → Calls s₀ start (cs ++ (c ∷ [])) c.effect.session c.effect.history (ends c.act)
    refused : {cs : List Call} {s : Session w.Rule} {h : List ℕ} {ended : Bool} (c : Call)
        → Calls s₀ start cs s h ended → Meets c → (c.effect.number ≡ 0 → ⊥)
        → Calls s₀ start (cs ++ (c ∷ [])) s h ended

  -- ---- what is claimed. p: the rules so far, n: how many states were fed
  -- D of the rule in force; the states kept: the smaller of D and the states fed from the first tick on
  abbrev pub waits : Rules → ℕ
  waits p = w.D (in_force p)

  abbrev pub kept : Rules → ℕ → ℕ
  kept p n = min (n - first_tick_of p) (waits p)

  module _ (p : Rules) (start : List ℕ) where
    -- history's first places hold exactly the last so many states fed, oldest first; its other places keep the start's words beyond
    -- every D so far, and beyond the states fed
    pub record HeldUnder (h : List ℕ) (states : List ℕ) : Type 0 where
      pub last : take (kept p (length states)) h ≡ last_of (kept p (length states)) states
      pub others : drop (min (length states) (largest p)) h ≡ drop (min (length states) (largest p)) start

    -- before a close is accepted
    pub record GoingUnder (h : List ℕ) (states : List ℕ) (verdicts : List Bool) : Type 0 where
      pub held : HeldUnder h states
      -- states fed = verdicts given + states kept
      pub sum : length states ≡ length verdicts + kept p (length states)
      -- the verdicts given are those of the ticks below the first tick and of those from it on with t + D below the states fed,
      -- once each, in order, on every trace that begins with the states fed
      pub settled : (t : ℕ) → (t < length verdicts) ↔ ((t < first_tick_of p) ⊎ ((first_tick_of p ≤ t) × (t + waits p < length states)))
      pub exact : (later : List ℕ) → verdicts ≡ ticks (judged p (states ++ later)) (length verdicts)

    -- after an accepted close: the verdicts of all ticks of the trace of just these states
    pub record EndedUnder (h : List ℕ) (states : List ℕ) (verdicts : List Bool) : Type 0 where
      pub held : HeldUnder h states
      pub count : length verdicts ≡ length states
      pub exact : verdicts ≡ ticks (judged p states) (length states)

    abbrev pub ClaimUnder : Bool → List ℕ → List ℕ → List Bool → Type 0
    ClaimUnder false h states verdicts = GoingUnder h states verdicts
    ClaimUnder true h states verdicts = EndedUnder h states verdicts
