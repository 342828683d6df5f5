-- What is claimed of a list of calls under one rule (document 01, Session).
use Rattle.std.specs.Prelude.{ℕ, ◌+◌, ◌-◌, ◌<◌, min, ◌≡◌, ◌↔◌, Bool, true, false, List, ◌++◌, length, take, drop}
use Rattle.lists.specs.Sequence.{ticks, last_of}

-- `val xs t` is the verdict at tick t of the trace xs, and D the delay.
module _ (val : List ℕ → ℕ → Bool) (D : ℕ) (start : List ℕ) where
  -- before a close is accepted: `states` were fed and `verdicts` given, and the history is h
  pub record Going (h : List ℕ) (states : List ℕ) (verdicts : List Bool) : Type 0 where
    -- states fed = verdicts given + states kept
    pub sum : length states ≡ length verdicts + min (length states) D
    -- history's first places hold exactly the last so many states fed, oldest first; its other places what they held at the start
    pub kept : take (min (length states) D) h ≡ last_of D states
    pub others : drop (min (length states) D) h ≡ drop (min (length states) D) start
    -- the verdicts given are those of the ticks t with t + D below the states fed, once each, in order, on every trace that begins so
    pub settled : (t : ℕ) → (t < length verdicts) ↔ (t + D < length states)
    pub exact : (later : List ℕ) → verdicts ≡ ticks (val (states ++ later)) (length states - D)

  -- after an accepted close: the verdicts of all ticks of the trace of just these states; history is as it was before
  pub record Ended (h : List ℕ) (states : List ℕ) (verdicts : List Bool) : Type 0 where
    pub kept : take (min (length states) D) h ≡ last_of D states
    pub others : drop (min (length states) D) h ≡ drop (min (length states) D) start
    pub count : length verdicts ≡ length states
    pub exact : verdicts ≡ ticks (val states) (length states)

  abbrev pub Claim : Bool → List ℕ → List ℕ → List Bool → Type 0
  Claim false h states verdicts = Going h states verdicts
  Claim true h states verdicts = Ended h states verdicts
