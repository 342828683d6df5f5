-- Sessions and what is done to them, abstract in what a session has inside (document 01, Session; A4, A12).
use Rattle.std.specs.Prelude.{ℕ, ◌+◌, ◌-◌, ◌<◌, min, ◌≡◌, Bool, true, List, [], ◌∷◌, ◌++◌, length, take, drop, ltb, eqb}
use Rattle.limits.specs.Limits.{max_seen, max_narrow_seen}
use Rattle.refusals.specs.Numbers.{SEEN}
use Rattle.lists.specs.Choice.{Row, pick, ◌if◌, first, numbered}
use Rattle.lists.specs.Sequence.{ticks, last_of}

-- ---- sessions
-- the width of the count (A4)
pub data Width : Type 0 where
  narrow wide : Width

-- row 24's limit
abbrev pub limit : Width → ℕ
limit narrow = max_narrow_seen
limit wide = max_seen

-- a rule of a table, the count of states seen, and the first tick (A12)
pub record Session (R : Type 0) : Type 0 where
  pub rule : R
  pub seen : ℕ
  pub first_tick : ℕ
  pub width : Width

-- what a call does to a session: a feed of a block, a close, a widening (A4), a change to another rule, of which is said as what it
-- stood in its book (A12)
pub data Act (R B : Type 0) : Type 0 where
  feed : List ℕ → Act R B
  close : Act R B
  widen : Act R B
  change : R → B → Act R B

-- ---- what the calls are about
pub record World : Type 1 where
  -- rules as a session holds them: the verdict that it computes for tick t of a trace, and the delay
  pub Rule : Type 0
  pub run : Rule → List ℕ → ℕ → Bool
  pub D : Rule → ℕ
  -- a verdict waits for D further states, and looks only ahead
  pub stable : (r : Rule) (xs ys : List ℕ) (t : ℕ) → t + D r < length xs → run r (xs ++ ys) t ≡ run r xs t
  pub future : (r : Rule) (m : ℕ) (xs : List ℕ) (t : ℕ) → run r (drop m xs) t ≡ run r xs (m + t)
  -- rules as they stood in a book, and their verdicts; `From r b`: r is b of a book's table, simplified
  pub Source : Type 0
  pub val : Source → List ℕ → ℕ → Bool
  pub From : Rule → Source → Type 0
  pub as_read : (r : Rule) (b : Source) → From r b → (xs : List ℕ) (t : ℕ) → t < length xs → run r xs t ≡ val b xs t
  -- scratch and out, and the rows of refusals before 24, by all that a call is given; the rule of 'no session'
  pub Lent : Type 0
  pub rows : Act Rule Source → Session Rule → List ℕ → Lent → List Row
  pub numbers : (a : Act Rule Source) (s : Session Rule) (h : List ℕ) (x : Lent) → numbered (rows a s h x) ≡ true
  pub no_rule : Rule

module _ (w : World) where
  -- what a call answers and leaves: its number, its verdicts, the session and the history
  pub record Effect : Type 0 where
    pub number : ℕ
    pub verdicts : List Bool
    pub session : Session w.Rule
    pub history : List ℕ

  -- ---- accepted calls
  -- h = min(seen, D), and the h states that history holds, oldest first
  abbrev pub held_by : Session w.Rule → ℕ
  held_by s = min s.seen (w.D s.rule)

  abbrev pub kept_of : Session w.Rule → List ℕ → List ℕ
  kept_of s h = take (held_by s) h

  abbrev pub fed : Session w.Rule → List ℕ → List ℕ → Effect
  fed s block h = record {
    number = 0;
    verdicts = ticks (w.run s.rule (kept_of s h ++ block)) ((s.seen + length block - w.D s.rule) - (s.seen - w.D s.rule));
    session = record { rule = s.rule; seen = s.seen + length block; first_tick = s.first_tick; width = s.width };
    history = last_of (w.D s.rule) (kept_of s h ++ block) ++ drop (min (s.seen + length block) (w.D s.rule)) h;
  }

  -- the first tick is 0 after open, widening and close
  abbrev pub closed : Session w.Rule → List ℕ → Effect
  closed s h = record {
    number = 0;
    verdicts = ticks (w.run s.rule (kept_of s h)) (held_by s);
    session = record { rule = s.rule; seen = 0; first_tick = 0; width = s.width };
    history = h;
  }

  abbrev pub widened : Session w.Rule → List ℕ → Effect
  widened s h = record { number = 0; verdicts = []; session = record { rule = s.rule; seen = s.seen; first_tick = 0; width = wide }; history = h }

  -- a change: what a fresh session on the new rule has after being fed the h kept states; the first tick is the old one plus seen minus h
  abbrev pub fresh : Session w.Rule → w.Rule → Session w.Rule
  fresh s r = record { rule = r; seen = 0; first_tick = s.first_tick + s.seen - held_by s; width = s.width }

  abbrev pub changed : Session w.Rule → w.Rule → List ℕ → Effect
  changed s r h = fed (fresh s r) (kept_of s h) h

  abbrev pub done : Act w.Rule w.Source → Session w.Rule → List ℕ → Effect
  done (feed block) s h = fed s block h
  done close s h = closed s h
  done widen s h = widened s h
  done (change r b) s h = changed s r h

  -- ---- refused calls
  -- 24: the first tick + seen + k passes the limit, k is 0 in a change and a close
  abbrev pub passed : Session w.Rule → ℕ → Row
  passed s k = SEEN if ltb (limit s.width) (s.first_tick + s.seen + k)

  abbrev pub last_rows : Act w.Rule w.Source → Session w.Rule → List Row
  last_rows (feed block) s = passed s (length block) ∷ []
  last_rows close s = passed s 0 ∷ []
  last_rows widen s = []
  last_rows (change r b) s = passed s 0 ∷ []

  abbrev pub rows_of : Act w.Rule w.Source → Session w.Rule → List ℕ → w.Lent → List Row
  rows_of a s h x = w.rows a s h x ++ last_rows a s

  -- a refused call hands back its session, but a widening none; nothing changes
  abbrev pub handed_back : Act w.Rule w.Source → Session w.Rule → Session w.Rule
  handed_back (feed block) s = s
  handed_back close s = s
  handed_back widen s = record { rule = w.no_rule; seen = 0; first_tick = 0; width = wide }
  handed_back (change r b) s = s

  abbrev pub refused : ℕ → Act w.Rule w.Source → Session w.Rule → List ℕ → Effect
  refused n a s h = record { number = n; verdicts = []; session = handed_back a s; history = h }

  -- ---- every call
  unfoldable pub effect_of : Act w.Rule w.Source → Session w.Rule → List ℕ → w.Lent → Effect
  effect_of a s h x = let n = first (rows_of a s h x) in pick (eqb n 0) (done a s h) (refused n a s h)

  -- widening takes a narrow session and a change a wide one; feed and close are calls on either
  abbrev pub Takes : Act w.Rule w.Source → Width → Type 0
  Takes (feed block) p = Unit {0}
  Takes close p = Unit {0}
  Takes widen p = p ≡ narrow
  Takes (change r b) p = p ≡ wide

  -- an accepted change is to a rule of a book's table, simplified
  abbrev pub Lawful : Act w.Rule w.Source → Type 0
  Lawful (feed block) = Unit {0}
  Lawful close = Unit {0}
  Lawful widen = Unit {0}
  Lawful (change r b) = w.From r b
