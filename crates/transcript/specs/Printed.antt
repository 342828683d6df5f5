-- What the program watch prints for a book and an input (document 01, Program and C entry).
use Rattle.std.specs.Prelude.{ℕ, ◌+◌, ◌-◌, ◌%◌, ◌≤◌, ◌≡◌, Bool, true, false, List, [], ◌∷◌, ◌++◌, map, length, get_or, leb}
use Rattle.limits.specs.Limits.{max_block, max_seen}
use Rattle.refusals.specs.Numbers.{SEEN}
use Rattle.lists.specs.Choice.{pick}
use Rattle.lists.specs.Sequence.{ticks}
use Rattle.table.specs.declared.Rule.{Rule}
use Rattle.session.specs.declared.Session.{Session}
use Rattle.acts.specs.World.{wide}
use Rattle.mission.specs.Calls.{as_wide, Call, Calls, states_fed, verdicts_given}
use Rattle.mission.specs.Mission.{read_table, Start, opened_as, start_delay, verdict_of}
use Rattle.lines.specs.declared.Line.{Line}
use Rattle.lines.specs.Lines.{Parsed, state, bad, parsed_lines, parsed_from}
use Rattle.rows.specs.Rows.{rows_named, bad_line, feed_line}

-- ---- the lines of the input
-- the states of the lines before the first bad one, and whether no line is bad
abbrev pub states_in : List Parsed → List ℕ
states_in [] = []
states_in (state v ∷ rs) = v ∷ states_in rs
states_in (bad ∷ rs) = []

abbrev pub none_bad : List Parsed → Bool
none_bad [] = true
none_bad (state v ∷ rs) = none_bad rs
none_bad (bad ∷ rs) = false

-- how many of n states stand in whole blocks
abbrev pub in_blocks : ℕ → ℕ
in_blocks n = n - n % max_block

-- the name of a rule
abbrev pub name_in : List Rule → ℕ → ℕ
name_in rules r = get_or (map (λ (q : Rule). q.name) rules) r 0

module _ (m : Start) where
  -- the name of the rule as it was read
  abbrev pub rule_name : ℕ
  rule_name = name_in (read_table m.source).rules m.rule

  -- the rows of the first n ticks of a trace
  abbrev pub rows_up_to : List ℕ → ℕ → List ℕ
  rows_up_to states n = rows_named rule_name 0 (ticks (verdict_of m states) n)

  -- a feed was refused: the blocks before it were fed, as many as the count of states allows
  abbrev pub feed_refused : List ℕ → List ℕ
  feed_refused states = rows_up_to states (in_blocks max_seen - start_delay m) ++ feed_line SEEN

  -- no line is bad: the verdicts of all ticks
  abbrev pub told_all : List ℕ → List ℕ
  told_all states = pick (leb (length states) max_seen) (rows_up_to states (length states)) (feed_refused states)

  -- a line is bad, after these states: the verdicts that the whole blocks settle, and the line's number from 1
  abbrev pub told_bad : List ℕ → List ℕ
  told_bad states =
      pick (leb (in_blocks (length states)) max_seen)
      (rows_up_to states (in_blocks (length states) - start_delay m) ++ bad_line (length states + 1))
      (feed_refused states)

  abbrev pub told : List Parsed → List ℕ
  told rs = pick (none_bad rs) (told_all (states_in rs)) (told_bad (states_in rs))

  -- ---- what is printed for an input
  unfoldable pub printed : List ℕ → List ℕ
  printed input = told (parsed_lines input)

  -- ---- the program at work: `read` was read and `shown` was written; the session, its history, the line so far, the states that wait
  -- in the block, and the tick of the next verdict; and whether the last block was fed
  pub record Running (last : Bool) (read shown : List ℕ) (s : Session) (h : List ℕ) (line : Line) (waiting : List ℕ) (tick : ℕ) : Type 0 where
    pub calls : List Call
    pub reached : Calls (opened_as wide m) m.history calls (as_wide s) h false
    pub rows : shown ≡ rows_named rule_name 0 (verdicts_given calls)
    pub next : tick ≡ length (verdicts_given calls)
    pub blocks : last ≡ false → length (states_fed calls) % max_block ≡ 0
    pub fits : length waiting ≤ max_block
    -- what was read says these states and the line so far, whatever follows
    pub text : (later : List ℕ) → parsed_lines (read ++ later) ≡ map state (states_fed calls ++ waiting) ++ parsed_from line later

  -- the program has ended: whatever the input has behind what was read, this is what is printed for it
  abbrev pub Stopped : List ℕ → List ℕ → Type 0
  Stopped read shown = (later : List ℕ) → printed (read ++ later) ≡ shown
