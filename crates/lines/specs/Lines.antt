-- A text as lines, each a state in decimal (document 01, Program and C entry).
use Rattle.std.specs.Prelude.{Bool, true, false, ◌&&◌, List, [], ◌∷◌, ◌++◌, map, ℕ, zero, suc, ◌+◌, ◌-◌, ◌*◌, leb, ltb, eqb, length}
use Rattle.limits.specs.Limits.{max_state}
use Rattle.lists.specs.Choice.{pick}
use Rattle.lines.specs.declared.Line.{Line}
use Rattle.lines.specs.declared.Filled.{Filled}

-- the most digits of a line
abbrev pub max_digits : ℕ
max_digits = 10

-- ---- what the lines of a text say
pub data Parsed : Type 0 where
  state : ℕ → Parsed
  bad : Parsed

-- bytes after the last line end: a line, if there are any
abbrev pub last_line_of : List ℕ → List (List ℕ)
last_line_of [] = []
last_line_of (b ∷ bs) = (b ∷ bs) ∷ []

-- the bytes of each line: every line ends in byte 10, which the last may lack; `line` are the bytes of the first so far
abbrev pub lines_from : List ℕ → List ℕ → List (List ℕ)
lines_from line [] = last_line_of line
lines_from line (b ∷ bs) = pick (eqb b 10) (line ∷ lines_from [] bs) (lines_from (line ++ (b ∷ [])) bs)

abbrev pub all_digits : List ℕ → Bool
all_digits [] = true
all_digits (b ∷ bs) = pick (leb 48 b) (pick (leb b 57) (all_digits bs) false) false

-- the value of decimal digits, after the value v of those before
abbrev pub value_from : ℕ → List ℕ → ℕ
value_from v [] = v
value_from v (b ∷ bs) = value_from (v * 10 + (b - 48)) bs

-- a line is a state if it is 1 to 10 digits of a value in 0..max_state, with n digits of value v before these bytes
unfoldable pub line_after_digits : ℕ → ℕ → List ℕ → Parsed
line_after_digits n v bs =
    pick (leb 1 (n + length bs))
    (pick (leb (n + length bs) max_digits) (pick (all_digits bs) (pick (leb (value_from v bs) max_state) (state (value_from v bs)) bad) bad) bad)
    bad

abbrev pub line_of : List ℕ → Parsed
line_of = line_after_digits 0 0

abbrev pub parsed_lines : List ℕ → List Parsed
parsed_lines text = map line_of (lines_from [] text)

-- ---- the same, byte by byte
-- a line with no byte yet
abbrev pub empty : Line
empty = record { digits = 0; value = 0 }

-- a line that is no state, whatever follows
abbrev pub no_state : Line
no_state = record { digits = max_digits + 1; value = 0 }

-- a line with one byte more: a digit, the tenth at most, after a value that is a state; else it is bad
unfoldable pub with_byte : Line → ℕ → Line
with_byte l b =
    pick (ltb l.digits max_digits)
    (pick (leb 48 b)
    (pick (leb b 57)
    (pick (leb l.value max_state) (record { digits = l.digits + 1; value = l.value * 10 + (b - 48) }) no_state)
    no_state)
    no_state)
    no_state

-- a line that ends is a state, if it has 1 to 10 digits whose value is one
abbrev pub is_state : Line → Bool
is_state l = leb 1 l.digits && leb l.digits max_digits && leb l.value max_state

abbrev pub parsed_of : Line → Parsed
parsed_of l = pick (is_state l) (state l.value) bad

-- what the lines of a text say, after a line so far
unfoldable pub parsed_from : Line → List ℕ → List Parsed
parsed_from l [] = pick (eqb l.digits 0) [] (parsed_of l ∷ [])
parsed_from l (b ∷ bs) = pick (eqb b 10) (parsed_of l ∷ parsed_from empty bs) (parsed_from (with_byte l b) bs)

-- ---- a part of a text
-- the states of the lines that end in these bytes, `room` at most, up to the first bad line; the line so far then, how many bytes
-- were read, and whether the last line was bad
pub record Filling : Type 0 where
  pub states : List ℕ
  pub line : Line
  pub used : ℕ
  pub is_bad : Bool

abbrev pub none_read : Line → Filling
none_read l = record { states = []; line = l; used = 0; is_bad = false }

-- after states and bytes that were read before
abbrev pub preceded : List ℕ → ℕ → Filling → Filling
preceded xs n f = record { states = xs ++ f.states; line = f.line; used = n + f.used; is_bad = f.is_bad }

-- a line ended with byte number n: what it says, and what would follow a state
abbrev pub line_ended : Parsed → ℕ → Filling → Filling
line_ended (state v) n f = preceded (v ∷ []) n f
line_ended bad n f = record { states = []; line = empty; used = n; is_bad = true }

unfoldable pub filling : ℕ → Line → List ℕ → Filling
filling room l [] = none_read l
filling zero l (b ∷ bs) = none_read l
filling (suc room) l (b ∷ bs) = pick (eqb b 10) (line_ended (parsed_of l) 1 (filling room empty bs)) (preceded [] 1 (filling (suc room) (with_byte l b) bs))

-- the answer of `fill`, which began at place `at` of its part and place `count` of its block
abbrev pub filled_from : ℕ → ℕ → Filling → Filled
filled_from at count f = record { at = at + f.used; line = f.line; count = count + length f.states; bad = f.is_bad }
