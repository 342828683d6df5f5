-- What the program rules tells of a text that is refused: a line for machines, then what is wrong, for people.
use Rattle.std.specs.Prelude.{ℕ, zero, suc, ◌+◌, ◌-◌, min, max, Bool, ◌&&◌, ◌||◌, List, [], ◌∷◌, ◌++◌, eqb, ltb, leb, length, get_or, drop, replicate}
use Prim.Native.String.{String}
use Rattle.refusals.specs.Numbers.{ARGUMENT, INTERVAL, FULL, LONG, NAME, RULELESS, SYNTAX, DEEP}
use Rattle.lists.specs.Ascii.{ascii}
use Rattle.lists.specs.Choice.{pick}
use Rattle.lists.specs.Sequence.{ticks}
use Rattle.rows.specs.Rows.{decimal}

-- the longest text that is read, in bytes
abbrev pub max_text : ℕ
max_text = 1048576

-- these two are told with a place, the others with a line
abbrev pub placed : ℕ → Bool
placed number = eqb number SYNTAX || eqb number DEEP

-- ---- the line for machines: `text NUMBER PLACE`, or `text NUMBER line LINE`
abbrev pub machine_line : ℕ → ℕ → List ℕ
machine_line number place = ascii "text " ++ decimal number ++ pick (placed number) (ascii " ") (ascii " line ") ++ decimal place ++ ascii "\n"

-- ---- what is wrong
pub record Sentence : Type 0 where
  pub number : ℕ
  pub says : String

infix 70 ◌says◌
abbrev pub ◌says◌ : ℕ → String → Sentence
n says s = record { number = n; says = s }

abbrev pub sentences : List Sentence
sentences =
    ARGUMENT says "A signal is above s31, or the rule's name is 0 or above 65535.\n" ∷
    INTERVAL says "An interval [a,b] has a above b, or b above 4095.\n" ∷
    FULL says "Up to this line there are more than 64 atoms and operators, or more than 8 rules.\n" ∷
    LONG says "The rule or a part of it waits for more than 4095 later states.\n" ∷
    NAME says "An earlier line has the same name.\n" ∷
    RULELESS says "The text is empty: it has no rule.\n" ∷
    SYNTAX says "At the mark the line goes on, or ends, as no rule does; the last line needs a line end too.\n" ∷
    DEEP says "The bracket at the mark is the 33rd that is open; at most 32 may be.\n" ∷ []

-- the sentence of a number, if it has one
abbrev pub said : List Sentence → ℕ → List ℕ
said [] n = []
said (s ∷ ss) n = pick (eqb n s.number) (ascii s.says) (said ss n)

-- ---- where the place p of a text stands; lines end with byte 10
-- how many lines end before it
unfoldable pub lines_before : List ℕ → ℕ → ℕ
lines_before bs zero = 0
lines_before bs (suc p) = lines_before bs p + pick (eqb (get_or bs p 0) 10) 1 0

-- where its line begins: behind the last line end before it
unfoldable pub line_start : List ℕ → ℕ → ℕ
line_start bs zero = 0
line_start bs (suc p) = pick (eqb (get_or bs p 0) 10) (suc p) (line_start bs p)

-- how many bytes stand before the first line end
unfoldable pub up_to_end : List ℕ → ℕ
up_to_end [] = 0
up_to_end (x ∷ xs) = pick (eqb x 10) 0 (suc (up_to_end xs))

-- where its line ends: at the first line end from there on, or with the text
abbrev pub line_end : List ℕ → ℕ → ℕ
line_end bs p = p + up_to_end (drop p bs)

-- `line LINE, column COLUMN:`
abbrev pub where_line : ℕ → ℕ → List ℕ
where_line line column = ascii "line " ++ decimal line ++ ascii ", column " ++ decimal column ++ ascii ":\n"

-- ---- a line from the place s to the place e, as it is shown for the place p in it
-- at most so many bytes are shown; of a longer line at most so many before the place
abbrev pub shown_bytes : ℕ
shown_bytes = 72

abbrev pub shown_before : ℕ
shown_before = 36

abbrev pub shown_from : ℕ → ℕ → ℕ → ℕ
shown_from s e p = pick (ltb shown_bytes (e - s)) (max s (p - shown_before)) s

abbrev pub shown_to : ℕ → ℕ → ℕ → ℕ
shown_to s e p = min e (shown_from s e p + shown_bytes)

-- a byte that is no printable character is shown as '?'
abbrev pub shown_byte : ℕ → ℕ
shown_byte x = pick (ltb x 32 || ltb 126 x) 63 x

-- the bytes from one place up to another
abbrev pub shown : List ℕ → ℕ → ℕ → List ℕ
shown bs from to = ticks (λ i. shown_byte (get_or bs (from + i) 0)) (to - from)

-- where something is left out
abbrev pub dots : Bool → List ℕ
dots cut = pick cut (ascii "...") []

abbrev pub shown_line : List ℕ → ℕ → ℕ → ℕ → List ℕ
shown_line bs s e p =
    dots (ltb s (shown_from s e p)) ++ shown bs (shown_from s e p) (shown_to s e p) ++ dots (ltb (shown_to s e p) e) ++ ascii "\n"

-- ---- the mark under the place: so many spaces stand before it
abbrev pub mark_at : ℕ → ℕ → ℕ → ℕ
mark_at s e p = pick (ltb s (shown_from s e p)) 3 0 + (p - shown_from s e p)

abbrev pub mark_line : ℕ → ℕ → ℕ → List ℕ
mark_line s e p = replicate (mark_at s e p) 32 ++ ascii "^\n"

-- ---- the place p of a text: line and column from 1, the line, and the mark
abbrev pub place_shown : List ℕ → ℕ → List ℕ
place_shown bs p =
    where_line (lines_before bs p + 1) (p - line_start bs p + 1) ++ shown_line bs (line_start bs p) (line_end bs p) p
    ++ mark_line (line_start bs p) (line_end bs p) p

-- ---- all of it. The place is shown in texts that are not too long to be read; one beyond the text is shown as its end
unfoldable pub refusal_message : List ℕ → ℕ → ℕ → List ℕ
refusal_message bs number place =
    machine_line number place ++ said sentences number
    ++ pick (placed number && leb (length bs) max_text) (place_shown bs (min place (length bs))) []

-- ---- of a text that is too long
abbrev pub long_message : List ℕ
long_message = ascii "The text is longer than 1048576 bytes.\n"
