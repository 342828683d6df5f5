-- The numbers of the refusals of documents 01 and 02.
use Rattle.std.specs.Prelude.{ℕ}

-- ---- books, told with a record; 5, 6 and 8 to 11 also of typed rules, told with a line
-- a length that is not 12 times 1 to 255
abbrev pub LENGTH : ℕ
LENGTH = 1

-- a byte of the head is set beside its next
abbrev pub HEAD : ℕ
HEAD = 2

-- a next beyond the book, or to a record that is passed
abbrev pub LINK : ℕ
LINK = 3

-- a kind that is not 1 to 11, or a field that is set and not used
abbrev pub FORM : ℕ
FORM = 4

-- a signal above 31, or a name of 0; of typed rules also a name above 255
abbrev pub ARGUMENT : ℕ
ARGUMENT = 5

-- lo above hi, or hi above 4,095; also of a splitting
abbrev pub INTERVAL : ℕ
INTERVAL = 6

-- an operand that is no earlier node
abbrev pub OPERAND : ℕ
OPERAND = 7

-- the 65th node, or the 9th rule
abbrev pub FULL : ℕ
FULL = 8

-- a delay above 4,095
abbrev pub LONG : ℕ
LONG = 9

-- a name that is used already
abbrev pub NAME : ℕ
NAME = 10

-- a chain that ended without a rule, or an empty text
abbrev pub RULELESS : ℕ
RULELESS = 11

-- ---- written books
-- an output that is too short for the book
abbrev pub OUTPUT : ℕ
OUTPUT = 34

-- ---- typed rules, told with a place in the text
-- a byte, or the end of the text, that no line has there
abbrev pub SYNTAX : ℕ
SYNTAX = 32

-- an opening bracket that is fit there but for being 33 deep
abbrev pub DEEP : ℕ
DEEP = 33

-- ---- tables and sessions
-- a table that is not sound, or a session whose rule number is not below its rule count
abbrev pub UNSOUND : ℕ
UNSOUND = 25

-- a rule number that is not below the rule count
abbrev pub ABSENT : ℕ
ABSENT = 21

-- too many states
abbrev pub STATES : ℕ
STATES = 22

-- a buffer that is too short
abbrev pub BUFFER : ℕ
BUFFER = 23

-- more states in one session than can be counted
abbrev pub SEEN : ℕ
SEEN = 24

-- a tick that is not below the states given
abbrev pub TICK : ℕ
TICK = 31

-- a tick that is not below the mission's length
abbrev pub BEYOND : ℕ
BEYOND = 35

-- ---- the scheduler
-- an empty block, a record outside the list, or a list above 8
abbrev pub LIST : ℕ
LIST = 36

-- a block is left with, or a close asked of, a record that still waits
abbrev pub WAITING : ℕ
WAITING = 37

-- ---- the status registers
-- a place above 15
abbrev pub PLACE : ℕ
PLACE = 38
