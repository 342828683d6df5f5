-- The limits and sizes of documents 01 and 02.
use Rattle.std.specs.Prelude.{ℕ, ◌+◌, ◌*◌}

-- ---- tables
abbrev pub max_nodes : ℕ
max_nodes = 64

abbrev pub max_rules : ℕ
max_rules = 8

abbrev pub max_signal : ℕ
max_signal = 31

abbrev pub max_name : ℕ
max_name = 65535

-- the largest hi of an interval, and the most parts that one is split into
abbrev pub max_interval : ℕ
max_interval = 4095

abbrev pub max_parts : ℕ
max_parts = 12

abbrev pub max_delay : ℕ
max_delay = 4095

-- ---- books
abbrev pub record_bytes : ℕ
record_bytes = 12

abbrev pub max_records : ℕ
max_records = 255

abbrev pub book_bytes : ℕ
book_bytes = max_records * record_bytes

-- the longest book that is written: the head, and a record for each node and each rule
abbrev pub written_bytes : ℕ
written_bytes = (1 + max_nodes + max_rules) * record_bytes

-- ---- typed rules
-- the most brackets that may be open at once
abbrev pub max_depth : ℕ
max_depth = 32

-- ---- traces
abbrev pub max_state : ℕ
max_state = 4294967295

-- the most states of a whole trace, of a block, and of a session from its opening on
abbrev pub max_trace : ℕ
max_trace = 5120

abbrev pub max_block : ℕ
max_block = 1024

abbrev pub max_seen : ℕ
max_seen = 18446744073709551615

-- the same of a narrow session, whose count has 32 bits
abbrev pub max_narrow_seen : ℕ
max_narrow_seen = 4294967295

-- ---- lent buffers: the least length of each
abbrev pub history_words : ℕ
history_words = 4095

abbrev pub register_words : ℕ
register_words = 80

-- a register for each node, and two more for U and R
abbrev pub scratch_words : ℕ
scratch_words = (max_nodes + 2) * register_words

-- the same twice, for answers while a trace still grows
abbrev pub early_scratch_words : ℕ
early_scratch_words = 2 * scratch_words

abbrev pub feed_words : ℕ
feed_words = 16

abbrev pub close_words : ℕ
close_words = 64

-- ---- the scheduler
-- the most records of its list, and the words of waiting states for each: a block
abbrev pub max_list : ℕ
max_list = 8

abbrev pub waiting_words : ℕ
waiting_words = max_block

-- ---- the status registers
abbrev pub status_bytes : ℕ
status_bytes = 16

-- ---- tables and sessions as bytes
abbrev pub table_bytes : ℕ
table_bytes = 546

abbrev pub session_bytes : ℕ
session_bytes = 558

abbrev pub narrow_bytes : ℕ
narrow_bytes = 558
