-- A session as 558 bytes, as C programs hold it: its table, then the rule number in 4 bytes and the count of states seen in 8, the low
-- byte first.
use Rattle.std.specs.Prelude.{ℕ, ◌+◌, ◌*◌, ◌/◌, ◌%◌, List, eqb, get_or, set}
use Rattle.limits.specs.Limits.{table_bytes}
use Rattle.lists.specs.Choice.{pick}
use Rattle.table.specs.Nodes.{no_table}
use Rattle.session.specs.declared.Session.{Session}
use Rattle.session.specs.Session.{session_with}
use Rattle.narrow.specs.declared.NarrowSession.{NarrowSession}
use Rattle.flat.specs.Flat.{table_from, written}

-- 4 bytes from place `at` on
abbrev pub four_at : List ℕ → ℕ → ℕ
four_at b at = get_or b at 0 + 256 * get_or b (at + 1) 0 + 65536 * get_or b (at + 2) 0 + 16777216 * get_or b (at + 3) 0

abbrev pub put_four : List ℕ → ℕ → ℕ → List ℕ
put_four b at x = set (set (set (set b at (x % 256)) (at + 1) (x / 256 % 256)) (at + 2) (x / 65536 % 256)) (at + 3) (x / 16777216 % 256)

-- 8 bytes: the lower and the upper half of a number
abbrev pub eight_at : List ℕ → ℕ → ℕ
eight_at b at = four_at b at + 4294967296 * four_at b (at + 4)

abbrev pub put_eight : List ℕ → ℕ → ℕ → List ℕ
put_eight b at x = put_four (put_four b at (x % 4294967296)) (at + 4) (x / 4294967296)

-- where its rule number stands, and its count of states
abbrev pub rule_place : ℕ
rule_place = table_bytes

abbrev pub seen_place : ℕ
seen_place = rule_place + 4

unfoldable pub session_from : List ℕ → Session
session_from b = session_with (table_from b) (four_at b rule_place) (eight_at b seen_place)

unfoldable pub session_written : Session → List ℕ → List ℕ
session_written s b = put_eight (put_four (written s.table b) rule_place (s.rule % 4294967296)) seen_place s.seen

-- the bytes of a session with another count of states
abbrev pub renewed : ℕ → List ℕ → List ℕ
renewed seen b = put_eight b seen_place seen

-- ---- a narrow session has the same places
-- a count of states above 32 bits is no narrow session's: it gives 'no table', which is not sound
unfoldable pub narrow_from : List ℕ → NarrowSession
narrow_from b = record { table = pick (eqb (four_at b (seen_place + 4)) 0) (table_from b) no_table; rule = four_at b rule_place; seen = four_at b seen_place }
