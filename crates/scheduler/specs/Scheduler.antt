-- The scheduler's calls over a list of records and one table: what leaving a block, a turn and a close answer, and what they leave in the
-- list and in the buffers that they were lent (A9).
use Rattle.std.specs.Prelude.{ℕ, ◌+◌, ◌*◌, Bool, true, false, not, ◌||◌, ◌&&◌, List, [], ◌∷◌, ◌++◌, length, take, drop, ltb, leb, eqb}
use Rattle.limits.specs.Limits.{max_list, max_block, max_seen, history_words, waiting_words, scratch_words, feed_words, close_words}
use Rattle.refusals.specs.Numbers.{UNSOUND, STATES, BUFFER, SEEN, LIST, WAITING}
use Rattle.lists.specs.Choice.{Row, pick, ◌if◌, first}
use Rattle.lists.specs.Sequence.{every}
use Rattle.table.specs.declared.Table.{Table}
use Rattle.table.specs.Sound.{is_sound}
use Rattle.verdict.specs.Verdict.{cleared}
use Rattle.session.specs.declared.Session.{Session}
use Rattle.session.specs.Session.{Effect, session_with, feeding, closing}
use Rattle.records.specs.declared.Record.{Record}
use Rattle.records.specs.Records.{record_at, with_seen, with_waiting}
use Rattle.scheduler.specs.Rotation.{next_waiting}

-- ---- the words of one record among those of all
-- the words of record i, of w words each
abbrev pub part_of : ℕ → ℕ → List ℕ → List ℕ
part_of w i xs = take w (drop (w * i) xs)

-- the list with ys in the places from `at` on
abbrev pub pasted : ℕ → List ℕ → List ℕ → List ℕ
pasted at ys xs = take at xs ++ (ys ++ drop (at + length ys) xs)

-- a record as a session of its own, and the block that waits with it at place i
abbrev pub session_of : Table → Record → Session
session_of t r = session_with t r.rule r.seen

abbrev pub block_of : Record → ℕ → List ℕ → List ℕ
block_of r i w = take r.waiting (part_of waiting_words i w)

-- ---- the rows of refusals: `bad` says that the table or a record is unfit, n is the number of records, r the record in question, and h, w,
-- x and o are the lengths of the buffers of history and of waiting states, of scratch and of out
-- 25: the table is not sound, or a record has a rule number that is too high, or over 1,024 states waiting
abbrev pub fits : ℕ → Record → Bool
fits rules r = ltb r.rule rules && leb r.waiting max_block

abbrev pub unfit : Table → List Record → Bool
unfit t rs = not (is_sound t) || not (every (λ i r. fits t.rule_count r) 0 rs)

-- of leaving k states at place i
abbrev pub leave_rows : Bool → ℕ → Record → ℕ → ℕ → ℕ → List Row
leave_rows bad n r i k w =
    (UNSOUND if bad) ∷ (STATES if ltb max_block k) ∷ (BUFFER if ltb w (waiting_words * n)) ∷ (LIST if (eqb k 0 || leb n i || ltb max_list n)) ∷
    (WAITING if ltb 0 r.waiting) ∷ (SEEN if ltb max_seen (r.seen + k)) ∷ []

-- of a turn that would serve r
abbrev pub turn_rows : Bool → ℕ → Record → ℕ → ℕ → ℕ → ℕ → List Row
turn_rows bad n r h w x o =
    (UNSOUND if bad) ∷ (BUFFER if (ltb h (history_words * n) || ltb w (waiting_words * n) || ltb x scratch_words || ltb o feed_words)) ∷
    (LIST if ltb max_list n) ∷ (SEEN if ltb max_seen (r.seen + r.waiting)) ∷ []

-- of a close at place i
abbrev pub close_rows : Bool → ℕ → Record → ℕ → ℕ → ℕ → ℕ → List Row
close_rows bad n r i h x o =
    (UNSOUND if bad) ∷ (BUFFER if (ltb h (history_words * n) || ltb x scratch_words || ltb o close_words)) ∷ (LIST if (leb n i || ltb max_list n)) ∷
    (WAITING if ltb 0 r.waiting) ∷ []

-- ---- leaving a block with the record at place i
pub record Left : Type 0 where
  pub number : ℕ
  pub records : List Record
  pub waiting : List ℕ

abbrev pub leave_number : Table → List Record → ℕ → ℕ → ℕ → ℕ
leave_number t rs i k w = first (leave_rows (unfit t rs) (length rs) (record_at rs i) i k w)

unfoldable pub leave_effect : Table → List Record → ℕ → List ℕ → List ℕ → Left
leave_effect t rs i block w =
    let n = leave_number t rs i (length block) (length w) in
    pick (eqb n 0) (record { number = 0; records = with_waiting rs i (length block); waiting = pasted (waiting_words * i) block w })
    (record { number = n; records = rs; waiting = w })

-- ---- a turn: whether a record was served, the place to hand to the next turn, and the count of verdicts
pub record Turned : Type 0 where
  pub number : ℕ
  pub served : Bool
  pub place : ℕ
  pub count : ℕ
  pub records : List Record
  pub history : List ℕ
  pub scratch : List ℕ
  pub out : List ℕ

-- the session of record i is fed the block that waits
abbrev pub fed_at : Table → List Record → ℕ → List ℕ → List ℕ → List ℕ → List ℕ → Effect
fed_at t rs i h w x o = feeding (session_of t (record_at rs i)) (block_of (record_at rs i) i w) (part_of history_words i h) x o

abbrev pub served : Table → List Record → ℕ → List ℕ → List ℕ → List ℕ → List ℕ → Turned
served t rs i h w x o =
    let e = fed_at t rs i h w x o in
    record {
      number = 0;
      served = true;
      place = i;
      count = e.answer.count;
      records = with_waiting (with_seen rs i ((record_at rs i).seen + (record_at rs i).waiting)) i 0;
      history = pasted (history_words * i) e.history h;
      scratch = e.scratch;
      out = e.out;
    }

-- with nobody waiting the place comes back as it came, and only the scratch changes
abbrev pub idle : List Record → ℕ → List ℕ → List ℕ → List ℕ → Turned
idle rs from h x o = record { number = 0; served = false; place = from; count = 0; records = rs; history = h; scratch = cleared x; out = o }

abbrev pub not_turned : ℕ → List Record → ℕ → List ℕ → List ℕ → List ℕ → Turned
not_turned n rs from h x o = record { number = n; served = false; place = from; count = 0; records = rs; history = h; scratch = x; out = o }

abbrev pub turn_number : Table → List Record → ℕ → ℕ → ℕ → ℕ → ℕ → ℕ
turn_number t rs from h w x o = first (turn_rows (unfit t rs) (length rs) (record_at rs (next_waiting rs from)) h w x o)

unfoldable pub turn_effect : Table → List Record → ℕ → List ℕ → List ℕ → List ℕ → List ℕ → Turned
turn_effect t rs from h w x o =
    let n = turn_number t rs from (length h) (length w) (length x) (length o) in
    pick (eqb n 0)
    (pick (ltb (next_waiting rs from) (length rs)) (served t rs (next_waiting rs from) h w x o) (idle rs from h x o))
    (not_turned n rs from h x o)

-- ---- closing the record at place i, as a session is
pub record Closed : Type 0 where
  pub number : ℕ
  pub count : ℕ
  pub records : List Record
  pub scratch : List ℕ
  pub out : List ℕ

abbrev pub closed_at : Table → List Record → ℕ → List ℕ → List ℕ → List ℕ → Effect
closed_at t rs i h x o = closing (session_of t (record_at rs i)) (part_of history_words i h) x o

abbrev pub close_number : Table → List Record → ℕ → ℕ → ℕ → ℕ → ℕ
close_number t rs i h x o = first (close_rows (unfit t rs) (length rs) (record_at rs i) i h x o)

unfoldable pub close_effect : Table → List Record → ℕ → List ℕ → List ℕ → List ℕ → Closed
close_effect t rs i h x o =
    let n = close_number t rs i (length h) (length x) (length o) in
    let e = closed_at t rs i h x o in
    pick (eqb n 0) (record { number = 0; count = e.answer.count; records = with_seen rs i 0; scratch = e.scratch; out = e.out })
    (record { number = n; count = 0; records = rs; scratch = x; out = o })
