-- The scheduler's list of records, and the list after a count of one record was changed (A9).
use Rattle.std.specs.Prelude.{ℕ, List, get_or, set}
use Rattle.records.specs.declared.Record.{Record}
use Rattle.records.specs.declared.Change.{Change}

abbrev pub no_record : Record
no_record = record { rule = 0; seen = 0; waiting = 0 }

-- the record at a place, and 'no record' past the end
abbrev pub record_at : List Record → ℕ → Record
record_at rs i = get_or rs i no_record

abbrev pub seen_as : Record → ℕ → Record
seen_as r v = record { rule = r.rule; seen = v; waiting = r.waiting }

abbrev pub waiting_as : Record → ℕ → Record
waiting_as r v = record { rule = r.rule; seen = r.seen; waiting = v }

-- the list with another count at one place; unchanged where there is no such place
abbrev pub with_seen : List Record → ℕ → ℕ → List Record
with_seen rs i v = set rs i (seen_as (record_at rs i) v)

abbrev pub with_waiting : List Record → ℕ → ℕ → List Record
with_waiting rs i v = set rs i (waiting_as (record_at rs i) v)

-- both counts changed
abbrev pub applied : List Record → Change → List Record
applied rs c = with_waiting (with_seen rs c.place c.seen) c.place c.waiting
