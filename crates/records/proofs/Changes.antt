-- One record among all, after a count of one of them was changed. Assumes nothing.
use Prim.Native.Nat.{ℕ, ◌<◌}
use mathlib.Core.Path.{◌≡◌, ap, ◌∙◌}
use mathlib.Core.List.{List}
use lib.ListN.{length, length-set}
use lib.Seq.{get_or-set_same, get_or-set_other}
use Rattle.records.specs.declared.Record.{Record}
use Rattle.records.specs.Records.{no_record, record_at, seen_as, waiting_as, with_seen, with_waiting}

-- ---- one count
module _ (rs : List Record) (i v : ℕ) where
  pub seen_at : i < length rs → record_at (with_seen rs i v) i ≡ seen_as (record_at rs i) v
  seen_at h = get_or-set_same rs i (seen_as (record_at rs i) v) no_record h

  pub seen_other : (j : ℕ) → (j ≡ i → ⊥) → record_at (with_seen rs i v) j ≡ record_at rs j
  seen_other j d = get_or-set_other rs i j (seen_as (record_at rs i) v) no_record d

  pub seen_count : length (with_seen rs i v) ≡ length rs
  seen_count = length-set rs i (seen_as (record_at rs i) v)

  pub waiting_at : i < length rs → record_at (with_waiting rs i v) i ≡ waiting_as (record_at rs i) v
  waiting_at h = get_or-set_same rs i (waiting_as (record_at rs i) v) no_record h

  pub waiting_other : (j : ℕ) → (j ≡ i → ⊥) → record_at (with_waiting rs i v) j ≡ record_at rs j
  waiting_other j d = get_or-set_other rs i j (waiting_as (record_at rs i) v) no_record d

  pub waiting_count : length (with_waiting rs i v) ≡ length rs
  waiting_count = length-set rs i (waiting_as (record_at rs i) v)

-- ---- both counts of one record
module _ (rs : List Record) (i v w : ℕ) where
  pub both_at : i < length rs → record_at (with_waiting (with_seen rs i v) i w) i ≡ record { rule = (record_at rs i).rule; seen = v; waiting = w }
  both_at h = waiting_at (with_seen rs i v) i w (rw seen_count h) ∙ ap (λ (r : Record). waiting_as r w) (seen_at rs i v h)

  pub both_other : (j : ℕ) → (j ≡ i → ⊥) → record_at (with_waiting (with_seen rs i v) i w) j ≡ record_at rs j
  both_other j d = waiting_other (with_seen rs i v) i w j d ∙ seen_other rs i v j d

  pub both_count : length (with_waiting (with_seen rs i v) i w) ≡ length rs
  both_count = waiting_count (with_seen rs i v) i w ∙ seen_count rs i v
