-- What one pass over a list of records finds.
use Rattle.std.specs.Prelude.{ℕ, max, List, [], ◌∷◌, length, take}
use Rattle.limits.specs.Limits.{max_list}
use Rattle.lists.specs.Sequence.{padded}
use Rattle.records.specs.declared.Record.{Record}
use Rattle.records.specs.declared.Summary.{Summary}
use Rattle.records.specs.Records.{no_record}

-- the largest of a measure of the records; 0 of none
unfoldable pub greatest : (Record → ℕ) → List Record → ℕ
greatest f [] = 0
greatest f (r ∷ rs) = max (f r) (greatest f rs)

-- the count, the highest rule number, the largest number of waiting states, and the first eight records
unfoldable pub summary_of : List Record → Summary
summary_of rs = record {
  count = length rs;
  highest = greatest (λ r. r.rule) rs;
  longest = greatest (λ r. r.waiting) rs;
  records = padded no_record max_list (take max_list rs);
}
