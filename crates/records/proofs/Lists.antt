-- Laws that the functions cite, and what one pass over a list finds. Assumes nothing.
use Prim.Native.Nat.{ℕ, suc, ◌-◌, ◌≤◌, ◌<◌, max, min}
use native.Mathlib.Omega.{arith}
use mathlib.Core.Path.{◌≡◌, refl, sym, ap, ◌∙◌}
use mathlib.Core.Bool.{Bool, ◌&&◌, ◌||◌, true, false}
use mathlib.Core.List.{List, [], ◌∷◌, ◌++◌}
use borrow.Author.Tests.{le-leb, ne_eqb}
use lib.Dec.{ltb, leb, eqb}
use lib.ListN.{length, take, drop, replicate, length-take}
use lib.Seq.{get_or-take}
use Rattle.limits.specs.Limits.{max_list}
use Rattle.lists.specs.Sequence.{every, padded}
use Rattle.lists.proofs.Tests.{same_test, and_iff, ltb_iff, leb_iff}
use Rattle.lists.proofs.Sequences.{get_or_padded, get_or_take_out}
use Rattle.records.specs.declared.Record.{Record}
use Rattle.records.specs.declared.Summary.{Summary}
use Rattle.records.specs.Records.{no_record, record_at}
use Rattle.records.specs.Reading.{greatest, summary_of}
use Rattle.std.specs.List.{fold}
use Rattle.std.proofs.lemmas.List.{drop-replicate, take_min}

-- ---- the first eight records
pub summary_at : (rs : List Record) (j : ℕ) → j < max_list → record_at (summary_of rs).records j ≡ record_at rs j
unfolding summary_of
summary_at rs j h = get_or_padded no_record (take max_list rs) (max_list - length (take max_list rs)) j ∙ get_or-take max_list rs j no_record h

pub summary_past : (rs : List Record) (j : ℕ) → max_list ≤ j → record_at (summary_of rs).records j ≡ no_record
unfolding summary_of
summary_past rs j h = get_or_padded no_record (take max_list rs) (max_list - length (take max_list rs)) j ∙ get_or_take_out max_list rs j no_record h

max_more : (a b c : ℕ) → max (max a b) c ≡ max a (max b c)
max_more a b c = omega arith

from_zero : (a : ℕ) → max 0 a ≡ a
from_zero a = omega arith

-- ---- a bound on each record is one on the largest
most_within : (a c b : ℕ) → (leb a b && leb c b) ≡ leb (max a c) b
most_within a c b = same_test (leb a b && leb c b) (leb (max a c) b) (and_iff (leb a b) (leb c b) (leb_iff a b) (leb_iff c b)) (leb_iff (max a c) b)
    (λ h. let p : a ≤ b = h.0 in let q : c ≤ b = h.1 in omega arith) (λ h. (omega arith, omega arith))

most_below : (a c b : ℕ) → (ltb a b && ltb c b) ≡ ltb (max a c) b
most_below a c b = same_test (ltb a b && ltb c b) (ltb (max a c) b) (and_iff (ltb a b) (ltb c b) (ltb_iff a b) (ltb_iff c b)) (ltb_iff (max a c) b)
    (λ h. let p : a < b = h.0 in let q : c < b = h.1 in omega arith) (λ h. (omega arith, omega arith))

none_not : (n : ℕ) → eqb (suc n) 0 ≡ false
none_not n = ne_eqb (suc n) 0 (λ h. omega arith)

and_true : (a : Bool) → (a && true) ≡ a
and_true true = refl
and_true false = refl

pub all_within : (f : Record → ℕ) (b : ℕ) (i : ℕ) (rs : List Record) → every (λ k r. leb (f r) b) i rs ≡ leb (greatest f rs) b
unfolding greatest every
all_within f b i [] = sym (le-leb 0 b (omega arith))
all_within f b i (r ∷ rs) = ap (λ t. leb (f r) b && t) (all_within f b (suc i) rs) ∙ most_within (f r) (greatest f rs) b

pub all_below : (f : Record → ℕ) (b : ℕ) (i : ℕ) (rs : List Record) → every (λ k r. ltb (f r) b) i rs ≡ (eqb (length rs) 0 || ltb (greatest f rs) b)
unfolding greatest every
all_below f b i [] = refl
all_below f b i (r ∷ []) =
    let e : max (f r) 0 ≡ f r = omega arith in
    and_true (ltb (f r) b) ∙ sym (ap (λ (n : ℕ). ltb n b) e)
all_below f b i (r ∷ s ∷ rs) =
    let e : every (λ k r. ltb (f r) b) (suc i) (s ∷ rs) ≡ ltb (greatest f (s ∷ rs)) b = all_below f b (suc i) (s ∷ rs) ∙ ap (λ t. t || ltb (greatest f (s ∷ rs)) b) (none_not (length rs)) in
    ap (λ t. ltb (f r) b && t) e ∙ most_below (f r) (greatest f (s ∷ rs)) b ∙ sym (ap (λ t. t || ltb (greatest f (r ∷ s ∷ rs)) b) (none_not (suc (length rs))))

-- ---- the pass finds the summary
-- the largest of two measures, record by record
both_greatest : (f g : Record → ℕ) (m n : ℕ) (rs : List Record) → fold (λ (a : ℕ × ℕ) r. (max a.0 (f r), max a.1 (g r))) (m, n) rs ≡ (max m (greatest f rs), max n (greatest g rs))
unfolding greatest
both_greatest f g m n [] = let e : max m 0 ≡ m = omega arith in let k : max n 0 ≡ n = omega arith in rw (e, k)
both_greatest f g m n (r ∷ rs) =
    both_greatest f g (max m (f r)) (max n (g r)) rs
    ∙ rw (max_more m (f r) (greatest f rs), max_more n (g r) (greatest g rs))

pub most_of_both : (f g : Record → ℕ) (rs : List Record) → fold (λ (a : ℕ × ℕ) r. (max a.0 (f r), max a.1 (g r))) (0, 0) rs ≡ (greatest f rs, greatest g rs)
most_of_both f g rs = both_greatest f g 0 0 rs ∙ rw (from_zero (greatest f rs), from_zero (greatest g rs))

-- the first eight, and none in the places that are left
pub first_eight : (rs : List Record) (n : ℕ) → n ≡ min (length rs) max_list → take n rs ++ drop n (replicate max_list no_record) ≡ padded no_record max_list (take max_list rs)
first_eight rs n e =
    let m : n ≡ min max_list (length rs) = e ∙ omega arith in
    let l : n ≡ length (take max_list rs) = m ∙ sym (length-take max_list rs) in
    let t : take n rs ≡ take max_list rs = ap (λ (i : ℕ). take i rs) m ∙ take_min max_list rs in
    let z : drop n (replicate max_list no_record) ≡ replicate (max_list - length (take max_list rs)) no_record =
    drop-replicate n max_list no_record ∙ ap (λ (i : ℕ). replicate (max_list - i) no_record) l in
    rw (t, z)

pub found_is : (rs : List Record) {n : ℕ} {d : Record} {copied : List Record} {most : ℕ × ℕ} → n ≡ min (length rs) max_list → d ≡ no_record → copied ≡ take n rs
    → most ≡ (greatest (λ r. r.rule) rs, greatest (λ r. r.waiting) rs)
    → ◌≡◌ {A = Summary} (record { count = length rs; highest = most.0; longest = most.1; records = copied ++ drop n (replicate max_list d) }) (summary_of rs)
unfolding summary_of
found_is rs e z c m = rw (z, c, m, first_eight rs _ e)
