-- The search for the next record, as the code makes it. Assumes nothing.
use Prim.Native.Nat.{ℕ, zero, suc, ◌+◌, ◌-◌, ◌≤◌, ◌<◌}
use native.Mathlib.Omega.{arith}
use mathlib.Core.Path.{◌≡◌, refl, sym, ap, ◌∙◌}
use mathlib.Core.Logic.{⊎_elim}
use mathlib.Core.Bool.{Bool, true, false, cond}
use mathlib.Core.List.{List, [], ◌∷◌, ◌++◌}
use borrow.Author.Tests.{lt-ltb, le-ltb}
use lib.Dec.{ltb}
use lib.ListN.{length, get_or, length-append, get_or-append}
use Rattle.std.specs.List.{range_with_len, find}
use Rattle.std.specs.Prelude.{Option, Some}
use Rattle.std.specs.Option.{unwrap_or}
use Rattle.std.proofs.lemmas.List.{get_or-append_right}
use Rattle.std.proofs.lemmas.List.FromFn.{length-range_with_len, get_or-range_with_len}
use Rattle.lists.specs.Choice.{pick}
use Rattle.lists.proofs.Tests.{lt_or_le, same_test, ltb_iff}
use Rattle.scheduler.specs.Rotation.{least, start_of, stepped, passed, next}
use Rattle.scheduler.proofs.Rotation.{start_le, stepped_lt}

ltb_suc : (l n : ℕ) → ltb (suc l) (suc n) ≡ ltb l n
ltb_suc l n = same_test _ _ (ltb_iff (suc l) (suc n)) (ltb_iff l n) (λ k. omega arith) (λ k. omega arith)

-- the first passes, or the search goes on
here_or_later : (x : ℕ) (rest : Option ℕ) (g : ℕ → ℕ) (l n d : ℕ) → x ≡ g 0 → unwrap_or rest d ≡ pick (ltb l n) (g (suc l)) d
    → (b : Bool) → unwrap_or (cond b (Some x) rest) d ≡ pick (ltb (pick b 0 (suc l)) (suc n)) (g (pick b 0 (suc l))) d
here_or_later x rest g l n d p more true = p ∙ ap (λ (b : Bool). pick b (g 0) d) (sym (lt-ltb 0 (suc n) (omega arith)))
here_or_later x rest g l n d p more false = more ∙ ap (λ (b : Bool). pick b (g (suc l)) d) (sym (ltb_suc l n))

-- the first of a list that passes, by the places of the list
found_in : (f : ℕ → Bool) (g : ℕ → ℕ) (xs : List ℕ) (d : ℕ) → ((j : ℕ) → j < length xs → get_or xs j 0 ≡ g j)
    → unwrap_or (find f xs) d ≡ pick (ltb (least (λ j. f (g j)) (length xs)) (length xs)) (g (least (λ j. f (g j)) (length xs))) d
unfolding least
found_in f g [] d e = refl
found_in f g (x ∷ xs) d e =
    let more = found_in f (λ j. g (suc j)) xs d (λ j h. e (suc j) (omega arith)) in
    let l : ℕ = least (λ j. f (g (suc j))) (length xs) in
    let p : x ≡ g 0 = e 0 (omega arith) in
    let go : (b : Bool) → unwrap_or (cond b (Some x) (find f xs)) d ≡ pick (ltb (pick b 0 (suc l)) (suc (length xs))) (g (pick b 0 (suc l))) d =
    here_or_later x (find f xs) g l (length xs) d p more in
    go (f x) ∙ ap (λ (y : ℕ). pick (ltb (pick (f y) 0 (suc l)) (suc (length xs))) (g (pick (f y) 0 (suc l))) d) p

-- the places in their order: from the start on, and then those before it
abbrev pub places : ℕ → ℕ → List ℕ
places n start = range_with_len start (n - start) ++ range_with_len 0 start

places_long : (n start : ℕ) → start ≤ n → length (places n start) ≡ n
places_long n start h =
    simp (length-append, length-range_with_len) (omega arith)

place_at : (n start j : ℕ) → start ≤ n → j < n → get_or (places n start) j 0 ≡ stepped n start j
place_at n start j h l =
    ⊎_elim
    (λ (k : start + j < n).
    get_or-append (range_with_len start (n - start)) (range_with_len 0 start) 0 j (omega (arith, length-range_with_len start (n - start)))
    ∙ get_or-range_with_len start (n - start) j 0 (omega arith) ∙ rw (lt-ltb (start + j) n k))
    (λ (k : n ≤ start + j).
    get_or-append_right (range_with_len start (n - start)) (range_with_len 0 start) (n - start) j 0 (length-range_with_len start (n - start)) (omega arith)
    ∙ get_or-range_with_len 0 start (j - (n - start)) 0 (omega arith) ∙ rw (le-ltb (start + j) n k) (omega arith))
    (lt_or_le (start + j) n)

pub found_next : (f : ℕ → Bool) (n from : ℕ) → unwrap_or (find f (places n (start_of n from))) n ≡ next f n from
unfolding passed next
found_next f n from =
    let s = start_of n from in
    let l : length (places n s) ≡ n = places_long n s (start_le n from) in
    found_in f (stepped n s) (places n s) n (λ j h. place_at n s j (start_le n from) (omega arith)) ∙ rw l

-- ---- a search looks only at the n places
least_ext : (f g : ℕ → Bool) (m : ℕ) → ((j : ℕ) → j < m → f j ≡ g j) → least f m ≡ least g m
unfolding least
least_ext f g zero e = refl
least_ext f g (suc m) e =
    ap (λ (b : Bool). pick b 0 (suc (least (λ i. f (suc i)) m))) (e 0 (omega arith))
    ∙ ap (λ (l : ℕ). pick (g 0) 0 (suc l)) (least_ext (λ i. f (suc i)) (λ i. g (suc i)) m (λ j h. e (suc j) (omega arith)))

pub next_ext : (f g : ℕ → Bool) (n from : ℕ) → ((j : ℕ) → j < n → f j ≡ g j) → next f n from ≡ next g n from
unfolding passed next
next_ext f g n from e =
    ap (λ (l : ℕ). pick (ltb l n) (stepped n (start_of n from) l) n)
    (least_ext (λ j. f (stepped n (start_of n from) j)) (λ j. g (stepped n (start_of n from) j)) n (λ j h. e (stepped n (start_of n from) j) (stepped_lt n (start_of n from) j (start_le n from) h)))
