-- Lists of moves: each result by its offsets, how many offsets there can be, and the list that has the fewest moves. Assumes nothing.
use Prim.Native.Nat.{ℕ, zero, suc, ◌+◌, ◌-◌, ◌^◌, ◌≤◌, ◌<◌}
use native.Mathlib.Nat.{two-pow-succ, add-zero}
use native.Mathlib.Numerals.{add-one}
use native.Mathlib.Omega.{arith}
use mathlib.Core.Path.{◌≡◌, refl, sym, ap, ap₂, subst, ◌∙◌}
use mathlib.Core.Logic.{⊎_elim}
use mathlib.Core.Bool.{Bool, true, false, not, ◌&&◌, ◌||◌, or-false, false≢true}
use mathlib.Core.List.{List, [], ◌∷◌, ◌++◌, map, append-nil}
use borrow.Author.Tests.{eq-eqb, eqb-true, eqb-false, lt-ltb, le-ltb, le-leb, leb-true}
use lib.Dec.{leb, eqb}
use lib.ListN.{length, get_or, length-append, length-map}
use lib.Pow.{pow_mono, pow_pos}
use Rattle.lists.specs.Bits.{below}
use Rattle.lists.specs.Choice.{pick}
use Rattle.lists.specs.Sequence.{ticks, some}
use Rattle.lists.proofs.Tests.{lt_or_le, true_left, true_right, true_or_false, ◌also◌}
use Rattle.lists.proofs.Sequences.{length_ticks, ticks_snoc}
use Rattle.lists.proofs.Some.{some_append, some_map, some_mono, no_fewer}
use Rattle.mltl.specs.Mltl.{eventually}
use Rattle.mltl.proofs.Readings.{eventually_iff}
use Rattle.mltl.proofs.Operators.{eventually_now, eventually_past, eventually_join}
use Rattle.interval.specs.Parts.{top}
use Rattle.interval.specs.Doubling.{leftover, moves_for, move_count}
use Rattle.interval.specs.Joining.{Shift, down, up, Move, Joins, result, results, made, column_moved, columns, Computes, Offset, offset_moved, offset_sets, offsets, is_offset, in_length, EndsAt, joined_by, moves_of, Fewest}
use Rattle.interval.proofs.Laws.{pow_le, top_largest}

pub results_append : {A : Type 0} (k : Joins A) (rs : List A) (ms ns : List Move) → results k rs (ms ++ ns) ≡ results k (results k rs ms) ns
unfolding results
results_append k rs [] ns = refl
results_append k rs (m ∷ ms) ns = results_append k (result k m rs ∷ rs) ms ns

-- ---- the result at t is the operand at one of its offsets from t
abbrev pub read_at : (ℕ → Bool) → ℕ → Offset → Bool
read_at a t x = a (t + x.ahead - x.back)

-- so far from both ends of a column nothing that is moved was lost there
abbrev amount : Shift → ℕ
amount (down k) = k
amount (up k) = k

abbrev pub extent : List Move → ℕ
extent [] = 0
extent (m ∷ ms) = (amount m.first_by + amount m.second_by) + extent ms

module _ (n : ℕ) (a : ℕ → Bool) where
  abbrev Read : ℕ → (ℕ → Bool) → List Offset → Type 0
  Read w c os = (t : ℕ) → w ≤ t → t + w < n → c t ≡ some (read_at a t) os

  read_moved : (s : Shift) (w : ℕ) (c : ℕ → Bool) (os : List Offset) → Read w c os → Read (w + amount s) (column_moved n s c) (map (offset_moved s) os)
  read_moved (down k) w c os h t l g =
      ap (λ (b : Bool). b && c (t + k)) (lt-ltb (t + k) n (omega arith)) ∙ h (t + k) (omega arith) (omega arith)
      ∙ sym (some_map (read_at a t) (offset_moved (down k)) (read_at a (t + k)) (λ x. ap a (omega arith)) os)
  read_moved (up k) w c os h t l g =
      ap (λ (b : Bool). b && c (t - k)) (le-leb k t (omega arith)) ∙ h (t - k) (omega arith) (omega arith)
      ∙ sym (some_map (read_at a t) (offset_moved (up k)) (read_at a (t - k)) (λ x. ap a (omega arith)) os)

  -- of every result
  abbrev Alike : ℕ → List (ℕ → Bool) → List (List Offset) → Type 0
  Alike w cs os = (i : ℕ) → Read w (get_or cs i (λ t. false)) (get_or os i [])

  alike_more : (m : Move) (w : ℕ) (cs : List (ℕ → Bool)) (os : List (List Offset)) → Alike w cs os
      → Alike (w + (amount m.first_by + amount m.second_by)) (result (columns n) m cs ∷ cs) (result offset_sets m os ∷ os)
  alike_more m w cs os h zero t l g =
      ap₂ ◌||◌ (read_moved m.first_by w _ _ (h m.first) t (omega arith) (omega arith)) (read_moved m.second_by w _ _ (h m.second) t (omega arith) (omega arith))
      ∙ sym (some_append (read_at a t) (map (offset_moved m.first_by) (get_or os m.first [])) (map (offset_moved m.second_by) (get_or os m.second [])))
  alike_more m w cs os h (suc i) t l g = h i t (omega arith) (omega arith)

  alike_all : (ms : List Move) (w : ℕ) (cs : List (ℕ → Bool)) (os : List (List Offset)) → Alike w cs os
      → Alike (w + extent ms) (results (columns n) cs ms) (results offset_sets os ms)
  unfolding results
  alike_all [] w cs os h i t l g = h i t (omega arith) (omega arith)
  alike_all (m ∷ ms) w cs os h i t l g = alike_all ms _ _ _ (alike_more m w cs os h) i t (omega arith) (omega arith)

  pub by_offsets : (ms : List Move) (t : ℕ) → extent ms ≤ t → t + extent ms < n → made (columns n) a ms t ≡ some (read_at a t) (offsets ms)
  unfolding some
  by_offsets ms t l g = alike_all ms 0 (a ∷ []) ((record { ahead = 0; back = 0 } ∷ []) ∷ []) start 0 t (omega arith) (omega arith)
    where
      start : Alike 0 (a ∷ []) ((record { ahead = 0; back = 0 } ∷ []) ∷ [])
      start zero u p q = ap a (omega arith) ∙ sym (or-false (a (u + 0 - 0)))
      start (suc i) u p q = refl

-- ---- a list that computes F[0, v] has the offsets 0 to v
not_back : (p q : Bool) → (q ≡ true → p ≡ true) → not p ≡ true → not q ≡ true
not_back p true h e = absurd (false≢true (ap not (sym (h refl)) ∙ e))
not_back p false h e = refl

module _ (v : ℕ) (ms : List Move) (c : Computes (v + 1) ms) where
  -- a tick far enough from both ends of a column that is long enough
  abbrev tick : ℕ
  tick = extent ms + 1

  abbrev long : ℕ
  long = c.enough + tick + extent ms + v + 1

  agree : (a : ℕ → Bool) → some (read_at a tick) (offsets ms) ≡ eventually long 0 v a tick
  agree a =
      sym (by_offsets long a ms tick (omega arith) (omega arith)) ∙ c.is long (omega arith) a tick (omega arith)
      ∙ ap (λ (u : ℕ). eventually long 0 u a tick) (omega arith)

  each : (o : ℕ) → o < v + 1 → some (is_offset o) (offsets ms) ≡ true
  each o l =
      some_mono (read_at (eqb (tick + o)) tick) (is_offset o)
      (λ x e. let q = eqb-true (tick + o) (tick + x.ahead - x.back) e in eq-eqb x.ahead (x.back + o) (omega arith))
      (offsets ms)
      (agree (eqb (tick + o))
      ∙ (eventually_iff long 0 v (eqb (tick + o)) tick).1 (tick + o, omega arith, omega arith, omega arith, eq-eqb (tick + o) (tick + o) refl))

  -- set outside of the window of the tick
  abbrev outside : ℕ → Bool
  outside i = not (leb tick i && leb i (tick + v))

  quiet : eventually long 0 v outside tick ≡ false
  quiet =
      ⊎_elim
      (λ (e : eventually long 0 v outside tick ≡ true).
      let r = (eventually_iff long 0 v outside tick).0 e in
      absurd (false≢true (sym (ap not (le-leb tick r.0 (omega arith) also le-leb r.0 (tick + v) (omega arith))) ∙ r.4)))
      (λ e. e)
      (true_or_false (eventually long 0 v outside tick))

  others : some (λ x. not (in_length (v + 1) x)) (offsets ms) ≡ false
  others =
      ⊎_elim
      (λ (e : some (λ x. not (in_length (v + 1) x)) (offsets ms) ≡ true).
      absurd (false≢true (sym (agree outside ∙ quiet) ∙ some_mono (λ x. not (in_length (v + 1) x)) (read_at outside tick) reads (offsets ms) e)))
      (λ e. e)
      (true_or_false (some (λ x. not (in_length (v + 1) x)) (offsets ms)))
    where
      reads : (x : Offset) → not (in_length (v + 1) x) ≡ true → read_at outside tick x ≡ true
      reads x =
          let i : ℕ = tick + x.ahead - x.back in
          not_back (in_length (v + 1) x) (leb tick i && leb i (tick + v)) λ q.
          let l : tick ≤ i = leb-true tick i (true_left (leb tick i) (leb i (tick + v)) q) in
          let g : i ≤ tick + v = leb-true i (tick + v) (true_right (leb tick i) (leb i (tick + v)) q) in
          le-leb x.back x.ahead (omega arith) also lt-ltb x.ahead (x.back + (v + 1)) (omega arith)

  pub computes_ends : EndsAt (v + 1) ms
  computes_ends = record { each = each; others = others }

-- ---- after j moves a result has at most 2 ^ j offsets
abbrev Few : ℕ → List (List Offset) → Type 0
Few j os = (i : ℕ) → length (get_or os i []) ≤ 2 ^ j

few_more : (m : Move) (j : ℕ) (os : List (List Offset)) → Few j os → Few (suc j) (result offset_sets m os ∷ os)
few_more m j os h zero =
    let f : List Offset = map (offset_moved m.first_by) (get_or os m.first []) in
    let s : List Offset = map (offset_moved m.second_by) (get_or os m.second []) in
    omega (arith, length-append f s, length-map (get_or os m.first []) (offset_moved m.first_by), length-map (get_or os m.second []) (offset_moved m.second_by), h m.first, h m.second, two-pow-succ j)
few_more m j os h (suc i) = omega (arith, h i, two-pow-succ j)

few_all : (ms : List Move) (j : ℕ) (os : List (List Offset)) → Few j os → Few (j + length ms) (results offset_sets os ms)
unfolding results
few_all [] j os h i = rw (add-zero j) (h i)
few_all (m ∷ ms) j os h i =
    subst (λ (k : ℕ). length (get_or (results offset_sets (result offset_sets m os ∷ os) ms) i []) ≤ 2 ^ k) (omega arith) (few_all ms (suc j) _ (few_more m j os h) i)

pub offset_count : (ms : List Move) → length (offsets ms) ≤ 2 ^ length ms
offset_count ms = subst (λ (k : ℕ). length (offsets ms) ≤ 2 ^ k) (omega arith) (few_all ms 0 ((record { ahead = 0; back = 0 } ∷ []) ∷ []) start 0)
  where
    start : Few 0 ((record { ahead = 0; back = 0 } ∷ []) ∷ [])
    start zero = omega arith
    start (suc i) = omega arith

-- so a list that ends at the length v + 1 has at least as many moves as are counted
module _ (v : ℕ) where
  single : (x : Offset) (i j : ℕ) → is_offset i x ≡ true → is_offset j x ≡ true → i ≡ j
  single x i j p q = omega (arith, eqb-true x.ahead (x.back + i) p, eqb-true x.ahead (x.back + j) q)

  pub least : (ms : List Move) → EndsAt (v + 1) ms → move_count v ≤ length ms
  unfolding leftover moves_for move_count
  least ms e = go (eqb (leftover v) 0) refl
    where
      enough : v + 1 ≤ 2 ^ length ms
      enough = omega (arith, offset_count ms, no_fewer is_offset single (v + 1) (offsets ms) e.each)

      go : (b : Bool) → eqb (leftover v) 0 ≡ b → pick b (top v) (top v + 1) ≤ length ms
      go true q =
          let z = eqb-true (leftover v) 0 q in
          pow_le (top v) (length ms) (omega (arith, enough, pow_pos (length ms), (top_largest v).low))
      go false q =
          let z = eqb-false (leftover v) 0 q in
          ⊎_elim (λ (l : top v < length ms). omega arith)
          (λ (l : length ms ≤ top v). let p : 2 ^ length ms ≤ 2 ^ top v = pow_mono l in absurd (z (omega (arith, enough))))
          (lt_or_le (top v) (length ms))

-- ---- the list itself
module _ (n : ℕ) (a : ℕ → Bool) where
  -- the list makes the window of u + 1 ticks
  abbrev Window : ℕ → List Move → Type 0
  Window u ms = (t : ℕ) → t < n → made (columns n) a ms t ≡ eventually n 0 u a t

  -- one move more
  window_joined : (u k : ℕ) (ms : List Move) → k ≤ u + 1 → Window u ms → Window (k + u) (ms ++ (joined_by k ∷ []))
  unfolding results
  window_joined u k ms l h t g =
      ap (λ (cs : List (ℕ → Bool)). get_or cs 0 (λ i. false) t) (results_append (columns n) (a ∷ []) ms (joined_by k ∷ []))
      ∙ ap₂ ◌||◌ (at (t + 0) ∙ ap (eventually n 0 u a) (omega arith)) (at (t + k)) ∙ sym (eventually_join n u k u a t l (omega arith))
    where
      at : (i : ℕ) → below n (made (columns n) a ms) i ≡ eventually n 0 u a i
      at i =
          ⊎_elim (λ (p : i < n). ap (λ (b : Bool). b && made (columns n) a ms i) (lt-ltb i n p) ∙ h i p)
          (λ (p : n ≤ i). ap (λ (b : Bool). b && made (columns n) a ms i) (le-ltb i n p) ∙ sym (eventually_past n 0 u a i (omega arith)))
          (lt_or_le i n)

  doubled : (k : ℕ) → Window (2 ^ k - 1) (ticks (λ j. joined_by (2 ^ j)) k)
  unfolding results
  doubled zero = λ t g. sym (eventually_now n a t g)
  doubled (suc k) =
      let e : 2 ^ suc k - 1 ≡ 2 ^ k + (2 ^ k - 1) = omega (arith, two-pow-succ k, pow_pos k) in
      rw (ticks_snoc (λ j. joined_by (2 ^ j)) k, e)
      (window_joined (2 ^ k - 1) (2 ^ k) (ticks (λ j. joined_by (2 ^ j)) k) (omega (arith, pow_pos k)) (doubled k))

  pub moves_make : (v : ℕ) → Window v (moves_of v)
  unfolding leftover
  moves_make v = go (eqb (leftover v) 0) refl
    where
      go : (b : Bool) → eqb (leftover v) 0 ≡ b → Window v (ticks (λ j. joined_by (2 ^ j)) (top v) ++ pick b [] (joined_by (leftover v) ∷ []))
      go true q =
          let e : 2 ^ top v - 1 ≡ v = omega (arith, eqb-true (leftover v) 0 q, (top_largest v).low) in
          rw append-nil (rw e at (doubled (top v)))
      go false q =
          let l = top_largest v in
          let e : leftover v + (2 ^ top v - 1) ≡ v = omega (arith, l.low, pow_pos (top v)) in
          rw e at (window_joined (2 ^ top v - 1) (leftover v) (ticks (λ j. joined_by (2 ^ j)) (top v)) (omega (arith, l.high, l.low)) (doubled (top v)))

moves_count : (v : ℕ) → length (moves_of v) ≡ move_count v
unfolding moves_for move_count
moves_count v =
    length-append (ticks (λ j. joined_by (2 ^ j)) (top v)) _ ∙ ap (λ (k : ℕ). k + length (pick (eqb (leftover v) 0) [] (joined_by (leftover v) ∷ []))) (length_ticks (λ j. joined_by (2 ^ j)) (top v))
    ∙ go (eqb (leftover v) 0)
  where
    go : (b : Bool) → top v + length (pick b [] (joined_by (leftover v) ∷ [])) ≡ pick b (top v) (top v + 1)
    go true = omega arith
    go false = refl

pub fewest : (v : ℕ) → Fewest v
fewest v =
    let l = top_largest v in
    record {
      low = l.low;
      high = omega (arith, l.high, two-pow-succ (top v), ap (λ (k : ℕ). 2 ^ k) (add-one (top v)));
      counted = moves_count v;
      makes = λ n a. moves_make n a v;
      whole = computes_ends v (moves_of v) (record {
        enough = 0;
        is = λ n h a t g. moves_make n a v t g ∙ ap (λ (u : ℕ). eventually n 0 u a t) (let e : v ≡ v + 1 - 1 = omega arith in e);
      });
      ends = computes_ends v;
      least = least v;
      least_made = λ ms c. least v ms (computes_ends v ms c);
    }
