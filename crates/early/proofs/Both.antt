-- What a node's step leaves in both halves, by its operator. Assumes nothing.
use mathlib.Core.Path.{◌≡◌, refl, sym, ap, ◌∙◌, subst}
use mathlib.Core.Logic.{inl, inr, ⊎_elim}
use mathlib.Core.Bool.{Bool, true, false, false≢true, not, ◌&&◌}
use mathlib.Core.List.{List}
use Prim.Native.Nat.{ℕ, ◌+◌, ◌-◌, ◌*◌, ◌≤◌, min}
use native.Mathlib.Nat.{zero-add}
use native.Mathlib.Omega.{arith}
use borrow.Author.Tests.{le-leb}
use borrow.Rule.Slice.PartMut.{mid_of}
use lib.Dec.{ltb, leb, eqb}
use lib.ListN.{length}
use Rattle.limits.specs.Limits.{register_words, scratch_words, early_scratch_words}
use Rattle.lists.specs.Bits.{bit_at, words, pack}
use Rattle.lists.specs.Choice.{pick}
use Rattle.lists.proofs.Columns.{bit_at_pack}
use Rattle.lists.proofs.Tests.{◌also◌}
use Rattle.column.specs.Column.{register, lay, filled, flipped}
use Rattle.column.proofs.Registers.{lay_ext}
use Rattle.column.proofs.Parts.{register_below, register_part}
use Rattle.signal.specs.Signal.{signal_column}
use Rattle.table.specs.Nodes.{Op, Unknown, Signal, Top, Bottom, Not, And, Or, Finally, Globally, Until, Release, op_of}
use Rattle.table.specs.declared.Node.{Node}
use Rattle.operators.specs.Operators.{one_fits, copy_fits, signal_laid, fill_laid, not_laid, copy_laid}
use Rattle.operators.proofs.Fits.{copy_fits_lem}
use Rattle.layout.specs.Layout.{Place, Computable}
use Rattle.layout.proofs.Constants.{top_bits, no_bits}
use Rattle.layout.proofs.Fitting.{place_of, fit_as, apart}
use Rattle.early.specs.Code.Steps.{operates, constant, half, in_half, join_column, meet_column, join_column_in, meet_column_in, join_place, yes_column, no_column, yes_in, no_in, TwoSteps, NodeStep}
use Rattle.early.proofs.Halves.{IsHalf, HalfStep, half_length, part_words, laid_half, first_then, second_then}

module _ {i n : ℕ} {x : Node} {xs : List ℕ} (h : Computable early_scratch_words i n x xs) where
  abbrev own : ℕ
  own = register_words * i

  abbrev m : ℕ
  m = words n

  in_half_lem : (p : ℕ) → IsHalf p → Computable scratch_words i n x (half p xs)
  in_half_lem p at = record { place = h.place; short = h.short; enough = omega (arith, half_length p xs at h.enough); fitting = h.fitting }

  -- the same of the half as a part
  pub in_part : (p : ℕ) → IsHalf p → Computable scratch_words i n x (mid_of p (p + scratch_words - p) xs)
  in_part p at = subst (λ (j : ℕ). Computable scratch_words i n x (mid_of p j xs)) (sym (part_words p)) (in_half_lem p at)

  abbrev place : (p : ℕ) → IsHalf p → Place own m (half p xs)
  place p at = place_of (in_half_lem p at)

  -- after a step the other half can be computed
  pub computes_after : {ys : List ℕ} → length ys ≡ length xs → Computable early_scratch_words i n x ys
  computes_after e = let l = h.enough in record { place = h.place; short = h.short; enough = omega arith; fitting = h.fitting }

  -- a register that is one of a half
  of_half : (p at : ℕ) → IsHalf p → at + m ≤ scratch_words → (ys : List ℕ) → length ys ≡ length xs → register (p + at) m ys ≡ register at m (half p ys)
  of_half p at is l ys e =
      let w = h.enough in
      let fit : p + scratch_words ≤ length ys = ⊎_elim (λ z. omega arith) (λ z. omega arith) is in
      sym (register_part p scratch_words at m ys fit l)

  small : own + m ≤ scratch_words
  small = let a = h.place in let b = h.short in omega arith

  -- a column laid in the first, and in the second half
  laid_first : {f : ℕ → Bool} {ys : List ℕ} → ys ≡ lay own m f xs → HalfStep 0 own m f xs ys
  laid_first {f} q = laid_half (inl refl) h.enough (place 0 (inl refl)) (q ∙ ap (λ (b : ℕ). lay b m f xs) (sym (zero-add own)))

laid_second : {i n : ℕ} {x : Node} {ys zs : List ℕ} {f : ℕ → Bool} → Computable early_scratch_words i n x ys → zs ≡ lay (scratch_words + register_words * i) (words n) f ys
    → HalfStep scratch_words (register_words * i) (words n) f ys zs
laid_second {f = f} h q = laid_half (inr refl) h.enough (place h scratch_words (inr refl)) q

-- what a test that holds picks
picked : (A B : List ℕ) {t : Bool} {ys : List ℕ} → t ≡ true → ys ≡ pick t A B → ys ≡ A
picked A B e q = q ∙ ap (λ (b : Bool). pick b A B) e

module _ {i n : ℕ} {x : Node} {xs : List ℕ} (h : Computable early_scratch_words i n x xs) (states ys zs : List ℕ) where
  abbrev a : ℕ
  a = register_words * i

  abbrev k : ℕ
  k = words n

  -- the columns by the operator
  by_op : {o : Op} → o ≡ op_of x.kind
      → TwoSteps a k
      (yes_column o x n states (in_half 0 x.left n xs) (in_half scratch_words x.left n xs) (in_half 0 x.right n xs) (in_half scratch_words x.right n xs))
      (no_column o x n states (in_half 0 x.left n xs) (in_half scratch_words x.left n xs) (in_half 0 x.right n xs) (in_half scratch_words x.right n xs)) xs zs
      → NodeStep x i n states xs zs
  unfolding yes_in no_in
  by_op e s =
      subst (λ (o : Op). TwoSteps a k
      (yes_column o x n states (in_half 0 x.left n xs) (in_half scratch_words x.left n xs) (in_half 0 x.right n xs) (in_half scratch_words x.right n xs))
      (no_column o x n states (in_half 0 x.left n xs) (in_half scratch_words x.left n xs) (in_half 0 x.right n xs) (in_half scratch_words x.right n xs)) xs zs) e s

  first_room : leb (a + k) (length xs) ≡ true
  first_room = let l = h.enough in le-leb (a + k) (length xs) (omega (arith, small h))

  second_room : length ys ≡ length xs → leb (scratch_words + a + k) (length ys) ≡ true
  second_room q = let l = h.enough in le-leb (scratch_words + a + k) (length ys) (omega (arith, small h))

  -- ---- constants: so many bits are set in the first half, and the others below n in the second
  pub of_constant : (bits : ℕ) → constant (op_of x.kind) ≡ true → bits ≡ pick (eqb x.kind 2) n 0
      → ys ≡ pick (leb (a + k) (length xs)) (fill_laid a k bits xs) xs → length ys ≡ length xs
      → zs ≡ pick (leb (scratch_words + a + k) (length ys)) (fill_laid (scratch_words + a) k (n - bits) ys) ys
      → NodeStep x i n states xs zs
  of_constant bits is_one f p q r = go (op_of x.kind) refl is_one
    where
      s : TwoSteps a k (filled bits) (filled (n - bits)) xs zs
      s = first_then (laid_first h (picked (fill_laid a k bits xs) xs first_room p))
          (laid_second (computes_after h q) (picked (fill_laid (scratch_words + a) k (n - bits) ys) ys (second_room q) r))

      is : (b c : ℕ) → bits ≡ b → n - bits ≡ c → TwoSteps a k (filled b) (filled c) xs zs
      is b c v w = subst (λ (d : ℕ). TwoSteps a k (filled b) (filled d) xs zs) w (subst (λ (d : ℕ). TwoSteps a k (filled d) (filled (n - bits)) xs zs) v s)

      go : (o : Op) → o ≡ op_of x.kind → constant o ≡ true → NodeStep x i n states xs zs
      go Top e t = let b : bits ≡ n = f ∙ top_bits n x.kind e in by_op e (is n 0 b (omega arith))
      go Bottom e t = let b : bits ≡ 0 = f ∙ no_bits n x.kind e refl in by_op e (is 0 n b (omega arith))
      go Unknown e t = let b : bits ≡ 0 = f ∙ no_bits n x.kind e refl in by_op e (is 0 n b (omega arith))
      go Signal e t = absurd (false≢true t)
      go Not e t = absurd (false≢true t)
      go And e t = absurd (false≢true t)
      go Or e t = absurd (false≢true t)
      go Finally e t = absurd (false≢true t)
      go Globally e t = absurd (false≢true t)
      go Until e t = absurd (false≢true t)
      go Release e t = absurd (false≢true t)

  -- ---- a signal, and where it is clear below n
  pub signal : Signal ≡ op_of x.kind → ys ≡ pick (leb (a + k) (length xs)) (signal_laid a k states x.arg xs) xs → length ys ≡ length xs
      → zs ≡ pick (one_fits a (scratch_words + a) k (length ys)) (not_laid a (scratch_words + a) k n ys) ys
      → NodeStep x i n states xs zs
  signal e p q r =
      let w = h.short in
      let f : ℕ → Bool = signal_column x.arg states in
      let wide : min register_words k ≡ k = omega arith in
      let s : HalfStep 0 a k f xs ys = laid_first h (picked (signal_laid a k states x.arg xs) xs first_room p ∙ ap (λ (j : ℕ). lay a j f xs) wide) in
      let held : register a k ys ≡ pack k f = ap (λ (at : ℕ). register at k ys) (sym (zero-add a)) ∙ of_half h 0 a (inl refl) (small h) ys q ∙ s.here.here in
      let room : one_fits a (scratch_words + a) k (length ys) ≡ true = le-leb (a + k) (scratch_words + a) (omega (arith, small h)) also second_room q in
      by_op e (first_then s (laid_second (computes_after h q) (picked (not_laid a (scratch_words + a) k n ys) ys room r
      ∙ lay_ext (scratch_words + a) k (flipped n (register a k ys)) (λ t. ltb t n && not (f t)) ys (λ t l.
      ap (λ (b : Bool). ltb t n && not b) (ap (λ (c : List ℕ). bit_at c t) held ∙ bit_at_pack k f t l)))))

  -- ---- not: the operand's registers exchanged
  pub negated : Not ≡ op_of x.kind → ys ≡ pick (copy_fits (scratch_words + register_words * x.left) a k (length xs)) (copy_laid (scratch_words + register_words * x.left) a k xs) xs
      → length ys ≡ length xs
      → zs ≡ pick (copy_fits (register_words * x.left) (scratch_words + a) k (length ys)) (copy_laid (register_words * x.left) (scratch_words + a) k ys) ys
      → NodeStep x i n states xs zs
  negated e p q r =
      let w = h.enough in
      let v = h.place in
      let z = small h in
      let c : ℕ = register_words * x.left in
      let before : c + register_words ≤ a = apart ((fit_as i x e h.fitting).left refl) in
      let wide : k ≤ register_words = let o = h.short in omega arith in
      let f : ℕ → Bool = bit_at (in_half scratch_words x.left n xs) in
      let g : ℕ → Bool = bit_at (in_half 0 x.left n xs) in
      let down : copy_fits (scratch_words + c) a k (length xs) ≡ true = copy_fits_lem {a = scratch_words + c} {b = a} {m = k} {xs = xs} (inr (record { before = omega arith; enough = omega arith })) in
      let up : copy_fits c (scratch_words + a) k (length ys) ≡ true = copy_fits_lem {a = c} {b = scratch_words + a} {m = k} {xs = ys} (inl (record { before = omega arith; enough = omega arith })) in
      let upper : register (scratch_words + c) k xs ≡ in_half scratch_words x.left n xs = of_half h scratch_words c (inr refl) (omega arith) xs refl in
      let s : HalfStep 0 a k f xs ys = laid_first h (picked (copy_laid (scratch_words + c) a k xs) xs down p ∙ ap (λ (l : List ℕ). lay a k (bit_at l) xs) upper) in
      let lower : register c k ys ≡ in_half 0 x.left n xs =
      ap (λ (at : ℕ). register at k ys) (sym (zero-add c)) ∙ of_half h 0 c (inl refl) (omega arith) ys q
      ∙ register_below a c k (half 0 xs) (half 0 ys) s.here.low (omega arith) (omega (arith, half_length 0 xs (inl refl) w))
      (omega (arith, half_length 0 ys (inl refl) (omega arith)))
      in
      by_op e (first_then s (laid_second (computes_after h q) (picked (copy_laid c (scratch_words + a) k ys) ys up r ∙ ap (λ (l : List ℕ). lay (scratch_words + a) k (bit_at l) ys) lower)))

-- ---- and, or, F, G, U, R: one half is joined, and the other met
-- which is which
module _ (x : Node) (n : ℕ) (states ya na yb nb : List ℕ) where
  joined_first : (o : Op) → operates o ≡ true → join_place o ≡ 0
      → (join_column o x n ya yb ≡ yes_column o x n states ya na yb nb) × (meet_column o x n na nb ≡ no_column o x n states ya na yb nb)
  joined_first Unknown t z = absurd (false≢true t)
  joined_first Signal t z = absurd (false≢true t)
  joined_first Top t z = absurd (false≢true t)
  joined_first Bottom t z = absurd (false≢true t)
  joined_first Not t z = absurd (false≢true t)
  joined_first And t z = absurd (omega arith)
  joined_first Or t z = (refl, refl)
  joined_first Finally t z = (refl, refl)
  joined_first Globally t z = absurd (omega arith)
  joined_first Until t z = (refl, refl)
  joined_first Release t z = absurd (omega arith)

  joined_second : (o : Op) → operates o ≡ true → join_place o ≡ scratch_words
      → (meet_column o x n ya yb ≡ yes_column o x n states ya na yb nb) × (join_column o x n na nb ≡ no_column o x n states ya na yb nb)
  joined_second Unknown t z = absurd (false≢true t)
  joined_second Signal t z = absurd (false≢true t)
  joined_second Top t z = absurd (false≢true t)
  joined_second Bottom t z = absurd (false≢true t)
  joined_second Not t z = absurd (false≢true t)
  joined_second And t z = (refl, refl)
  joined_second Or t z = absurd (omega arith)
  joined_second Finally t z = absurd (omega arith)
  joined_second Globally t z = (refl, refl)
  joined_second Until t z = absurd (omega arith)
  joined_second Release t z = (refl, refl)

join_place_lem : (o : Op) → IsHalf (join_place o)
join_place_lem Unknown = inr refl
join_place_lem Signal = inr refl
join_place_lem Top = inr refl
join_place_lem Bottom = inr refl
join_place_lem Not = inr refl
join_place_lem And = inr refl
join_place_lem Or = inl refl
join_place_lem Finally = inl refl
join_place_lem Globally = inr refl
join_place_lem Until = inl refl
join_place_lem Release = inr refl

pub halves_of : (o : Op) {j : ℕ} → j ≡ join_place o → IsHalf j × IsHalf (scratch_words - j)
halves_of o e =
    ⊎_elim (λ z. let q = e ∙ z in (inl q, inr (omega arith))) (λ z. let q = e ∙ z in (inr q, inl (omega arith))) (join_place_lem o)

pub half_room : {j : ℕ} → IsHalf j → j ≤ scratch_words
half_room i = ⊎_elim (λ e. omega arith) (λ e. omega arith) i

module _ {i n : ℕ} {x : Node} {xs ys zs : List ℕ} (h : Computable early_scratch_words i n x xs) (six : operates (op_of x.kind) ≡ true) (states : List ℕ) (j : ℕ) (place : j ≡ join_place (op_of x.kind))
    (r : HalfStep j (register_words * i) (words n) (join_column_in x n (half j xs)) xs ys)
    (s : HalfStep (scratch_words - j) (register_words * i) (words n) (meet_column_in x n (half (scratch_words - j) ys)) ys zs) where
  abbrev ya : List ℕ
  ya = in_half 0 x.left n xs

  abbrev na : List ℕ
  na = in_half scratch_words x.left n xs

  abbrev yb : List ℕ
  yb = in_half 0 x.right n xs

  abbrev nb : List ℕ
  nb = in_half scratch_words x.right n xs

  abbrev b : ℕ
  b = register_words * i

  abbrev w : ℕ
  w = words n

  at_first : j ≡ 0 → TwoSteps b w (join_column_in x n (half 0 xs)) (meet_column_in x n (half scratch_words xs)) xs zs
  at_first e =
      let p = subst (λ (d : ℕ). HalfStep d b w (join_column_in x n (half d xs)) xs ys) e r in
      let q = subst (λ (d : ℕ). HalfStep (scratch_words - d) b w (meet_column_in x n (half (scratch_words - d) ys)) ys zs) e s in
      subst (λ (c : List ℕ). TwoSteps b w (join_column_in x n (half 0 xs)) (meet_column_in x n c) xs zs) p.other (first_then p q)

  at_second : j ≡ scratch_words → TwoSteps b w (meet_column_in x n (half 0 xs)) (join_column_in x n (half scratch_words xs)) xs zs
  at_second e =
      let p = subst (λ (d : ℕ). HalfStep d b w (join_column_in x n (half d xs)) xs ys) e r in
      let q = subst (λ (d : ℕ). HalfStep (scratch_words - d) b w (meet_column_in x n (half (scratch_words - d) ys)) ys zs) e s in
      subst (λ (c : List ℕ). TwoSteps b w (meet_column_in x n c) (join_column_in x n (half scratch_words xs)) xs zs) p.other (second_then p q)

  pub operated : NodeStep x i n states xs zs
  unfolding yes_in no_in join_column_in meet_column_in
  operated =
      ⊎_elim
      (λ (e : join_place (op_of x.kind) ≡ 0).
      let c = joined_first x n states ya na yb nb (op_of x.kind) six e in
      subst (λ (f : ℕ → Bool). TwoSteps b w f (no_in x n states xs) xs zs) c.0
      (subst (λ (f : ℕ → Bool). TwoSteps b w (join_column_in x n (half 0 xs)) f xs zs) c.1 (at_first (place ∙ e))))
      (λ (e : join_place (op_of x.kind) ≡ scratch_words).
      let c = joined_second x n states ya na yb nb (op_of x.kind) six e in
      subst (λ (f : ℕ → Bool). TwoSteps b w f (no_in x n states xs) xs zs) c.0
      (subst (λ (f : ℕ → Bool). TwoSteps b w (meet_column_in x n (half 0 xs)) f xs zs) c.1 (at_second (place ∙ e))))
      (join_place_lem (op_of x.kind))

-- a constant has no more bits than states
pub few_bits : (x : Node) (n : ℕ) {bits : ℕ} → bits ≡ pick (eqb x.kind 2) n 0 → bits ≤ n
few_bits x n e = go (eqb x.kind 2) e
  where
    go : (b : Bool) {bits : ℕ} → bits ≡ pick b n 0 → bits ≤ n
    go true q = omega arith
    go false q = omega arith
