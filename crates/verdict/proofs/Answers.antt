-- What the buffers hold in the end, when a call is ready, and its number. Assumes nothing.
use Prim.Native.Nat.{◌*◌, ◌+◌, ◌/◌, ◌<◌, ℕ, ◌≤◌}
use native.Mathlib.Nat.{zero-add}
use native.Mathlib.Omega.{arith}
use mathlib.Core.Bool.{◌&&◌, Bool, false, true}
use mathlib.Core.List.{◌++◌, List}
use mathlib.Core.Logic.{⊎_elim}
use mathlib.Core.Path.{refl, ap, ap₂, sym, ◌∙◌, ◌≡◌}
use borrow.Author.Tests.{le-leb, le-ltb, leb-false, leb-true, lt-ltb, ltb-false, ltb-true, ne_eqb, not-false}
use borrow.Rule.Slice.PartMut.{mid_of, put_mid}
use lib.Dec.{eqb, ltb}
use lib.ListN.{drop, get_or, length, length-append, length-take, replicate, take}
use lib.Seq.{drop-paste, get_or-take, paste, take_all, take-paste, take-take}
use Rattle.limits.specs.Limits.{register_words}
use Rattle.lists.proofs.Columns.{bit_at_same, length_packed, pack_ext, packed_in}
use Rattle.lists.proofs.Sequences.{every_iff}
use Rattle.lists.proofs.Rows.{no_row}
use Rattle.lists.proofs.Tests.{◌also◌, lt_or_le, or_left, or_right, true_left, true_right}
use Rattle.lists.specs.Bits.{below, bit_at, pack, packed, words}
use Rattle.lists.specs.Sequence.{every}
use Rattle.mltl.specs.Mltl.{holds}
use Rattle.table.proofs.Soundness.{fits_iff, sound_iff}
use Rattle.table.specs.Nodes.{formula_at, no_node, node_at, rule_at}
use Rattle.table.specs.Sound.{Sound, fits, is_sound}
use Rattle.table.specs.declared.Node.{Node}
use Rattle.table.specs.declared.Table.{Table}
use Rattle.column.proofs.Registers.{length_register}
use Rattle.column.specs.Column.{Turned, register}
use Rattle.needed.specs.Marks.{marked}
use Rattle.verdict.specs.Code.Steps.{Judgeable, Columns}
use Rattle.verdict.specs.Verdict.{Answered, Judged, cleared, enough, fits_to, whole_number_for, whole_number, ready, with_verdicts, whole_rows}

-- ---- out and scratch
-- the first words of packed verdicts, cut
cut_is : (m count n : ℕ) (f : ℕ → Bool) (c : List ℕ) → c ≡ take m (packed n f) → count ≤ n → m ≡ words count → pack m (below count (bit_at c)) ≡ packed count f
unfolding packed
cut_is m count n f c e h g =
    rw g
    (pack_ext (words count) (below count (bit_at c)) (below count f) λ t l.
    ⊎_elim
    (λ (k : t < count).
    ap (λ (b : Bool). ltb t count && b)
    (bit_at_same c (packed n f) t (ap (λ (x : List ℕ). get_or x (t / 64) 0) e ∙ get_or-take m (packed n f) (t / 64) 0 (omega arith)) ∙ packed_in n f t (omega arith)))
    (λ (k : count ≤ t). ap (λ (b : Bool). b && bit_at c t) (le-ltb t count k) ∙ sym (ap (λ (b : Bool). b && f t) (le-ltb t count k)))
    (lt_or_le t count))

-- the words of out that were copied from the register of node k, cut at `count`
pub told_is : {ns : List Node} {marks : ℕ} {trace xs ys mid z : List ℕ} (out : List ℕ) (k count j : ℕ) → j ≡ words count → count ≤ length trace
    → words count ≤ length out
    → marked marks k ≡ true → Columns (k + 1) ns marks trace xs ys → register_words * k + words (length trace) ≤ length ys
    → mid ≡ paste out 0 (register (register_words * k) (words count) ys) (words count)
    → Turned (below count (bit_at (mid_of 0 j mid))) (mid_of 0 j mid) z
    → put_mid 0 j mid z ≡ with_verdicts (formula_at ns k) trace count out
told_is {ns} {trace = trace} {ys = ys} {mid = mid} {z = z} out k count j g c l on r long q v =
    let m : ℕ = words count in
    let n : ℕ = length trace in
    let f : ℕ → Bool = holds (formula_at ns k) trace in
    let e : m ≤ words n = omega arith in
    let w : register (register_words * k) m ys ≡ take m (packed n f) = sym (take-take m (words n) (drop (register_words * k) ys) e) ∙ ap (take m) (r.at k (omega arith) on) in
    let lw : length (register (register_words * k) m ys) ≡ m = length_register (register_words * k) m ys (omega arith) in
    let held : take m mid ≡ take m (packed n f) =
    ap (take m) q ∙ ap (λ (i : ℕ). take i (paste out 0 (register (register_words * k) m ys) m)) (sym (zero-add m))
    ∙ take-paste out 0 (register (register_words * k) m ys) m (omega arith) (omega (arith, lw)) ∙ take_all m (register (register_words * k) m ys) (omega (arith, lw)) ∙ w in
    let rest : drop m mid ≡ drop m out =
    ap (drop m) q ∙ ap (λ (i : ℕ). drop i (paste out 0 (register (register_words * k) m ys) m)) (sym (zero-add m))
    ∙ drop-paste out 0 (register (register_words * k) m ys) m (omega arith) (omega (arith, lw)) ∙ ap (λ (i : ℕ). drop i out) (zero-add m) in
    let lh : length (take m mid) ≡ m = ap length held ∙ length-take m (packed n f) ∙ omega (arith, length_packed n f) in
    let bits : z ≡ packed count f =
    v.is ∙ ap (λ (i : ℕ). pack (length (take i mid)) (below count (bit_at (take i mid)))) g ∙ ap (λ (i : ℕ). pack i (below count (bit_at (take m mid)))) lh
    ∙ cut_is m count n f (take m mid) held c refl in
    ap₂ (λ (a b : List ℕ). a ++ b) bits (ap (λ (i : ℕ). drop i mid) g ∙ rest)

pub cleared_is : (xs ys : List ℕ) {zs : List ℕ} → 5280 ≤ length ys → zs ≡ replicate (length (mid_of 0 5280 ys)) 0 → drop 5280 ys ≡ drop 5280 xs
    → zs ++ drop 5280 ys ≡ cleared xs
cleared_is xs ys h e d = ap₂ (λ (a b : List ℕ). a ++ b) (e ∙ ap (λ (n : ℕ). replicate n 0) (length_register 0 5280 ys (omega arith))) d

-- ---- when a call is ready
module _ (t : Table) (k : ℕ) where
  pub near : {ok : Bool} → k < 64 → ok ≡ every fits 0 (take (k + 1) t.nodes) → ok ≡ fits_to t k
  near h e = rw (lt-ltb k 64 h) e

pub ready_is : (t : Table) (k : ℕ) (older newer : List ℕ) (count : ℕ) (scratch out : List ℕ) {f r : Bool} → f ≡ fits_to t k
    → r ≡ enough (length older + length newer) count (length scratch) (length out) → (f && r) ≡ ready t k (older ++ newer) count scratch out
unfolding ready
ready_is t k older newer count scratch out p q =
    ap₂ ◌&&◌ p (q ∙ ap (λ (n : ℕ). enough n count (length scratch) (length out)) (sym (length-append older newer)))

module _ (t : Table) (k : ℕ) (trace : List ℕ) (count : ℕ) (scratch out : List ℕ) (places : length t.nodes ≡ 64) where
  pub ready_out : ready t k trace count scratch out ≡ true → Judgeable t.nodes k trace count scratch out
  unfolding ready
  ready_out e =
      let place : k < 64 = ltb-true k 64 (search (true_left, true_right) depth 12) in
      record {
        place = place;
        fitting = λ i h.
            ap (fits i) (sym (get_or-take (k + 1) t.nodes i no_node h))
            ∙ (every_iff fits no_node (take (k + 1) t.nodes)).0 (search (true_left, true_right) depth 12) i (omega (arith, length-take (k + 1) t.nodes));
        short = leb-true (length trace) 5120 (search (true_left, true_right) depth 12);
        scratch_fits = leb-true 5280 (length scratch) (search (true_left, true_right) depth 12);
        ticks = leb-true count (length trace) (search (true_left, true_right) depth 12);
        out_fits = leb-true (words count) (length out) (search (true_left, true_right) depth 12);
      }

  -- a sound table fits
  pub ready_sound : Sound t → k < t.node_count → length trace ≤ 5120 → count ≤ length trace → 5280 ≤ length scratch → words count ≤ length out
      → ready t k trace count scratch out ≡ true
  unfolding ready
  ready_sound s h a d b c =
      let few = s.few_nodes in
      (lt-ltb k 64 (omega arith) also (every_iff fits no_node (take (k + 1) t.nodes)).1 λ i l.
      let j : i < k + 1 = omega (arith, length-take (k + 1) t.nodes) in
      ap (fits i) (get_or-take (k + 1) t.nodes i no_node j) ∙ (fits_iff i (node_at t i)).1 (s.node i (omega arith)))
      also (le-leb (length trace) 5120 a also le-leb count (length trace) d also le-leb 5280 (length scratch) b also le-leb (words count) (length out) c)

-- ---- the answers of `judge`
module _ {t : Table} {k : ℕ} {trace : List ℕ} {count : ℕ} {scratch out : List ℕ} {b : Bool} (e : b ≡ ready t k trace count scratch out) where
  pub judged_not : b ≡ false → Judged t k trace count scratch out false scratch out
  judged_not f = let r : ready t k trace count scratch out ≡ false = sym e ∙ f in record { answers = sym r; tells = rw r; clears = rw r }

  pub judged : {scratch' out' : List ℕ} → b ≡ true → out' ≡ with_verdicts (formula_at t.nodes k) trace count out → scratch' ≡ cleared scratch
      → Judged t k trace count scratch out true scratch' out'
  judged f p q = let r : ready t k trace count scratch out ≡ true = sym e ∙ f in record { answers = sym r; tells = rw r p; clears = rw r q }

-- ---- the number
-- no row fits
pub record WholeFits (t : Table) (rule states scratch out : ℕ) : Type 0 where
  pub sound : Sound t
  pub rule_there : rule < t.rule_count
  pub few_states : states ≤ 5120
  pub scratch_fits : 5280 ≤ scratch
  pub out_fits : words states ≤ out

pub whole_fits : (t : Table) (rule states scratch out : ℕ) → whole_number t rule states scratch out ≡ 0 → WholeFits t rule states scratch out
unfolding whole_number
whole_fits t rule states scratch out e =
    let no = no_row (whole_rows (is_sound t) t.rule_count rule states scratch out) refl e in
    record {
      sound = (sound_iff t).0 (not-false (is_sound t) (no 0));
      rule_there = leb-false t.rule_count rule (no 1);
      few_states = ltb-false 5120 states (no 2);
      scratch_fits = ltb-false scratch 5280 (or_left (ltb scratch 5280) (ltb out (words states)) (no 3));
      out_fits = ltb-false out (words states) (or_right (ltb scratch 5280) (ltb out (words states)) (no 3));
    }

module _ {t : Table} {rule : ℕ} {states scratch out : List ℕ} where
  pub refuses : {r : ℕ} → r ≡ whole_number_for t rule states scratch out → (r ≡ 0 → ⊥) → Answered t rule states scratch out r scratch out
  refuses {r} e z =
      let q : eqb (whole_number_for t rule states scratch out) 0 ≡ false = ap (λ (x : ℕ). eqb x 0) (sym e) ∙ ne_eqb r 0 z in
      record { answers = e; tells = rw q; clears = rw q }

  pub accepts : {r : Bool} {scratch' out' : List ℕ} → whole_number_for t rule states scratch out ≡ 0
      → ready t (rule_at t rule).watched states (length states) scratch out ≡ true → Judged t (rule_at t rule).watched states (length states) scratch out r scratch' out'
      → Answered t rule states scratch out 0 scratch' out'
  accepts e f j =
      let z : eqb (whole_number_for t rule states scratch out) 0 ≡ true = ap (λ (x : ℕ). eqb x 0) e in
      record { answers = sym e; tells = rw z (rw f at j.tells); clears = rw z (rw f at j.clears) }
