-- The number of a call, and what it answers. Assumes nothing.
use mathlib.Core.Path.{◌≡◌, refl, sym, ap, ap₂, ◌∙◌}
use mathlib.Core.Bool.{Bool, true, false}
use mathlib.Core.List.{List, ◌++◌}
use Prim.Native.Nat.{ℕ, ◌+◌, ◌*◌, ◌/◌, ◌%◌, ◌≤◌, ◌<◌}
use native.Mathlib.Omega.{arith}
use borrow.Author.Tests.{leb-false, ltb-false, not-false}
use borrow.Rule.Slice.PartMut.{mid_of}
use lib.Dec.{eqb}
use lib.ListN.{length, get_or, drop, replicate}
use Rattle.limits.specs.Limits.{register_words, scratch_words, early_scratch_words}
use Rattle.std.specs.Prelude.{Ok, Err}
use Rattle.refusals.specs.Refusals.{number_of}
use Rattle.refusals.specs.declared.Refusal.{Refusal}
use Rattle.refusals.proofs.Positive.{refuses as no_refusal}
use Rattle.lists.specs.Bits.{bit, bit_at, words, packed}
use Rattle.lists.proofs.Columns.{packed_in}
use Rattle.lists.proofs.Rows.{no_row}
use Rattle.mltl.specs.Known.{Value, no, undecided, yes, is_yes, is_no, known}
use Rattle.column.specs.Column.{register}
use Rattle.column.proofs.Registers.{length_register, register_in}
use Rattle.column.proofs.Parts.{register_part}
use Rattle.table.specs.Nodes.{formula_at, node_at, rule_at, watched_formula}
use Rattle.table.specs.Sound.{Sound, is_sound}
use Rattle.table.specs.declared.Node.{Node}
use Rattle.table.specs.declared.Table.{Table}
use Rattle.table.proofs.Soundness.{fits_iff, sound_iff}
use Rattle.needed.specs.Marks.{marked}
use Rattle.early.specs.declared.Decision.{Decision}
use Rattle.early.specs.Early.{refused, value, decided, early_rows, early_number, early_number_for, both_cleared, Decides}
use Rattle.early.specs.Code.Steps.{half, in_half, Columns, value_by, Answerable}

-- ---- what two bits say
value_by_lem : (v : Value) {y n : Bool} → y ≡ is_yes v → n ≡ is_no v → value_by y n ≡ v
value_by_lem no e f = ap₂ value_by e f
value_by_lem undecided e f = ap₂ value_by e f
value_by_lem yes e f = ap₂ value_by e f

-- bit t of node k's register in the half at p
half_bit : (p k n t : ℕ) (f : ℕ → Bool) (ys : List ℕ) → p + scratch_words ≤ length ys → k < 64 → n ≤ 5120 → t < n → in_half p k n ys ≡ packed n f
    → bit (get_or ys (p + register_words * k + t / 64) 0) (t % 64) ≡ f t
unfolding bit_at
half_bit p k n t f ys l a b c e =
    let w : t / 64 < words n = omega arith in
    let r : register (register_words * k) (words n) (half p ys) ≡ register (p + register_words * k) (words n) ys = register_part p scratch_words (register_words * k) (words n) ys l (omega arith) in
    ap (λ (x : ℕ). bit x (t % 64)) (sym (register_in (p + register_words * k) (words n) ys (t / 64) w))
    ∙ ap (λ (c : List ℕ). bit_at c t) (sym r ∙ e) ∙ packed_in n f t c

-- what the bits of node k's two registers say
pub known_by : {ns : List Node} {marks : ℕ} {states xs ys : List ℕ} (k tick : ℕ) {y n : Bool} → Columns (k + 1) ns marks states xs ys → marked marks k ≡ true → k < 64
    → length states ≤ 5120 → tick < length states → early_scratch_words ≤ length ys
    → y ≡ bit (get_or ys (register_words * k + tick / 64) 0) (tick % 64) → n ≡ bit (get_or ys (scratch_words + register_words * k + tick / 64) 0) (tick % 64)
    → value_by y n ≡ known (formula_at ns k) states tick
known_by {ns} {states = states} {ys = ys} k tick r m a b c l e f =
    let at : register_words * k + tick / 64 ≡ 0 + register_words * k + tick / 64 = omega arith in
    value_by_lem (known (formula_at ns k) states tick)
    (e ∙ ap (λ (w : ℕ). bit (get_or ys w 0) (tick % 64)) at ∙ half_bit 0 k (length states) tick _ ys (omega arith) a b c (r.yeses k (omega arith) m))
    (f ∙ half_bit scratch_words k (length states) tick _ ys (omega arith) a b c (r.noes k (omega arith) m))

-- the scratch in the end
pub cleared_is : (xs ys : List ℕ) {zs : List ℕ} → early_scratch_words ≤ length ys → zs ≡ replicate (length (mid_of 0 early_scratch_words ys)) 0
    → drop early_scratch_words ys ≡ drop early_scratch_words xs → zs ++ drop early_scratch_words ys ≡ both_cleared xs
cleared_is xs ys h e d = ap₂ (λ (a b : List ℕ). a ++ b) (e ∙ ap (λ (n : ℕ). replicate n 0) (length_register 0 early_scratch_words ys (omega arith))) d

-- ---- the number
-- no row fits
pub record EarlyFits (t : Table) (rule states tick scratch : ℕ) : Type 0 where
  pub sound : Sound t
  pub rule_there : rule < t.rule_count
  pub few_states : states ≤ 5120
  pub scratch_fits : early_scratch_words ≤ scratch
  pub seen : tick < states

pub early_fits : (t : Table) (rule states tick scratch : ℕ) → early_number t rule states tick scratch ≡ 0 → EarlyFits t rule states tick scratch
unfolding early_number
early_fits t rule states tick scratch e =
    let no = no_row (early_rows (is_sound t) t.rule_count rule states tick scratch) refl e in
    record {
      sound = (sound_iff t).0 (not-false (is_sound t) (no 0));
      rule_there = leb-false t.rule_count rule (no 1);
      few_states = ltb-false 5120 states (no 2);
      scratch_fits = ltb-false scratch early_scratch_words (no 3);
      seen = leb-false states tick (no 4);
    }

-- then what the rule watches can be told
pub answerable : {t : Table} (rule : ℕ) {states : List ℕ} {tick : ℕ} {scratch : List ℕ} → EarlyFits t rule (length states) tick (length scratch)
    → Answerable t.nodes (rule_at t rule).watched states tick scratch
answerable {t} rule f =
    let s = f.sound in
    let few = s.few_nodes in
    let w = (s.rule rule f.rule_there).watched in
    record {
      place = omega arith;
      fitting = λ i l. (fits_iff i (node_at t i)).1 (s.node i (omega arith));
      short = f.few_states;
      seen = f.seen;
      enough = f.scratch_fits;
    }

module _ {t : Table} {rule : ℕ} {states : List ℕ} {tick : ℕ} {scratch : List ℕ} where
  pub refuses : (e : Refusal) → number_of e ≡ early_number_for t rule states tick scratch → Decides t rule states tick scratch (Err e) scratch
  refuses e n =
      let q : eqb (early_number_for t rule states tick scratch) 0 ≡ false = ap (λ (x : ℕ). eqb x 0) (sym n) ∙ no_refusal e in
      record { tells = rw q (ap refused n); clears = rw q }

  pub accepts : {r : Decision} {scratch' : List ℕ} → early_number_for t rule states tick scratch ≡ 0
      → decided r ≡ known (watched_formula t rule) states tick → scratch' ≡ both_cleared scratch → Decides t rule states tick scratch (Ok r) scratch'
  accepts e p q =
      let z : eqb (early_number_for t rule states tick scratch) 0 ≡ true = ap (λ (x : ℕ). eqb x 0) e in
      record { tells = rw z (ap value p); clears = rw z q }
