-- A record tried where the walk stands: what the code answers. Assumes nothing.
use Prim.Native.Nat.{ℕ, ◌+◌, ◌<◌}
use mathlib.Core.Path.{◌≡◌, refl, sym, ap, ◌∙◌}
use mathlib.Core.Bool.{Bool, true, false}
use mathlib.Core.List.{List}
use native.Mathlib.Omega.{arith}
use borrow.Author.Tests.{leb-false, ne_eqb, eqb-true, eqb-false}
use lib.Dec.{eqb}
use lib.ListN.{set}
use Rattle.refusals.specs.Refusals.{number_of}
use Rattle.refusals.specs.declared.Refusal.{Refusal}
use Rattle.refusals.proofs.Positive.{refuses, refusal_above}
use Rattle.lists.specs.Choice.{pick, first}
use Rattle.lists.proofs.Rows.{no_row, first_of, first_rest}
use Rattle.table.specs.declared.Node.{Node}
use Rattle.table.specs.declared.Rule.{Rule}
use Rattle.table.specs.declared.Table.{Table}
use Rattle.builder.specs.Adding.{Added, add_node_rows, add_rule_rows, with_node, with_rule, adding_node, adding_rule}
use Rattle.builder.proofs.Holding.{node_number, node_taken, rule_number_lem, rule_taken}
use Rattle.book.specs.declared.Entry.{Entry}
use Rattle.book.specs.declared.Walk.{Walk}
use Rattle.std.specs.Prelude.{Result, Ok, Err}
use Rattle.book.specs.Entries.{is_node}
use Rattle.book.specs.Code.Steps.{node_by, rule_by, node_added, rule_added, record_rows, builder_rows, walk_fault, answer_by, walk_told, node_step, rule_step, stepped}

-- ---- what an answer tells of its number
module _ {A : Type 0} (v : A) {f : ℕ} where
  pub err_answer : {n : ℕ} → Err n ≡ answer_by f v → (n ≡ f) × ¬ (f ≡ 0)
  err_answer {n} k = go (eqb f 0) refl k
    where
      go : (b : Bool) → eqb f 0 ≡ b → ◌≡◌ {A = Result A ℕ} (Err n) (pick b (Ok v) (Err f)) → (n ≡ f) × ¬ (f ≡ 0)
      go true e q = absurd (grind arith)
      go false e q = (cc, eqb-false f 0 e)

  pub ok_answer : {x : A} → Ok x ≡ answer_by f v → (x ≡ v) × (f ≡ 0)
  ok_answer {x} k = go (eqb f 0) refl k
    where
      go : (b : Bool) → eqb f 0 ≡ b → ◌≡◌ {A = Result A ℕ} (Ok x) (pick b (Ok v) (Err f)) → (x ≡ v) × (f ≡ 0)
      go true e q = (cc, eqb-true f 0 e)
      go false e q = absurd (grind arith)

-- ---- what the builder answers, x, by its number f
module _ (x : Added) {f : ℕ} (p : x.number ≡ f) where
  refused_step : ¬ (x.number ≡ 0) → (v : Walk) → ◌≡◌ {A = Result Walk ℕ} (Err x.number) (answer_by f v)
  refused_step z v = rw (p, ne_eqb f 0 (λ q. z (p ∙ q)))

  taken_step : x.number ≡ 0 → {t : Table} → x.table ≡ t → (seen : List ℕ)
      → ◌≡◌ {A = Result Walk ℕ} (Ok (record { table = x.table; seen = seen })) (answer_by f (record { table = t; seen = seen }))
  taken_step z q seen = let h : f ≡ 0 = sym p ∙ z in rw (h, q)

module _ (w : Walk) (r : ℕ) (e : Entry) {n : Node} {x : Added} (i : n ≡ node_by w e) (j : x ≡ adding_node w.table n) where
  node_asked : x ≡ adding_node w.table (node_by w e)
  node_asked = j ∙ ap (adding_node w.table) i

  node_answer : x.number ≡ first (add_node_rows w.table (node_by w e))
  node_answer = ap (λ (y : Added). y.number) node_asked ∙ node_number w.table (node_by w e)

  pub node_refused : ¬ (x.number ≡ 0) → ◌≡◌ {A = Result Walk ℕ} (Err x.number) (node_step w r e)
  node_refused z = refused_step x node_answer z (node_added w r e)

  module _ (z : x.number ≡ 0) where
    node_table : x.table ≡ with_node w.table (node_by w e)
    node_table =
        ap (λ (y : Added). y.table) node_asked ∙ node_taken w.table (node_by w e) (sym (ap (λ (y : Added). y.number) node_asked) ∙ z)

    -- there is a free place
    pub node_free : w.table.node_count < 64
    node_free = leb-false 64 w.table.node_count (no_row (add_node_rows w.table (node_by w e)) refl (sym node_answer ∙ z) 3)

    pub node_step_lem : ◌≡◌ {A = Result Walk ℕ} (Ok (record { table = x.table; seen = set w.seen r (2 + w.table.node_count) })) (node_step w r e)
    node_step_lem = taken_step x node_answer z node_table (set w.seen r (2 + w.table.node_count))

module _ (w : Walk) (e : Entry) {n : Rule} {x : Added} (i : n ≡ rule_by w e) (j : x ≡ adding_rule w.table n) where
  rule_asked : x ≡ adding_rule w.table (rule_by w e)
  rule_asked = j ∙ ap (adding_rule w.table) i

  rule_answer : x.number ≡ first (add_rule_rows w.table (rule_by w e))
  rule_answer = ap (λ (y : Added). y.number) rule_asked ∙ rule_number_lem w.table (rule_by w e)

  pub rule_refused : ¬ (x.number ≡ 0) → ◌≡◌ {A = Result Walk ℕ} (Err x.number) (rule_step w e)
  rule_refused z = refused_step x rule_answer z (rule_added w e)

  pub rule_step_lem : x.number ≡ 0 → ◌≡◌ {A = Result Walk ℕ} (Ok (record { table = x.table; seen = w.seen })) (rule_step w e)
  rule_step_lem z =
      let q : x.table ≡ with_rule w.table (rule_by w e) =
      ap (λ (y : Added). y.table) rule_asked ∙ rule_taken w.table (rule_by w e) (sym (ap (λ (y : Added). y.number) rule_asked) ∙ z) in
      taken_step x rule_answer z q w.seen

-- ---- rows before others: the number is theirs, or where none of them fits that of the others
-- the rows of the record itself, or those of the builder
module _ (n : ℕ) (w : Walk) (r : ℕ) (e : Entry) where
  pub record_refused : (m : Refusal) → number_of m ≡ first (record_rows n w e) → walk_told (Err m) ≡ stepped n w r e
  unfolding walk_fault
  record_refused m k =
      let f : number_of m ≡ walk_fault n w e = k ∙ first_of (record_rows n w e) (builder_rows w e) (λ q. refusal_above m (k ∙ q)) in
      rw (← f, refuses m)

  module _ (k : 0 ≡ first (record_rows n w e)) where
    builder_fault : walk_fault n w e ≡ first (builder_rows w e)
    unfolding walk_fault
    builder_fault = first_rest (record_rows n w e) (builder_rows w e) refl (sym k)

    pub node_tried : {b : Bool} {x : Result Walk ℕ} → b ≡ is_node e.kind → b ≡ true → x ≡ node_step w r e → x ≡ stepped n w r e
    node_tried i h j = let k : is_node e.kind ≡ true = sym i ∙ h in j ∙ rw (builder_fault, k)

    pub rule_tried : {b : Bool} {x : Result Walk ℕ} → b ≡ is_node e.kind → b ≡ false → x ≡ rule_step w e → x ≡ stepped n w r e
    rule_tried i h j = let k : is_node e.kind ≡ false = sym i ∙ h in j ∙ rw (builder_fault, k)
