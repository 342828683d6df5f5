-- The table of an accepted text is sound. Assumes nothing.
use Prim.Native.Nat.{ℕ, ◌≤◌}
use native.Mathlib.Omega.{arith}
use mathlib.Core.Path.{◌≡◌, refl, ap, subst}
use mathlib.Core.Bool.{Bool, true, false}
use mathlib.Core.List.{List}
use lib.Dec.{eqb}
use borrow.Author.Tests.{eqb-true, eqb-false}
use Rattle.lists.specs.Choice.{pick}
use Rattle.table.specs.Sound.{Sound}
use Rattle.table.specs.declared.Table.{Table}
use Rattle.builder.specs.Adding.{Added, adding_node, adding_rule}
use Rattle.builder.specs.Built.{Built, none, node, rule}
use Rattle.builder.proofs.Holding.{rule_taken}
use Rattle.builder.proofs.Sound.{built_sound}
use Rattle.grammar.specs.declared.Made.{Made}
use Rattle.text.specs.Typing.{Typed, node_of, added, grown, rule_of, line_added, typed}
use Rattle.text.specs.Outcome.{Reached, begins, goes_on, Outcome, empty, byte, deep, faulty, whole}
use Rattle.text.proofs.Forms.{Forms, none as no-forms, more, node_form, formula_forms}
use Rattle.text.proofs.Outcomes.{outcome}

-- an answer is built by what went before it, if that was accepted
by_number : (P : Added → Type 0) (a x : Added) → (a.number ≡ 0 → x.number ≡ 0 → P x) → (pick (eqb a.number 0) x a).number ≡ 0 → P (pick (eqb a.number 0) x a)
by_number P a x = go (eqb a.number 0) refl
  where
    go : (b : Bool) → eqb a.number 0 ≡ b → (a.number ≡ 0 → x.number ≡ 0 → P x) → (pick b x a).number ≡ 0 → P (pick b x a)
    go true e f h = f (eqb-true a.number 0 e) h
    go false e f h = absurd (eqb-false a.number 0 e h)

grown_built : {ms : List Made} (base : ℕ) {t : Table} → Forms ms → Built t → (grown base t ms).number ≡ 0 → Built (grown base t ms).table
unfolding grown
grown_built base no-forms b h = b
grown_built base {t} (more {m = m} {ms = ms} f k) b h =
    let n = node_of base t.node_count m in
    by_number (λ a. Built a.table) (adding_node t n) (grown base (adding_node t n).table ms)
    (λ z. grown_built base k (node n b (node_form base t.node_count m f) z)) h

-- built, with a rule
record Ruled (t : Table) : Type 0 where
  built : Built t
  some : 1 ≤ t.rule_count

line_ruled : {ms : List Made} (t : Table) (name : ℕ) → Forms ms → Built t → (line_added t name ms).number ≡ 0 → Ruled (line_added t name ms).table
unfolding line_added
line_ruled {ms} t name f b h =
    let a = grown t.node_count t ms in
    let r = rule_of a.table name in
    by_number (λ x. Ruled x.table) a (adding_rule a.table r) (λ z w.
    record {
      built = rule r (grown_built t.node_count f b z) w;
      some = let c = ap (λ (u : Table). u.rule_count) (rule_taken a.table r w) in omega arith;
    }) h

line_more : {t u : Table} (name : ℕ) {ms : List Made} → Built t → Forms ms → line_added t name ms ≡ added 0 u → Ruled u
line_more {t} name b f e = subst Ruled (ap (λ (a : Added). a.table) e) (line_ruled t name f b (ap (λ (a : Added). a.number) e))

module _ (text : List ℕ) where
  reached_built : {t : Table} {i line : ℕ} {bs : List ℕ} → Reached text t i line bs → Built t
  reached_built begins = none
  reached_built (goes_on {n = n} {f = f} r l c e) = (line_more n (reached_built r) (formula_forms f) e).built

  whole_sound : {t : Table} {i line : ℕ} {bs : List ℕ} → Reached text t i line bs → ¬ (text ≡ bs) → Sound t
  whole_sound begins z = absurd (z refl)
  whole_sound (goes_on {n = n} {f = f} r l c e) z = let k = line_more n (reached_built r) (formula_forms f) e in built_sound k.built k.some

  outcome_sound : {x : Typed} → Outcome text x → x.number ≡ 0 → Sound x.table
  outcome_sound (empty e) z = absurd (omega arith)
  outcome_sound (byte r n f) z = absurd (omega arith)
  outcome_sound (deep r f) z = absurd (omega arith)
  outcome_sound (faulty r l n) z = absurd (n z)
  outcome_sound (whole n r) z = whole_sound r n

-- THE LAW: the table of an accepted text is sound
pub typed_sound : (text : List ℕ) → (typed text).number ≡ 0 → Sound (typed text).table
typed_sound text z = outcome_sound text (outcome text) z
