-- The fields of a node that keeps the limits at its place. Assumes nothing.
use Prim.Native.Nat.{ℕ, ◌≤◌, ◌<◌}
use native.Mathlib.Omega.{arith}
use mathlib.Core.Path.{◌≡◌, refl, ap, ap₂, ◌∙◌}
use mathlib.Core.Bool.{Bool, true, false, false≢true, true≢false}
use mathlib.Core.List.{List}
use lib.ListN.{get_or}
use Rattle.table.specs.Nodes.{Op, Unknown, Signal, Top, Bottom, Not, And, Or, Finally, Globally, Until, Release, uses_of}
use Rattle.table.specs.Sound.{Field, NodeFits}
use Rattle.table.specs.declared.Node.{Node}
use Rattle.table.specs.declared.Uses.{Uses}
use Rattle.table.proofs.Soundness.{field_below}
use Rattle.simplify.specs.Fits.{op}
use Rattle.simplify.specs.Code.Law.{constant, law_not, law_one, law_two, law_join, law_as}
use Rattle.simplify.specs.Code.Passes.{renamed}
use Rattle.simplify.proofs.Better.{over_places}

-- ---- one field
pub unused_field : {limit value : ℕ} → value ≡ 0 → Field false limit value
unused_field e = record { limited = λ u. absurd (false≢true u); unused = λ _. e }

pub used_field : {limit value : ℕ} → value < limit → Field true limit value
used_field h = record { limited = λ _. h; unused = λ u. absurd (true≢false u) }

pub field_as : {a b : Bool} {limit value : ℕ} → a ≡ b → Field b limit value → Field a limit value
field_as e f = rw e f

-- ---- a node
module _ (p : ℕ) (n : Node) (w : NodeFits p n) where
  pub left_before : {o : Op} → op n ≡ o → (uses_of o).left ≡ true → n.left < p
  left_before e u = w.left.limited (ap (λ o. (uses_of o).left) e ∙ u)

  pub right_before : {o : Op} → op n ≡ o → (uses_of o).right ≡ true → n.right < p
  right_before e u = w.right.limited (ap (λ o. (uses_of o).right) e ∙ u)

  pub hi_limit : n.hi < 4096
  hi_limit = field_below 4096 w.interval (omega arith) (omega arith)

-- true, and false
pub constant_fits : (p k : ℕ) → 1 ≤ k → k ≤ 10 → uses_of (op (constant k)) ≡ uses_of Top → NodeFits p (constant k)
constant_fits p k a b e = record {
  known = a;
  node = b;
  arg = field_as (ap (λ (u : Uses). u.arg) e) (unused_field refl);
  ordered = omega arith;
  interval = field_as (ap (λ (u : Uses). u.interval) e) (unused_field refl);
  left = field_as (ap (λ (u : Uses). u.left) e) (unused_field refl);
  right = field_as (ap (λ (u : Uses). u.right) e) (unused_field refl);
}

-- ---- what the laws make of a node depends on the operands that its kind uses
pub law_agrees : (x : Node) (o : Op) (l r m s : Node) → ((uses_of o).left ≡ true → l ≡ m) → ((uses_of o).right ≡ true → r ≡ s) → law_as x l r o ≡ law_as x m s o
law_agrees x Unknown l r m s e f = refl
law_agrees x Signal l r m s e f = refl
law_agrees x Top l r m s e f = refl
law_agrees x Bottom l r m s e f = refl
law_agrees x Not l r m s e f = ap law_not (e refl)
law_agrees x And l r m s e f = ap₂ (law_join 2 3 7 8 x) (e refl) (f refl)
law_agrees x Or l r m s e f = ap₂ (law_join 3 2 8 7 x) (e refl) (f refl)
law_agrees x Finally l r m s e f = ap (law_one _ x) (e refl)
law_agrees x Globally l r m s e f = ap (law_one _ x) (e refl)
law_agrees x Until l r m s e f = ap (law_two 3 x) (f refl)
law_agrees x Release l r m s e f = ap (law_two 2 x) (f refl)

-- ---- under new places for the operands
module _ (ps : List ℕ) (first : get_or ps 0 0 ≡ 0) where
  moved_field : {p q i : ℕ} {used : Bool} → Field used p i → (used ≡ true → i < p → get_or ps i 0 < q) → Field used q (get_or ps i 0)
  moved_field f h = record { limited = λ u. h u (f.limited u); unused = λ u. rw (f.unused u) first }

  pub renamed_fits : (p q : ℕ) (x : Node) → ((uses_of (op x)).left ≡ true → x.left < p → get_or ps x.left 0 < q)
      → ((uses_of (op x)).right ≡ true → x.right < p → get_or ps x.right 0 < q) → NodeFits p x → NodeFits q (renamed ps x)
  renamed_fits p q x a b w = record {
    known = w.known;
    node = w.node;
    arg = w.arg;
    ordered = w.ordered;
    interval = w.interval;
    left = moved_field w.left a;
    right = moved_field w.right b;
  }

-- two ways to place operands that agree before p agree on a node at p
module _ (f g : ℕ → ℕ) (first : f 0 ≡ g 0) (p : ℕ) (each : (i : ℕ) → i < p → f i ≡ g i) where
  same_field : {i : ℕ} {used : Bool} → Field used p i → f i ≡ g i
  same_field {used = true} k = each _ (k.limited refl)
  same_field {used = false} k = rw (k.unused refl) first

  pub places_agree : (x : Node) → NodeFits p x → over_places x (f x.left) (f x.right) ≡ over_places x (g x.left) (g x.right)
  places_agree x w = ap₂ (over_places x) (same_field w.left) (same_field w.right)
