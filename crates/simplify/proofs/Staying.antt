-- What it says of a node and its operands that the outcome of the laws is Stay. Assumes nothing.
use Prim.Native.Nat.{ℕ}
use native.Mathlib.Omega.{arith}
use mathlib.Core.Path.{◌≡◌, refl}
use mathlib.Core.Bool.{Bool, false, true, ◌&&◌, ◌||◌}
use mathlib.Core.Logic.{◌↔◌}
use lib.Dec.{eqb}
use borrow.Author.Tests.{eqb-false, ne_eqb}
use Rattle.lists.specs.Choice.{pick}
use Rattle.table.specs.declared.Node.{Node}
use Rattle.simplify.specs.Code.Law.{is, constant, merged, over_one, is_inside, left_stays, law_not, law_one, law_two, law_join}
use Rattle.simplify.specs.declared.Outcome.{Outcome}
use Rattle.simplify.specs.declared.Outcome.TheVariants.{Stay, At, Put}
use Rattle.simplify.proofs.Cases.{neither}

not_at : (b : Bool) (p : ℕ) (v : Outcome) → pick b (At p) v ≡ Stay → (b ≡ false) × (v ≡ Stay)
not_at true p v h = let z : ◌≡◌ {A = ℕ} 0 1 = cc in absurd (omega arith)
not_at false p v h = (refl, h)

not_put : (b : Bool) (m : Node) (v : Outcome) → pick b (Put m) v ≡ Stay → (b ≡ false) × (v ≡ Stay)
not_put true m v h = let z : ◌≡◌ {A = ℕ} 0 1 = cc in absurd (omega arith)
not_put false m v h = (refl, h)

-- not
pub record NotFree (l : Node) : Type 0 where
  pub not_not : is 4 l ≡ false
  pub not_true : is 2 l ≡ false
  pub not_false : is 3 l ≡ false

pub not_free : (l : Node) → (law_not l ≡ Stay) ↔ NotFree l
not_free l = (
  λ e.
      let a = not_at (is 4 l) l.left (pick (is 2 l) (Put (constant 3)) (pick (is 3 l) (Put (constant 2)) Stay)) e in
      let b = not_put (is 2 l) (constant 3) (pick (is 3 l) (Put (constant 2)) Stay) a.1 in
      record { not_not = a.0; not_true = b.0; not_false = (not_put (is 3 l) (constant 2) Stay b.1).0 },
  λ f. rw (f.not_not, f.not_true, f.not_false),
)

-- F, and G
pub record OneFree (fixed : ℕ) (n l : Node) : Type 0 where
  pub later : n.hi ≡ 0 → ⊥
  pub not_fixed : is fixed l ≡ false
  pub another : is n.kind l ≡ false

pub one_free : (fixed : ℕ) (n l : Node) → (law_one fixed n l ≡ Stay) ↔ OneFree fixed n l
one_free fixed n l = (
  λ e.
      let a = not_at (eqb n.hi 0 || is fixed l) n.left (pick (is n.kind l) (Put (merged n l)) Stay) e in
      let c = neither (eqb n.hi 0) (is fixed l) a.0 in
      record { later = eqb-false n.hi 0 c.0; not_fixed = c.1; another = (not_put (is n.kind l) (merged n l) Stay a.1).0 },
  λ f. rw (ne_eqb n.hi 0 f.later, f.not_fixed, f.another),
)

-- U, and R
pub record TwoFree (fixed : ℕ) (n r : Node) : Type 0 where
  pub later : n.hi ≡ 0 → ⊥
  pub not_fixed : is fixed r ≡ false

pub two_free : (fixed : ℕ) (n r : Node) → (law_two fixed n r ≡ Stay) ↔ TwoFree fixed n r
two_free fixed n r = (
  λ e.
      let c = neither (eqb n.hi 0) (is fixed r) (not_at (eqb n.hi 0 || is fixed r) n.right Stay e).0 in
      record { later = eqb-false n.hi 0 c.0; not_fixed = c.1 },
  λ f. rw (ne_eqb n.hi 0 f.later, f.not_fixed),
)

-- and, and or: the operand l does not have the value of both
pub record SideFree (neutral absorbing inner outer : ℕ) (l r : Node) : Type 0 where
  pub not_neutral : is neutral r ≡ false
  pub not_absorbing : is absorbing l ≡ false
  pub not_inner : (over_one inner l r && is_inside l r) ≡ false
  pub not_outer : (over_one outer l r && is_inside r l) ≡ false

pub record JoinFree (neutral absorbing inner outer : ℕ) (n l r : Node) : Type 0 where
  pub two_nodes : n.left ≡ n.right → ⊥
  pub left : SideFree neutral absorbing inner outer l r
  pub right : SideFree neutral absorbing inner outer r l

module _ (neutral absorbing inner outer : ℕ) where
  side_free : (l r : Node) → (left_stays neutral absorbing inner outer l r ≡ false) ↔ SideFree neutral absorbing inner outer l r
  side_free l r = (
    λ e.
        let a = neither (is neutral r || is absorbing l || (over_one inner l r && is_inside l r)) (over_one outer l r && is_inside r l) e in
        let b = neither (is neutral r || is absorbing l) (over_one inner l r && is_inside l r) a.0 in
        let c = neither (is neutral r) (is absorbing l) b.0 in
        record { not_neutral = c.0; not_absorbing = c.1; not_inner = b.1; not_outer = a.1 },
    λ f. rw (f.not_neutral, f.not_absorbing, f.not_inner, f.not_outer),
  )

  pub join_free : (n l r : Node) → (law_join neutral absorbing inner outer n l r ≡ Stay) ↔ JoinFree neutral absorbing inner outer n l r
  join_free n l r = (
    λ e.
        let ls = left_stays neutral absorbing inner outer l r in
        let rs = left_stays neutral absorbing inner outer r l in
        let a = not_at (eqb n.left n.right || ls) n.left (pick rs (At n.right) Stay) e in
        let c = neither (eqb n.left n.right) ls a.0 in
        record {
          two_nodes = eqb-false n.left n.right c.0;
          left = (side_free l r).0 c.1;
          right = (side_free r l).0 (not_at rs n.right Stay a.1).0;
        },
    λ f. rw (ne_eqb n.left n.right f.two_nodes, (side_free l r).1 f.left, (side_free r l).1 f.right),
  )
