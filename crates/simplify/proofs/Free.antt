-- Under new places that tell operands apart no law fits that did not fit before. Assumes nothing.
use Prim.Native.Nat.{ℕ}
use mathlib.Core.Path.{◌≡◌, refl}
use mathlib.Core.Bool.{Bool, true, false, ◌&&◌}
use mathlib.Core.List.{List}
use lib.ListN.{get_or}
use lib.Dec.{eqb}
use borrow.Author.Tests.{eqb-true, eq-eqb}
use Rattle.table.specs.Nodes.{Op, Unknown, Signal, Top, Bottom, Not, And, Or, Finally, Globally, Until, Release, op_of, uses_of}
use Rattle.table.specs.declared.Node.{Node}
use Rattle.simplify.specs.Code.Law.{is, over_one, law_not, law_one, law_two, law_join, law_as}
use Rattle.simplify.specs.Code.Passes.{renamed}
use Rattle.simplify.specs.declared.Outcome.TheVariants.{Stay}
use Rattle.simplify.proofs.Cases.{both}
use Rattle.simplify.proofs.Staying.{SideFree, not_free, one_free, two_free, join_free}

apart_still : (x e f n : Bool) → (x ≡ true → f ≡ true → e ≡ true) → ((x && e) && n) ≡ false → ((x && f) && n) ≡ false
apart_still true e true n h k = rw (h refl refl) at k
apart_still true e false n h k = refl
apart_still false e f n h k = refl

module _ (ps : List ℕ) where
  abbrev h : ℕ → ℕ
  h i = get_or ps i 0

  -- the operands of two nodes of one kind are told apart
  abbrev pub Tells : Node → Node → Type 0
  Tells l r = (k : ℕ) → (uses_of (op_of k)).left ≡ true → is k l ≡ true → is k r ≡ true → h l.left ≡ h r.left → l.left ≡ r.left

  over_still : (l r : Node) (k : ℕ) (inside : Bool) → (uses_of (op_of k)).left ≡ true → Tells l r
      → (over_one k l r && inside) ≡ false → (over_one k (renamed ps l) (renamed ps r) && inside) ≡ false
  over_still l r k inside u t e =
      apart_still (is k l && is k r) (eqb l.left r.left) (eqb (h l.left) (h r.left)) inside
      (λ x d. let y = both (is k l) (is k r) x in eq-eqb _ _ (t k u y.0 y.1 (eqb-true _ _ d))) e

  module _ (neutral absorbing inner outer : ℕ) (u : (uses_of (op_of inner)).left ≡ true) (v : (uses_of (op_of outer)).left ≡ true) where
    side_still : (l r : Node) → Tells l r → SideFree neutral absorbing inner outer l r
        → SideFree neutral absorbing inner outer (renamed ps l) (renamed ps r)
    side_still l r t f = record {
      not_neutral = f.not_neutral;
      not_absorbing = f.not_absorbing;
      not_inner = over_still l r inner _ u t f.not_inner;
      not_outer = over_still l r outer _ v t f.not_outer;
    }

    join_still : (n l r : Node) → Tells l r → Tells r l → (h n.left ≡ h n.right → n.left ≡ n.right)
        → law_join neutral absorbing inner outer n l r ≡ Stay → law_join neutral absorbing inner outer (renamed ps n) (renamed ps l) (renamed ps r) ≡ Stay
    join_still n l r t s d e =
        let f = (join_free neutral absorbing inner outer n l r).0 e in
        (join_free neutral absorbing inner outer (renamed ps n) (renamed ps l) (renamed ps r)).1
        (record { two_nodes = λ x. f.two_nodes (d x); left = side_still l r t f.left; right = side_still r l s f.right })

  not_still : (l : Node) → law_not l ≡ Stay → law_not (renamed ps l) ≡ Stay
  not_still l e =
      let f = (not_free l).0 e in
      (not_free (renamed ps l)).1 (record { not_not = f.not_not; not_true = f.not_true; not_false = f.not_false })

  one_still : (n l : Node) (fixed : ℕ) → law_one fixed n l ≡ Stay → law_one fixed (renamed ps n) (renamed ps l) ≡ Stay
  one_still n l fixed e =
      let f = (one_free fixed n l).0 e in
      (one_free fixed (renamed ps n) (renamed ps l)).1 (record { later = f.later; not_fixed = f.not_fixed; another = f.another })

  two_still : (n r : Node) (fixed : ℕ) → law_two fixed n r ≡ Stay → law_two fixed (renamed ps n) (renamed ps r) ≡ Stay
  two_still n r fixed e =
      let f = (two_free fixed n r).0 e in
      (two_free fixed (renamed ps n) (renamed ps r)).1 (record { later = f.later; not_fixed = f.not_fixed })

  pub record Told (n l r : Node) : Type 0 where
    pub left : Tells l r
    pub right : Tells r l
    pub operands : h n.left ≡ h n.right → n.left ≡ n.right

  pub still : (n l r : Node) (o : Op) → ((uses_of o).left ≡ true → (uses_of o).right ≡ true → Told n l r)
      → law_as n l r o ≡ Stay → law_as (renamed ps n) (renamed ps l) (renamed ps r) o ≡ Stay
  still n l r Unknown t e = refl
  still n l r Signal t e = refl
  still n l r Top t e = refl
  still n l r Bottom t e = refl
  still n l r Not t e = not_still l e
  still n l r And t e = let d = t refl refl in join_still 2 3 7 8 refl refl n l r d.left d.right d.operands e
  still n l r Or t e = let d = t refl refl in join_still 3 2 8 7 refl refl n l r d.left d.right d.operands e
  still n l r Finally t e = one_still n l _ e
  still n l r Globally t e = one_still n l _ e
  still n l r Until t e = two_still n r 3 e
  still n l r Release t e = two_still n r 2 e
