-- What a node uses. Assumes nothing.
use Prim.Native.Nat.{◌<◌, ℕ}
use mathlib.Core.Path.{◌≡◌}
use mathlib.Core.Bool.{◌&&◌, true}
use mathlib.Core.Logic.{◌⊎◌, inl, inr, ⊎_elim}
use mathlib.Core.List.{List}
use borrow.Author.Tests.{eqb-true}
use lib.Dec.{eqb}
use lib.ListN.{get_or}
use Rattle.lists.proofs.Tests.{or_split}
use Rattle.table.specs.declared.Node.{Node}
use Rattle.table.specs.Nodes.{op_of, uses_of}
use Rattle.table.specs.Sound.{NodeFits}
use Rattle.needed.proofs.Marked.{used_left, used_right}
use Rattle.needed.specs.Marks.{has_operand}
use Rattle.simplify.specs.Fits.{}
use Rattle.simplify.specs.Code.Passes.{renamed}
use Rattle.simplify.proofs.Cases.{both}

module _ (n : Node) where
  used_by : (j : ℕ) → has_operand n j ≡ true
      → (((uses_of (op_of n.kind)).left ≡ true) × (n.left ≡ j)) ⊎ (((uses_of (op_of n.kind)).right ≡ true) × (n.right ≡ j))
  used_by j h = ⊎_elim
      (λ x. let y = both (uses_of (op_of n.kind)).left (eqb n.left j) x in inl (y.0, eqb-true n.left j y.1))
      (λ x. let y = both (uses_of (op_of n.kind)).right (eqb n.right j) x in inr (y.0, eqb-true n.right j y.1))
      (or_split ((uses_of (op_of n.kind)).left && eqb n.left j) ((uses_of (op_of n.kind)).right && eqb n.right j) h)

  pub used_before_lem : (p j : ℕ) → NodeFits p n → has_operand n j ≡ true → j < p
  used_before_lem p j w h =
      ⊎_elim (λ x. rw x.1 at (w.left.limited x.0)) (λ x. rw x.1 at (w.right.limited x.0)) (used_by j h)

pub used_renamed : (ps : List ℕ) (n : Node) (j : ℕ) → has_operand n j ≡ true → has_operand (renamed ps n) (get_or ps j 0) ≡ true
used_renamed ps n j h = ⊎_elim
    (λ x. rw (← x.1) (used_left (renamed ps n) x.0))
    (λ x. rw (← x.1) (used_right (renamed ps n) x.0))
    (used_by n j h)
