-- A formula that says the same with no longer delay, and what the operators make of such formulas. Assumes nothing.
use Prim.Native.Nat.{ℕ, ◌≤◌}
use native.Mathlib.Omega.{arith}
use mathlib.Core.Path.{◌≡◌, refl, ap, ap₂}
use mathlib.Core.Bool.{true}
use Rattle.mltl.specs.Mltl.{Formula, neg, and, or, F, G, U, R, delay_by, delay}
use Rattle.mltl.proofs.Delays.{until_no_longer}
use Rattle.mltl.proofs.Laws.{Same, stay, ◌then◌, neg_cong, and_cong, or_cong, F_cong, G_cong, U_cong, R_cong}
use Rattle.table.specs.Nodes.{Op, Unknown, Signal, Top, Bottom, Not, And, Or, Finally, Globally, Until, Release, uses_of, formula_as}
use Rattle.table.specs.declared.Node.{Node}

pub record Better (f g : Formula) : Type 0 where
  pub same : Same f g
  pub short : delay g ≤ delay f

pub better_stay : {f : Formula} → Better f f
better_stay = record { same = stay; short = omega arith }

pub better_then : {f g h : Formula} → Better f g → Better g h → Better f h
better_then p q = record { same = p.same then q.same; short = omega arith }

-- a relation that every operator keeps
record Congruence (Rel : Formula → Formula → Type 0) : Type 0 where
  stays : (a : Formula) → Rel a a
  of_neg : {a c : Formula} → Rel a c → Rel (neg a) (neg c)
  of_and : {a b c d : Formula} → Rel a c → Rel b d → Rel (and a b) (and c d)
  of_or : {a b c d : Formula} → Rel a c → Rel b d → Rel (or a b) (or c d)
  of_F : {a c : Formula} (lo hi : ℕ) → Rel a c → Rel (F lo hi a) (F lo hi c)
  of_G : {a c : Formula} (lo hi : ℕ) → Rel a c → Rel (G lo hi a) (G lo hi c)
  of_U : {a b c d : Formula} (lo hi : ℕ) → Rel a c → Rel b d → Rel (U lo hi a b) (U lo hi c d)
  of_R : {a b c d : Formula} (lo hi : ℕ) → Rel a c → Rel b d → Rel (R lo hi a b) (R lo hi c d)

equality : Congruence ◌≡◌
equality = record {
  stays = λ a. refl;
  of_neg = ap neg;
  of_and = ap₂ and;
  of_or = ap₂ or;
  of_F = λ lo hi. ap (F lo hi);
  of_G = λ lo hi. ap (G lo hi);
  of_U = λ lo hi. ap₂ (U lo hi);
  of_R = λ lo hi. ap₂ (R lo hi);
}

betterment : Congruence Better
unfolding delay_by
betterment = record {
  stays = λ a. better_stay;
  of_neg = λ e. record { same = neg_cong e.same; short = e.short };
  of_and = λ e f. record { same = and_cong e.same f.same; short = omega arith };
  of_or = λ e f. record { same = or_cong e.same f.same; short = omega arith };
  of_F = λ lo hi e. record { same = F_cong e.same; short = omega arith };
  of_G = λ lo hi e. record { same = G_cong e.same; short = omega arith };
  of_U = λ lo hi e f. record { same = U_cong e.same f.same; short = until_no_longer lo hi _ _ _ _ e.short f.short };
  of_R = λ lo hi e f. record { same = R_cong e.same f.same; short = until_no_longer lo hi _ _ _ _ e.short f.short };
}

-- a node's formula depends on the operands that its kind uses, and not on their places
abbrev pub over_places : Node → ℕ → ℕ → Node
over_places x i j = record { kind = x.kind; arg = x.arg; lo = x.lo; hi = x.hi; left = i; right = j }

module _ (Rel : Formula → Formula → Type 0) (k : Congruence Rel) (x : Node) (i j : ℕ) where
  related : (o : Op) (a b c d : Formula) → ((uses_of o).left ≡ true → Rel a c) → ((uses_of o).right ≡ true → Rel b d)
      → Rel (formula_as o x a b) (formula_as o (over_places x i j) c d)
  related Unknown a b c d e f = k.stays _
  related Signal a b c d e f = k.stays _
  related Top a b c d e f = k.stays _
  related Bottom a b c d e f = k.stays _
  related Not a b c d e f = k.of_neg (e refl)
  related And a b c d e f = k.of_and (e refl) (f refl)
  related Or a b c d e f = k.of_or (e refl) (f refl)
  related Finally a b c d e f = k.of_F _ _ (e refl)
  related Globally a b c d e f = k.of_G _ _ (e refl)
  related Until a b c d e f = k.of_U _ _ (e refl) (f refl)
  related Release a b c d e f = k.of_R _ _ (e refl) (f refl)

module _ (x : Node) (i j : ℕ) (o : Op) (a b c d : Formula) where
  pub formula_agrees : ((uses_of o).left ≡ true → a ≡ c) → ((uses_of o).right ≡ true → b ≡ d) → formula_as o x a b ≡ formula_as o (over_places x i j) c d
  formula_agrees = related ◌≡◌ equality x i j o a b c d

  pub formula_better : ((uses_of o).left ≡ true → Better a c) → ((uses_of o).right ≡ true → Better b d)
      → Better (formula_as o x a b) (formula_as o (over_places x i j) c d)
  formula_better = related Better betterment x i j o a b c d
