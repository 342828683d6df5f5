-- The outcome of the laws for a node is Stay exactly where no law of `LawFits` fits it. Assumes nothing.
use Prim.Native.Nat.{ℕ, zero, suc, ◌≤◌, ◌<◌}
use native.Mathlib.Omega.{arith}
use mathlib.Core.Path.{◌≡◌, refl, sym, ap, ◌∙◌}
use mathlib.Core.Bool.{Bool, true, false, ◌&&◌, true≢false}
use mathlib.Core.Logic.{◌⊎◌, inl, inr, ⊎_elim}
use borrow.Author.Tests.{eqb-true, eq-eqb, leb-true, le-leb}
use lib.Dec.{eqb}
use Rattle.lists.proofs.Tests.{and_right, ◌also◌}
use Rattle.table.specs.Nodes.{Op, Unknown, Signal, Top, Bottom, Not, And, Or, Finally, Globally, Until, Release, op_of}
use Rattle.table.specs.declared.Node.{Node}
use Rattle.simplify.specs.Fits.{op, Constant, Now, Inside, Nested, LawFits, not_not, F_now, G_now, U_now, R_now, F_F, G_G, F_and_F, G_or_G, F_or_F, G_and_G, not_constant, and_constant, or_constant, and_same, or_same, F_false, U_false, G_true, R_true}
use Rattle.simplify.specs.Code.Law.{is, over_one, is_inside, law_one, law_two, law_as}
use Rattle.simplify.specs.declared.Outcome.TheVariants.{Stay}
use Rattle.simplify.proofs.Cases.{both, is_false}
use Rattle.simplify.proofs.Staying.{NotFree, OneFree, TwoFree, SideFree, JoinFree, not_free, one_free, two_free, join_free}

-- ---- kinds and their numbers
abbrev number : Op → ℕ
number Unknown = 0
number Signal = 1
number Top = 2
number Bottom = 3
number Not = 4
number And = 5
number Or = 6
number Finally = 7
number Globally = 8
number Until = 9
number Release = 10

numbered : (k : ℕ) → (number (op_of k) ≡ k) ⊎ (op_of k ≡ Unknown)
numbered zero = inl refl
numbered (suc zero) = inl refl
numbered (suc (suc zero)) = inl refl
numbered (suc (suc (suc zero))) = inl refl
numbered (suc (suc (suc (suc zero)))) = inl refl
numbered (suc (suc (suc (suc (suc zero))))) = inl refl
numbered (suc (suc (suc (suc (suc (suc zero)))))) = inl refl
numbered (suc (suc (suc (suc (suc (suc (suc zero))))))) = inl refl
numbered (suc (suc (suc (suc (suc (suc (suc (suc zero)))))))) = inl refl
numbered (suc (suc (suc (suc (suc (suc (suc (suc (suc zero))))))))) = inl refl
numbered (suc (suc (suc (suc (suc (suc (suc (suc (suc (suc zero)))))))))) = inl refl
numbered (suc (suc (suc (suc (suc (suc (suc (suc (suc (suc (suc k))))))))))) = inr refl

is_kind : (n : Node) (o : Op) → 0 < number o → op n ≡ o → is (number o) n ≡ true
is_kind n o h e = eq-eqb n.kind (number o) (⊎_elim
    (λ d. sym d ∙ ap number e)
    (λ d. absurd (omega (arith, ap number (sym d ∙ e))))
    (numbered n.kind))

kind_is : (n : Node) (k : ℕ) → is k n ≡ true → op n ≡ op_of k
kind_is n k h = ap op_of {x = n.kind} {y = k} (eqb-true n.kind k h)

same_kind : (n l : Node) (o : Op) → 0 < number o → op n ≡ o → op l ≡ o → is n.kind l ≡ true
same_kind n l o h a b =
    eq-eqb l.kind n.kind (eqb-true l.kind (number o) (is_kind l o h b) ∙ sym (eqb-true n.kind (number o) (is_kind n o h a)))

is_not : (n : Node) (k : ℕ) → (op n ≡ op_of k → ⊥) → is k n ≡ false
is_not n k h = is_false (is k n) (λ x. h (kind_is n k x))

contra : {b : Bool} → b ≡ true → b ≡ false → ⊥
contra p q = true≢false (sym p ∙ q)

-- ---- nested intervals, as a test
over_in : (o : Op) → 0 < number o → (l r : Node) → op l ≡ o → op r ≡ o → l.left ≡ r.left → over_one (number o) l r ≡ true
over_in o h l r a b e = rw (is_kind l o h a, is_kind r o h b, eq-eqb l.left r.left e)

over_out : (k : ℕ) (l r : Node) → over_one k l r ≡ true → (op l ≡ op_of k) × (op r ≡ op_of k) × (l.left ≡ r.left)
over_out k l r h =
    let a = both (is k l && is k r) (eqb l.left r.left) h in
    let b = both (is k l) (is k r) a.0 in
    (kind_is l k b.0, kind_is r k b.1, eqb-true _ _ a.1)

inside_in : (l r : Node) → Inside l r → is_inside l r ≡ true
inside_in l r w = le-leb r.lo l.lo w.from also le-leb l.hi r.hi w.to

inside_out : (l r : Node) → is_inside l r ≡ true → Inside l r
inside_out l r h = let a = both _ _ h in record { from = leb-true r.lo l.lo a.0; to = leb-true l.hi r.hi a.1 }

flip : {l r : Node} → Nested l r → Nested r l
flip w = record { operand = sym w.operand; intervals = ⊎_elim (λ x. inr x) (λ x. inl x) w.intervals }

-- ---- where a law fits, the outcome is another
no_constant : (n : Node) → Constant n → is 2 n ≡ false → is 3 n ≡ false → ⊥
no_constant n c e f = ⊎_elim (λ x. contra (is_kind n Top (omega arith) x) e) (λ x. contra (is_kind n Bottom (omega arith) x) f) c

module _ {l r : Node} (o : Op) (h : 0 < number o) (a : op l ≡ o) (b : op r ≡ o) (w : Nested l r) where
  over : over_one (number o) l r ≡ true
  over = over_in o h l r a b w.operand

  over_back : over_one (number o) r l ≡ true
  over_back = over_in o h r l b a (sym w.operand)

  inner_moves : {neutral absorbing outer : ℕ} {n : Node} → JoinFree neutral absorbing (number o) outer n l r → ⊥
  inner_moves f = ⊎_elim (λ x. contra (inside_in l r x) (and_right _ _ f.left.not_inner over))
      (λ x. contra (inside_in r l x) (and_right _ _ f.right.not_inner over_back)) w.intervals

  outer_moves : {neutral absorbing inner : ℕ} {n : Node} → JoinFree neutral absorbing inner (number o) n l r → ⊥
  outer_moves f = ⊎_elim (λ x. contra (inside_in l r x) (and_right _ _ f.right.not_outer over_back))
      (λ x. contra (inside_in r l x) (and_right _ _ f.left.not_outer over)) w.intervals

module _ (n l r : Node) where
  one : {o : Op} (fixed : ℕ) → ((m l r : Node) → law_as m l r o ≡ law_one fixed m l) → op n ≡ o → law_as n l r (op n) ≡ Stay → OneFree fixed n l
  one fixed d a e = (one_free fixed n l).0 (sym (d n l r) ∙ (rw a at e))

  two : {o : Op} (fixed : ℕ) → ((m l r : Node) → law_as m l r o ≡ law_two fixed m r) → op n ≡ o → law_as n l r (op n) ≡ Stay → TwoFree fixed n r
  two fixed d a e = (two_free fixed n r).0 (sym (d n l r) ∙ (rw a at e))

  negated : op n ≡ Not → law_as n l r (op n) ≡ Stay → NotFree l
  negated a e = (not_free l).0 (rw a at e)

  both_of : op n ≡ And → law_as n l r (op n) ≡ Stay → JoinFree 2 3 7 8 n l r
  both_of a e = (join_free 2 3 7 8 n l r).0 (rw a at e)

  either_of : op n ≡ Or → law_as n l r (op n) ≡ Stay → JoinFree 3 2 8 7 n l r
  either_of a e = (join_free 3 2 8 7 n l r).0 (rw a at e)

  pub moves : LawFits n l r → law_as n l r (op n) ≡ Stay → ⊥
  moves (not_not a b) e = contra (is_kind l Not (omega arith) b) (negated a e).not_not
  moves (F_now a w) e = (one _ (λ m l r. refl) a e).later w.hi
  moves (G_now a w) e = (one _ (λ m l r. refl) a e).later w.hi
  moves (U_now a w) e = (two 3 (λ m l r. refl) a e).later w.hi
  moves (R_now a w) e = (two 2 (λ m l r. refl) a e).later w.hi
  moves (F_F a b) e = contra (same_kind n l Finally (omega arith) a b) (one _ (λ m l r. refl) a e).another
  moves (G_G a b) e = contra (same_kind n l Globally (omega arith) a b) (one _ (λ m l r. refl) a e).another
  moves (F_and_F a b c w) e = inner_moves Finally (omega arith) b c w (both_of a e)
  moves (G_or_G a b c w) e = inner_moves Globally (omega arith) b c w (either_of a e)
  moves (F_or_F a b c w) e = outer_moves Finally (omega arith) b c w (either_of a e)
  moves (G_and_G a b c w) e = outer_moves Globally (omega arith) b c w (both_of a e)
  moves (not_constant a c) e = let f = negated a e in no_constant l c f.not_true f.not_false
  moves (and_constant a s) e =
      let f = both_of a e in
      ⊎_elim (λ c. no_constant l c f.right.not_neutral f.left.not_absorbing)
      (λ c. no_constant r c f.left.not_neutral f.right.not_absorbing) s
  moves (or_constant a s) e =
      let f = either_of a e in
      ⊎_elim (λ c. no_constant l c f.left.not_absorbing f.right.not_neutral)
      (λ c. no_constant r c f.right.not_absorbing f.left.not_neutral) s
  moves (and_same a b) e = (both_of a e).two_nodes b
  moves (or_same a b) e = (either_of a e).two_nodes b
  moves (F_false a b) e = contra (is_kind l Bottom (omega arith) b) (one 3 (λ m l r. refl) a e).not_fixed
  moves (U_false a b) e = contra (is_kind r Bottom (omega arith) b) (two 3 (λ m l r. refl) a e).not_fixed
  moves (G_true a b) e = contra (is_kind l Top (omega arith) b) (one 2 (λ m l r. refl) a e).not_fixed
  moves (R_true a b) e = contra (is_kind r Top (omega arith) b) (two 2 (λ m l r. refl) a e).not_fixed

-- ---- where no law fits, the outcome is Stay
side_rests : (neutral absorbing inner outer : ℕ) (l r : Node) → (op r ≡ op_of neutral → ⊥) → (op l ≡ op_of absorbing → ⊥)
    → (op l ≡ op_of inner → op r ≡ op_of inner → Nested l r → ⊥) → (op l ≡ op_of outer → op r ≡ op_of outer → Nested l r → ⊥)
    → SideFree neutral absorbing inner outer l r
side_rests neutral absorbing inner outer l r f g i o = record {
  not_neutral = is_not r neutral f;
  not_absorbing = is_not l absorbing g;
  not_inner = is_false _ λ x.
      let a = both (over_one inner l r) (is_inside l r) x in
      let b = over_out inner l r a.0 in
      i b.0 b.1 (record { operand = b.2; intervals = inl (inside_out l r a.1) });
  not_outer = is_false _ λ x.
      let a = both (over_one outer l r) (is_inside r l) x in
      let b = over_out outer l r a.0 in
      o b.0 b.1 (record { operand = b.2; intervals = inr (inside_out r l a.1) });
}

module _ (n l r : Node) (none : LawFits n l r → ⊥) (p : n.lo ≤ n.hi) where
  now : n.hi ≡ 0 → Now n
  now z = record { lo = omega arith; hi = z }

  one_rests : (fixed : ℕ) → (Now n → ⊥) → (op l ≡ op_of fixed → ⊥) → (op l ≡ op n → ⊥) → law_one fixed n l ≡ Stay
  one_rests fixed f g h =
      (one_free fixed n l).1 (record { later = λ z. f (now z); not_fixed = is_not l fixed g; another = is_not l n.kind h })

  two_rests : (fixed : ℕ) → (Now n → ⊥) → (op r ≡ op_of fixed → ⊥) → law_two fixed n r ≡ Stay
  two_rests fixed f g = (two_free fixed n r).1 (record { later = λ z. f (now z); not_fixed = is_not r fixed g })

  rests_as : (o : Op) → op n ≡ o → law_as n l r o ≡ Stay
  rests_as Unknown e = refl
  rests_as Signal e = refl
  rests_as Top e = refl
  rests_as Bottom e = refl
  rests_as Not e = (not_free l).1 (record {
    not_not = is_not l 4 (λ a. none (not_not e a));
    not_true = is_not l 2 (λ a. none (not_constant e (inl a)));
    not_false = is_not l 3 (λ a. none (not_constant e (inr a)));
  })
  rests_as And e = (join_free 2 3 7 8 n l r).1 (record {
    two_nodes = λ x. none (and_same e x);
    left = side_rests 2 3 7 8 l r (λ a. none (and_constant e (inr (inl a)))) (λ a. none (and_constant e (inl (inr a))))
        (λ a b w. none (F_and_F e a b w)) (λ a b w. none (G_and_G e a b w));
    right = side_rests 2 3 7 8 r l (λ a. none (and_constant e (inl (inl a)))) (λ a. none (and_constant e (inr (inr a))))
        (λ a b w. none (F_and_F e b a (flip w))) (λ a b w. none (G_and_G e b a (flip w)));
  })
  rests_as Or e = (join_free 3 2 8 7 n l r).1 (record {
    two_nodes = λ x. none (or_same e x);
    left = side_rests 3 2 8 7 l r (λ a. none (or_constant e (inr (inr a)))) (λ a. none (or_constant e (inl (inl a))))
        (λ a b w. none (G_or_G e a b w)) (λ a b w. none (F_or_F e a b w));
    right = side_rests 3 2 8 7 r l (λ a. none (or_constant e (inl (inr a)))) (λ a. none (or_constant e (inr (inl a))))
        (λ a b w. none (G_or_G e b a (flip w))) (λ a b w. none (F_or_F e b a (flip w)));
  })
  rests_as Finally e = one_rests 3 (λ w. none (F_now e w)) (λ a. none (F_false e a)) (λ a. none (F_F e (a ∙ e)))
  rests_as Globally e = one_rests 2 (λ w. none (G_now e w)) (λ a. none (G_true e a)) (λ a. none (G_G e (a ∙ e)))
  rests_as Until e = two_rests 3 (λ w. none (U_now e w)) (λ a. none (U_false e a))
  rests_as Release e = two_rests 2 (λ w. none (R_now e w)) (λ a. none (R_true e a))

  pub rests : law_as n l r (op n) ≡ Stay
  rests = rests_as (op n) refl
