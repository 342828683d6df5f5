-- The outcome of the laws for a node says what the node says, with no longer delay. Assumes nothing.
use Prim.Native.Nat.{ℕ, ◌+◌, ◌≤◌}
use native.Mathlib.Omega.{arith}
use mathlib.Core.Path.{◌≡◌, refl, sym, ap, ◌∙◌}
use mathlib.Core.Bool.{true, false, ◌||◌}
use mathlib.Core.Logic.{⊎_elim}
use mathlib.Core.List.{List}
use lib.ListN.{get_or}
use lib.Dec.{eqb}
use borrow.Author.Tests.{eqb-true, leb-true}
use Rattle.lists.proofs.Tests.{or_split}
use Rattle.mltl.specs.Mltl.{Formula, const, neg, and, or, F, G, U, R, delay_by, delay}
use Rattle.mltl.proofs.Delays.{until_right}
use Rattle.mltl.proofs.Laws.{Same, ◌then◌, not_not, not_const, F_now, G_now, U_now, R_now, F_F, G_G, F_and, F_or, G_and, G_or, F_false, G_true, U_false, R_true, and_true, and_false, and_self, and_comm, or_true, or_false, or_self, or_comm}
use Rattle.table.specs.Nodes.{Op, Unknown, Signal, Top, Bottom, Not, And, Or, Finally, Globally, Until, Release, op_of, formula_as, formula_over}
use Rattle.table.specs.declared.Node.{Node}
use Rattle.simplify.specs.Fits.{op}
use Rattle.simplify.specs.Code.Law.{is, over_one, left_stays, law_not, law_one, law_two, law_join, law_as}
use Rattle.simplify.specs.declared.Outcome.{Outcome}
use Rattle.simplify.specs.declared.Outcome.TheVariants.{Stay, At, Put}
use Rattle.simplify.proofs.Cases.{by_test, both}
use Rattle.simplify.proofs.Better.{Better, better_stay}

abbrev pub formula_in : List Formula → ℕ → Formula
formula_in fs i = get_or fs i (const false)

-- the formula that an outcome leaves of the formula f
abbrev pub value : List Formula → Formula → Outcome → Formula
value fs f Stay = f
value fs f (At p) = formula_in fs p
value fs f (Put m) = formula_over fs m

-- a node of kind k
is_as : (fs : List Formula) (k : ℕ) (m : Node) → is k m ≡ true → formula_over fs m ≡ formula_as (op_of k) m (formula_in fs m.left) (formula_in fs m.right)
is_as fs k m h = ap (λ j. formula_as (op_of j) m (formula_in fs m.left) (formula_in fs m.right)) (eqb-true m.kind k h)

-- the laws of F, and of G
record Unary (o : Op) (fixed : ℕ) (T : ℕ → ℕ → Formula → Formula) : Type 0 where
  is_T : (m : Node) (x y : Formula) → formula_as o m x y ≡ T m.lo m.hi x
  T_delay : (lo hi : ℕ) (x : Formula) → delay (T lo hi x) ≡ hi + delay x
  T_now : (x : Formula) → Same (T 0 0 x) x
  T_fixed : (lo hi : ℕ) (m : Node) (x y : Formula) → Same (T lo hi (formula_as (op_of fixed) m x y)) (formula_as (op_of fixed) m x y)
  T_T : (x : Formula) (lo hi c d : ℕ) → lo ≤ hi → c ≤ d → Same (T lo hi (T c d x)) (T (lo + c) (hi + d) x)

unary_F : Unary Finally 3 F
unfolding delay_by
unary_F = record {
  is_T = λ m x y. refl;
  T_delay = λ lo hi x. refl;
  T_now = λ x. F_now;
  T_fixed = λ lo hi m x y. F_false;
  T_T = λ x lo hi c d u v. F_F lo hi c d u v;
}

unary_G : Unary Globally 2 G
unfolding delay_by
unary_G = record {
  is_T = λ m x y. refl;
  T_delay = λ lo hi x. refl;
  T_now = λ x. G_now;
  T_fixed = λ lo hi m x y. G_true;
  T_T = λ x lo hi c d u v. G_G lo hi c d u v;
}

-- the laws of U, and of R
record Binary (fixed : ℕ) (T : ℕ → ℕ → Formula → Formula → Formula) : Type 0 where
  T_delay : (lo hi : ℕ) (x y : Formula) → delay y ≤ delay (T lo hi x y)
  T_now : (x y : Formula) → Same (T 0 0 x y) y
  T_fixed : (lo hi : ℕ) (m : Node) (z x y : Formula) → Same (T lo hi z (formula_as (op_of fixed) m x y)) (formula_as (op_of fixed) m x y)

binary_U : Binary 3 U
unfolding delay_by
binary_U = record { T_delay = λ lo hi x y. omega (arith, until_right lo hi (delay x) (delay y)); T_now = λ x y. U_now; T_fixed = λ lo hi m z x y. U_false }

binary_R : Binary 2 R
unfolding delay_by
binary_R = record { T_delay = λ lo hi x y. omega (arith, until_right lo hi (delay x) (delay y)); T_now = λ x y. R_now; T_fixed = λ lo hi m z x y. R_true }

-- the laws of and, and of or; I and O are the operators of which the inner and the outer interval stays
record Join (neutral absorbing inner outer : ℕ) (T : Formula → Formula → Formula) (I O : ℕ → ℕ → Formula → Formula) : Type 0 where
  is_neutral : (m : Node) (x y z : Formula) → Same (T z (formula_as (op_of neutral) m x y)) z
  is_absorbing : (m : Node) (x y z : Formula) → Same (T (formula_as (op_of absorbing) m x y) z) (formula_as (op_of absorbing) m x y)
  is_inner : (m : Node) (x y : Formula) → formula_as (op_of inner) m x y ≡ I m.lo m.hi x
  is_outer : (m : Node) (x y : Formula) → formula_as (op_of outer) m x y ≡ O m.lo m.hi x
  inner_stays : (x : Formula) (lo hi lo' hi' : ℕ) → lo' ≤ lo → hi ≤ hi' → Same (T (I lo hi x) (I lo' hi' x)) (I lo hi x)
  outer_stays : (x : Formula) (lo hi lo' hi' : ℕ) → lo ≤ lo' → hi' ≤ hi → Same (T (O lo hi x) (O lo' hi' x)) (O lo hi x)
  T_self : (x : Formula) → Same (T x x) x
  T_comm : (x y : Formula) → Same (T x y) (T y x)
  T_delay : (x y : Formula) → (delay x ≤ delay (T x y)) × (delay y ≤ delay (T x y))

join_and : Join 2 3 7 8 and F G
unfolding delay_by
join_and = record {
  is_neutral = λ m x y z. and_true;
  is_absorbing = λ m x y z. and_comm then and_false;
  is_inner = λ m x y. refl;
  is_outer = λ m x y. refl;
  inner_stays = λ x lo hi lo' hi' u v. F_and lo hi lo' hi' u v;
  outer_stays = λ x lo hi lo' hi' u v. and_comm then G_and lo' hi' lo hi u v;
  T_self = λ x. and_self;
  T_comm = λ x y. and_comm;
  T_delay = λ x y. (omega arith, omega arith);
}

join_or : Join 3 2 8 7 or G F
unfolding delay_by
join_or = record {
  is_neutral = λ m x y z. or_false;
  is_absorbing = λ m x y z. or_comm then or_true;
  is_inner = λ m x y. refl;
  is_outer = λ m x y. refl;
  inner_stays = λ x lo hi lo' hi' u v. G_or lo hi lo' hi' u v;
  outer_stays = λ x lo hi lo' hi' u v. or_comm then F_or lo' hi' lo hi u v;
  T_self = λ x. or_self;
  T_comm = λ x y. or_comm;
  T_delay = λ x y. (omega arith, omega arith);
}

-- where `leftStays` passes, the operand l says what both say
module _ {neutral absorbing inner outer : ℕ} {T : Formula → Formula → Formula} {I O : ℕ → ℕ → Formula → Formula}
    (j : Join neutral absorbing inner outer T I O) (fs : List Formula) (l r : Node)
  where
    over : (k : ℕ) (W : ℕ → ℕ → Formula → Formula) → ((m : Node) (x y : Formula) → formula_as (op_of k) m x y ≡ W m.lo m.hi x) → over_one k l r ≡ true
        → (formula_over fs l ≡ W l.lo l.hi (formula_in fs l.left)) × (formula_over fs r ≡ W r.lo r.hi (formula_in fs l.left))
    over k W w h =
        let a = both _ _ h in
        let b = both _ _ a.0 in
        let e : l.left ≡ r.left = eqb-true _ _ a.1 in
        (is_as fs k l b.0 ∙ w _ _ _, is_as fs k r b.1 ∙ w _ _ _ ∙ ap (λ i. W r.lo r.hi (formula_in fs i)) (sym e))

    stays_meant : left_stays neutral absorbing inner outer l r ≡ true → Same (T (formula_over fs l) (formula_over fs r)) (formula_over fs l)
    stays_meant h =
        ⊎_elim (λ h. ⊎_elim (λ h. ⊎_elim
        (λ x. rw (is_as fs neutral r x) (j.is_neutral _ _ _ _))
        (λ x. rw (is_as fs absorbing l x) (j.is_absorbing _ _ _ _)) (or_split _ _ h))
        (λ x. let a = both _ _ x in let b = both _ _ a.1 in let e = over inner I j.is_inner a.0 in
        rw (e.0, e.1) (j.inner_stays _ _ _ _ _ (leb-true _ _ b.0) (leb-true _ _ b.1))) (or_split _ _ h))
        (λ x. let a = both _ _ x in let b = both _ _ a.1 in let e = over outer O j.is_outer a.0 in
        rw (e.0, e.1) (j.outer_stays _ _ _ _ _ (leb-true _ _ b.0) (leb-true _ _ b.1)))
        (or_split _ _ h)

-- a node n over the operands l and r
module _ (fs : List Formula) (n l r : Node) (el : formula_in fs n.left ≡ formula_over fs l) (er : formula_in fs n.right ≡ formula_over fs r)
    (p : n.lo ≤ n.hi) (q : l.lo ≤ l.hi)
  where
    abbrev a : Formula
    a = formula_in fs n.left

    abbrev b : Formula
    b = formula_in fs n.right

    abbrev Meant : Formula → Outcome → Type 0
    Meant f v = Better f (value fs f v)

    is_left : (k : ℕ) → is k l ≡ true → a ≡ formula_as (op_of k) l (formula_in fs l.left) (formula_in fs l.right)
    is_left k h = el ∙ is_as fs k l h

    is_right : (k : ℕ) → is k r ≡ true → b ≡ formula_as (op_of k) r (formula_in fs r.left) (formula_in fs r.right)
    is_right k h = er ∙ is_as fs k r h

    lo_zero : n.hi ≡ 0 → n.lo ≡ 0
    lo_zero e = omega arith

    not_meant : Meant (neg a) (law_not l)
    unfolding delay_by
    not_meant =
        by_test (Meant _) (is 4 l) (λ h. rw (is_left 4 h) (record { same = not_not; short = omega arith }))
        (λ _. by_test (Meant _) (is 2 l) (λ h. rw (is_left 2 h) (record { same = not_const; short = omega arith }))
        (λ _. by_test (Meant _) (is 3 l) (λ h. rw (is_left 3 h) (record { same = not_const; short = omega arith }))
        (λ _. better_stay)))

    one_meant : {o : Op} {fixed : ℕ} {T : ℕ → ℕ → Formula → Formula} → Unary o fixed T → op n ≡ o → Meant (T n.lo n.hi a) (law_one fixed n l)
    one_meant {fixed = fixed} g e =
        by_test (Meant _) (eqb n.hi 0 || is fixed l)
        (λ h. record {
          same = ⊎_elim
              (λ x. let u : n.hi ≡ 0 = eqb-true n.hi 0 x in rw (u, lo_zero u) (g.T_now _))
              (λ x. rw (is_left fixed x) (g.T_fixed _ _ _ _ _))
              (or_split _ _ h);
          short = omega (arith, g.T_delay n.lo n.hi a);
        })
        (λ _. by_test (Meant _) (is n.kind l)
        (λ h. rw (is_left n.kind h, e, g.is_T l, g.is_T) (record { same = g.T_T _ _ _ _ _ p q; short = simp g.T_delay (omega arith) }))
        (λ _. better_stay))

    two_meant : {fixed : ℕ} {T : ℕ → ℕ → Formula → Formula → Formula} → Binary fixed T → Meant (T n.lo n.hi a b) (law_two fixed n r)
    two_meant {fixed = fixed} g =
        by_test (Meant _) (eqb n.hi 0 || is fixed r)
        (λ h. record {
          same = ⊎_elim
              (λ x. let u : n.hi ≡ 0 = eqb-true n.hi 0 x in rw (u, lo_zero u) (g.T_now _ _))
              (λ x. rw (is_right fixed x) (g.T_fixed _ _ _ _ _ _))
              (or_split _ _ h);
          short = g.T_delay _ _ _ _;
        })
        (λ _. better_stay)

    join_meant : {neutral absorbing inner outer : ℕ} {T : Formula → Formula → Formula} {I O : ℕ → ℕ → Formula → Formula}
        → Join neutral absorbing inner outer T I O → Meant (T a b) (law_join neutral absorbing inner outer n l r)
    join_meant {neutral = neutral} {absorbing = absorbing} {inner = inner} {outer = outer} j =
        by_test (Meant _) (eqb n.left n.right || left_stays neutral absorbing inner outer l r)
        (λ h. record {
          same = ⊎_elim (λ x. rw (sym (eqb-true n.left n.right x)) (j.T_self _)) (λ x. rw (el, er) (stays_meant j fs l r x)) (or_split _ _ h);
          short = (j.T_delay _ _).0;
        })
        (λ _. by_test (Meant _) (left_stays neutral absorbing inner outer r l)
        (λ x. record { same = rw (el, er) (j.T_comm _ _ then stays_meant j fs r l x); short = (j.T_delay _ _).1 })
        (λ _. better_stay))

    meant_as : (o : Op) → op n ≡ o → Better (formula_as o n a b) (value fs (formula_as o n a b) (law_as n l r o))
    meant_as Unknown e = better_stay
    meant_as Signal e = better_stay
    meant_as Top e = better_stay
    meant_as Bottom e = better_stay
    meant_as Not e = not_meant
    meant_as And e = join_meant join_and
    meant_as Or e = join_meant join_or
    meant_as Finally e = one_meant unary_F e
    meant_as Globally e = one_meant unary_G e
    meant_as Until e = two_meant binary_U
    meant_as Release e = two_meant binary_R

    pub meant : Better (formula_over fs n) (value fs (formula_over fs n) (law_as n l r (op n)))
    meant = meant_as (op n) refl
