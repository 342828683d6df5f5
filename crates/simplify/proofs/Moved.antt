-- The marked nodes under their new places: they mean what they meant, and stay good. Assumes nothing.
use Prim.Native.Nat.{◌<◌, ◌≤◌, suc, zero, ℕ}
use native.Mathlib.Omega.{arith}
use mathlib.Core.Path.{◌∙◌, ◌≡◌, ap, refl, sym}
use mathlib.Core.Bool.{Bool, false, false≢true, true, true≢false}
use mathlib.Core.Logic.{⊎_elim}
use mathlib.Core.List.{List}
use borrow.Author.Tests.{eqb-true}
use lib.ListN.{get_or, length}
use Rattle.lists.specs.Bits.{bit}
use Rattle.lists.proofs.Tests.{lt_or_le}
use Rattle.mltl.specs.Mltl.{delay}
use Rattle.table.specs.declared.Node.{Node}
use Rattle.table.specs.Nodes.{formula_at, formula_over, formulas, op_of, uses_of}
use Rattle.table.specs.Sound.{Field, NodeFits}
use Rattle.needed.proofs.Marked.{used_left, used_right}
use Rattle.needed.specs.Marks.{has_operand}
use Rattle.simplify.specs.declared.Outcome.TheVariants.{Stay}
use Rattle.simplify.specs.Fits.{op}
use Rattle.simplify.specs.Code.Law.{law, node_within}
use Rattle.simplify.specs.Code.Passes.{renamed}
use Rattle.simplify.proofs.Better.{formula_agrees}
use Rattle.simplify.proofs.Chains.{AllFit, unrolled}
use Rattle.simplify.proofs.Fields.{law_agrees, renamed_fits}
use Rattle.simplify.proofs.Free.{Tells, still}
use Rattle.simplify.proofs.Model.{Lists}
use Rattle.simplify.proofs.Rebuilding.{Good}
use Rattle.simplify.proofs.Sweeping.{Kept}
use Rattle.simplify.proofs.Using.{used_before_lem}

module _ (ms : ℕ) (ns : List Node) (g : Good ns) (s : Lists) (k : Kept ms ns s)
    (closed : (i : ℕ) → i < length ns → bit ms i ≡ true → (j : ℕ) → has_operand (node_within ns i) j ≡ true → bit ms j ≡ true) where
  abbrev h : ℕ → ℕ
  h i = get_or s.places i 0

  -- a marked place
  pub record Live (i : ℕ) : Type 0 where
    pub in_list : i < length ns
    pub is_marked : bit ms i ≡ true

  injective : (i j : ℕ) → Live i → Live j → h i ≡ h j → i ≡ j
  injective i j a b e = ⊎_elim
      (λ (l : i < j). absurd (omega (arith, k.up i j l b.in_list a.is_marked)))
      (λ (l : j ≤ i). ⊎_elim (λ (m : j < i). absurd (omega (arith, k.up j i m a.in_list b.is_marked))) (λ (m : i ≤ j). omega arith) (lt_or_le j i))
      (lt_or_le i j)

  live_used : (i j : ℕ) → Live i → has_operand (node_within ns i) j ≡ true → Live j
  live_used i j a u = record {
    in_list = omega (arith, a.in_list, used_before_lem (node_within ns i) i j (g.fits i a.in_list) u);
    is_marked = closed i
        a.in_list a.is_marked j u;
  }

  live_left : (i : ℕ) → Live i → (uses_of (op (node_within ns i))).left ≡ true → Live (node_within ns i).left
  live_left i a u = live_used i _ a (used_left (node_within ns i) u)

  live_right : (i : ℕ) → Live i → (uses_of (op (node_within ns i))).right ≡ true → Live (node_within ns i).right
  live_right i a u = live_used i _ a (used_right (node_within ns i) u)

  fits_moved : (i : ℕ) → Live i → NodeFits (h i) (renamed s.places (node_within ns i))
  fits_moved i a =
      renamed_fits s.places k.first i (h i) (node_within ns i)
      (λ u l. k.up _ i l a.in_list (live_left i a u).is_marked) (λ u l. k.up _ i l a.in_list (live_right i a u).is_marked)
      (g.fits i a.in_list)

  at_live : (i : ℕ) → Live i → node_within s.nodes (h i) ≡ renamed s.places (node_within ns i)
  at_live i a = k.moved i a.in_list a.is_marked

  -- what holds at the new place of each marked node holds at each new place
  module _ (P : ℕ → Type 0) (each : (i : ℕ) → Live i → P (h i)) where
    all_new : (q : ℕ) → q < length s.nodes → P q
    all_new q l = let o = k.from q l in rw o.becomes at (each o.place (record { in_list = o.in_list; is_marked = o.is_marked }))

  fits : AllFit s.nodes
  fits = all_new (λ q. NodeFits q (node_within s.nodes q)) (λ i a. rw (at_live i a) (fits_moved i a))

  formula_below : (m i : ℕ) → i < m → Live i → formula_at s.nodes (h i) ≡ formula_at ns i
  formula_below zero i l a = absurd (omega arith)
  formula_below (suc m) i l a =
      let w = g.fits i a.in_list in
      unrolled s.nodes fits (h i) ∙ ap (formula_over (formulas s.nodes)) (at_live i a)
      ∙ sym (formula_agrees (node_within ns i) (h (node_within ns i).left) (h (node_within ns i).right) (op (node_within ns i)) _ _ _ _
      (λ u. sym (formula_below m (node_within ns i).left (omega (arith, w.left.limited u)) (live_left i a u)))
      (λ u. sym (formula_below m (node_within ns i).right (omega (arith, w.right.limited u)) (live_right i a u))))
      ∙ sym (unrolled ns g.fits i)

  pub formula_moved : (i : ℕ) → Live i → formula_at s.nodes (h i) ≡ formula_at ns i
  formula_moved i a = formula_below (suc i) i (omega arith) a

  tells : (i j : ℕ) → Live i → Live j → Tells s.places (node_within ns i) (node_within ns j)
  tells i j a b m u x y e =
      injective _ _
      (live_left i a (ap (λ c. (uses_of (op_of c)).left) (eqb-true (node_within ns i).kind m x) ∙ u))
      (live_left j b (ap (λ c. (uses_of (op_of c)).left) (eqb-true (node_within ns j).kind m y) ∙ u)) e

  free : (q : ℕ) → q < length s.nodes → law s.nodes (node_within s.nodes q) ≡ Stay
  free = all_new (λ q. law s.nodes (node_within s.nodes q) ≡ Stay) λ i a.
      let n = node_within ns i in
      rw (at_live i a)
      (law_agrees (renamed s.places n) (op n) _ _ (renamed s.places (node_within ns n.left)) (renamed s.places (node_within ns n.right))
      (λ u. at_live n.left (live_left i a u)) (λ u. at_live n.right (live_right i a u))
      ∙ still s.places n (node_within ns n.left) (node_within ns n.right) (op n)
      (λ u v. let x = live_left i a u in let y = live_right i a v in
      record { left = tells _ _ x y; right = tells _ _ y x; operands = injective _ _ x y }) (g.free i a.in_list))

  -- a field that both nodes use or both do not
  same_field : (used other : Bool) {p q i j : ℕ} → used ≡ other → Field used p i → Field other q j
      → (used ≡ true → Live i) → (other ≡ true → Live j) → h i ≡ h j → i ≡ j
  same_field true true e v w a b d = injective _ _ (a refl) (b refl) d
  same_field false false e v w a b d = v.unused refl ∙ sym (w.unused refl)
  same_field true false e v w a b d = absurd (true≢false e)
  same_field false true e v w a b d = absurd (false≢true e)

  same_back : (i j : ℕ) → Live i → Live j → renamed s.places (node_within ns i) ≡ renamed s.places (node_within ns j) → node_within ns i ≡ node_within ns j
  same_back i j a b e =
      let d = ap (λ (n : Node). n.kind) e in
      let v = g.fits i a.in_list in
      let w = g.fits j b.in_list in
      let l = same_field _ _ (ap (λ c. (uses_of (op_of c)).left) d) v.left w.left (live_left i a) (live_left j b) (ap (λ (n : Node). n.left) e) in
      let r = same_field _ _ (ap (λ c. (uses_of (op_of c)).right) d) v.right w.right (live_right i a) (live_right j b) (ap (λ (n : Node). n.right) e) in
      λ x. record { kind = d x; arg = (e x).arg; lo = (e x).lo; hi = (e x).hi; left = l x; right = r x }

  apart : (p q : ℕ) → p < q → q < length s.nodes → node_within s.nodes p ≡ node_within s.nodes q → ⊥
  apart p q l m =
      all_new (λ p. (q : ℕ) → q < length s.nodes → p < q → node_within s.nodes p ≡ node_within s.nodes q → ⊥)
      (λ i a. all_new (λ q. h i < q → node_within s.nodes (h i) ≡ node_within s.nodes q → ⊥)
      (λ j b l e.
      let d : node_within ns i ≡ node_within ns j = same_back i j a b (sym (at_live i a) ∙ e ∙ at_live j b) in
      ⊎_elim (λ (x : i < j). g.apart i j x b.in_list d)
      (λ (x : j ≤ i). ⊎_elim (λ (y : j < i). g.apart j i y a.in_list (sym d))
      (λ (y : i ≤ j). let z : i ≡ j = omega arith in omega (arith, ap h z)) (lt_or_le j i))
      (lt_or_le i j)))
      p (omega arith) q m l

  pub good_moved : Good s.nodes
  good_moved = record {
    fits = fits;
    free = free;
    short = all_new (λ q. delay (formula_at s.nodes q) ≤ 4095) (λ i a. rw (formula_moved i a) (g.short i a.in_list));
    apart = apart;
  }
