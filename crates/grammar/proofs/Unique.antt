-- There is one earliest place, and one number there. Assumes nothing.
use Prim.Native.Nat.{ℕ, ◌<◌}
use native.Mathlib.Omega.{arith}
use mathlib.Core.Path.{◌≡◌, refl, sym, ap, ap₂, subst, ◌∙◌}
use mathlib.Core.Logic.{⊎_elim}
use mathlib.Core.List.{List, [], ◌∷◌, ◌++◌, append_assoc}
use lib.ListN.{length}
use Rattle.limits.specs.Limits.{max_depth}
use Rattle.lists.proofs.Tests.{lt_or_le}
use Rattle.mltl.specs.Mltl.{Formula}
use Rattle.grammar.specs.Grammar.{Line, Viable, Unfit, at_end, at_byte, Fault32, Fault33}

-- ---- two beginnings of the same bytes
-- the longer one goes on with a byte of what the shorter leaves
record Longer (a b c : List ℕ) : Type 0 where
  x : ℕ
  more : List ℕ
  left : List ℕ
  rest : b ≡ x ∷ left
  is : c ≡ a ++ (x ∷ more)

longer : (a b c d : List ℕ) → a ++ b ≡ c ++ d → length a < length c → Longer a b c
longer [] b [] d e h = absurd (omega arith)
longer [] b (y ∷ c) d e h = record { x = y; more = c; left = c ++ d; rest = e; is = refl }
longer (y ∷ a) b [] d e h = absurd (omega arith)
longer (y ∷ a) b (z ∷ c) d e h =
    let f : y ≡ z = cc in
    let g : a ++ b ≡ c ++ d = cc in
    let o = longer a b c d g (omega arith) in
    record { x = o.x; more = o.more; left = o.left; rest = o.rest; is = ap₂ (λ (k : ℕ) (l : List ℕ). k ∷ l) (sym f) o.is }

same_rest : (a b c d : List ℕ) → a ++ b ≡ c ++ d → length a ≡ length c → (a ≡ c) × (b ≡ d)
same_rest [] b [] d e h = (refl, e)
same_rest [] b (z ∷ c) d e h = absurd (omega arith)
same_rest (y ∷ a) b [] d e h = absurd (omega arith)
same_rest (y ∷ a) b (z ∷ c) d e h =
    let f : y ≡ z = cc in
    let g : a ++ b ≡ c ++ d = cc in
    let o = same_rest a b c d g (omega arith) in
    (ap₂ (λ (k : ℕ) (l : List ℕ). k ∷ l) f o.0, o.1)

-- ---- where the bytes of a line stop being viable
record Stop (bs read left : List ℕ) : Type 0 where
  bytes : bs ≡ read ++ left
  before : Viable max_depth read
  blocked : (x : ℕ) (rest : List ℕ) → left ≡ x ∷ rest → (n : ℕ) (t : Formula) (z r : List ℕ) → ¬ Line max_depth n t (read ++ (x ∷ z)) r

unfit_blocked : {read left : List ℕ} → Unfit read left → (x : ℕ) (rest : List ℕ) → left ≡ x ∷ rest
    → (d n : ℕ) (t : Formula) (z r : List ℕ) → ¬ Line d n t (read ++ (x ∷ z)) r
unfit_blocked (at_end g) x rest e d n t z r l = absurd (let y : ◌≡◌ {A = ℕ} 0 1 = cc in omega arith)
unfit_blocked {read} (at_byte {x = y} g) x rest e d n t z r l = let w : x ≡ y = cc in g d n t z r (subst (λ (k : ℕ). Line d n t (read ++ (k ∷ z)) r) w l)

deep_blocked : {i p : ℕ} {bs : List ℕ} (f : Fault33 i bs p) (x : ℕ) (rest : List ℕ) → 40 ∷ f.left ≡ x ∷ rest
    → (n : ℕ) (t : Formula) (z r : List ℕ) → ¬ Line max_depth n t (f.read ++ (x ∷ z)) r
deep_blocked f x rest e n t z r l = let w : x ≡ 40 = cc in f.deep n t z r (subst (λ (k : ℕ). Line max_depth n t (f.read ++ (k ∷ z)) r) w l)

stop_32 : {i p : ℕ} {bs : List ℕ} (f : Fault32 i bs p) → Stop bs f.read f.left
stop_32 f = record { bytes = f.bytes; before = f.before; blocked = λ x rest e. unfit_blocked f.unfit x rest e 32 }

stop_33 : {i p : ℕ} {bs : List ℕ} (f : Fault33 i bs p) → Stop bs f.read (40 ∷ f.left)
stop_33 f = record { bytes = f.bytes; before = f.before; blocked = deep_blocked f }

not_before : {bs a b c d : List ℕ} → Stop bs a b → Stop bs c d → ¬ (length a < length c)
not_before {bs} {a} {b} {c} {d} s u h =
    let o = longer a b c d (sym s.bytes ∙ u.bytes) h in
    let v = u.before in
    let e : c ++ v.rest ≡ a ++ (o.x ∷ (o.more ++ v.rest)) = ap (λ (l : List ℕ). l ++ v.rest) o.is ∙ append_assoc a (o.x ∷ o.more) v.rest in
    s.blocked o.x o.left o.rest v.name v.formula (o.more ++ v.rest) []
    (subst (λ (l : List ℕ). Line max_depth v.name v.formula l []) e v.line)

one_stop : {bs a b c d : List ℕ} → Stop bs a b → Stop bs c d → length a ≡ length c
one_stop {a = a} {c = c} s u =
    ⊎_elim (λ h. absurd (not_before s u h)) (λ h. ⊎_elim (λ k. absurd (not_before u s k)) (λ k. omega arith) (lt_or_le (length c) (length a)))
    (lt_or_le (length a) (length c))

-- a line is not at fault with both
pub never_both : {i p q : ℕ} {bs : List ℕ} → Fault32 i bs p → Fault33 i bs q → ⊥
never_both f g =
    let o = same_rest g.read (40 ∷ g.left) f.read f.left (sym g.bytes ∙ f.bytes) (one_stop (stop_33 g) (stop_32 f)) in
    let v = g.fit in
    let e : (g.read ++ (40 ∷ [])) ++ v.rest ≡ f.read ++ (40 ∷ v.rest) =
    append_assoc g.read (40 ∷ []) v.rest ∙ ap (λ (l : List ℕ). l ++ (40 ∷ v.rest)) o.0 in
    unfit_blocked f.unfit 40 g.left (sym o.1) g.deeper v.name v.formula v.rest []
    (subst (λ (l : List ℕ). Line g.deeper v.name v.formula l []) e v.line)

pub one_place : {i p q : ℕ} {bs : List ℕ} → Fault32 i bs p → Fault32 i bs q → p ≡ q
one_place f g = let h = one_stop (stop_32 f) (stop_32 g) in let a = f.place in let b = g.place in omega arith

pub one_place_33 : {i p q : ℕ} {bs : List ℕ} → Fault33 i bs p → Fault33 i bs q → p ≡ q
one_place_33 f g = let h = one_stop (stop_33 f) (stop_33 g) in let a = f.place in let b = g.place in omega arith
