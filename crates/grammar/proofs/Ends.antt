-- A line has one byte 10, its last, and what stands before a fault of syntax has none. Assumes nothing.
use Prim.Native.Nat.{ℕ}
use native.Mathlib.Omega.{arith}
use mathlib.Core.Path.{◌≡◌, refl, sym, ap, subst, ◌∙◌}
use mathlib.Core.Logic.{◌⊎◌, inl, inr, ⊎_elim}
use mathlib.Core.Bool.{true, false}
use mathlib.Core.List.{List, [], ◌∷◌, ◌++◌, append_assoc, append-nil}
use lib.Dec.{leb, eqb}
use borrow.Author.Tests.{leb-true, ne_eqb}
use Rattle.lists.proofs.Tests.{true_left}
use Rattle.mltl.specs.Mltl.{Formula, const}
use Rattle.grammar.specs.Grammar.{Spaces, none as no-space, one, is_digit, Digits, end, digit, Number, nought, digits, Interval, Sort, Is, a_signal, a_true, a_false, a_brackets, u_atom, u_not, u_finally, u_globally, c_unary, c_and, d_conjunction, d_or, w_disjunction, w_until, w_release, Line, Viable, Unfit, at_end, at_byte, Fault32, Fault33}
use Rattle.grammar.specs.Machine.{begin, trees}
use Rattle.grammar.proofs.Runs.{accepted, front, tells}
use Rattle.grammar.proofs.Complete.{complete}
use Rattle.grammar.proofs.Sound.{sound}

-- ---- the bytes of a part of a line
-- none of the bytes is 10
pub data Free : List ℕ → Type 0 where
  none : Free []
  more : {x : ℕ} {xs : List ℕ} → eqb x 10 ≡ false → Free xs → Free (x ∷ xs)

-- the bytes bs begin with some of which none is 10, and r is what is left of them
data Over : List ℕ → List ℕ → Type 0 where
  here : {r : List ℕ} → Over r r
  byte : {x : ℕ} {bs r : List ℕ} → eqb x 10 ≡ false → Over bs r → Over (x ∷ bs) r

then : {bs m r : List ℕ} → Over bs m → Over m r → Over bs r
then here q = q
then (byte n p) q = byte n (then p q)

spaces : {bs r : List ℕ} → Spaces bs r → Over bs r
spaces no-space = here
spaces (one s) = byte refl (spaces s)

-- spaces, and the byte behind them
to : {x : ℕ} {bs m r : List ℕ} → Spaces bs (x ∷ m) → eqb x 10 ≡ false → Over m r → Over bs r
to s n p = then (spaces s) (byte n p)

no_end : (x : ℕ) → is_digit x ≡ true → eqb x 10 ≡ false
no_end x h = let l = leb-true 48 x (true_left (leb 48 x) (leb x 57) h) in ne_eqb x 10 (λ e. omega arith)

more_digits : {n m : ℕ} {bs r : List ℕ} → Digits n m bs r → Over bs r
more_digits end = here
more_digits (digit {x = x} h ds) = byte (no_end x h) (more_digits ds)

number : {n : ℕ} {bs r : List ℕ} → Number n bs r → Over bs r
number nought = byte refl here
number (digits {x = x} h e ds) = byte (no_end x h) (more_digits ds)

interval : {lo hi : ℕ} {bs r : List ℕ} → Interval lo hi bs r → Over bs r
interval v =
    to v.opened refl
    (then (spaces v.before_lo)
    (then (number v.lo_is)
    (to v.comma refl
    (then (spaces v.before_hi)
    (then (number v.hi_is)
    (to v.close refl here))))))

part : {s : Sort} {d : ℕ} {t : Formula} {bs r : List ℕ} → Is s d t bs r → Over bs r
part (a_signal s v) = to s refl (number v)
part (a_true s) = to s refl (byte refl (byte refl (byte refl here)))
part (a_false s) = to s refl (byte refl (byte refl (byte refl (byte refl here))))
part (a_brackets s f e) = to s refl (then (part f) (to e refl here))
part (u_atom f) = part f
part (u_not s f) = to s refl (part f)
part (u_finally s v f) = to s refl (then (interval v) (part f))
part (u_globally s v f) = to s refl (then (interval v) (part f))
part (c_unary f) = part f
part (c_and f s g) = then (part f) (to s refl (part g))
part (d_conjunction f) = part f
part (d_or f s g) = then (part f) (to s refl (part g))
part (w_disjunction f) = part f
part (w_until f s v g) = then (part f) (to s refl (then (interval v) (part g)))
part (w_release f s v g) = then (part f) (to s refl (then (interval v) (part g)))

up_to_end_lem : {d n : ℕ} {t : Formula} {bs r : List ℕ} → Line d n t bs r → Over bs (10 ∷ r)
up_to_end_lem l = then (spaces l.before_name) (then (number l.name_is) (to l.colon refl (then (part l.formula) (spaces l.ended))))

-- ---- a line
-- the bytes bs begin with some of which none is 10 and a 10, and r is what is left of them
pub record Ended (bs r : List ℕ) : Type 0 where
  pub front : List ℕ
  pub free : Free front
  pub bytes : bs ≡ front ++ (10 ∷ r)

ended_by : {bs r : List ℕ} → Over bs (10 ∷ r) → Ended bs r
ended_by here = record { front = []; free = none; bytes = refl }
ended_by (byte {x = x} n p) = let q = ended_by p in record { front = x ∷ q.front; free = more n q.free; bytes = ap (λ (l : List ℕ). x ∷ l) q.bytes }

-- THE LAW: a line has one byte 10, its last
pub line_ends : {d n : ℕ} {t : Formula} {bs r : List ℕ} → Line d n t bs r → Ended bs r
line_ends l = ended_by (up_to_end_lem l)

-- ---- what stands before a fault of syntax
all_read : (ys rest : List ℕ) → ys ++ rest ≡ [] → rest ≡ []
all_read [] rest e = e
all_read (y ∷ ys) rest e = absurd (let z : ◌≡◌ {A = ℕ} 0 1 = cc in omega arith)

-- what a line's bytes begin with has no 10, or it is all of them
before_end : {xs : List ℕ} (ys rest : List ℕ) → Free xs → ys ++ rest ≡ xs ++ (10 ∷ []) → Free ys ⊎ (rest ≡ [])
before_end [] rest f e = inl none
before_end (y ∷ ys) rest none e = inr (all_read ys rest (cc))
before_end (y ∷ ys) rest (more {x = x} n f) e =
    let g : x ≡ y = cc in
    ⊎_elim (λ h. inl (more (rw g at n) h)) (λ h. inr h) (before_end ys rest f (cc))

-- a line is one whatever stands behind it
behind : {d n : ℕ} {t : Formula} {bs : List ℕ} (z : List ℕ) → Line d n t bs [] → Line d n t (bs ++ z) z
behind {d} {n} {t} {bs} z l =
    let b = const false in
    let c = complete d 0 b (omega arith) l in
    let a = accepted trees d bs (begin trees b) 0 n t c.0 [] c.1 in
    let q = front a.way in
    let w = tells 0 (q.anyhow (a.x ∷ z)) a.ends in
    let e : bs ++ z ≡ q.read ++ (a.x ∷ z) = ap (λ (k : List ℕ). k ++ z) q.bytes ∙ append_assoc q.read (a.x ∷ []) z in
    subst (λ (k : List ℕ). Line d n t k z) (sym e) (sound d (q.read ++ (a.x ∷ z)) b 0 n t w.0 z w.1)

unfit_line : {read left : List ℕ} {d n : ℕ} {t : Formula} → Unfit read left → ¬ Line d n t read []
unfit_line {d = d} {n} {t} (at_end f) l = f d n t [] l
unfit_line {d = d} {n} {t} (at_byte {x = x} f) l = f d n t [] (x ∷ []) (behind (x ∷ []) l)

-- what can be completed to a line has no byte 10, or it is a line
viable_free : {d : ℕ} {bs : List ℕ} (v : Viable d bs) → Free bs ⊎ Line d v.name v.formula bs []
viable_free {d} {bs} v =
    let q = line_ends v.line in
    ⊎_elim inl
    (λ e. inr (subst (λ (k : List ℕ). Line d v.name v.formula k []) (ap (λ (k : List ℕ). bs ++ k) e ∙ append-nil bs) v.line))
    (before_end bs v.rest q.free q.bytes)

-- THE LAWS: it has no byte 10
pub read_free_32 : {i p : ℕ} {bs : List ℕ} (f : Fault32 i bs p) → Free f.read
read_free_32 f = ⊎_elim (λ h. h) (λ l. absurd (unfit_line f.unfit l)) (viable_free f.before)

pub read_free_33 : {i p : ℕ} {bs : List ℕ} (f : Fault33 i bs p) → Free f.read
read_free_33 f =
    let v = f.fit in
    let q = line_ends v.line in
    ⊎_elim (λ h. h) (λ e. absurd (let z : ◌≡◌ {A = ℕ} 0 1 = cc in omega arith))
    (before_end f.read (40 ∷ v.rest) q.free (sym (append_assoc f.read (40 ∷ []) v.rest) ∙ q.bytes))
