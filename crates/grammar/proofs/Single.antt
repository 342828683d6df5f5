-- Each line has one reading; accepted exactly; and some lines worked. Assumes nothing.
use Prim.Native.Nat.{ℕ, ◌+◌}
use native.Mathlib.Omega.{arith}
use mathlib.Core.Path.{◌≡◌, refl}
use mathlib.Core.Bool.{true, false}
use mathlib.Core.List.{List, [], ◌∷◌}
use Rattle.mltl.specs.Mltl.{Formula, signal, const, neg, and, or, F, U}
use Rattle.grammar.specs.Grammar.{Line}
use Rattle.grammar.specs.Machine.{Fault, Finished, plain, step, fate, puts, unary_done, depth, read_line}
use Rattle.grammar.proofs.Complete.{complete}
use Rattle.grammar.proofs.Sound.{sound}

pub record Same (m n : ℕ) (t u : Formula) (r s : List ℕ) : Type 0 where
  pub names : m ≡ n
  pub formulas : t ≡ u
  pub rests : r ≡ s

-- two readings of the same bytes are one, however deep their brackets may nest
pub one_reading : {c d m n : ℕ} {t u : Formula} {bs r s : List ℕ} → Line c m t bs r → Line d n u bs s → Same m n t u r s
one_reading {c} {d} {m} {n} {t} {u} {bs} {r} {s} x y =
    let a = complete (c + d) 0 (const false) (omega arith) x in
    let b = complete (c + d) 0 (const false) (omega arith) y in
    record { names = cc (a.1, b.1); formulas = cc (a.1, b.1); rests = cc (a.1, b.1) }

-- a line is accepted exactly where it is one of the grammar
pub record LineAccepted (i : ℕ) (bs : List ℕ) (n : ℕ) (t : Formula) (r : List ℕ) : Type 0 where
  pub place : ℕ
  pub told : read_line i bs ≡ Finished n t place r

pub exactly_in : (i : ℕ) (bs : List ℕ) (n : ℕ) (t : Formula) (r : List ℕ) → LineAccepted i bs n t r → Line 32 n t bs r
exactly_in i bs n t r a = sound 32 bs (const false) i n t a.place r a.told

pub exactly_out : {n : ℕ} {t : Formula} {bs r : List ℕ} (i : ℕ) → Line 32 n t bs r → LineAccepted i bs n t r
exactly_out i l = let c = complete 32 i (const false) (omega arith) l in record { place = c.0; told = c.1 }

-- ---- worked lines
-- '7: s1 & ! s20 | F[1,12] true' and the end of the line
row_1 : read_line 0 (55 ∷ 58 ∷ 32 ∷ 115 ∷ 49 ∷ 32 ∷ 38 ∷ 32 ∷ 33 ∷ 32 ∷ 115 ∷ 50 ∷ 48 ∷ 32 ∷ 124 ∷ 32 ∷ 70 ∷ 91 ∷ 49 ∷ 44 ∷ 49 ∷ 50 ∷ 93 ∷ 32 ∷ 116 ∷ 114 ∷ 117 ∷ 101 ∷ 10 ∷ [])
    ≡ Finished 7 (or (and (signal 1) (neg (signal 20))) (F 1 12 (const true))) 29 []
unfolding fate step plain puts unary_done depth
row_1 = refl

-- '12:(s0)U[0,3]!s1', and another line
row_2 : read_line 5 (49 ∷ 50 ∷ 58 ∷ 40 ∷ 115 ∷ 48 ∷ 41 ∷ 85 ∷ 91 ∷ 48 ∷ 44 ∷ 51 ∷ 93 ∷ 33 ∷ 115 ∷ 49 ∷ 10 ∷ 50 ∷ []) ≡ Finished 12 (U 0 3 (signal 0) (neg (signal 1))) 22 (50 ∷ [])
unfolding fate step plain puts unary_done depth
row_2 = refl

-- '1:s0&s1U[0,1]s2': the U at 7; '1:s00': the second 0; '1: tru e': the space; '01:': the 1
row_3 : read_line 0 (49 ∷ 58 ∷ 115 ∷ 48 ∷ 38 ∷ 115 ∷ 49 ∷ 85 ∷ 91 ∷ []) ≡ Fault 32 7
unfolding fate step plain puts unary_done depth
row_3 = refl

row_4 : read_line 0 (49 ∷ 58 ∷ 115 ∷ 48 ∷ 48 ∷ 10 ∷ []) ≡ Fault 32 4
unfolding fate step plain puts unary_done depth
row_4 = refl

row_5 : read_line 0 (49 ∷ 58 ∷ 32 ∷ 116 ∷ 114 ∷ 117 ∷ 32 ∷ 101 ∷ []) ≡ Fault 32 6
unfolding fate step plain puts unary_done depth
row_5 = refl

row_6 : read_line 0 (48 ∷ 49 ∷ 58 ∷ []) ≡ Fault 32 1
unfolding fate step plain puts unary_done depth
row_6 = refl

-- a text that ends within a line
row_7 : read_line 0 (49 ∷ 58 ∷ 115 ∷ 48 ∷ []) ≡ Fault 32 4
unfolding fate step plain puts unary_done depth
row_7 = refl
