-- The lines of request A2 (document 02), as relations between bytes and formulas. A relation `.. bs r` says that the bytes bs begin
-- with such a part, and that r is what is left of them.
use Rattle.std.specs.Prelude.{ℕ, suc, ◌+◌, ◌*◌, ◌-◌, ◌≡◌, Bool, true, false, ◌&&◌, List, [], ◌∷◌, ◌++◌, length, leb, eqb}
use Rattle.limits.specs.Limits.{max_depth}
use Rattle.mltl.specs.Mltl.{Formula, signal, const, neg, and, or, F, G, U, R}

-- 'Spaces (byte 32) may stand anywhere in a line but inside a number, true, false or s with its number': before any other byte
pub data Spaces : List ℕ → List ℕ → Type 0 where
  none : {r : List ℕ} → Spaces r r
  one : {bs r : List ℕ} → Spaces bs r → Spaces (32 ∷ bs) r

-- 'Numbers are decimal without leading zeros'
abbrev pub is_digit : ℕ → Bool
is_digit x = leb 48 x && leb x 57

-- digits that lead from the value n to the value m
pub data Digits : ℕ → ℕ → List ℕ → List ℕ → Type 0 where
  end : {n : ℕ} {r : List ℕ} → Digits n n r r
  digit : {n m x : ℕ} {bs r : List ℕ} → is_digit x ≡ true → Digits (10 * n + (x - 48)) m bs r → Digits n m (x ∷ bs) r

pub data Number : ℕ → List ℕ → List ℕ → Type 0 where
  nought : {r : List ℕ} → Number 0 (48 ∷ r) r
  digits : {m x : ℕ} {bs r : List ℕ} → is_digit x ≡ true → eqb x 48 ≡ false → Digits (x - 48) m bs r → Number m (x ∷ bs) r

-- [lo,hi]
pub record Interval (lo hi : ℕ) (bs r : List ℕ) : Type 0 where
  pub a : List ℕ
  pub b : List ℕ
  pub c : List ℕ
  pub d : List ℕ
  pub e : List ℕ
  pub f : List ℕ
  pub opened : Spaces bs (91 ∷ a)
  pub before_lo : Spaces a b
  pub lo_is : Number lo b c
  pub comma : Spaces c (44 ∷ d)
  pub before_hi : Spaces d e
  pub hi_is : Number hi e f
  pub close : Spaces f (93 ∷ r)

pub data Sort : Type 0 where
  Atom Unary Conjunction Disjunction AnyFormula : Sort

-- the parts of a formula whose brackets nest at most d deep
pub data Is : Sort → ℕ → Formula → List ℕ → List ℕ → Type 0 where
  -- 'An atom is s with a number, true, false or a formula in round brackets'
  a_signal : {d n : ℕ} {bs a r : List ℕ} → Spaces bs (115 ∷ a) → Number n a r → Is Atom d (signal n) bs r
  a_true : {d : ℕ} {bs r : List ℕ} → Spaces bs (116 ∷ 114 ∷ 117 ∷ 101 ∷ r) → Is Atom d (const true) bs r
  a_false : {d : ℕ} {bs r : List ℕ} → Spaces bs (102 ∷ 97 ∷ 108 ∷ 115 ∷ 101 ∷ r) → Is Atom d (const false) bs r
  a_brackets : {d : ℕ} {t : Formula} {bs a b r : List ℕ} → Spaces bs (40 ∷ a) → Is AnyFormula d t a b → Spaces b (41 ∷ r) → Is Atom (suc d) t bs r
  -- 'A unary is an atom, or !, F[a,b] or G[a,b] before a unary'
  u_atom : {d : ℕ} {t : Formula} {bs r : List ℕ} → Is Atom d t bs r → Is Unary d t bs r
  u_not : {d : ℕ} {t : Formula} {bs a r : List ℕ} → Spaces bs (33 ∷ a) → Is Unary d t a r → Is Unary d (neg t) bs r
  u_finally : {d lo hi : ℕ} {t : Formula} {bs a b r : List ℕ} → Spaces bs (70 ∷ a) → Interval lo hi a b → Is Unary d t b r → Is Unary d (F lo hi t) bs r
  u_globally : {d lo hi : ℕ} {t : Formula} {bs a b r : List ℕ} → Spaces bs (71 ∷ a) → Interval lo hi a b → Is Unary d t b r → Is Unary d (G lo hi t) bs r
  -- 'A conjunction is unaries joined by &, a disjunction is conjunctions joined by |, both grouping to the left'
  c_unary : {d : ℕ} {t : Formula} {bs r : List ℕ} → Is Unary d t bs r → Is Conjunction d t bs r
  c_and : {d : ℕ} {t u : Formula} {bs a b r : List ℕ} → Is Conjunction d t bs a → Spaces a (38 ∷ b) → Is Unary d u b r → Is Conjunction d (and t u) bs r
  d_conjunction : {d : ℕ} {t : Formula} {bs r : List ℕ} → Is Conjunction d t bs r → Is Disjunction d t bs r
  d_or : {d : ℕ} {t u : Formula} {bs a b r : List ℕ} → Is Disjunction d t bs a → Spaces a (124 ∷ b) → Is Conjunction d u b r → Is Disjunction d (or t u) bs r
  -- 'A formula is a disjunction, or two unaries with U[a,b] or R[a,b] between'
  w_disjunction : {d : ℕ} {t : Formula} {bs r : List ℕ} → Is Disjunction d t bs r → Is AnyFormula d t bs r
  w_until : {d lo hi : ℕ} {t u : Formula} {bs a b c r : List ℕ} → Is Unary d t bs a → Spaces a (85 ∷ b) → Interval lo hi b c → Is Unary d u c r → Is AnyFormula d (U lo hi t u) bs r
  w_release : {d lo hi : ℕ} {t u : Formula} {bs a b c r : List ℕ} → Is Unary d t bs a → Spaces a (82 ∷ b) → Interval lo hi b c → Is Unary d u c r → Is AnyFormula d (R lo hi t u) bs r

-- 'One line is one rule, ended by byte 10: its name, a colon, a formula'
pub record Line (d name : ℕ) (t : Formula) (bs r : List ℕ) : Type 0 where
  pub a : List ℕ
  pub b : List ℕ
  pub c : List ℕ
  pub e : List ℕ
  pub before_name : Spaces bs a
  pub name_is : Number name a b
  pub colon : Spaces b (58 ∷ c)
  pub formula : Is AnyFormula d t c e
  pub ended : Spaces e (10 ∷ r)

-- ---- what a fault of syntax says
-- bs can be completed to a line whose brackets nest at most d deep
pub record Viable (d : ℕ) (bs : List ℕ) : Type 0 where
  pub rest : List ℕ
  pub name : ℕ
  pub formula : Formula
  pub line : Line d name formula (bs ++ rest) []

-- after the bytes `read`, no line of any depth can have what is left: its first byte, or the end of the text
pub data Unfit (read : List ℕ) : List ℕ → Type 0 where
  at_end : ((d name : ℕ) (t : Formula) (r : List ℕ) → Line d name t read r → ⊥) → Unfit read []
  at_byte : {x : ℕ} {left : List ℕ} → ((d name : ℕ) (t : Formula) (z r : List ℕ) → Line d name t (read ++ (x ∷ z)) r → ⊥) → Unfit read (x ∷ left)

-- 32 at the place p of a text whose line bs begins at the place i
pub record Fault32 (i : ℕ) (bs : List ℕ) (p : ℕ) : Type 0 where
  pub read : List ℕ
  pub left : List ℕ
  pub bytes : bs ≡ read ++ left
  pub place : p ≡ i + length read
  pub before : Viable max_depth read
  pub unfit : Unfit read left

-- 33 there: an opening bracket that some line has there, and none whose brackets nest at most 32 deep
pub record Fault33 (i : ℕ) (bs : List ℕ) (p : ℕ) : Type 0 where
  pub read : List ℕ
  pub left : List ℕ
  pub bytes : bs ≡ read ++ (40 ∷ left)
  pub place : p ≡ i + length read
  pub before : Viable max_depth read
  pub deeper : ℕ
  pub fit : Viable deeper (read ++ (40 ∷ []))
  pub deep : (name : ℕ) (t : Formula) (z r : List ℕ) → Line max_depth name t (read ++ (40 ∷ z)) r → ⊥
