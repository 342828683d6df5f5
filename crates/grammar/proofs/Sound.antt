-- Every line that is accepted is a line of the grammar, with the formula answered. What a configuration says of the bytes before it is
-- kept by every byte. Assumes nothing.
use Prim.Native.Nat.{ℕ, zero, suc, ◌+◌, ◌*◌, ◌-◌, ◌<◌}
use native.Mathlib.Omega.{arith}
use mathlib.Core.Path.{◌≡◌, refl, ap, ap₂}
use mathlib.Core.Bool.{Bool, true, false, ◌&&◌, not}
use mathlib.Core.List.{List, [], ◌∷◌, ◌++◌}
use mathlib.Core.Option.{none, some}
use lib.Dec.{ltb, eqb}
use borrow.Author.Tests.{eqb-true, ltb-true}
use Rattle.lists.specs.Choice.{pick}
use Rattle.lists.proofs.Tests.{true_left, true_right}
use Rattle.mltl.specs.Mltl.{Formula, const}
use Rattle.grammar.specs.Grammar.{Spaces, none as none', one, is_digit, Digits, end, digit, Number, nought, digits, Interval, Atom, Unary, Conjunction, Disjunction, AnyFormula, Is, a_signal, a_true, a_false, a_brackets, u_atom, u_not, u_finally, u_globally, c_unary, c_and, d_conjunction, d_or, w_disjunction, w_until, w_release, Line}
use Rattle.grammar.specs.declared.Item.{Item}
use Rattle.grammar.specs.Machine.{plain_item, item, Purpose, Name, Sig, Lo, Hi, Goal, ToFormula, ToLo, ToHi, ToOp, wanted, Awaited, First, Chain, Right, Stack, bottom, push, depth, AwaitNumber, InNumber, AwaitByte, InWord, AwaitUnary, FirstRead, ChainRead, AllRead, Config, cf, Next, on, stop, ended, Finished, number_read, spelt, unary_done, atom_done, bracket_opened, formula_ended, go, spaced, puts, plain, step, fate, trees, begin}
use Rattle.grammar.proofs.Runs.{Runs, still, moves, accepted}

-- ---- bytes
spaces_on : {bs m u : List ℕ} → Spaces bs m → m ≡ 32 ∷ u → Spaces bs u
spaces_on {u = u} none' e = rw e (one none')
spaces_on (one s) e = one (spaces_on s e)

digits_on : {n m x : ℕ} {bs l u : List ℕ} → Digits n m bs l → l ≡ x ∷ u → is_digit x ≡ true → Digits n (10 * m + (x - 48)) bs u
digits_on end e h = rw e (digit h end)
digits_on (digit d ds) e h = digit d (digits_on ds e h)

number_on : {n x : ℕ} {bs u : List ℕ} → Number n bs (x ∷ u) → is_digit x ≡ true → not (eqb n 0) ≡ true → Number (10 * n + (x - 48)) bs u
number_on nought h e = absurd (let z : ◌≡◌ {A = ℕ} 0 1 = cc in omega arith)
number_on (digits d f ds) h e = digits d f (digits_on ds refl h)

number_first : (x : ℕ) (u : List ℕ) → is_digit x ≡ true → Number (x - 48) (x ∷ u) u
number_first x u h = by (eqb x 48) refl
  where
    by : (t : Bool) → eqb x 48 ≡ t → Number (x - 48) (x ∷ u) u
    by true e = rw (eqb-true x 48 e) nought
    by false e = digits h e end

-- ---- what was read
-- the prefixes of a unary that begins at u
data Prefixed : List Item → List ℕ → List ℕ → Type 0 where
  bare : {u : List ℕ} → Prefixed [] u u
  bang : {is : List Item} {u v w : List ℕ} → Prefixed is u v → Spaces v (33 ∷ w) → Prefixed (plain_item 4 ∷ is) u w
  fins : {lo hi : ℕ} {is : List Item} {u v a w : List ℕ} → Prefixed is u v → Spaces v (70 ∷ a) → Interval lo hi a w → Prefixed (item 7 0 lo hi ∷ is) u w
  glos : {lo hi : ℕ} {is : List Item} {u v a w : List ℕ} → Prefixed is u v → Spaces v (71 ∷ a) → Interval lo hi a w → Prefixed (item 8 0 lo hi ∷ is) u w

apply : {d : ℕ} {t : Formula} {is : List Item} {u v r : List ℕ} → Prefixed is u v → Is Unary d t v r → Is Unary d (puts trees t is) u r
unfolding puts
apply bare x = x
apply (bang p s) x = apply p (u_not s x)
apply (fins p s v) x = apply p (u_finally s v x)
apply (glos p s v) x = apply p (u_globally s v x)

-- a formula that begins at m, up to a unary awaited at u
data Begun (d : ℕ) : Awaited Formula → List ℕ → List ℕ → Type 0 where
  first : {m : List ℕ} → Begun d First m m
  conj : {t : Formula} {m e u : List ℕ} → Is Conjunction d t m e → Spaces e (38 ∷ u) → Begun d (Chain none (some t)) m u
  disj : {t : Formula} {m e u : List ℕ} → Is Disjunction d t m e → Spaces e (124 ∷ u) → Begun d (Chain (some t) none) m u
  both : {t s : Formula} {m e f g u : List ℕ} → Is Disjunction d t m e → Spaces e (124 ∷ f) → Is Conjunction d s f g → Spaces g (38 ∷ u) → Begun d (Chain (some t) (some s)) m u
  right_u : {lo hi : ℕ} {t : Formula} {m e f u : List ℕ} → Is Unary d t m e → Spaces e (85 ∷ f) → Interval lo hi f u → Begun d (Right (item 9 0 lo hi) t) m u
  right_r : {lo hi : ℕ} {t : Formula} {m e f u : List ℕ} → Is Unary d t m e → Spaces e (82 ∷ f) → Interval lo hi f u → Begun d (Right (item 10 0 lo hi) t) m u

-- a line that begins at w, up to a formula awaited at m, in which brackets may nest d deep
data Opened (lim : ℕ) (w : List ℕ) : Stack Formula → ℕ → List ℕ → Type 0 where
  line : {n : ℕ} {a c m : List ℕ} → Spaces w a → Number n a c → Spaces c (58 ∷ m) → Opened lim w (bottom n) lim m
  bracket : {d : ℕ} {p : Awaited Formula} {is : List Item} {st : Stack Formula} {m u v e : List ℕ}
      → Opened lim w st (suc d) m → Begun (suc d) p m u → Prefixed is u v → Spaces v (40 ∷ e) → Opened lim w (push p is st) d e

opened_depth : {lim : ℕ} {w : List ℕ} {d : ℕ} {m : List ℕ} {st : Stack Formula} → Opened lim w st d m → depth st + d ≡ lim
unfolding depth
opened_depth (line s n c) = omega arith
opened_depth (bracket o b p s) = let h = opened_depth o in omega arith

module _ (lim : ℕ) (w : List ℕ) where
  -- an operator whose interval is awaited at e
  data Timed : ℕ → Awaited Formula → List Item → Stack Formula → Formula → List ℕ → Type 0 where
    t_fin : {d : ℕ} {p : Awaited Formula} {is : List Item} {st : Stack Formula} {b : Formula} {m u v e : List ℕ}
        → Opened lim w st d m → Begun d p m u → Prefixed is u v → Spaces v (70 ∷ e) → Timed 7 p is st b e
    t_glo : {d : ℕ} {p : Awaited Formula} {is : List Item} {st : Stack Formula} {b : Formula} {m u v e : List ℕ}
        → Opened lim w st d m → Begun d p m u → Prefixed is u v → Spaces v (71 ∷ e) → Timed 8 p is st b e
    t_unt : {d : ℕ} {p : Awaited Formula} {is : List Item} {st : Stack Formula} {b : Formula} {m a e : List ℕ}
        → Opened lim w st d m → Is Unary d b m a → Spaces a (85 ∷ e) → Timed 9 p is st b e
    t_rel : {d : ℕ} {p : Awaited Formula} {is : List Item} {st : Stack Formula} {b : Formula} {m a e : List ℕ}
        → Opened lim w st d m → Is Unary d b m a → Spaces a (82 ∷ e) → Timed 10 p is st b e

  -- what a configuration says of the bytes from w to u
  data Past : Config Formula Formula → List ℕ → Type 0 where
    name : {p : Awaited Formula} {is : List Item} {st : Stack Formula} {b : Formula} {u : List ℕ} → Spaces w u → Past (cf (AwaitNumber Name) p is st b) u
    name_dig : {n : ℕ} {p : Awaited Formula} {is : List Item} {st : Stack Formula} {b : Formula} {a u : List ℕ} → Spaces w a → Number n a u → Past (cf (InNumber Name n) p is st b) u
    colon : {n : ℕ} {p : Awaited Formula} {is : List Item} {st : Stack Formula} {b : Formula} {a c u : List ℕ} → Spaces w a → Number n a c → Spaces c u → Past (cf (AwaitByte (ToFormula n)) p is st b) u
    start : {d : ℕ} {p : Awaited Formula} {is : List Item} {st : Stack Formula} {b : Formula} {m x v u : List ℕ}
        → Opened lim w st d m → Begun d p m x → Prefixed is x v → Spaces v u → Past (cf AwaitUnary p is st b) u
    sig : {d : ℕ} {p : Awaited Formula} {is : List Item} {st : Stack Formula} {b : Formula} {m x v u : List ℕ}
        → Opened lim w st d m → Begun d p m x → Prefixed is x v → Spaces v (115 ∷ u) → Past (cf (AwaitNumber Sig) p is st b) u
    sig_dig : {d n : ℕ} {p : Awaited Formula} {is : List Item} {st : Stack Formula} {b : Formula} {m x v a u : List ℕ}
        → Opened lim w st d m → Begun d p m x → Prefixed is x v → Spaces v (115 ∷ a) → Number n a u → Past (cf (InNumber Sig n) p is st b) u
    word : {d y : ℕ} {ys : List ℕ} {z : Bool} {p : Awaited Formula} {is : List Item} {st : Stack Formula} {b : Formula} {m x v u : List ℕ}
        → Opened lim w st d m → Begun d p m x → Prefixed is x v → ((r : List ℕ) → u ≡ y ∷ (ys ++ r) → Is Atom d (const z) v r) → Past (cf (InWord y ys z) p is st b) u
    want_lo : {k : ℕ} {p : Awaited Formula} {is : List Item} {st : Stack Formula} {b : Formula} {e u : List ℕ} → Timed k p is st b e → Spaces e u → Past (cf (AwaitByte (ToLo k)) p is st b) u
    lo : {k : ℕ} {p : Awaited Formula} {is : List Item} {st : Stack Formula} {b : Formula} {e f u : List ℕ} → Timed k p is st b e → Spaces e (91 ∷ f) → Spaces f u → Past (cf (AwaitNumber (Lo k)) p is st b) u
    lo_dig : {k n : ℕ} {p : Awaited Formula} {is : List Item} {st : Stack Formula} {b : Formula} {e f g u : List ℕ}
        → Timed k p is st b e → Spaces e (91 ∷ f) → Spaces f g → Number n g u → Past (cf (InNumber (Lo k) n) p is st b) u
    comma : {k n : ℕ} {p : Awaited Formula} {is : List Item} {st : Stack Formula} {b : Formula} {e f g h u : List ℕ}
        → Timed k p is st b e → Spaces e (91 ∷ f) → Spaces f g → Number n g h → Spaces h u → Past (cf (AwaitByte (ToHi k n)) p is st b) u
    hi : {k n : ℕ} {p : Awaited Formula} {is : List Item} {st : Stack Formula} {b : Formula} {e f g h i u : List ℕ}
        → Timed k p is st b e → Spaces e (91 ∷ f) → Spaces f g → Number n g h → Spaces h (44 ∷ i) → Spaces i u → Past (cf (AwaitNumber (Hi k n)) p is st b) u
    hi_dig : {k n o : ℕ} {p : Awaited Formula} {is : List Item} {st : Stack Formula} {b : Formula} {e f g h i j u : List ℕ}
        → Timed k p is st b e → Spaces e (91 ∷ f) → Spaces f g → Number n g h → Spaces h (44 ∷ i) → Spaces i j → Number o j u → Past (cf (InNumber (Hi k n) o) p is st b) u
    close : {k n o : ℕ} {p : Awaited Formula} {is : List Item} {st : Stack Formula} {b : Formula} {e f g h i j l u : List ℕ}
        → Timed k p is st b e → Spaces e (91 ∷ f) → Spaces f g → Number n g h → Spaces h (44 ∷ i) → Spaces i j → Number o j l → Spaces l u → Past (cf (AwaitByte (ToOp k n o)) p is st b) u
    alone : {d : ℕ} {p : Awaited Formula} {is : List Item} {st : Stack Formula} {b : Formula} {m e u : List ℕ}
        → Opened lim w st d m → Is Unary d b m e → Spaces e u → Past (cf FirstRead p is st b) u
    joined : {d : ℕ} {p : Awaited Formula} {is : List Item} {st : Stack Formula} {b : Formula} {m e u : List ℕ}
        → Opened lim w st d m → Is Conjunction d b m e → Spaces e u → Past (cf (ChainRead none) p is st b) u
    joined_or : {d : ℕ} {l : Formula} {p : Awaited Formula} {is : List Item} {st : Stack Formula} {b : Formula} {m e f g u : List ℕ}
        → Opened lim w st d m → Is Disjunction d l m e → Spaces e (124 ∷ f) → Is Conjunction d b f g → Spaces g u → Past (cf (ChainRead (some l)) p is st b) u
    closed : {d : ℕ} {p : Awaited Formula} {is : List Item} {st : Stack Formula} {b : Formula} {m e u : List ℕ}
        → Opened lim w st d m → Is AnyFormula d b m e → Spaces e u → Past (cf AllRead p is st b) u

  -- what a byte leads to
  data Kept : Next Formula Formula → List ℕ → Type 0 where
    k_on : {c : Config Formula Formula} {u : List ℕ} → Past c u → Kept (on c) u
    k_stop : {n : ℕ} {u : List ℕ} → Kept (stop n) u
    k_end : {n : ℕ} {t : Formula} {u : List ℕ} → Line lim n t w u → Kept (ended n t) u

  on_past : {c : Config Formula Formula} {u : List ℕ} → Kept (on c) u → Past c u
  on_past (k_on p) = p

  end_past : {n : ℕ} {t : Formula} {u : List ℕ} → Kept (ended n t) u → Line lim n t w u
  end_past (k_end l) = l

  kept_if : (t : Bool) {a b : Next Formula Formula} {u : List ℕ} → (t ≡ true → Kept a u) → Kept b u → Kept (pick t a b) u
  kept_if true f g = f refl
  kept_if false f g = g

  kept_at : (x y : ℕ) {a b : Next Formula Formula} {u : List ℕ} → (x ≡ y → Kept a u) → Kept b u → Kept (pick (eqb x y) a b) u
  kept_at x y f g = kept_if (eqb x y) (λ e. f (eqb-true x y e)) g

  on_at : (x y : ℕ) {c : Config Formula Formula} {b : Next Formula Formula} {u : List ℕ} → (x ≡ y → Past c u) → Kept b u → Kept (pick (eqb x y) (on c) b) u
  on_at x y f g = kept_if (eqb x y) (λ e. k_on (f (eqb-true x y e))) g

  -- ---- a unary, an atom, an interval is read
  unary_past : {d : ℕ} {t : Formula} {p : Awaited Formula} {st : Stack Formula} {m x u : List ℕ} → Opened lim w st d m → Begun d p m x → Is Unary d t x u → Past (unary_done trees p st t) u
  unfolding unary_done
  unary_past o first i = alone o i none'
  unary_past o (conj c s) i = joined o (c_and c s i) none'
  unary_past o (disj c s) i = joined_or o c s (c_unary i) none'
  unary_past o (both c s k z) i = joined_or o c s (c_and k z i) none'
  unary_past o (right_u l s v) i = closed o (w_until l s v i) none'
  unary_past o (right_r l s v) i = closed o (w_release l s v i) none'

  atom_past : {d : ℕ} {t : Formula} {p : Awaited Formula} {is : List Item} {st : Stack Formula} {m x v u : List ℕ}
      → Opened lim w st d m → Begun d p m x → Prefixed is x v → Is Atom d t v u → Past (atom_done trees p is st t) u
  atom_past o b p i = unary_past o b (apply p (u_atom i))

  timed_past : {k n o : ℕ} {p : Awaited Formula} {is : List Item} {st : Stack Formula} {b : Formula} {e u : List ℕ}
      → Timed k p is st b e → Interval n o e u → Past (go trees (ToOp k n o) p is st b) u
  timed_past (t_fin o b p s) v = start o b (fins p s v) none'
  timed_past (t_glo o b p s) v = start o b (glos p s v) none'
  timed_past (t_unt o i s) v = start o (right_u i s v) bare none'
  timed_past (t_rel o i s) v = start o (right_r i s v) bare none'

  -- ---- a formula ends
  close_past : {d x : ℕ} {t : Formula} {st : Stack Formula} {m e u : List ℕ} → Opened lim w st d m → Is AnyFormula d t m e → Spaces e (x ∷ u) → Kept (formula_ended trees st t x) u
  close_past {x = x} (line {m = m} a n c) i s =
      kept_at x 10 (λ h. k_end (record { a = _; b = _; c = m; e = _; before_name = a; name_is = n; colon = c; formula = i; ended = rw h at s })) k_stop
  close_past {x = x} (bracket o b p z) i s = on_at x 41 (λ h. atom_past o b p (a_brackets z i (rw h at s))) k_stop

  -- ---- a bracket opens
  open_past : {d : ℕ} {p : Awaited Formula} {is : List Item} {st : Stack Formula} {m y v u : List ℕ} (b : Formula)
      → Opened lim w st d m → Begun d p m y → Prefixed is y v → Spaces v (40 ∷ u) → Kept (bracket_opened trees lim p is st b) u
  open_past {d = d} {p = p} {is = is} {st = st} {y = y} {u = u} b o g f s = kept_if (ltb (depth st) lim) (λ h. k_on (by d o g (ltb-true (depth st) lim h))) k_stop
    where
      by : (d : ℕ) {m : List ℕ} → Opened lim w st d m → Begun d p m y → depth st < lim → Past (cf AwaitUnary First [] (push p is st) b) u
      by zero o g h = let e = opened_depth o in absurd (omega arith)
      by (suc d) o g h = start (bracket o g f s) first bare none'

  -- ---- each byte, in each mode
  start_past : {d x : ℕ} {m y v u : List ℕ} (p : Awaited Formula) (is : List Item) (st : Stack Formula) (b : Formula)
      → Opened lim w st d m → Begun d p m y → Prefixed is y v → Spaces v (x ∷ u) → Kept (plain trees lim (cf AwaitUnary p is st b) x) u
  unfolding plain
  start_past {x = x} {u = u} p is st b o g f s =
      on_at x 32 (λ h. start o g f (spaces_on s (ap (λ (k : ℕ). k ∷ u) h)))
      (on_at x 33 (λ h. start o g (bang f (rw h at s)) none')
      (on_at x 70 (λ h. want_lo (t_fin o g f (rw h at s)) none')
      (on_at x 71 (λ h. want_lo (t_glo o g f (rw h at s)) none')
      (on_at x 115 (λ h. sig o g f (rw h at s))
      (on_at x 116 (λ h. word o g f (λ r e. a_true (rw (h, e) at s)))
      (on_at x 102 (λ h. word o g f (λ r e. a_false (rw (h, e) at s)))
      (kept_at x 40 (λ h. open_past b o g f (rw h at s)) k_stop)))))))

  word_past : {d x y : ℕ} {z : Bool} {p : Awaited Formula} {is : List Item} {st : Stack Formula} {m v s u : List ℕ} (ys : List ℕ) (b : Formula)
      → Opened lim w st d m → Begun d p m v → Prefixed is v s → ((r : List ℕ) → x ∷ u ≡ y ∷ (ys ++ r) → Is Atom d (const z) s r) → x ≡ y → Past (spelt trees ys z p is st b) u
  word_past {z = true} {u = u} [] b o g f a h = atom_past o g f (a u (ap (λ (k : ℕ). k ∷ u) h))
  word_past {z = false} {u = u} [] b o g f a h = atom_past o g f (a u (ap (λ (k : ℕ). k ∷ u) h))
  word_past (y' ∷ ys) b o g f a h = word o g f (λ r e. a r (ap₂ (λ (k : ℕ) (l : List ℕ). k ∷ l) h e))

  alone_past : {d x : ℕ} {m e u : List ℕ} (p : Awaited Formula) (is : List Item) (st : Stack Formula) (b : Formula)
      → Opened lim w st d m → Is Unary d b m e → Spaces e (x ∷ u) → Kept (plain trees lim (cf FirstRead p is st b) x) u
  unfolding plain
  alone_past {x = x} {u = u} p is st b o i s =
      on_at x 32 (λ h. alone o i (spaces_on s (ap (λ (k : ℕ). k ∷ u) h)))
      (on_at x 38 (λ h. start o (conj (c_unary i) (rw h at s)) bare none')
      (on_at x 124 (λ h. start o (disj (d_conjunction (c_unary i)) (rw h at s)) bare none')
      (on_at x 85 (λ h. want_lo (t_unt o i (rw h at s)) none')
      (on_at x 82 (λ h. want_lo (t_rel o i (rw h at s)) none')
      (close_past o (w_disjunction (d_conjunction (c_unary i))) s)))))

  joined_past : {d x : ℕ} {m e u : List ℕ} (p : Awaited Formula) (is : List Item) (st : Stack Formula) (b : Formula)
      → Opened lim w st d m → Is Conjunction d b m e → Spaces e (x ∷ u) → Kept (plain trees lim (cf (ChainRead none) p is st b) x) u
  unfolding plain
  joined_past {x = x} {u = u} p is st b o i s =
      on_at x 32 (λ h. joined o i (spaces_on s (ap (λ (k : ℕ). k ∷ u) h)))
      (on_at x 38 (λ h. start o (conj i (rw h at s)) bare none')
      (on_at x 124 (λ h. start o (disj (d_conjunction i) (rw h at s)) bare none')
      (close_past o (w_disjunction (d_conjunction i)) s)))

  joined_or_past : {d x : ℕ} {l : Formula} {m e f g u : List ℕ} (p : Awaited Formula) (is : List Item) (st : Stack Formula) (b : Formula)
      → Opened lim w st d m → Is Disjunction d l m e → Spaces e (124 ∷ f) → Is Conjunction d b f g → Spaces g (x ∷ u) → Kept (plain trees lim (cf (ChainRead (some l)) p is st b) x) u
  unfolding plain
  joined_or_past {x = x} {u = u} p is st b o i z j s =
      on_at x 32 (λ h. joined_or o i z j (spaces_on s (ap (λ (k : ℕ). k ∷ u) h)))
      (on_at x 38 (λ h. start o (both i z j (rw h at s)) bare none')
      (on_at x 124 (λ h. start o (disj (d_or i z j) (rw h at s)) bare none')
      (close_past o (w_disjunction (d_or i z j)) s)))

  closed_past : {d x : ℕ} {m e u : List ℕ} (p : Awaited Formula) (is : List Item) (st : Stack Formula) (b : Formula)
      → Opened lim w st d m → Is AnyFormula d b m e → Spaces e (x ∷ u) → Kept (plain trees lim (cf AllRead p is st b) x) u
  unfolding plain
  closed_past {x = x} {u = u} p is st b o i s = on_at x 32 (λ h. closed o i (spaces_on s (ap (λ (k : ℕ). k ∷ u) h))) (close_past o i s)

  -- a byte wanted, over spaces
  want_past : {g : Goal} {p : Awaited Formula} {is : List Item} {st : Stack Formula} {b : Formula} {e u : List ℕ} (x : ℕ)
      → (Spaces e u → Past (cf (AwaitByte g) p is st b) u) → (Spaces e (wanted g ∷ u) → Past (go trees g p is st b) u) → Spaces e (x ∷ u) → Kept (plain trees lim (cf (AwaitByte g) p is st b) x) u
  unfolding plain
  want_past {g = g} {u = u} x f k s = on_at x 32 (λ h. f (spaces_on s (ap (λ (j : ℕ). j ∷ u) h))) (on_at x (wanted g) (λ h. k (rw h at s)) k_stop)

  -- a number awaited, over spaces
  number_past : {q : Purpose} {p : Awaited Formula} {is : List Item} {st : Stack Formula} {b : Formula} {e u : List ℕ} (x : ℕ)
      → (Spaces e u → Past (cf (AwaitNumber q) p is st b) u) → (Number (x - 48) (x ∷ u) u → Past (cf (InNumber q (x - 48)) p is st b) u) → Spaces e (x ∷ u) → Kept (plain trees lim (cf (AwaitNumber q) p is st b) x) u
  unfolding plain
  number_past {q = q} {u = u} x f g s =
      kept_if (is_digit x) (λ h. k_on (g (number_first x u h)))
      (kept_if (eqb x 32 && spaced q) (λ h. k_on (f (spaces_on s (ap (λ (k : ℕ). k ∷ u) (eqb-true x 32 (true_left (eqb x 32) (spaced q) h)))))) k_stop)

  sig_past : {p : Awaited Formula} {is : List Item} {st : Stack Formula} {b : Formula} {u : List ℕ} (x : ℕ)
      → (Number (x - 48) (x ∷ u) u → Past (cf (InNumber Sig (x - 48)) p is st b) u) → Kept (plain trees lim (cf (AwaitNumber Sig) p is st b) x) u
  unfolding plain
  sig_past {u = u} x g =
      kept_if (is_digit x) (λ h. k_on (g (number_first x u h))) (kept_if (eqb x 32 && false) (λ h. absurd (let z : ◌≡◌ {A = ℕ} 0 1 = cc (true_right (eqb x 32) false h) in omega arith)) k_stop)

  plain_past : {c : Config Formula Formula} {x : ℕ} {u : List ℕ} → Past c (x ∷ u) → Kept (plain trees lim c x) u
  unfolding plain
  plain_past {x = x} (name s) = number_past x name (λ n. name_dig s n) s
  plain_past (name_dig s n) = k_stop
  plain_past {x = x} (colon s n z) = want_past x (colon s n) (λ y. start (line s n y) first bare none') z
  plain_past (start {p = p} {is = is} {st = st} {b = b} o g f s) = start_past p is st b o g f s
  plain_past {x = x} (sig o g f s) = sig_past x (λ n. sig_dig o g f s n)
  plain_past (sig_dig o g f s n) = k_stop
  plain_past {x = x} (word {y = y} {ys = ys} {b = b} o g f a) = on_at x y (word_past ys b o g f a) k_stop
  plain_past {x = x} (want_lo t s) = want_past x (want_lo t) (λ y. lo t y none') s
  plain_past {x = x} (lo t s z) = number_past x (lo t s) (λ n. lo_dig t s z n) z
  plain_past (lo_dig t s z n) = k_stop
  plain_past {x = x} (comma t s z n y) = want_past x (comma t s z n) (λ e. hi t s z n e none') y
  plain_past {x = x} (hi t s z n y e) = number_past x (hi t s z n y) (λ o. hi_dig t s z n y e o) e
  plain_past (hi_dig t s z n y e o) = k_stop
  plain_past {x = x} (close t s z n y e o q) =
      want_past x (close t s z n y e o)
      (λ r. timed_past t (record { a = _; b = _; c = _; d = _; e = _; f = _; opened = s; before_lo = z; lo_is = n; comma = y; before_hi = e; hi_is = o; close = r })) q
  plain_past (alone {p = p} {is = is} {st = st} {b = b} o i s) = alone_past p is st b o i s
  plain_past (joined {p = p} {is = is} {st = st} {b = b} o i s) = joined_past p is st b o i s
  plain_past (joined_or {p = p} {is = is} {st = st} {b = b} o i z j s) = joined_or_past p is st b o i z j s
  plain_past (closed {p = p} {is = is} {st = st} {b = b} o i s) = closed_past p is st b o i s

  -- within a number
  dig_past : {q : Purpose} {n : ℕ} {p : Awaited Formula} {is : List Item} {st : Stack Formula} {b : Formula} {e u : List ℕ} (x : ℕ)
      → (Number (10 * n + (x - 48)) e u → Past (cf (InNumber q (10 * n + (x - 48))) p is st b) u) → Past (number_read trees q n p is st b) (x ∷ u) → Number n e (x ∷ u)
      → Kept (step trees lim (cf (InNumber q n) p is st b) x) u
  unfolding step
  dig_past {n = n} x f g s =
      kept_if (is_digit x && not (eqb n 0)) (λ h. k_on (f (number_on s (true_left (is_digit x) (not (eqb n 0)) h) (true_right (is_digit x) (not (eqb n 0)) h)))) (plain_past g)

  step_past : {c : Config Formula Formula} {x : ℕ} {u : List ℕ} → Past c (x ∷ u) → Kept (step trees lim c x) u
  unfolding step plain
  step_past (name s) = plain_past (name s)
  step_past {x = x} (name_dig s n) = dig_past x (name_dig s) (colon s n none') n
  step_past (colon s n z) = plain_past (colon s n z)
  step_past (start {p = p} {is = is} {st = st} {b = b} o g f s) = start_past p is st b o g f s
  step_past (sig o g f s) = plain_past (sig o g f s)
  step_past {x = x} (sig_dig o g f s n) = dig_past x (sig_dig o g f s) (atom_past o g f (a_signal s n)) n
  step_past {x = x} (word {y = y} {ys = ys} {b = b} o g f a) = on_at x y (word_past ys b o g f a) k_stop
  step_past (want_lo t s) = plain_past (want_lo t s)
  step_past (lo t s z) = plain_past (lo t s z)
  step_past {x = x} (lo_dig t s z n) = dig_past x (lo_dig t s z) (comma t s z n none') n
  step_past (comma t s z n y) = plain_past (comma t s z n y)
  step_past (hi t s z n y e) = plain_past (hi t s z n y e)
  step_past {x = x} (hi_dig t s z n y e o) = dig_past x (hi_dig t s z n y e) (close t s z n y e o none') o
  step_past (close t s z n y e o q) = plain_past (close t s z n y e o q)
  step_past (alone {p = p} {is = is} {st = st} {b = b} o i s) = alone_past p is st b o i s
  step_past (joined {p = p} {is = is} {st = st} {b = b} o i s) = joined_past p is st b o i s
  step_past (joined_or {p = p} {is = is} {st = st} {b = b} o i z j s) = joined_or_past p is st b o i z j s
  step_past (closed {p = p} {is = is} {st = st} {b = b} o i s) = closed_past p is st b o i s

  kept_by : {s t : Next Formula Formula} {u : List ℕ} → s ≡ t → Kept s u → Kept t u
  kept_by e k = rw e at k

  runs_past : {c e : Config Formula Formula} {bs r : List ℕ} → Runs trees lim c bs e r → Past c bs → Past e r
  runs_past still p = p
  runs_past (moves s q) p = runs_past q (on_past (kept_by s (step_past p)))

-- a line that is accepted is one of the grammar
pub sound : (lim : ℕ) (bs : List ℕ) (b : Formula) (i n : ℕ) (t : Formula) (j : ℕ) (r : List ℕ) → fate trees lim (begin trees b) i bs ≡ Finished n t j r → Line lim n t bs r
sound lim bs b i n t j r h =
    let a = accepted trees lim bs (begin trees b) i n t j r h in
    end_past lim bs (kept_by lim bs a.ends (step_past lim bs (runs_past lim bs a.way (name none'))))
