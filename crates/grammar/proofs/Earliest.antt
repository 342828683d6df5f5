-- A fault of syntax is told at the earliest place. Assumes nothing.
use Prim.Native.Nat.{ℕ, suc, ◌+◌, ◌-◌, ◌≤◌}
use native.Mathlib.Omega.{arith}
use mathlib.Core.Path.{◌≡◌, refl, sym, ap, ◌∙◌}
use mathlib.Core.Logic.{◌⊎◌, inl, inr}
use mathlib.Core.Bool.{Bool, true, false, ◌&&◌, not}
use mathlib.Core.List.{List, [], ◌∷◌, ◌++◌, append_assoc, append-nil}
use mathlib.Core.Option.{Option, none, some}
use lib.Dec.{ltb, leb, eqb}
use lib.ListN.{length, length-append}
use borrow.Author.Tests.{eqb-true, ltb-true, lt-ltb, eq-eqb}
use Rattle.lists.specs.Choice.{pick}
use Rattle.mltl.specs.Mltl.{Formula}
use Rattle.grammar.specs.Grammar.{is_digit, Line, Viable, Unfit, at_end as unfit-end, at_byte as unfit-byte, Fault32, Fault33}
use Rattle.grammar.specs.declared.Item.{Item}
use Rattle.grammar.specs.Machine.{item, plain_item, Actions, Purpose, Name, Sig, Lo, Hi, Goal, ToFormula, ToLo, ToHi, ToOp, wanted, Awaited, First, Chain, Right, Stack, bottom, push, depth, AwaitNumber, InNumber, AwaitByte, InWord, AwaitUnary, FirstRead, ChainRead, AllRead, Config, cf, Next, on, stop, ended, Fault, number_read, unary_done, atom_done, orred, bracket_opened, formula_ended, go, plain, step, follow, fate, trees, begin}
use Rattle.grammar.proofs.Runs.{pick_true, pick_false, Runs, still, moves, joins, fated, front, Stuck, at_end, at_byte, faulty, tells, dig_like, num_first}
use Rattle.grammar.proofs.Complete.{Closer, bracket, newline, complete}
use Rattle.grammar.proofs.Sound.{sound}

-- ---- every configuration can be completed
module _ {B N : Type 0} (A : Actions B N) (lim : ℕ) where
  record Finish (c : Config B N) (bs : List ℕ) : Type 0 where
    last : Config B N
    x : ℕ
    n : ℕ
    b : B
    way : Runs A lim c bs last (x ∷ [])
    ends : step A lim last x ≡ ended n b

  on_by : {c d : Config B N} {x : ℕ} {bs : List ℕ} → step A lim c x ≡ on d → Finish d bs → Finish c (x ∷ bs)
  on_by s f = record { last = f.last; x = f.x; n = f.n; b = f.b; way = moves s f.way; ends = f.ends }

  -- a formula can end here
  record Closable (c : Config B N) (st : Stack N) : Type 0 where
    b : B
    shut : (x : ℕ) → Closer x → step A lim c x ≡ formula_ended A st b x

  unary_closable : (p : Awaited N) (st : Stack N) (b : B) → Closable (unary_done A p st b) st
  unfolding step plain unary_done
  unary_closable First st b = record { b = b; shut = λ x k. by x k }
    where
      by : (x : ℕ) → Closer x → step A lim (cf FirstRead First [] st b) x ≡ formula_ended A st b x
      by x bracket = refl
      by x newline = refl
  unary_closable (Chain o none) st b = record { b = orred A o b; shut = λ x k. by x k }
    where
      by : (x : ℕ) → Closer x → step A lim (cf (ChainRead o) First [] st b) x ≡ formula_ended A st (orred A o b) x
      by x bracket = refl
      by x newline = refl
  unary_closable (Chain o (some l)) st b = record { b = orred A o (A.emit b (plain_item 5) l); shut = λ x k. by (A.emit b (plain_item 5) l) x k }
    where
      by : (b : B) (x : ℕ) → Closer x → step A lim (cf (ChainRead o) First [] st b) x ≡ formula_ended A st (orred A o b) x
      by b x bracket = refl
      by b x newline = refl
  unary_closable (Right i l) st b = record { b = A.emit b i l; shut = λ x k. by (A.emit b i l) x k }
    where
      by : (b : B) (x : ℕ) → Closer x → step A lim (cf AllRead First [] st b) x ≡ formula_ended A st b x
      by b x bracket = refl
      by b x newline = refl

  closers : Stack N → List ℕ
  closers (bottom n) = 10 ∷ []
  closers (push p is st) = 41 ∷ closers st

  closes : (st : Stack N) (c : Config B N) → Closable c st → Finish c (closers st)
  unfolding closers
  closes (bottom n) c k = record { last = c; x = 10; n = n; b = k.b; way = still; ends = k.shut 10 newline }
  closes (push p is st) c k = on_by (k.shut 41 bracket) (closes st (atom_done A p is st k.b) (unary_closable p st _))

  -- what completes a configuration
  record Ending (c : Config B N) : Type 0 where
    bytes : List ℕ
    finish : Finish c bytes

  then : {c d : Config B N} (x : ℕ) → step A lim c x ≡ on d → Ending d → Ending c
  then x s e = record { bytes = x ∷ e.bytes; finish = on_by s e.finish }

  unary_ending : (p : Awaited N) (st : Stack N) (b : B) → Ending (unary_done A p st b)
  unary_ending p st b = record { bytes = closers st; finish = closes st (unary_done A p st b) (unary_closable p st b) }

  sig_ending : (n : ℕ) (p : Awaited N) (is : List Item) (st : Stack N) (b : B) → Ending (cf (InNumber Sig n) p is st b)
  sig_ending n p is st b =
      let k = unary_closable p st _ in
      record { bytes = closers st; finish = closes st (cf (InNumber Sig n) p is st b) (record { b = k.b; shut = λ x c. by x c (k.shut x c) }) }
    where
      by : (x : ℕ) {z : Next B N} → Closer x → step A lim (number_read A Sig n p is st b) x ≡ z → step A lim (cf (InNumber Sig n) p is st b) x ≡ z
      by x bracket e = (dig_like A lim Sig n p is st b).at 41 refl ∙ e
      by x newline e = (dig_like A lim Sig n p is st b).at 10 refl ∙ e

  start_ending : (p : Awaited N) (is : List Item) (st : Stack N) (b : B) → Ending (cf AwaitUnary p is st b)
  unfolding step plain
  start_ending p is st b = then 115 refl (then 48 (num_first A lim Sig p is st b 48 refl) (sig_ending 0 p is st b))

  op_ending : (k lo hi : ℕ) (p : Awaited N) (is : List Item) (st : Stack N) (b : B) → Ending (go A (ToOp k lo hi) p is st b)
  op_ending k lo hi p is st b = by (leb k 8)
    where
      by : (t : Bool) → Ending (pick t (cf AwaitUnary p (item k 0 lo hi ∷ is) st b) (cf AwaitUnary (Right (item k 0 lo hi) (A.last_node b)) [] st b))
      by true = start_ending p (item k 0 lo hi ∷ is) st b
      by false = start_ending (Right (item k 0 lo hi) (A.last_node b)) [] st b

  want_op : (k lo hi : ℕ) (p : Awaited N) (is : List Item) (st : Stack N) (b : B) → Ending (cf (AwaitByte (ToOp k lo hi)) p is st b)
  unfolding step plain
  want_op k lo hi p is st b = then 93 refl (op_ending k lo hi p is st b)

  dig_ending : (q : Purpose) (n x : ℕ) (p : Awaited N) (is : List Item) (st : Stack N) (b : B) {d : Config B N} → is_digit x ≡ false → step A lim (number_read A q n p is st b) x ≡ on d → Ending d → Ending (cf (InNumber q n) p is st b)
  dig_ending q n x p is st b h s e = then x ((dig_like A lim q n p is st b).at x h ∙ s) e

  hi_dig : (k lo n : ℕ) (p : Awaited N) (is : List Item) (st : Stack N) (b : B) → Ending (cf (InNumber (Hi k lo) n) p is st b)
  unfolding step plain
  hi_dig k lo n p is st b = dig_ending (Hi k lo) n 93 p is st b refl refl (op_ending k lo n p is st b)

  hi_ending : (k lo : ℕ) (p : Awaited N) (is : List Item) (st : Stack N) (b : B) → Ending (cf (AwaitNumber (Hi k lo)) p is st b)
  hi_ending k lo p is st b = then 48 (num_first A lim (Hi k lo) p is st b 48 refl) (hi_dig k lo 0 p is st b)

  want_hi : (k lo : ℕ) (p : Awaited N) (is : List Item) (st : Stack N) (b : B) → Ending (cf (AwaitByte (ToHi k lo)) p is st b)
  unfolding step plain
  want_hi k lo p is st b = then 44 refl (hi_ending k lo p is st b)

  lo_dig : (k n : ℕ) (p : Awaited N) (is : List Item) (st : Stack N) (b : B) → Ending (cf (InNumber (Lo k) n) p is st b)
  unfolding step plain
  lo_dig k n p is st b = dig_ending (Lo k) n 44 p is st b refl refl (hi_ending k n p is st b)

  lo_ending : (k : ℕ) (p : Awaited N) (is : List Item) (st : Stack N) (b : B) → Ending (cf (AwaitNumber (Lo k)) p is st b)
  lo_ending k p is st b = then 48 (num_first A lim (Lo k) p is st b 48 refl) (lo_dig k 0 p is st b)

  want_lo : (k : ℕ) (p : Awaited N) (is : List Item) (st : Stack N) (b : B) → Ending (cf (AwaitByte (ToLo k)) p is st b)
  unfolding step plain
  want_lo k p is st b = then 91 refl (lo_ending k p is st b)

  name_dig : (n : ℕ) (p : Awaited N) (is : List Item) (st : Stack N) (b : B) → Ending (cf (InNumber Name n) p is st b)
  unfolding step plain
  name_dig n p is st b = dig_ending Name n 58 p is st b refl refl (start_ending First [] (bottom n) b)

  word_ending : (ys : List ℕ) (y : ℕ) (z : Bool) (p : Awaited N) (is : List Item) (st : Stack N) (b : B) → Ending (cf (InWord y ys z) p is st b)
  unfolding step plain
  word_ending [] y z p is st b = then y (pick_true (eqb y y) _ _ (eq-eqb y y refl)) (unary_ending p st _)
  word_ending (x ∷ ys) y z p is st b = then y (pick_true (eqb y y) _ _ (eq-eqb y y refl)) (word_ending ys x z p is st b)

  ending : (c : Config B N) → Ending c
  unfolding step plain
  ending (cf (AwaitNumber Name) p is st b) = then 48 (num_first A lim Name p is st b 48 refl) (name_dig 0 p is st b)
  ending (cf (AwaitNumber Sig) p is st b) = then 48 (num_first A lim Sig p is st b 48 refl) (sig_ending 0 p is st b)
  ending (cf (AwaitNumber (Lo k)) p is st b) = lo_ending k p is st b
  ending (cf (AwaitNumber (Hi k lo)) p is st b) = hi_ending k lo p is st b
  ending (cf (InNumber Name n) p is st b) = name_dig n p is st b
  ending (cf (InNumber Sig n) p is st b) = sig_ending n p is st b
  ending (cf (InNumber (Lo k) n) p is st b) = lo_dig k n p is st b
  ending (cf (InNumber (Hi k lo) n) p is st b) = hi_dig k lo n p is st b
  ending (cf (AwaitByte (ToFormula n)) p is st b) = then 58 refl (start_ending First [] (bottom n) b)
  ending (cf (AwaitByte (ToLo k)) p is st b) = want_lo k p is st b
  ending (cf (AwaitByte (ToHi k lo)) p is st b) = want_hi k lo p is st b
  ending (cf (AwaitByte (ToOp k lo hi)) p is st b) = want_op k lo hi p is st b
  ending (cf (InWord y ys z) p is st b) = word_ending ys y z p is st b
  ending (cf AwaitUnary p is st b) = start_ending p is st b
  ending (cf FirstRead p is st b) = record { bytes = closers st; finish = closes st (cf FirstRead p is st b) (record { b = b; shut = λ x k. by x k }) }
    where
      by : (x : ℕ) → Closer x → step A lim (cf FirstRead p is st b) x ≡ formula_ended A st b x
      by x bracket = refl
      by x newline = refl
  ending (cf (ChainRead o) p is st b) = record { bytes = closers st; finish = closes st (cf (ChainRead o) p is st b) (record { b = orred A o b; shut = λ x k. by x k }) }
    where
      by : (x : ℕ) → Closer x → step A lim (cf (ChainRead o) p is st b) x ≡ formula_ended A st (orred A o b) x
      by x bracket = refl
      by x newline = refl
  ending (cf AllRead p is st b) = record { bytes = closers st; finish = closes st (cf AllRead p is st b) (record { b = b; shut = λ x k. by x k }) }
    where
      by : (x : ℕ) → Closer x → step A lim (cf AllRead p is st b) x ≡ formula_ended A st b x
      by x bracket = refl
      by x newline = refl

-- ---- more brackets allowed change only what 33 stopped
module _ {B N : Type 0} (A : Actions B N) (lim wide : ℕ) (h : lim ≤ wide) where
  abbrev Widens : Next B N → Next B N → Type 0
  Widens s t = (s ≡ t) ⊎ (s ≡ stop 33)

  unary_widens : (p : Awaited N) (st : Stack N) (b : B) (x : ℕ) → plain A lim (unary_done A p st b) x ≡ plain A wide (unary_done A p st b) x
  unfolding plain unary_done
  unary_widens First st b x = refl
  unary_widens (Chain o none) st b x = refl
  unary_widens (Chain o (some l)) st b x = refl
  unary_widens (Right i l) st b x = refl

  settled_widens : (q : Purpose) (n : ℕ) (p : Awaited N) (is : List Item) (st : Stack N) (b : B) (x : ℕ) → plain A lim (number_read A q n p is st b) x ≡ plain A wide (number_read A q n p is st b) x
  unfolding plain
  settled_widens Name n p is st b x = refl
  settled_widens Sig n p is st b x = unary_widens p st _ x
  settled_widens (Lo k) n p is st b x = refl
  settled_widens (Hi k lo) n p is st b x = refl

  opening_widens : (p : Awaited N) (is : List Item) (st : Stack N) (b : B) → Widens (bracket_opened A lim p is st b) (bracket_opened A wide p is st b)
  opening_widens p is st b = by (ltb (depth st) lim) refl
    where
      by : (t : Bool) → ltb (depth st) lim ≡ t → Widens (bracket_opened A lim p is st b) (bracket_opened A wide p is st b)
      by true e =
          let l = ltb-true (depth st) lim e in
          inl (pick_true (ltb (depth st) lim) _ _ e ∙ sym (pick_true (ltb (depth st) wide) _ _ (lt-ltb (depth st) wide (omega arith))))
      by false e = inr (pick_false (ltb (depth st) lim) _ _ e)

  pick_widens : (t : Bool) (a : Next B N) {s u : Next B N} → Widens s u → Widens (pick t a s) (pick t a u)
  pick_widens true a w = inl refl
  pick_widens false a w = w

  last_widens : (t : Bool) (a : Next B N) {s u : Next B N} → Widens s u → Widens (pick t s a) (pick t u a)
  last_widens true a w = w
  last_widens false a w = inl refl

  widens : (c : Config B N) (x : ℕ) → Widens (step A lim c x) (step A wide c x)
  unfolding step plain
  widens (cf (AwaitNumber q) p is st b) x = inl refl
  widens (cf (InNumber q n) p is st b) x = inl (ap (λ (s : Next B N). pick (is_digit x && not (eqb n 0)) (on (cf (InNumber q (A.more n (x - 48))) p is st b)) s) (settled_widens q n p is st b x))
  widens (cf (AwaitByte g) p is st b) x = inl refl
  widens (cf (InWord y ys z) p is st b) x = inl refl
  widens (cf AwaitUnary p is st b) x =
      pick_widens (eqb x 32) _ (pick_widens (eqb x 33) _ (pick_widens (eqb x 70) _ (pick_widens (eqb x 71) _ (pick_widens (eqb x 115) _ (pick_widens (eqb x 116) _ (pick_widens (eqb x 102) _
      (last_widens (eqb x 40) _ (opening_widens p is st b))))))))
  widens (cf FirstRead p is st b) x = inl refl
  widens (cf (ChainRead o) p is st b) x = inl refl
  widens (cf AllRead p is st b) x = inl refl

  on_widens : {s t : Next B N} {d : Config B N} → Widens s t → s ≡ on d → t ≡ on d
  on_widens (inl e) f = sym e ∙ f
  on_widens (inr e) f = absurd (let z : ◌≡◌ {A = ℕ} 0 1 = cc in omega arith)

  stop_widens : {s t : Next B N} → Widens s t → s ≡ stop 32 → t ≡ stop 32
  stop_widens (inl e) f = sym e ∙ f
  stop_widens (inr e) f = absurd (let g : ◌≡◌ {A = ℕ} 32 33 = cc in omega arith)

  runs_widens : {c e : Config B N} {bs r : List ℕ} → Runs A lim c bs e r → Runs A wide c bs e r
  runs_widens still = still
  runs_widens (moves {c = c} {x = x} s p) = moves (on_widens (widens c x) s) (runs_widens p)

-- ---- 33 is told only of an opening bracket where a unary is awaited
data Deep {B N : Type 0} (lim : ℕ) : Config B N → ℕ → Type 0 where
  deep : {p : Awaited N} {is : List Item} {st : Stack N} {b : B} {x : ℕ} → x ≡ 40 → Deep lim (cf AwaitUnary p is st b) x

module _ {B N : Type 0} (A : Actions B N) (lim : ℕ) where
  pick_on : (t : Bool) (c : Config B N) (s : Next B N) → pick t (on c) s ≡ stop 33 → s ≡ stop 33
  pick_on true c s e = absurd (let z : ◌≡◌ {A = ℕ} 0 1 = cc in omega arith)
  pick_on false c s e = e

  not_33 : ◌≡◌ {A = Next B N} (stop 32) (stop 33) → ⊥
  not_33 e = let g : ◌≡◌ {A = ℕ} 32 33 = cc in omega arith

  no_end : (t : Bool) (n : ℕ) (b : B) → ◌≡◌ {A = Next B N} (pick t (ended n b) (stop 32)) (stop 33) → ⊥
  no_end true n b e = let z : ◌≡◌ {A = ℕ} 0 1 = cc in omega arith
  no_end false n b e = not_33 e

  no_close : (st : Stack N) (b : B) (x : ℕ) → formula_ended A st b x ≡ stop 33 → ⊥
  no_close (bottom n) b x e = no_end (eqb x 10) n b e
  no_close (push p is st) b x e = not_33 (pick_on (eqb x 41) _ _ e)

  no_alone : (p : Awaited N) (is : List Item) (st : Stack N) (b : B) (x : ℕ) → plain A lim (cf FirstRead p is st b) x ≡ stop 33 → ⊥
  unfolding plain
  no_alone p is st b x e = no_close st b x (pick_on (eqb x 82) _ _ (pick_on (eqb x 85) _ _ (pick_on (eqb x 124) _ _ (pick_on (eqb x 38) _ _ (pick_on (eqb x 32) _ _ e)))))

  no_joined : (o : Option N) (p : Awaited N) (is : List Item) (st : Stack N) (b : B) (x : ℕ) → plain A lim (cf (ChainRead o) p is st b) x ≡ stop 33 → ⊥
  unfolding plain
  no_joined o p is st b x e = no_close st (orred A o b) x (pick_on (eqb x 124) _ _ (pick_on (eqb x 38) _ _ (pick_on (eqb x 32) _ _ e)))

  no_closed : (p : Awaited N) (is : List Item) (st : Stack N) (b : B) (x : ℕ) → plain A lim (cf AllRead p is st b) x ≡ stop 33 → ⊥
  unfolding plain
  no_closed p is st b x e = no_close st b x (pick_on (eqb x 32) _ _ e)

  no_want : (g : Goal) (p : Awaited N) (is : List Item) (st : Stack N) (b : B) (x : ℕ) → plain A lim (cf (AwaitByte g) p is st b) x ≡ stop 33 → ⊥
  unfolding plain
  no_want g p is st b x e = not_33 (pick_on (eqb x (wanted g)) _ _ (pick_on (eqb x 32) _ _ e))

  no_unary : (p : Awaited N) (st : Stack N) (b : B) (x : ℕ) → plain A lim (unary_done A p st b) x ≡ stop 33 → ⊥
  unfolding unary_done
  no_unary First st b x e = no_alone First [] st b x e
  no_unary (Chain o none) st b x e = no_joined o First [] st b x e
  no_unary (Chain o (some l)) st b x e = no_joined o First [] st _ x e
  no_unary (Right i l) st b x e = no_closed First [] st _ x e

  no_settled : (q : Purpose) (n : ℕ) (p : Awaited N) (is : List Item) (st : Stack N) (b : B) (x : ℕ) → plain A lim (number_read A q n p is st b) x ≡ stop 33 → ⊥
  no_settled Name n p is st b x e = no_want (ToFormula n) p is st b x e
  no_settled Sig n p is st b x e = no_unary p st _ x e
  no_settled (Lo k) n p is st b x e = no_want (ToHi k n) p is st b x e
  no_settled (Hi k lo) n p is st b x e = no_want (ToOp k lo n) p is st b x e

  start_33 : (p : Awaited N) (is : List Item) (st : Stack N) (b : B) (x : ℕ) (t : Bool) → eqb x 40 ≡ t → pick t (bracket_opened A lim p is st b) (stop 32) ≡ stop 33 → Deep lim (cf AwaitUnary p is st b) x
  start_33 p is st b x true h e = deep (eqb-true x 40 h)
  start_33 p is st b x false h e = absurd (not_33 e)

  only_33 : (c : Config B N) (x : ℕ) → step A lim c x ≡ stop 33 → Deep lim c x
  unfolding step plain
  only_33 (cf (AwaitNumber q) p is st b) x e = absurd (not_33 (pick_on (eqb x 32 && _) _ _ (pick_on (is_digit x) _ _ e)))
  only_33 (cf (InNumber q n) p is st b) x e = absurd (no_settled q n p is st b x (pick_on (is_digit x && not (eqb n 0)) _ _ e))
  only_33 (cf (AwaitByte g) p is st b) x e = absurd (no_want g p is st b x e)
  only_33 (cf (InWord y ys z) p is st b) x e = absurd (not_33 (pick_on (eqb x y) _ _ e))
  only_33 (cf AwaitUnary p is st b) x e =
      start_33 p is st b x (eqb x 40) refl
      (pick_on (eqb x 102) _ _ (pick_on (eqb x 116) _ _ (pick_on (eqb x 115) _ _ (pick_on (eqb x 71) _ _ (pick_on (eqb x 70) _ _ (pick_on (eqb x 33) _ _ (pick_on (eqb x 32) _ _ e)))))))
  only_33 (cf FirstRead p is st b) x e = absurd (no_alone p is st b x e)
  only_33 (cf (ChainRead o) p is st b) x e = absurd (no_joined o p is st b x e)
  only_33 (cf AllRead p is st b) x e = absurd (no_closed p is st b x e)

no_stuck : {c : Config Formula Formula} {m : ℕ} → Stuck trees 32 c [] m → m ≡ 32
no_stuck at_end = refl

-- ---- the theorems
-- what leads to a configuration goes on to a line
viable : {lim : ℕ} {c : Config Formula Formula} {read : List ℕ} (b : Formula) → ((z : List ℕ) → Runs trees lim (begin trees b) (read ++ z) c z) → Viable lim read
viable {lim} {c} {read} b way =
    let e = ending trees lim c in
    let f = tells 0 (joins (way e.bytes) e.finish.way) e.finish.ends in
    record { rest = e.bytes; name = e.finish.n; formula = e.finish.b; line = sound lim (read ++ e.bytes) b 0 e.finish.n e.finish.b f.0 [] f.1 }

-- a run that ends in a fault, however deep brackets may nest, leads to no line
unfit_by_lem : {c : Config Formula Formula} {bs r : List ℕ} (lim d name n : ℕ) (b t : Formula) (l : List ℕ) → d ≤ lim
    → Runs trees lim (begin trees b) bs c r → Stuck trees lim c r n → Line d name t bs l → ⊥
unfolding fate
unfit_by_lem lim d name n b t l h way at_end line =
    let f = fated 0 way in
    let g = complete lim 0 b h line in
    let z : ◌≡◌ {A = ℕ} 0 1 = cc (f.same, g.1) in omega arith
unfit_by_lem lim d name n b t l h way (at_byte {r = r} s) line =
    let f = fated 0 way in
    let g = complete lim 0 b h line in
    let e = ap (λ (n : Next Formula Formula). follow trees n (λ (k : Config Formula Formula). fate trees lim k (f.place + 1) r) f.place r) s in
    let z : ◌≡◌ {A = ℕ} 0 1 = cc (f.same, g.1, e) in omega arith

counted : (i p : ℕ) (bs read left : List ℕ) → bs ≡ read ++ left → i + length bs ≡ p + length left → p ≡ i + length read
counted i p bs read left e h = let l = length-append read left in let k = ap length e in omega arith

unfit_with : {c : Config Formula Formula} {read left : List ℕ} (b : Formula) → ((z : List ℕ) → Runs trees 32 (begin trees b) (read ++ z) c z) → Stuck trees 32 c left 32 → Unfit read left
unfit_with {read = read} b way at_end =
    unfit-end (λ d name t r l. unfit_by_lem (32 + d) d name 32 b t r (omega arith) (rw append-nil at (runs_widens trees 32 (32 + d) (omega arith) (way []))) at_end l)
unfit_with b way (at_byte {e = e} {x = x} s) =
    unfit-byte (λ d name t z r l. unfit_by_lem (32 + d) d name 32 b t r (omega arith) (runs_widens trees 32 (32 + d) (omega arith) (way (x ∷ z))) (at_byte (stop_widens trees 32 (32 + d) (omega arith) (widens trees 32 (32 + d) (omega arith) e x) s)) l)

-- 32: what stands before can go on to a line, and with the byte there, or the end, it cannot
pub earliest_32 : (b : Formula) (i : ℕ) (bs : List ℕ) (p : ℕ) → fate trees 32 (begin trees b) i bs ≡ Fault 32 p → Fault32 i bs p
earliest_32 b i bs p h =
    let f = faulty trees 32 bs (begin trees b) i 32 p h in
    let q = front f.way in
    record {
      read = q.read;
      left = f.left;
      bytes = q.bytes;
      place = counted i p bs q.read f.left q.bytes f.counted;
      before = viable b q.anyhow;
      unfit = unfit_with b q.anyhow f.stuck;
    }

opens : {p : Awaited Formula} {is : List Item} {st : Stack Formula} {b : Formula} (read : List ℕ) (a : Formula)
    → ((z : List ℕ) → Runs trees 32 (begin trees a) (read ++ z) (cf AwaitUnary p is st b) z) → Viable (32 + suc (depth st)) (read ++ (40 ∷ []))
unfolding step plain
opens {p} {is} {st} {b} read a way =
    let wide = 32 + suc (depth st) in
    viable {c = cf AwaitUnary First [] (push p is st) b} a (λ z. rw append_assoc (joins (runs_widens trees 32 wide (omega arith) (way (40 ∷ z))) (moves (pick_true (ltb (depth st) wide) _ _ (lt-ltb (depth st) wide (omega arith))) still)))

deep_with : {c : Config Formula Formula} {x i p : ℕ} {bs : List ℕ} (read left : List ℕ) (a : Formula) → Deep 32 c x → bs ≡ read ++ (x ∷ left) → p ≡ i + length read
    → ((z : List ℕ) → Runs trees 32 (begin trees a) (read ++ z) c z) → step trees 32 c x ≡ stop 33 → Fault33 i bs p
deep_with {c} {x} read left a (deep {st = st} e) f g way s =
    record {
      read = read;
      left = left;
      bytes = rw e at f;
      place = g;
      before = viable a way;
      deeper = 32 + suc (depth st);
      fit = opens read a way;
      deep = λ name t z r l. unfit_by_lem 32 32 name 33 a t r (omega arith) (way (40 ∷ z)) (at_byte (rw e at s)) l;
    }

-- 33: an opening bracket that is fit, but for its depth
pub earliest_33 : (b : Formula) (i : ℕ) (bs : List ℕ) (p : ℕ) → fate trees 32 (begin trees b) i bs ≡ Fault 33 p → Fault33 i bs p
earliest_33 b i bs p h =
    let f = faulty trees 32 bs (begin trees b) i 33 p h in
    let q = front f.way in
    by q.read f.left q.bytes (counted i p bs q.read f.left q.bytes f.counted) f.stuck q.anyhow
  where
    by : {c : Config Formula Formula} (read left : List ℕ) → bs ≡ read ++ left → p ≡ i + length read → Stuck trees 32 c left 33
        → ((z : List ℕ) → Runs trees 32 (begin trees b) (read ++ z) c z) → Fault33 i bs p
    by read [] e g s way = absurd (let z = no_stuck s in omega arith)
    by {c = c} read (x ∷ left) e g (at_byte s) way = deep_with read left b (only_33 trees 32 c x s) e g way s
