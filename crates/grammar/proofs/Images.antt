-- The fate in an image is the image of the fate. Assumes nothing.
use Prim.Native.Nat.{ℕ, suc, ◌+◌, ◌-◌, min}
use native.Mathlib.Omega.{arith}
use mathlib.Core.Path.{◌≡◌, refl, sym, ap, ◌∙◌}
use mathlib.Core.Bool.{Bool, true, false, ◌&&◌, not}
use mathlib.Core.List.{List, [], ◌∷◌}
use mathlib.Core.Option.{Option, none, some}
use lib.Dec.{ltb, leb, eqb}
use borrow.Author.Tests.{leb-true, eqb-true, eqb-false, ne_eqb, eq-eqb}
use Rattle.lists.specs.Choice.{pick}
use Rattle.lists.proofs.Tests.{true_right}
use Rattle.grammar.specs.declared.Item.{Item}
use Rattle.grammar.specs.Grammar.{is_digit}
use Rattle.grammar.specs.Machine.{item, plain_item, const_item, Actions, Purpose, Name, Sig, Lo, Hi, Goal, ToFormula, ToLo, ToHi, ToOp, wanted, Awaited, First, Chain, Right, Stack, bottom, push, depth, AwaitNumber, InNumber, AwaitByte, InWord, AwaitUnary, FirstRead, ChainRead, AllRead, Config, cf, Next, on, stop, ended, spaced, number_read, spelt, unary_done, atom_done, orred, formula_ended, go, put, puts, plain, step, follow, fate}
use Rattle.grammar.specs.Images.{held, item_m, items_m, purpose_m, goal_m, opt_m, awaited_m, stack_m, config_m, next_m, fate_m, Image}

held_nought : (n : ℕ) → eqb (held n) 0 ≡ eqb n 0
unfolding held
held_nought n = by (eqb n 0) refl
  where
    by : (t : Bool) → eqb n 0 ≡ t → eqb (min n 1000000) 0 ≡ eqb n 0
    by true e = let z = eqb-true n 0 e in eq-eqb (min n 1000000) 0 (omega arith) ∙ sym e
    by false e = let z = eqb-false n 0 e in ne_eqb (min n 1000000) 0 (λ k. z (omega arith)) ∙ sym e

held_digit : (x : ℕ) → is_digit x ≡ true → x - 48 ≡ held (x - 48)
unfolding held
held_digit x h = let l = leb-true x 57 (true_right (leb 48 x) (leb x 57) h) in omega arith

spaced_is : (q : Purpose) → spaced (purpose_m q) ≡ spaced q
spaced_is Name = refl
spaced_is Sig = refl
spaced_is (Lo k) = refl
spaced_is (Hi k lo) = refl

wanted_is : (t : Goal) → wanted (goal_m t) ≡ wanted t
wanted_is (ToFormula n) = refl
wanted_is (ToLo k) = refl
wanted_is (ToHi k lo) = refl
wanted_is (ToOp k lo hi) = refl

module _ {B N C M : Type 0} {A : Actions B N} {D : Actions C M} {g : B → C} {h : N → M} (im : Image A D g h) where
  put_is : (b : B) (i : Item) → put D (g b) (item_m i) ≡ g (put A b i)
  put_is b i = ap (λ (v : M). D.emit (g b) (item_m i) v) (im.last_node b) ∙ im.emit b i (A.last_node b)

  puts_is : (b : B) (is : List Item) → puts D (g b) (items_m is) ≡ g (puts A b is)
  unfolding puts
  puts_is b [] = refl
  puts_is b (i ∷ is) = ap (λ (x : C). puts D x (items_m is)) (put_is b i) ∙ puts_is (put A b i) is

  orred_is : (o : Option N) (b : B) → orred D (opt_m g h o) (g b) ≡ g (orred A o b)
  unfolding held
  orred_is none b = refl
  orred_is (some v) b = im.emit b (plain_item 6) v

  unary_is : (p : Awaited N) (st : Stack N) (b : B) → unary_done D (awaited_m g h p) (stack_m g h st) (g b) ≡ config_m g h (unary_done A p st b)
  unfolding unary_done held
  unary_is First st b = refl
  unary_is (Chain o none) st b = refl
  unary_is (Chain o (some v)) st b = ap (λ (x : C). cf (ChainRead (opt_m g h o)) First [] (stack_m g h st) x) (im.emit b (plain_item 5) v)
  unary_is (Right i v) st b = ap (λ (x : C). cf AllRead First [] (stack_m g h st) x) (im.emit b i v)

  atom_is : (p : Awaited N) (is : List Item) (st : Stack N) (b : B) → atom_done D (awaited_m g h p) (items_m is) (stack_m g h st) (g b) ≡ config_m g h (atom_done A p is st b)
  atom_is p is st b = ap (λ (x : C). unary_done D (awaited_m g h p) (stack_m g h st) x) (puts_is b is) ∙ unary_is p st (puts A b is)

  put_atom_is : (p : Awaited N) (is : List Item) (st : Stack N) (b : B) (i : Item) → atom_done D (awaited_m g h p) (items_m is) (stack_m g h st) (put D (g b) (item_m i)) ≡ config_m g h (atom_done A p is st (put A b i))
  put_atom_is p is st b i = ap (λ (x : C). atom_done D (awaited_m g h p) (items_m is) (stack_m g h st) x) (put_is b i) ∙ atom_is p is st (put A b i)

  go_is : (t : Goal) (p : Awaited N) (is : List Item) (st : Stack N) (b : B) → go D (goal_m t) (awaited_m g h p) (items_m is) (stack_m g h st) (g b) ≡ config_m g h (go A t p is st b)
  unfolding held
  go_is (ToFormula n) p is st b = refl
  go_is (ToLo k) p is st b = refl
  go_is (ToHi k lo) p is st b = refl
  go_is (ToOp k lo hi) p is st b = by (leb k 8)
    where
      by : (t : Bool)
          → pick t (cf AwaitUnary (awaited_m g h p) (item k 0 (held lo) (held hi) ∷ items_m is) (stack_m g h st) (g b)) (cf AwaitUnary (Right (item k 0 (held lo) (held hi)) (D.last_node (g b))) [] (stack_m g h st) (g b))
          ≡ config_m g h (pick t (cf AwaitUnary p (item k 0 lo hi ∷ is) st b) (cf AwaitUnary (Right (item k 0 lo hi) (A.last_node b)) [] st b))
      by true = refl
      by false = ap (λ (v : M). cf AwaitUnary (Right (item k 0 (held lo) (held hi)) v) [] (stack_m g h st) (g b)) (im.last_node b)

  settled_is : (q : Purpose) (n : ℕ) (p : Awaited N) (is : List Item) (st : Stack N) (b : B)
      → number_read D (purpose_m q) (held n) (awaited_m g h p) (items_m is) (stack_m g h st) (g b) ≡ config_m g h (number_read A q n p is st b)
  unfolding held
  settled_is Name n p is st b = refl
  settled_is Sig n p is st b = put_atom_is p is st b (item 1 n 0 0)
  settled_is (Lo k) n p is st b = refl
  settled_is (Hi k lo) n p is st b = refl

  spelt_is : (ys : List ℕ) (z : Bool) (p : Awaited N) (is : List Item) (st : Stack N) (b : B) → spelt D ys z (awaited_m g h p) (items_m is) (stack_m g h st) (g b) ≡ config_m g h (spelt A ys z p is st b)
  unfolding held
  spelt_is [] true p is st b = put_atom_is p is st b (const_item true)
  spelt_is [] false p is st b = put_atom_is p is st b (const_item false)
  spelt_is (y ∷ ys) z p is st b = refl

  depth_is : (st : Stack N) → depth (stack_m g h st) ≡ depth st
  unfolding depth
  depth_is (bottom n) = refl
  depth_is (push p is st) = ap suc (depth_is st)

  pick_is : (t : Bool) (x : Next C M) (a : Next B N) (y : Next C M) (b : Next B N) → (t ≡ true → x ≡ next_m g h a) → y ≡ next_m g h b → pick t x y ≡ next_m g h (pick t a b)
  pick_is true x a y b e f = e refl
  pick_is false x a y b e f = f

  closing_is : (st : Stack N) (b : B) (x : ℕ) → formula_ended D (stack_m g h st) (g b) x ≡ next_m g h (formula_ended A st b x)
  closing_is (bottom n) b x = pick_is (eqb x 10) _ _ _ _ (λ e. refl) refl
  closing_is (push p is st) b x = pick_is (eqb x 41) _ _ _ _ (λ e. ap on (atom_is p is st b)) refl

  start_is : (lim : ℕ) (p : Awaited N) (is : List Item) (st : Stack N) (b : B) (x : ℕ) → plain D lim (config_m g h (cf AwaitUnary p is st b)) x ≡ next_m g h (plain A lim (cf AwaitUnary p is st b) x)
  unfolding plain held
  start_is lim p is st b x =
      pick_is (eqb x 32) _ _ _ _ (λ e. refl)
      (pick_is (eqb x 33) _ _ _ _ (λ e. refl)
      (pick_is (eqb x 70) _ _ _ _ (λ e. refl)
      (pick_is (eqb x 71) _ _ _ _ (λ e. refl)
      (pick_is (eqb x 115) _ _ _ _ (λ e. refl)
      (pick_is (eqb x 116) _ _ _ _ (λ e. refl)
      (pick_is (eqb x 102) _ _ _ _ (λ e. refl)
      (pick_is (eqb x 40) _ _ _ _ (λ e.
      ap (λ (n : ℕ). pick (ltb n lim) (on (cf AwaitUnary First [] (push (awaited_m g h p) (items_m is) (stack_m g h st)) (g b))) (stop 33)) (depth_is st)
      ∙ pick_is (ltb (depth st) lim) _ _ _ _ (λ e. refl) refl) refl)))))))

  alone_is : (lim : ℕ) (p : Awaited N) (is : List Item) (st : Stack N) (b : B) (x : ℕ) → plain D lim (config_m g h (cf FirstRead p is st b)) x ≡ next_m g h (plain A lim (cf FirstRead p is st b) x)
  unfolding plain
  alone_is lim p is st b x =
      pick_is (eqb x 32) _ _ _ _ (λ e. refl)
      (pick_is (eqb x 38) _ _ _ _ (λ e. ap (λ (v : M). on (cf AwaitUnary (Chain none (some v)) [] (stack_m g h st) (g b))) (im.last_node b))
      (pick_is (eqb x 124) _ _ _ _ (λ e. ap (λ (v : M). on (cf AwaitUnary (Chain (some v) none) [] (stack_m g h st) (g b))) (im.last_node b))
      (pick_is (eqb x 85) _ _ _ _ (λ e. refl)
      (pick_is (eqb x 82) _ _ _ _ (λ e. refl) (closing_is st b x)))))

  joined_is : (lim : ℕ) (o : Option N) (p : Awaited N) (is : List Item) (st : Stack N) (b : B) (x : ℕ) → plain D lim (config_m g h (cf (ChainRead o) p is st b)) x ≡ next_m g h (plain A lim (cf (ChainRead o) p is st b) x)
  unfolding plain
  joined_is lim o p is st b x =
      pick_is (eqb x 32) _ _ _ _ (λ e. refl)
      (pick_is (eqb x 38) _ _ _ _ (λ e. ap (λ (v : M). on (cf AwaitUnary (Chain (opt_m g h o) (some v)) [] (stack_m g h st) (g b))) (im.last_node b))
      (pick_is (eqb x 124) _ _ _ _ (λ e.
      ap (λ (y : C). on (cf AwaitUnary (Chain (some (D.last_node y)) none) [] (stack_m g h st) y)) (orred_is o b)
      ∙ ap (λ (v : M). on (cf AwaitUnary (Chain (some v) none) [] (stack_m g h st) (g (orred A o b)))) (im.last_node (orred A o b)))
      (ap (λ (y : C). formula_ended D (stack_m g h st) y x) (orred_is o b) ∙ closing_is st (orred A o b) x)))

  number_is : (lim : ℕ) (q : Purpose) (p : Awaited N) (is : List Item) (st : Stack N) (b : B) (x : ℕ) → plain D lim (config_m g h (cf (AwaitNumber q) p is st b)) x ≡ next_m g h (plain A lim (cf (AwaitNumber q) p is st b) x)
  unfolding plain
  number_is lim q p is st b x =
      pick_is (is_digit x) _ _ _ _ (λ e. ap (λ (n : ℕ). on (cf (InNumber (purpose_m q) n) (awaited_m g h p) (items_m is) (stack_m g h st) (g b))) (held_digit x e))
      (ap (λ (t : Bool). pick (eqb x 32 && t) (on (cf (AwaitNumber (purpose_m q)) (awaited_m g h p) (items_m is) (stack_m g h st) (g b))) (stop 32)) (spaced_is q)
      ∙ pick_is (eqb x 32 && spaced q) _ _ _ _ (λ e. refl) refl)

  want_is : (lim : ℕ) (t : Goal) (p : Awaited N) (is : List Item) (st : Stack N) (b : B) (x : ℕ) → plain D lim (config_m g h (cf (AwaitByte t) p is st b)) x ≡ next_m g h (plain A lim (cf (AwaitByte t) p is st b) x)
  unfolding plain
  want_is lim t p is st b x =
      pick_is (eqb x 32) _ _ _ _ (λ e. refl)
      (ap (λ (y : ℕ). pick (eqb x y) (on (go D (goal_m t) (awaited_m g h p) (items_m is) (stack_m g h st) (g b))) (stop 32)) (wanted_is t)
      ∙ pick_is (eqb x (wanted t)) _ _ _ _ (λ e. ap on (go_is t p is st b)) refl)

  plain_is : (lim : ℕ) (c : Config B N) (x : ℕ) → plain D lim (config_m g h c) x ≡ next_m g h (plain A lim c x)
  unfolding plain
  plain_is lim (cf (AwaitNumber q) p is st b) x = number_is lim q p is st b x
  plain_is lim (cf (InNumber q n) p is st b) x = refl
  plain_is lim (cf (AwaitByte t) p is st b) x = want_is lim t p is st b x
  plain_is lim (cf (InWord y ys z) p is st b) x = pick_is (eqb x y) _ _ _ _ (λ e. ap on (spelt_is ys z p is st b)) refl
  plain_is lim (cf AwaitUnary p is st b) x = start_is lim p is st b x
  plain_is lim (cf FirstRead p is st b) x = alone_is lim p is st b x
  plain_is lim (cf (ChainRead o) p is st b) x = joined_is lim o p is st b x
  plain_is lim (cf AllRead p is st b) x = pick_is (eqb x 32) _ _ _ _ (λ e. refl) (closing_is st b x)

  dig_is : (lim : ℕ) (q : Purpose) (n : ℕ) (p : Awaited N) (is : List Item) (st : Stack N) (b : B) (x : ℕ) → step D lim (config_m g h (cf (InNumber q n) p is st b)) x ≡ next_m g h (step A lim (cf (InNumber q n) p is st b) x)
  unfolding step
  dig_is lim q n p is st b x =
      ap (λ (t : Bool). pick (is_digit x && not t) (on (cf (InNumber (purpose_m q) (D.more (held n) (x - 48))) (awaited_m g h p) (items_m is) (stack_m g h st) (g b))) (plain D lim (number_read D (purpose_m q) (held n) (awaited_m g h p) (items_m is) (stack_m g h st) (g b)) x)) (held_nought n)
      ∙ pick_is (is_digit x && not (eqb n 0)) _ _ _ _ (λ e. ap (λ (m : ℕ). on (cf (InNumber (purpose_m q) m) (awaited_m g h p) (items_m is) (stack_m g h st) (g b))) (im.more n (x - 48)))
      (ap (λ (c : Config C M). plain D lim c x) (settled_is q n p is st b) ∙ plain_is lim (number_read A q n p is st b) x)

  step_is : (lim : ℕ) (c : Config B N) (x : ℕ) → step D lim (config_m g h c) x ≡ next_m g h (step A lim c x)
  unfolding step
  step_is lim (cf (AwaitNumber q) p is st b) x = plain_is lim (cf (AwaitNumber q) p is st b) x
  step_is lim (cf (InNumber q n) p is st b) x = dig_is lim q n p is st b x
  step_is lim (cf (AwaitByte t) p is st b) x = plain_is lim (cf (AwaitByte t) p is st b) x
  step_is lim (cf (InWord y ys z) p is st b) x = plain_is lim (cf (InWord y ys z) p is st b) x
  step_is lim (cf AwaitUnary p is st b) x = plain_is lim (cf AwaitUnary p is st b) x
  step_is lim (cf FirstRead p is st b) x = plain_is lim (cf FirstRead p is st b) x
  step_is lim (cf (ChainRead o) p is st b) x = plain_is lim (cf (ChainRead o) p is st b) x
  step_is lim (cf AllRead p is st b) x = plain_is lim (cf AllRead p is st b) x

  pub fate_is : (lim : ℕ) (bs : List ℕ) (c : Config B N) (i : ℕ) → fate D lim (config_m g h c) i bs ≡ fate_m g h (fate A lim c i bs)
  unfolding fate
  fate_is lim [] c i = refl
  fate_is lim (x ∷ xs) c i =
      ap (λ (s : Next C M). follow D s (λ (k : Config C M). fate D lim k (i + 1) xs) i xs) (step_is lim c x)
      ∙ by (step A lim c x) (λ (k : Config B N). fate_is lim xs k (i + 1))
    where
      by : (s : Next B N) → ((k : Config B N) → fate D lim (config_m g h k) (i + 1) xs ≡ fate_m g h (fate A lim k (i + 1) xs))
          → follow D (next_m g h s) (λ (k : Config C M). fate D lim k (i + 1) xs) i xs ≡ fate_m g h (follow A s (λ (k : Config B N). fate A lim k (i + 1) xs) i xs)
      by (on c) f = f c
      by (stop n) f = refl
      by (ended n b) f = refl
