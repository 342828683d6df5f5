-- What a byte does in each mode, for the readers that are written in code. Assumes nothing.
use Prim.Native.Nat.{ℕ, ◌≤◌, ◌<◌}
use mathlib.Core.Path.{◌≡◌, refl, sym, ap, ◌∙◌}
use mathlib.Core.Bool.{Bool, true, false, ◌&&◌}
use mathlib.Core.List.{List, [], ◌∷◌}
use mathlib.Core.Option.{Option, none, some}
use lib.Dec.{ltb, eqb}
use borrow.Author.Tests.{ne_eqb, eq-eqb, lt-ltb, le-ltb}
use Rattle.lists.specs.Choice.{pick}
use Rattle.grammar.specs.Grammar.{is_digit}
use Rattle.grammar.specs.declared.Item.{Item}
use Rattle.grammar.specs.Machine.{plain_item, Actions, Purpose, Name, Sig, Lo, Hi, Goal, ToFormula, ToLo, ToHi, ToOp, wanted, Awaited, First, Chain, Stack, bottom, push, depth, AwaitNumber, InNumber, AwaitByte, AwaitUnary, FirstRead, ChainRead, AllRead, cf, Next, on, stop, ended, spaced, number_read, spelt, atom_done, orred, go, plain, step}
use Rattle.grammar.proofs.Runs.{pick_true, pick_false, settled_step}

-- past the tests for other bytes
past : {X : Type 0} (x y : ℕ) (a b : X) → (x ≡ y → ⊥) → pick (eqb x y) a b ≡ b
past x y a b h = pick_false (eqb x y) a b (ne_eqb x y h)

module _ {B N : Type 0} (A : Actions B N) (lim : ℕ) (p : Awaited N) (is : List Item) (st : Stack N) (b : B) where
  pub start_not : step A lim (cf AwaitUnary p is st b) 33 ≡ on (cf AwaitUnary p (plain_item 4 ∷ is) st b)
  unfolding step plain
  start_not = refl

  pub start_finally : step A lim (cf AwaitUnary p is st b) 70 ≡ on (cf (AwaitByte (ToLo 7)) p is st b)
  unfolding step plain
  start_finally = refl

  pub start_globally : step A lim (cf AwaitUnary p is st b) 71 ≡ on (cf (AwaitByte (ToLo 8)) p is st b)
  unfolding step plain
  start_globally = refl

  pub start_signal : step A lim (cf AwaitUnary p is st b) 115 ≡ on (cf (AwaitNumber Sig) p is st b)
  unfolding step plain
  start_signal = refl

  pub start_true : step A lim (cf AwaitUnary p is st b) 116 ≡ on (spelt A (114 ∷ 117 ∷ 101 ∷ []) true p is st b)
  unfolding step plain
  start_true = refl

  pub start_false : step A lim (cf AwaitUnary p is st b) 102 ≡ on (spelt A (97 ∷ 108 ∷ 115 ∷ 101 ∷ []) false p is st b)
  unfolding step plain
  start_false = refl

  pub start_open : depth st < lim → step A lim (cf AwaitUnary p is st b) 40 ≡ on (cf AwaitUnary First [] (push p is st) b)
  unfolding step plain
  start_open h = pick_true (ltb (depth st) lim) _ _ (lt-ltb (depth st) lim h)

  pub start_deep : lim ≤ depth st → step A lim (cf AwaitUnary p is st b) 40 ≡ stop 33
  unfolding step plain
  start_deep h = pick_false (ltb (depth st) lim) _ _ (le-ltb (depth st) lim h)

  pub start_other : (x : ℕ) → (x ≡ 32 → ⊥) → (x ≡ 33 → ⊥) → (x ≡ 70 → ⊥) → (x ≡ 71 → ⊥) → (x ≡ 115 → ⊥) → (x ≡ 116 → ⊥) → (x ≡ 102 → ⊥) → (x ≡ 40 → ⊥) → step A lim (cf AwaitUnary p is st b) x ≡ stop 32
  unfolding step plain
  start_other x a c d e f g h i = past x 32 _ _ a ∙ past x 33 _ _ c ∙ past x 70 _ _ d ∙ past x 71 _ _ e ∙ past x 115 _ _ f ∙ past x 116 _ _ g ∙ past x 102 _ _ h ∙ past x 40 _ _ i

  pub word_yes : (y : ℕ) (ys : List ℕ) (z : Bool) → step A lim (spelt A (y ∷ ys) z p is st b) y ≡ on (spelt A ys z p is st b)
  unfolding step plain
  word_yes y ys z = pick_true (eqb y y) _ _ (eq-eqb y y refl)

  pub word_no : (y : ℕ) (ys : List ℕ) (z : Bool) (x : ℕ) → (x ≡ y → ⊥) → step A lim (spelt A (y ∷ ys) z p is st b) x ≡ stop 32
  unfolding step plain
  word_no y ys z x h = past x y _ _ h

  pub want_yes : (g : Goal) → step A lim (cf (AwaitByte g) p is st b) (wanted g) ≡ on (go A g p is st b)
  unfolding step plain
  want_yes (ToFormula n) = refl
  want_yes (ToLo k) = refl
  want_yes (ToHi k lo) = refl
  want_yes (ToOp k lo hi) = refl

  pub want_no : (g : Goal) (x : ℕ) → (x ≡ 32 → ⊥) → (x ≡ wanted g → ⊥) → step A lim (cf (AwaitByte g) p is st b) x ≡ stop 32
  unfolding step plain
  want_no g x h k = past x 32 _ _ h ∙ past x (wanted g) _ _ k

  pub number_no : (q : Purpose) (x : ℕ) → is_digit x ≡ false → (spaced q ≡ true → x ≡ 32 → ⊥) → step A lim (cf (AwaitNumber q) p is st b) x ≡ stop 32
  unfolding step plain
  number_no Name x h k = pick_false (is_digit x) _ _ h ∙ pick_false (eqb x 32 && true) _ _ (ap (λ (t : Bool). t && true) (ne_eqb x 32 (k refl)))
  number_no Sig x h k = pick_false (is_digit x) _ _ h ∙ pick_false (eqb x 32 && false) _ _ (and_no (eqb x 32))
    where
      and_no : (t : Bool) → (t && false) ≡ false
      and_no true = refl
      and_no false = refl
  number_no (Lo i) x h k = pick_false (is_digit x) _ _ h ∙ pick_false (eqb x 32 && true) _ _ (ap (λ (t : Bool). t && true) (ne_eqb x 32 (k refl)))
  number_no (Hi i j) x h k = pick_false (is_digit x) _ _ h ∙ pick_false (eqb x 32 && true) _ _ (ap (λ (t : Bool). t && true) (ne_eqb x 32 (k refl)))

  -- nothing but the end of the number follows 0
  pub nought_step : (q : Purpose) (x : ℕ) → step A lim (cf (InNumber q 0) p is st b) x ≡ step A lim (number_read A q 0 p is st b) x
  unfolding step
  nought_step q x = first ∙ sym (settled_step A lim q 0 p is st b x)
    where
      and_no : (t : Bool) → (t && false) ≡ false
      and_no true = refl
      and_no false = refl

      first : step A lim (cf (InNumber q 0) p is st b) x ≡ plain A lim (number_read A q 0 p is st b) x
      first = pick_false (is_digit x && false) _ _ (and_no (is_digit x))

module _ {B N : Type 0} (A : Actions B N) (lim : ℕ) (st : Stack N) (b : B) where
  pub alone_until : step A lim (cf FirstRead First [] st b) 85 ≡ on (cf (AwaitByte (ToLo 9)) First [] st b)
  unfolding step plain
  alone_until = refl

  pub alone_release : step A lim (cf FirstRead First [] st b) 82 ≡ on (cf (AwaitByte (ToLo 10)) First [] st b)
  unfolding step plain
  alone_release = refl

  pub alone_joined : (x : ℕ) → (x ≡ 32 → ⊥) → (x ≡ 85 → ⊥) → (x ≡ 82 → ⊥) → step A lim (cf FirstRead First [] st b) x ≡ step A lim (cf (ChainRead none) First [] st b) x
  unfolding step plain
  alone_joined x h k l =
      past x 32 _ _ h ∙ ap (λ (n : Next B N). pick (eqb x 38) (on (cf AwaitUnary (Chain none (some (A.last_node b))) [] st b)) (pick (eqb x 124) (on (cf AwaitUnary (Chain (some (A.last_node b)) none) [] st b)) n)) (past x 85 _ _ k ∙ past x 82 _ _ l)
      ∙ sym (past x 32 _ _ h)

  pub joined_and : (o : Option N) → step A lim (cf (ChainRead o) First [] st b) 38 ≡ on (cf AwaitUnary (Chain o (some (A.last_node b))) [] st b)
  unfolding step plain
  joined_and o = refl

  pub joined_or : (o : Option N) → step A lim (cf (ChainRead o) First [] st b) 124 ≡ on (cf AwaitUnary (Chain (some (A.last_node (orred A o b))) none) [] st (orred A o b))
  unfolding step plain
  joined_or o = refl

  pub joined_closed : (o : Option N) (x : ℕ) → (x ≡ 32 → ⊥) → (x ≡ 38 → ⊥) → (x ≡ 124 → ⊥) → step A lim (cf (ChainRead o) First [] st b) x ≡ step A lim (cf AllRead First [] st (orred A o b)) x
  unfolding step plain
  joined_closed o x h k l = past x 32 _ _ h ∙ past x 38 _ _ k ∙ past x 124 _ _ l ∙ sym (past x 32 _ _ h)

  pub closed_yes : (p : Awaited N) (is : List Item) → step A lim (cf AllRead First [] (push p is st) b) 41 ≡ on (atom_done A p is st b)
  unfolding step plain
  closed_yes p is = refl

  pub closed_no : (p : Awaited N) (is : List Item) (x : ℕ) → (x ≡ 32 → ⊥) → (x ≡ 41 → ⊥) → step A lim (cf AllRead First [] (push p is st) b) x ≡ stop 32
  unfolding step plain
  closed_no p is x h k = past x 32 _ _ h ∙ past x 41 _ _ k

  pub closed_line : (n : ℕ) → step A lim (cf AllRead First [] (bottom n) b) 10 ≡ ended n b
  unfolding step plain
  closed_line n = refl

  pub closed_line_no : (n x : ℕ) → (x ≡ 32 → ⊥) → (x ≡ 10 → ⊥) → step A lim (cf AllRead First [] (bottom n) b) x ≡ stop 32
  unfolding step plain
  closed_line_no n x h k = past x 32 _ _ h ∙ past x 10 _ _ k

-- modes that pass spaces over
module _ {B N : Type 0} (A : Actions B N) (lim : ℕ) where
  pub start_space : (p : Awaited N) (is : List Item) (st : Stack N) (b : B) → step A lim (cf AwaitUnary p is st b) 32 ≡ on (cf AwaitUnary p is st b)
  unfolding step plain
  start_space p is st b = refl

  pub want_space : (g : Goal) (p : Awaited N) (is : List Item) (st : Stack N) (b : B) → step A lim (cf (AwaitByte g) p is st b) 32 ≡ on (cf (AwaitByte g) p is st b)
  unfolding step plain
  want_space g p is st b = refl

  pub number_space : (q : Purpose) (p : Awaited N) (is : List Item) (st : Stack N) (b : B) → spaced q ≡ true → step A lim (cf (AwaitNumber q) p is st b) 32 ≡ on (cf (AwaitNumber q) p is st b)
  unfolding step plain
  number_space q p is st b h = pick_true (spaced q) _ _ h

  pub alone_space : (st : Stack N) (b : B) → step A lim (cf FirstRead First [] st b) 32 ≡ on (cf FirstRead First [] st b)
  unfolding step plain
  alone_space st b = refl

  pub joined_space : (o : Option N) (st : Stack N) (b : B) → step A lim (cf (ChainRead o) First [] st b) 32 ≡ on (cf (ChainRead o) First [] st b)
  unfolding step plain
  joined_space o st b = refl

  pub closed_space : (st : Stack N) (b : B) → step A lim (cf AllRead First [] st b) 32 ≡ on (cf AllRead First [] st b)
  unfolding step plain
  closed_space st b = refl
