-- A byte is stopped with 32 or 33 only. Assumes nothing.
use Prim.Native.Nat.{ℕ}
use native.Mathlib.Omega.{arith}
use mathlib.Core.Path.{◌≡◌, refl}
use mathlib.Core.Logic.{◌⊎◌, inl, inr}
use mathlib.Core.Bool.{Bool, true, false, ◌&&◌, not}
use mathlib.Core.List.{List, []}
use mathlib.Core.Option.{Option, none, some}
use lib.Dec.{ltb, eqb}
use Rattle.lists.specs.Choice.{pick}
use Rattle.grammar.specs.declared.Item.{Item}
use Rattle.grammar.specs.Grammar.{is_digit}
use Rattle.grammar.specs.Machine.{Actions, Purpose, Name, Sig, Lo, Hi, Goal, wanted, Awaited, First, Chain, Right, Stack, bottom, push, depth, AwaitNumber, InNumber, AwaitByte, InWord, AwaitUnary, FirstRead, ChainRead, AllRead, Config, cf, Next, on, stop, ended, Fault, spaced, number_read, unary_done, orred, formula_ended, plain, step, fate}
use Rattle.grammar.proofs.Runs.{Stuck, at_end, at_byte, faulty}

data Fine {B N : Type 0} : Next B N → Type 0 where
  f_on : {c : Config B N} → Fine (on c)
  f_end : {n : ℕ} {b : B} → Fine (ended n b)
  f_byte : Fine (stop 32)
  f_deep : Fine (stop 33)

fine_pick : {B N : Type 0} (t : Bool) {a b : Next B N} → Fine a → Fine b → Fine (pick t a b)
fine_pick true f g = f
fine_pick false f g = g

fine_stop : {B N : Type 0} {s : Next B N} (n : ℕ) → Fine s → s ≡ stop n → (n ≡ 32) ⊎ (n ≡ 33)
fine_stop n f_on e = absurd (let z : ◌≡◌ {A = ℕ} 0 1 = cc in omega arith)
fine_stop n f_end e = absurd (let z : ◌≡◌ {A = ℕ} 0 1 = cc in omega arith)
fine_stop n f_byte e = inl (cc)
fine_stop n f_deep e = inr (cc)

module _ {B N : Type 0} (A : Actions B N) (lim : ℕ) where
  closing_fine : (st : Stack N) (b : B) (x : ℕ) → Fine (formula_ended A st b x)
  closing_fine (bottom n) b x = fine_pick (eqb x 10) f_end f_byte
  closing_fine (push p is st) b x = fine_pick (eqb x 41) f_on f_byte

  alone_fine : (p : Awaited N) (is : List Item) (st : Stack N) (b : B) (x : ℕ) → Fine (plain A lim (cf FirstRead p is st b) x)
  unfolding plain
  alone_fine p is st b x = fine_pick (eqb x 32) f_on (fine_pick (eqb x 38) f_on (fine_pick (eqb x 124) f_on (fine_pick (eqb x 85) f_on (fine_pick (eqb x 82) f_on (closing_fine st b x)))))

  joined_fine : (o : Option N) (p : Awaited N) (is : List Item) (st : Stack N) (b : B) (x : ℕ) → Fine (plain A lim (cf (ChainRead o) p is st b) x)
  unfolding plain
  joined_fine o p is st b x = fine_pick (eqb x 32) f_on (fine_pick (eqb x 38) f_on (fine_pick (eqb x 124) f_on (closing_fine st (orred A o b) x)))

  closed_fine : (p : Awaited N) (is : List Item) (st : Stack N) (b : B) (x : ℕ) → Fine (plain A lim (cf AllRead p is st b) x)
  unfolding plain
  closed_fine p is st b x = fine_pick (eqb x 32) f_on (closing_fine st b x)

  want_fine : (g : Goal) (p : Awaited N) (is : List Item) (st : Stack N) (b : B) (x : ℕ) → Fine (plain A lim (cf (AwaitByte g) p is st b) x)
  unfolding plain
  want_fine g p is st b x = fine_pick (eqb x 32) f_on (fine_pick (eqb x (wanted g)) f_on f_byte)

  unary_fine : (p : Awaited N) (st : Stack N) (b : B) (x : ℕ) → Fine (plain A lim (unary_done A p st b) x)
  unfolding unary_done
  unary_fine First st b x = alone_fine First [] st b x
  unary_fine (Chain o none) st b x = joined_fine o First [] st b x
  unary_fine (Chain o (some l)) st b x = joined_fine o First [] st _ x
  unary_fine (Right i l) st b x = closed_fine First [] st _ x

  settled_fine : (q : Purpose) (n : ℕ) (p : Awaited N) (is : List Item) (st : Stack N) (b : B) (x : ℕ) → Fine (plain A lim (number_read A q n p is st b) x)
  settled_fine Name n p is st b x = want_fine _ p is st b x
  settled_fine Sig n p is st b x = unary_fine p st _ x
  settled_fine (Lo k) n p is st b x = want_fine _ p is st b x
  settled_fine (Hi k lo) n p is st b x = want_fine _ p is st b x

  step_fine : (c : Config B N) (x : ℕ) → Fine (step A lim c x)
  unfolding step plain
  step_fine (cf (AwaitNumber q) p is st b) x = fine_pick (is_digit x) f_on (fine_pick (eqb x 32 && spaced q) f_on f_byte)
  step_fine (cf (InNumber q n) p is st b) x = fine_pick (is_digit x && not (eqb n 0)) f_on (settled_fine q n p is st b x)
  step_fine (cf (AwaitByte g) p is st b) x = want_fine g p is st b x
  step_fine (cf (InWord y ys z) p is st b) x = fine_pick (eqb x y) f_on f_byte
  step_fine (cf AwaitUnary p is st b) x =
      fine_pick (eqb x 32) f_on (fine_pick (eqb x 33) f_on (fine_pick (eqb x 70) f_on (fine_pick (eqb x 71) f_on (fine_pick (eqb x 115) f_on (fine_pick (eqb x 116) f_on (fine_pick (eqb x 102) f_on
      (fine_pick (eqb x 40) (fine_pick (ltb (depth st) lim) f_on f_deep) f_byte)))))))
  step_fine (cf FirstRead p is st b) x = alone_fine p is st b x
  step_fine (cf (ChainRead o) p is st b) x = joined_fine o p is st b x
  step_fine (cf AllRead p is st b) x = closed_fine p is st b x

  stuck_number : {c : Config B N} {r : List ℕ} {n : ℕ} → Stuck A lim c r n → (n ≡ 32) ⊎ (n ≡ 33)
  stuck_number at_end = inl refl
  stuck_number {n = n} (at_byte {e = e} {x = x} s) = fine_stop n (step_fine e x) s

  -- a fault of syntax has the number 32 or 33
  pub fault_number : (bs : List ℕ) (c : Config B N) (i n p : ℕ) → fate A lim c i bs ≡ Fault n p → (n ≡ 32) ⊎ (n ≡ 33)
  fault_number bs c i n p e = stuck_number (faulty A lim bs c i n p e).stuck
