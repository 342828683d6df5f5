-- Runs of the machine over some bytes, whatever stands behind them, and what they say of the fate of a line. Assumes nothing.
use Prim.Native.Nat.{ℕ, ◌+◌, ◌-◌}
use native.Mathlib.Omega.{arith}
use mathlib.Core.Path.{◌≡◌, refl, sym, ap, ◌∙◌}
use mathlib.Core.Bool.{Bool, true, false, ◌&&◌, not}
use mathlib.Core.List.{List, [], ◌∷◌, ◌++◌}
use mathlib.Core.Option.{none, some}
use lib.Dec.{eqb}
use lib.ListN.{length}
use Rattle.lists.specs.Choice.{pick}
use Rattle.lists.proofs.Tests.{◌also◌}
use Rattle.grammar.specs.Grammar.{Spaces, none as none', one, is_digit}
use Rattle.grammar.specs.declared.Item.{Item}
use Rattle.grammar.specs.Machine.{Actions, Purpose, Name, Sig, Lo, Hi, Goal, Awaited, First, Chain, Right, Stack, AwaitNumber, InNumber, AwaitByte, AwaitUnary, Config, cf, Next, on, stop, ended, Fault, Finished, spaced, number_read, unary_done, plain, step, follow, fate}

pub pick_true : {X : Type 0} (t : Bool) (a b : X) → t ≡ true → pick t a b ≡ a
pick_true true a b e = refl
pick_true false a b e = absurd (let z : ◌≡◌ {A = ℕ} 0 1 = cc in omega arith)

pub pick_false : {X : Type 0} (t : Bool) (a b : X) → t ≡ false → pick t a b ≡ b
pick_false false a b e = refl
pick_false true a b e = absurd (let z : ◌≡◌ {A = ℕ} 0 1 = cc in omega arith)

-- the machine goes from c to e over the bytes bs up to r
pub data Runs {B N : Type 0} (A : Actions B N) (lim : ℕ) : Config B N → List ℕ → Config B N → List ℕ → Type 0 where
  still : {c : Config B N} {r : List ℕ} → Runs A lim c r c r
  moves : {c d e : Config B N} {x : ℕ} {bs r : List ℕ} → step A lim c x ≡ on d → Runs A lim d bs e r → Runs A lim c (x ∷ bs) e r

false_and : (a b : Bool) → a ≡ false → (a && b) ≡ false
false_and a b e = rw e

-- the fate of what is left is that of the whole
pub record Fated {B N : Type 0} (A : Actions B N) (lim : ℕ) (c : Config B N) (i : ℕ) (bs : List ℕ) (e : Config B N) (r : List ℕ) : Type 0 where
  pub place : ℕ
  pub same : fate A lim c i bs ≡ fate A lim e place r
  pub counted : i + length bs ≡ place + length r

-- what is read does not depend on what follows
pub record Front {B N : Type 0} (A : Actions B N) (lim : ℕ) (c : Config B N) (bs : List ℕ) (e : Config B N) (r : List ℕ) : Type 0 where
  pub read : List ℕ
  pub bytes : bs ≡ read ++ r
  pub anyhow : (z : List ℕ) → Runs A lim c (read ++ z) e z

-- ---- where the fate of a line is decided: at the end of the text, or at a byte
pub data Stuck {B N : Type 0} (A : Actions B N) (lim : ℕ) : Config B N → List ℕ → ℕ → Type 0 where
  at_end : {e : Config B N} → Stuck A lim e [] 32
  at_byte : {e : Config B N} {x n : ℕ} {r : List ℕ} → step A lim e x ≡ stop n → Stuck A lim e (x ∷ r) n

pub record Faulty {B N : Type 0} (A : Actions B N) (lim : ℕ) (c : Config B N) (i : ℕ) (bs : List ℕ) (n p : ℕ) : Type 0 where
  pub last : Config B N
  pub left : List ℕ
  pub way : Runs A lim c bs last left
  pub stuck : Stuck A lim last left n
  pub counted : i + length bs ≡ p + length left

pub record Accepted {B N : Type 0} (A : Actions B N) (lim : ℕ) (c : Config B N) (i : ℕ) (bs : List ℕ) (n : ℕ) (b : B) (j : ℕ) (r : List ℕ) : Type 0 where
  pub last : Config B N
  pub x : ℕ
  pub way : Runs A lim c bs last (x ∷ r)
  pub ends : step A lim last x ≡ ended n b
  pub counted : i + length bs ≡ j + length r

-- ---- c does with every byte but a digit what d does, and d passes spaces over
pub record Like {B N : Type 0} (A : Actions B N) (lim : ℕ) (c d : Config B N) : Type 0 where
  pub at : (x : ℕ) → is_digit x ≡ false → step A lim c x ≡ step A lim d x
  pub spaces : step A lim d 32 ≡ on d

pub record Reach {B N : Type 0} (A : Actions B N) (lim : ℕ) (c : Config B N) (bs : List ℕ) (d : Config B N) (r : List ℕ) : Type 0 where
  pub now : Config B N
  pub way : Runs A lim c bs now r
  pub like : Like A lim now d

module _ {B N : Type 0} {A : Actions B N} {lim : ℕ} where
  pub joins : {c d e : Config B N} {bs m r : List ℕ} → Runs A lim c bs d m → Runs A lim d m e r → Runs A lim c bs e r
  joins still q = q
  joins (moves s p) q = moves s (joins p q)

  pub fated : {c e : Config B N} {bs r : List ℕ} (i : ℕ) → Runs A lim c bs e r → Fated A lim c i bs e r
  unfolding fate
  fated i still = record { place = i; same = refl; counted = refl }
  fated i (moves {d = d} {bs = bs} s p) =
      let q = fated (i + 1) p in
      record {
        place = q.place;
        same = ap (λ (n : Next B N). follow A n (λ (k : Config B N). fate A lim k (i + 1) bs) i bs) s ∙ q.same;
        counted = let h = q.counted in omega arith;
      }

  pub front : {c e : Config B N} {bs r : List ℕ} → Runs A lim c bs e r → Front A lim c bs e r
  front still = record { read = []; bytes = refl; anyhow = λ z. still }
  front (moves {x = x} s p) =
      let q = front p in
      record { read = x ∷ q.read; bytes = ap (λ (l : List ℕ). x ∷ l) q.bytes; anyhow = λ z. moves s (q.anyhow z) }

  pub tells : {c e : Config B N} {bs r : List ℕ} {x n : ℕ} {b : B} (i : ℕ) → Runs A lim c bs e (x ∷ r) → step A lim e x ≡ ended n b
      → (j : ℕ) × (fate A lim c i bs ≡ Finished n b j r) × (i + length bs ≡ j + length r)
  unfolding fate
  tells {r = r} i p s =
      let q = fated i p in (
        q.place + 1,
        q.same ∙ ap (λ (n : Next B N). follow A n (λ (k : Config B N). fate A lim k (q.place + 1) r) q.place r) s,
        (let h = q.counted in omega arith),
      )

  -- ---- bytes that only move on
  pub spaces_start : {p : Awaited N} {is : List Item} {st : Stack N} {b : B} {bs r : List ℕ} → Spaces bs r → Runs A lim (cf AwaitUnary p is st b) bs (cf AwaitUnary p is st b) r
  unfolding step plain
  spaces_start none' = still
  spaces_start (one s) = moves refl (spaces_start s)

  pub spaces_number : {q : Purpose} {p : Awaited N} {is : List Item} {st : Stack N} {b : B} {bs r : List ℕ} → spaced q ≡ true → Spaces bs r → Runs A lim (cf (AwaitNumber q) p is st b) bs (cf (AwaitNumber q) p is st b) r
  unfolding step plain
  spaces_number h none' = still
  spaces_number {q} {p} {is} {st} {b} h (one s) = moves (pick_true (spaced q) (on (cf (AwaitNumber q) p is st b)) (stop 32) h) (spaces_number h s)

  pub spaces_want : {g : Goal} {p : Awaited N} {is : List Item} {st : Stack N} {b : B} {bs r : List ℕ} → Spaces bs r → Runs A lim (cf (AwaitByte g) p is st b) bs (cf (AwaitByte g) p is st b) r
  unfolding step plain
  spaces_want none' = still
  spaces_want (one s) = moves refl (spaces_want s)

module _ {B N : Type 0} (A : Actions B N) (lim : ℕ) where
  pub itself : {d : Config B N} → step A lim d 32 ≡ on d → Like A lim d d
  itself h = record { at = λ x e. refl; spaces = h }

module _ {B N : Type 0} {A : Actions B N} {lim : ℕ} where
  pub after : {c d : Config B N} {bs r : List ℕ} → Like A lim c d → Spaces bs r → Reach A lim c bs d r
  after {c = c} l none' = record { now = c; way = still; like = l }
  after {c = c} {d = d} l (one s) =
      let q = after {c = d} {d = d} (itself A lim l.spaces) s in
      record { now = q.now; way = moves (l.at 32 refl ∙ l.spaces) q.way; like = q.like }

module _ {B N : Type 0} (A : Actions B N) (lim : ℕ) where
  pub faulty : (bs : List ℕ) (c : Config B N) (i n p : ℕ) → fate A lim c i bs ≡ Fault n p → Faulty A lim c i bs n p
  unfolding fate
  faulty [] c i n p h =
      let e : n ≡ 32 = cc in
      let f : i ≡ p = cc in
      record { last = c; left = []; way = still; stuck = rw e at_end; counted = rw f }
  faulty (x ∷ xs) c i n p h = go (step A lim c x) refl (λ (k : Config B N). faulty xs k (i + 1) n p) h
    where
      go : (s : Next B N) → step A lim c x ≡ s
          → ((k : Config B N) → fate A lim k (i + 1) xs ≡ Fault n p → Faulty A lim k (i + 1) xs n p)
          → follow A s (λ (k : Config B N). fate A lim k (i + 1) xs) i xs ≡ Fault n p → Faulty A lim c i (x ∷ xs) n p
      go (on k) e ih h =
          let q = ih k h in
          record { last = q.last; left = q.left; way = moves e q.way; stuck = q.stuck; counted = let g = q.counted in omega arith }
      go (stop m) e ih h =
          let f : m ≡ n = cc in
          let g : i ≡ p = cc in
          record { last = c; left = x ∷ xs; way = still; stuck = at_byte (e ∙ ap (λ (k : ℕ). stop k) f); counted = rw g }
      go (ended m b) e ih h = absurd (let z : ◌≡◌ {A = ℕ} 0 1 = cc in omega arith)

  pub accepted : (bs : List ℕ) (c : Config B N) (i n : ℕ) (b : B) (j : ℕ) (r : List ℕ) → fate A lim c i bs ≡ Finished n b j r → Accepted A lim c i bs n b j r
  unfolding fate
  accepted [] c i n b j r h = absurd (let z : ◌≡◌ {A = ℕ} 0 1 = cc in omega arith)
  accepted (x ∷ xs) c i n b j r h = go (step A lim c x) refl (λ (k : Config B N). accepted xs k (i + 1) n b j r) h
    where
      go : (s : Next B N) → step A lim c x ≡ s
          → ((k : Config B N) → fate A lim k (i + 1) xs ≡ Finished n b j r → Accepted A lim k (i + 1) xs n b j r)
          → follow A s (λ (k : Config B N). fate A lim k (i + 1) xs) i xs ≡ Finished n b j r → Accepted A lim c i (x ∷ xs) n b j r
      go (on k) e ih h =
          let q = ih k h in
          record { last = q.last; x = q.x; way = moves e q.way; ends = q.ends; counted = let g = q.counted in omega arith }
      go (stop m) e ih h = absurd (let z : ◌≡◌ {A = ℕ} 0 1 = cc in omega arith)
      go (ended m a) e ih h =
          let f : m ≡ n = cc in
          let g : a ≡ b = cc in
          let k : i + 1 ≡ j = cc in
          let l : xs ≡ r = cc in
          record { last = c; x = x; way = rw l still; ends = e ∙ cc; counted = rw l (omega arith) }

  unary_step : (p : Awaited N) (st : Stack N) (b : B) (x : ℕ) → step A lim (unary_done A p st b) x ≡ plain A lim (unary_done A p st b) x
  unfolding step unary_done
  unary_step First st b x = refl
  unary_step (Chain o none) st b x = refl
  unary_step (Chain o (some l)) st b x = refl
  unary_step (Right i l) st b x = refl

  pub unary_spaces : (p : Awaited N) (st : Stack N) (b : B) → step A lim (unary_done A p st b) 32 ≡ on (unary_done A p st b)
  unfolding step plain unary_done
  unary_spaces First st b = refl
  unary_spaces (Chain o none) st b = refl
  unary_spaces (Chain o (some l)) st b = refl
  unary_spaces (Right i l) st b = refl

  pub settled_step : (q : Purpose) (n : ℕ) (p : Awaited N) (is : List Item) (st : Stack N) (b : B) (x : ℕ) → step A lim (number_read A q n p is st b) x ≡ plain A lim (number_read A q n p is st b) x
  unfolding step
  settled_step Name n p is st b x = refl
  settled_step Sig n p is st b x = unary_step p st _ x
  settled_step (Lo k) n p is st b x = refl
  settled_step (Hi k lo) n p is st b x = refl

  settled_spaces : (q : Purpose) (n : ℕ) (p : Awaited N) (is : List Item) (st : Stack N) (b : B) → step A lim (number_read A q n p is st b) 32 ≡ on (number_read A q n p is st b)
  unfolding step plain
  settled_spaces Name n p is st b = refl
  settled_spaces Sig n p is st b = unary_spaces p st _
  settled_spaces (Lo k) n p is st b = refl
  settled_spaces (Hi k lo) n p is st b = refl

  -- within a number, a byte that is no digit comes after it
  dig_step : (q : Purpose) (n : ℕ) (p : Awaited N) (is : List Item) (st : Stack N) (b : B) (x : ℕ) → is_digit x ≡ false → step A lim (cf (InNumber q n) p is st b) x ≡ plain A lim (number_read A q n p is st b) x
  unfolding step
  dig_step q n p is st b x h = pick_false (is_digit x && not (eqb n 0)) _ _ (false_and (is_digit x) _ h)

  pub dig_like : (q : Purpose) (n : ℕ) (p : Awaited N) (is : List Item) (st : Stack N) (b : B) → Like A lim (cf (InNumber q n) p is st b) (number_read A q n p is st b)
  dig_like q n p is st b =
      record { at = λ x h. dig_step q n p is st b x h ∙ sym (settled_step q n p is st b x); spaces = settled_spaces q n p is st b }

  pub dig_more : (q : Purpose) (n : ℕ) (p : Awaited N) (is : List Item) (st : Stack N) (b : B) (x : ℕ) → is_digit x ≡ true → eqb n 0 ≡ false
      → step A lim (cf (InNumber q n) p is st b) x ≡ on (cf (InNumber q (A.more n (x - 48))) p is st b)
  unfolding step
  dig_more q n p is st b x h e = pick_true (is_digit x && not (eqb n 0)) _ _ (h also ap not e)

  pub num_first : (q : Purpose) (p : Awaited N) (is : List Item) (st : Stack N) (b : B) (x : ℕ) → is_digit x ≡ true → step A lim (cf (AwaitNumber q) p is st b) x ≡ on (cf (InNumber q (x - 48)) p is st b)
  unfolding step plain
  num_first q p is st b x h = pick_true (is_digit x) _ _ h
