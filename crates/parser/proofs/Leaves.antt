-- What each return of the leaves promises. Assumes nothing.
use Prim.Native.Nat.{ℕ, ◌+◌, ◌*◌, ◌-◌, ◌≤◌, ◌<◌, min, max}
use native.Mathlib.Omega.{arith}
use mathlib.Core.Path.{◌≡◌, refl, sym, ap, ◌∙◌}
use mathlib.Core.Bool.{Bool, true, false}
use mathlib.Core.List.{List, [], ◌∷◌}
use lib.Dec.{eqb}
use lib.ListN.{length, get_or, drop}
use lib.Seq.{drop-cons}
use native.Mathlib.Numerals.{add-one}
use borrow.Author.Tests.{eqb-true, eqb-false, ne_eqb}
use Rattle.lists.specs.Choice.{pick}
use Rattle.grammar.specs.Grammar.{is_digit}
use Rattle.grammar.specs.declared.Item.{Item}
use Rattle.grammar.specs.Machine.{Purpose, Name, Sig, Lo, Hi, wanted, Awaited, First, Stack, bottom, push, AwaitNumber, InNumber, AwaitByte, AllRead, Config, cf, Next, on, Fate, Fault, Finished, spaced, number_read, spelt, atom_done, go, step, follow, fate}
use Rattle.grammar.proofs.Runs.{dig_like, dig_more, num_first}
use Rattle.grammar.proofs.Steps.{want_yes, want_no, want_space, number_no, number_space, nought_step, word_yes, word_no, closed_yes, closed_no, closed_space, closed_line, closed_line_no}
use Rattle.grammar.specs.Images.{sat}
use Rattle.grammar.specs.Tape.{Tape, tapes}
use Rattle.refusals.specs.Refusals.{number_of as refusal_number}
use Rattle.refusals.proofs.Positive.{refusal_above}
use Rattle.parser.specs.declared.faults.Fault.{Fault as AtFault}
use Rattle.parser.specs.Reads.{from, told, byte_at}
use Rattle.parser.specs.Code.{Skipped, Grown, Numbered, goal_of, Expected, Bounded, Spelt}
use Rattle.parser.proofs.Laws.{whole, from_on, from_bad, from_like, from_spaces}

-- the number of a fault is not 0
pub faulty : (f : AtFault) → refusal_number f.refusal ≡ 0 → ⊥
faulty f = refusal_above f.refusal

-- so that it is told
pub told_not : (n j : ℕ) (x y : Fate Tape) → (n ≡ 0 → ⊥) → told n j x ≡ told n j y
told_not n j x y h = rw (ne_eqb n 0 h)

pub told_ok : (n j : ℕ) (x : Fate Tape) → n ≡ 0 → told n j x ≡ x
told_ok n j x h = rw h

-- what else there is matters only where there is no fault
pub told_by : (n j : ℕ) (x y : Fate Tape) → (n ≡ 0 → x ≡ y) → told n j x ≡ told n j y
told_by n j x y f = go (eqb n 0) (λ e. f (eqb-true n 0 e))
  where
    go : (b : Bool) → (b ≡ true → x ≡ y) → pick b x (Fault n j) ≡ pick b y (Fault n j)
    go true g = g refl
    go false g = refl

module _ (text : List ℕ) where
  -- a byte that is known
  pub on_byte : (c d : Config Tape ℕ) (i y : ℕ) → i < length text → byte_at text i ≡ y → step tapes 32 c y ≡ on d → from text c i ≡ from text d (i + 1)
  on_byte c d i y h e s = from_on text c d i h (ap (λ (x : ℕ). step tapes 32 c x) e ∙ s)

  -- ---- numbers
  pub record Grows (i v j w : ℕ) : Type 0 where
    pub later : i ≤ j
    pub inside : j ≤ max i (length text)
    pub some : eqb v 0 ≡ false → eqb w 0 ≡ false
    pub same : (q : Purpose) (p : Awaited ℕ) (is : List Item) (st : Stack ℕ) (β : Tape) → eqb v 0 ≡ false → from text (cf (InNumber q v) p is st β) i ≡ from text (cf (InNumber q w) p is st β) j

  sat_some : (n d : ℕ) → eqb n 0 ≡ false → eqb (sat n d) 0 ≡ false
  unfolding sat
  sat_some n d e = let h = eqb-false n 0 e in ne_eqb (min (10 * n + d) 1000000) 0 (λ z. h (omega arith))

  pub grows_more : {i v j w z : ℕ} → Grows i v j w → j < length text → is_digit (byte_at text j) ≡ true → z ≡ sat w (byte_at text j - 48) → Grows i v (j + 1) z
  grows_more {i} {v} {j} {w} {z} g h d e =
      record {
        later = omega arith;
        inside = omega arith;
        some = λ k. rw e (sat_some w (byte_at text j - 48) (g.some k));
        same = λ q p is st β k.
            g.same q p is st β k
            ∙ from_on text (cf (InNumber q w) p is st β) (cf (InNumber q (sat w (byte_at text j - 48))) p is st β) j h (dig_more tapes 32 q w p is st β (byte_at text j) d (g.some k))
            ∙ ap (λ (n : ℕ). from text (cf (InNumber q n) p is st β) (j + 1)) (sym e);
      }

  pub grows_done : {i v j w : ℕ} → Grows i v j w → (j < length text → is_digit (byte_at text j) ≡ false) → Grown text i v j w
  grows_done {i} {v} {j} {w} g f =
      record {
        later = g.later;
        inside = g.inside;
        same = λ q p is st β k.
            g.same q p is st β k
            ∙ from_like text (cf (InNumber q w) p is st β) (number_read tapes q w p is st β) j
            (λ h. (dig_like tapes 32 q w p is st β).at (byte_at text j) (f h));
      }

  pub number_bad : {i : ℕ} → (i < length text → is_digit (byte_at text i) ≡ false) → Numbered text i 32 i 0
  number_bad {i} f =
      record {
        later = omega arith;
        inside = omega arith;
        same = λ q p is st β k. from_bad text (cf (AwaitNumber q) p is st β) i (λ l. number_no tapes 32 p is st β q (byte_at text i) (f l) (λ s. k s l));
      }

  pub number_nought : {i : ℕ} → i < length text → is_digit (byte_at text i) ≡ true → byte_at text i - 48 ≡ 0 → Numbered text i 0 (i + 1) 0
  number_nought {i} h d e =
      record {
        later = omega arith;
        inside = omega arith;
        same = λ q p is st β k.
            from_on text (cf (AwaitNumber q) p is st β) (cf (InNumber q (byte_at text i - 48)) p is st β) i h (num_first tapes 32 q p is st β (byte_at text i) d)
            ∙ ap (λ (n : ℕ). from text (cf (InNumber q n) p is st β) (i + 1)) e
            ∙ from_like text (cf (InNumber q 0) p is st β) (number_read tapes q 0 p is st β) (i + 1) (λ l. nought_step tapes 32 p is st β q (byte_at text (i + 1)));
      }

  pub number_some : {i j v : ℕ} → i < length text → is_digit (byte_at text i) ≡ true → (byte_at text i - 48 ≡ 0 → ⊥) → Grown text (i + 1) (byte_at text i - 48) j v → Numbered text i 0 j v
  number_some {i} {j} {v} h d e g =
      record {
        later = omega arith;
        inside = omega arith;
        same = λ q p is st β k.
            from_on text (cf (AwaitNumber q) p is st β) (cf (InNumber q (byte_at text i - 48)) p is st β) i h (num_first tapes 32 q p is st β (byte_at text i) d)
            ∙ g.same q p is st β (ne_eqb (byte_at text i - 48) 0 e);
      }

  -- ---- a wanted byte
  line_byte : (j v : ℕ) (β : Tape) → j < length text → byte_at text j ≡ 10 → from text (cf AllRead First [] (bottom v) β) j ≡ Finished v β (j + 1) (drop (j + 1) text)
  unfolding fate
  line_byte j v β h e =
      ap (λ (l : List ℕ). fate tapes 32 (cf AllRead First [] (bottom v) β) j l) (whole text j h)
      ∙ ap (λ (x : Next Tape ℕ). follow tapes x (λ (c : Config Tape ℕ). fate tapes 32 c (j + 1) (drop (j + 1) text)) j (drop (j + 1) text))
      (ap (λ (x : ℕ). step tapes 32 (cf AllRead First [] (bottom v) β) x) e ∙ closed_line tapes 32 (bottom v) β v)

  pub expect_yes : {i j x : ℕ} → Skipped text i j → j < length text → byte_at text j ≡ x → Expected text i x 0 (j + 1)
  expect_yes {i} {j} {x} s h e =
      record {
        later = omega arith;
        further = λ z. (let l = s.later in omega arith);
        inside = omega arith;
        same = λ g p is st β w.
            from_spaces text (cf (AwaitByte g) p is st β) i j (want_space tapes 32 g p is st β) s
            ∙ on_byte (cf (AwaitByte g) p is st β) (go tapes g p is st β) j (wanted g) h (e ∙ sym w) (want_yes tapes 32 p is st β g);
        closes = λ z p is st β.
            from_spaces text (cf AllRead First [] (push p is st) β) i j (closed_space tapes 32 (push p is st) β) s
            ∙ on_byte (cf AllRead First [] (push p is st) β) (atom_done tapes p is st β) j 41 h (e ∙ z) (closed_yes tapes 32 st β p is);
        ends = λ z v β.
            from_spaces text (cf AllRead First [] (bottom v) β) i j (closed_space tapes 32 (bottom v) β) s ∙ line_byte j v β h (e ∙ z);
      }

  pub expect_no : {i j x : ℕ} → Skipped text i j → (j < length text → byte_at text j ≡ x → ⊥) → Expected text i x 32 j
  expect_no {i} {j} {x} s f =
      record {
        later = s.later;
        further = λ z. absurd (omega arith);
        inside = s.inside;
        same = λ g p is st β w.
            from_spaces text (cf (AwaitByte g) p is st β) i j (want_space tapes 32 g p is st β) s
            ∙ from_bad text (cf (AwaitByte g) p is st β) j (λ h. want_no tapes 32 p is st β g (byte_at text j) (s.next h) (λ e. f h (e ∙ w)));
        closes = λ z p is st β.
            from_spaces text (cf AllRead First [] (push p is st) β) i j (closed_space tapes 32 (push p is st) β) s
            ∙ from_bad text (cf AllRead First [] (push p is st) β) j (λ h. closed_no tapes 32 st β p is (byte_at text j) (s.next h) (λ e. f h (e ∙ sym z)));
        ends = λ z v β.
            from_spaces text (cf AllRead First [] (bottom v) β) i j (closed_space tapes 32 (bottom v) β) s
            ∙ from_bad text (cf AllRead First [] (bottom v) β) j (λ h. closed_line_no tapes 32 (bottom v) β v (byte_at text j) (s.next h) (λ e. f h (e ∙ sym z)));
      }

  -- ---- a number and the byte behind it
  to_number : (i j n k v : ℕ) → Skipped text i j → Numbered text j n k v → (q : Purpose) (p : Awaited ℕ) (is : List Item) (st : Stack ℕ) (β : Tape) → spaced q ≡ true
      → from text (cf (AwaitNumber q) p is st β) i ≡ told n k (from text (number_read tapes q v p is st β) k)
  to_number i j n k v s m q p is st β h =
      from_spaces text (cf (AwaitNumber q) p is st β) i j (number_space tapes 32 q p is st β h) s ∙ m.same q p is st β (λ e. s.next)

  pub bound_bad : {i j x n k v : ℕ} → Skipped text i j → Numbered text j n k v → (n ≡ 0 → ⊥) → Bounded text i x n k v
  bound_bad {i} {j} {x} {n} {k} {v} s m z =
      record {
        later = omega arith;
        further = λ y. absurd (z y);
        inside = omega arith;
        same = λ q p is st β h w. to_number i j n k v s m q p is st β h ∙ told_not n k _ _ z;
      }

  settled_goal : (q : Purpose) (v : ℕ) (p : Awaited ℕ) (is : List Item) (st : Stack ℕ) (β : Tape) → spaced q ≡ true → number_read tapes q v p is st β ≡ cf (AwaitByte (goal_of q v)) p is st β
  settled_goal Name v p is st β h = refl
  settled_goal Sig v p is st β h = absurd (let z : ◌≡◌ {A = ℕ} 0 1 = cc in omega arith)
  settled_goal (Lo k) v p is st β h = refl
  settled_goal (Hi k l) v p is st β h = refl

  pub bound_on : {i j x n k v m l : ℕ} → Skipped text i j → Numbered text j n k v → n ≡ 0 → Expected text k x m l → Bounded text i x m l v
  bound_on {i} {j} {x} {n} {k} {v} {m} {l} s a z e =
      record {
        later = omega arith;
        further = λ y. (let b = s.later in let c = a.later in let d = e.further y in omega arith);
        inside = omega arith;
        same = λ q p is st β h w.
            to_number i j n k v s a q p is st β h
            ∙ told_ok n k _ z
            ∙ ap (λ (c : Config Tape ℕ). from text c k) (settled_goal q v p is st β h)
            ∙ e.same (goal_of q v) p is st β w;
      }

  -- which byte is wanted behind a number does not depend on its value, which is nothing at a fault
  same_want : (q : Purpose) (v : ℕ) → wanted (goal_of q v) ≡ wanted (goal_of q 0)
  same_want Name v = refl
  same_want Sig v = refl
  same_want (Lo k) v = refl
  same_want (Hi k l) v = refl

  pub bound_nought : {i x n j v : ℕ} → Bounded text i x n j v → (n ≡ 0 → ⊥) → Bounded text i x n j 0
  bound_nought {i} {x} {n} {j} {v} b z =
      record {
        later = b.later;
        further = b.further;
        inside = b.inside;
        same = λ q p is st β h w. b.same q p is st β h (same_want q v ∙ w) ∙ told_not n j _ _ z;
      }

  -- ---- true and false
  pub record Spells (i : ℕ) (w : List ℕ) (j k : ℕ) : Type 0 where
    pub later : i ≤ j
    pub inside : j ≤ max i (length text)
    pub within : k ≤ length w
    pub same : (v : Bool) (p : Awaited ℕ) (is : List Item) (st : Stack ℕ) (β : Tape) → from text (spelt tapes w v p is st β) i ≡ from text (spelt tapes (drop k w) v p is st β) j

  letter : (w : List ℕ) (k : ℕ) → k < length w → drop k w ≡ get_or w k 0 ∷ drop (k + 1) w
  letter w k h = rw (add-one, drop-cons w k 0)

  pub spells_more : {i : ℕ} {w : List ℕ} {j k : ℕ} → Spells i w j k → k < length w → j < length text → byte_at text j ≡ get_or w k 0 → Spells i w (j + 1) (k + 1)
  spells_more {i} {w} {j} {k} s h l e =
      record {
        later = omega arith;
        inside = omega arith;
        within = omega arith;
        same = λ v p is st β.
            s.same v p is st β
            ∙ ap (λ (x : List ℕ). from text (spelt tapes x v p is st β) j) (letter w k h)
            ∙ on_byte (spelt tapes (get_or w k 0 ∷ drop (k + 1) w) v p is st β) (spelt tapes (drop (k + 1) w) v p is st β) j (get_or w k 0) l e (word_yes tapes 32 p is st β (get_or w k 0) (drop (k + 1) w) v);
      }

  pub spells_bad : {i : ℕ} {w : List ℕ} {j k : ℕ} → Spells i w j k → k < length w → (j < length text → byte_at text j ≡ get_or w k 0 → ⊥) → Spelt text i w 32 j
  spells_bad {i} {w} {j} {k} s h f =
      record {
        later = s.later;
        inside = s.inside;
        same = λ v p is st β.
            s.same v p is st β
            ∙ ap (λ (x : List ℕ). from text (spelt tapes x v p is st β) j) (letter w k h)
            ∙ from_bad text (spelt tapes (get_or w k 0 ∷ drop (k + 1) w) v p is st β) j (λ l. word_no tapes 32 p is st β (get_or w k 0) (drop (k + 1) w) v (byte_at text j) (f l));
      }
