-- What each return of the five readers promises. Assumes nothing.
use Prim.Native.Nat.{ℕ, ◌+◌, ◌-◌, ◌≤◌, ◌<◌, max}
use native.Mathlib.Omega.{arith}
use mathlib.Core.Path.{◌≡◌, refl, sym, ap, ◌∙◌}
use mathlib.Core.Bool.{Bool, true, false}
use mathlib.Core.List.{List, [], ◌∷◌}
use mathlib.Core.Option.{Option, none, some}
use lib.Dec.{leb}
use lib.ListN.{length}
use Rattle.grammar.specs.declared.Item.{Item}
use Rattle.grammar.specs.Machine.{plain_item, const_item, item, Sig, ToLo, ToOp, Awaited, First, Chain, Right, Stack, push, depth, AwaitNumber, AwaitByte, AwaitUnary, FirstRead, ChainRead, AllRead, Config, cf, on, spelt, unary_done, atom_done, orred, puts, go, step}
use Rattle.grammar.proofs.Runs.{pick_true}
use Rattle.grammar.proofs.Steps.{start_not, start_signal, start_open, start_deep, start_other, start_space, alone_until, alone_release, alone_joined, alone_space, joined_and, joined_or, joined_closed, joined_space}
use Rattle.std.proofs.Common.{Option as Maybe, Some, None}
use Rattle.grammar.specs.Tape.{Tape, tape, tapes, emitted}
use Rattle.parser.specs.Reads.{from, told, byte_at}
use Rattle.parser.specs.declared.tape.Prefix.{Prefix}
use Rattle.parser.specs.Code.{prefix_item, Skipped, Expected, Spanned, NoPrefix, extended, Windowed, Prefixes, Between, until, release, neither, held_in, last_prefixes, left_of, SignalRead, ConstantRead, AtomRead, UnaryRead, ConjRead, DisjRead, FormulaRead}
use Rattle.parser.proofs.Laws.{from_stop, from_bad, from_like, from_spaces}
use Rattle.parser.proofs.Leaves.{told_not, told_ok, told_by, on_byte}
use Rattle.parser.proofs.Ring.{Holds, holds_more, holds_applied}

clash : (t : Bool) → t ≡ true → t ≡ false → ⊥
clash t e f = let z : ◌≡◌ {A = ℕ} 0 1 = cc in omega arith

module _ (text : List ℕ) where
  -- ---- prefixes
  pub prefix_not : {i j : ℕ} {it : Item} → Skipped text i j → j < length text → byte_at text j ≡ 33 → it ≡ plain_item 4 → Prefixes text i 0 (j + 1) true it
  prefix_not {i} {j} {it} s h e f =
      record {
        later = omega arith;
        inside = omega arith;
        further = λ z t. omega arith;
        same = λ p is st β.
            from_spaces text (cf AwaitUnary p is st β) i j (start_space tapes 32 p is st β) s
            ∙ on_byte text (cf AwaitUnary p is st β) (cf AwaitUnary p (plain_item 4 ∷ is) st β) j 33 h e (start_not tapes 32 p is st β)
            ∙ ap (λ (x : Item). from text (cf AwaitUnary p (x ∷ is) st β) (j + 1)) (sym f);
        last = λ z t. absurd (clash true refl t);
      }

  -- F and G: by the byte x of the operator k
  pub prefix_window : {i j n m k : ℕ} {more : Bool} {it : Item} (x : ℕ) → Skipped text i j → j < length text → byte_at text j ≡ x
      → ((p : Awaited ℕ) (is : List Item) (st : Stack ℕ) (β : Tape) → step tapes 32 (cf AwaitUnary p is st β) x ≡ on (cf (AwaitByte (ToLo k)) p is st β))
      → leb k 8 ≡ true → Windowed text (j + 1) k n m more it → Prefixes text i n m more it
  prefix_window {i} {j} {n} {m} {k} {more} {it} x s h e f a w =
      let v = w.span in
      record {
        later = omega arith;
        inside = omega arith;
        further = λ z t. omega arith;
        same = λ p is st β.
            from_spaces text (cf AwaitUnary p is st β) i j (start_space tapes 32 p is st β) s
            ∙ on_byte text (cf AwaitUnary p is st β) (cf (AwaitByte (ToLo k)) p is st β) j x h e (f p is st β)
            ∙ v.same k p is st β
            ∙ told_by n m _ _ (λ z. ap (λ (c : Config Tape ℕ). from text c m) (to_unary p is st β)
            ∙ ap (λ (y : Item). from text (cf AwaitUnary p (y ∷ is) st β) m) (sym (w.made z))
            ∙ ap (λ (y : Bool). from text (cf AwaitUnary p (extended y it is) st β) m) (sym (w.some z)));
        last = λ z t. absurd (clash more (w.some z) t);
      }
    where
      to_unary : (p : Awaited ℕ) (is : List Item) (st : Stack ℕ) (β : Tape) → go tapes (ToOp k it.lo it.hi) p is st β ≡ cf AwaitUnary p (item k 0 it.lo it.hi ∷ is) st β
      to_unary p is st β = pick_true (leb k 8) _ _ a

  pub prefix_none : {i j : ℕ} {it : Item} → Skipped text i j → (j < length text → byte_at text j ≡ 33 → ⊥) → (j < length text → byte_at text j ≡ 70 → ⊥) → (j < length text → byte_at text j ≡ 71 → ⊥) → it ≡ plain_item 0 → Prefixes text i 0 j false it
  prefix_none {i} {j} {it} s a b c f =
      record {
        later = s.later;
        inside = s.inside;
        further = λ z t. absurd (clash false t refl);
        same = λ p is st β. from_spaces text (cf AwaitUnary p is st β) i j (start_space tapes 32 p is st β) s;
        last = λ z t. record { none = λ h. (s.next h, a h, b h, c h) };
      }

  -- ---- an atom
  pub atom_signal : {i d n j : ℕ} {α β : Tape} → i < length text → byte_at text i ≡ 115 → SignalRead text (i + 1) α n j β → AtomRead text i d α n j β
  atom_signal {i} {α = α} h e m =
      record {
        later = omega arith;
        inside = omega arith;
        same = λ p is st k. on_byte text (cf AwaitUnary p is st α) (cf (AwaitNumber Sig) p is st α) i 115 h e (start_signal tapes 32 p is st α) ∙ m.same p is st;
      }

  -- true and false: by the first byte x and the value v
  pub atom_constant : {i d n j k : ℕ} {w : List ℕ} {α β : Tape} (x : ℕ) (v : Bool) → i < length text → byte_at text i ≡ x
      → ((p : Awaited ℕ) (is : List Item) (st : Stack ℕ) (b : Tape) → step tapes 32 (cf AwaitUnary p is st b) x ≡ on (spelt tapes w v p is st b))
      → const_item v ≡ plain_item k → ConstantRead text (i + 1) w k α n j β → AtomRead text i d α n j β
  atom_constant {i} {w = w} {α = α} x v h e f c m =
      record {
        later = omega arith;
        inside = omega arith;
        same = λ p is st k. on_byte text (cf AwaitUnary p is st α) (spelt tapes w v p is st α) i x h e (f p is st α) ∙ m.same v c p is st;
      }

  pub atom_deep : {i d : ℕ} {α β : Tape} → i < length text → byte_at text i ≡ 40 → d ≤ 0 → AtomRead text i d α 33 i β
  atom_deep {i} {d} {α} {β} h e g =
      record {
        later = omega arith;
        inside = omega arith;
        same = λ p is st k. from_stop text (cf AwaitUnary p is st α) i 33 h (ap (λ (x : ℕ). step tapes 32 (cf AwaitUnary p is st α) x) e ∙ start_deep tapes 32 p is st α (omega arith));
      }

  bracketed : (i d n j : ℕ) (α β : Tape) → i < length text → byte_at text i ≡ 40 → 0 < d → FormulaRead text (i + 1) (d - 1) α n j β → (p : Awaited ℕ) (is : List Item) (st : Stack ℕ) → depth st + d ≡ 32
      → from text (cf AwaitUnary p is st α) i ≡ told n j (from text (cf AllRead First [] (push p is st) β) j)
  unfolding depth
  bracketed i d n j α β h e g f p is st k =
      on_byte text (cf AwaitUnary p is st α) (cf AwaitUnary First [] (push p is st) α) i 40 h e (start_open tapes 32 p is st α (omega arith))
      ∙ f.same (push p is st) (omega arith)

  pub atom_open : {i d n j : ℕ} {α β : Tape} → i < length text → byte_at text i ≡ 40 → 0 < d → FormulaRead text (i + 1) (d - 1) α n j β → (n ≡ 0 → ⊥) → AtomRead text i d α n j β
  atom_open {i} {d} {n} {j} {α} {β} h e g f z =
      record {
        later = omega arith;
        inside = omega arith;
        same = λ p is st k. bracketed i d n j α β h e g f p is st k ∙ told_not n j _ _ z;
      }

  pub atom_brackets : {i d n j m l : ℕ} {α β : Tape} → i < length text → byte_at text i ≡ 40 → 0 < d → FormulaRead text (i + 1) (d - 1) α n j β → n ≡ 0 → Expected text j 41 m l → AtomRead text i d α m l β
  atom_brackets {i} {d} {n} {j} {m} {l} {α} {β} h e g f z c =
      record {
        later = omega arith;
        inside = omega arith;
        same = λ p is st k. bracketed i d n j α β h e g f p is st k ∙ told_ok n j _ z ∙ c.closes refl p is st β;
      }

  -- what is on the tape at a fault is free
  pub atom_fault : {i d n j : ℕ} {α β γ : Tape} → AtomRead text i d α n j β → (n ≡ 0 → ⊥) → AtomRead text i d α n j γ
  atom_fault {n = n} {j = j} a z = record { later = a.later; inside = a.inside; same = λ p is st k. a.same p is st k ∙ told_not n j _ _ z }

  pub atom_bad : {i d : ℕ} {α β : Tape} → NoPrefix text i → (i < length text → byte_at text i ≡ 115 → ⊥) → (i < length text → byte_at text i ≡ 116 → ⊥) → (i < length text → byte_at text i ≡ 102 → ⊥) → (i < length text → byte_at text i ≡ 40 → ⊥) → AtomRead text i d α 32 i β
  atom_bad {i} {d} {α} {β} n a b c e =
      record {
        later = omega arith;
        inside = omega arith;
        same = λ p is st k.
            from_bad text (cf AwaitUnary p is st α) i
            (λ h. let q = n.none h in start_other tapes 32 p is st α (byte_at text i) q.0 q.1 q.2 q.3 (a h) (b h) (c h) (e h));
      }

  -- ---- a unary
  stretch : (p : Awaited ℕ) (is : List Item) (st : Stack ℕ) (β : Tape) (k : ℕ) (it : Item) (more : Bool) → more ≡ true → from text (cf AwaitUnary p (extended more it is) st β) k ≡ from text (cf AwaitUnary p (it ∷ is) st β) k
  stretch p is st β k it true e = refl
  stretch p is st β k it false e = absurd (clash false e refl)

  stay : (p : Awaited ℕ) (is : List Item) (st : Stack ℕ) (β : Tape) (k : ℕ) (it : Item) (more : Bool) → more ≡ false → from text (cf AwaitUnary p (extended more it is) st β) k ≡ from text (cf AwaitUnary p is st β) k
  stay p is st β k it true e = absurd (clash true refl e)
  stay p is st β k it false e = refl

  pub unary_plain : {i d n j m l : ℕ} {more : Bool} {it : Item} {α β : Tape} → Prefixes text i n j more it → n ≡ 0 → more ≡ false → AtomRead text j d α m l β → UnaryRead text i d α m l β
  unfolding puts
  unary_plain {i} {d} {n} {j} {m} {l} {more} {it} {α} {β} x z w a =
      record {
        later = omega arith;
        inside = omega arith;
        same = λ p st q. x.same p [] st α ∙ told_ok n j _ z ∙ stay p [] st α j it more w ∙ a.same p [] st q ∙ puts_done p st;
      }
    where
      puts_done : (p : Awaited ℕ) (st : Stack ℕ) → told m l (from text (atom_done tapes p [] st β) l) ≡ told m l (from text (unary_done tapes p st β) l)
      puts_done p st = refl

  -- the prefixes from the place i on up to j, which the ring holds
  pub record Prefs (i j : ℕ) (ring : List Prefix) (n : ℕ) : Type 0 where
    pub later : i ≤ j
    pub inside : j ≤ max i (length text)
    pub few : n ≤ j - i
    pub read : List Item
    pub holds : Holds ring n read
    pub same : (p : Awaited ℕ) (st : Stack ℕ) (β : Tape) → from text (cf AwaitUnary p [] st β) i ≡ from text (cf AwaitUnary p read st β) j

  pub prefs_more : {i j n k m : ℕ} {more : Bool} (q : Prefix) {ring ring' : List Prefix} → Prefs i j ring m → Prefixes text j n k more (prefix_item q) → n ≡ 0
      → more ≡ true → ring' ≡ held_in ring m q → Prefs i k ring' (m + 1)
  prefs_more {i} {j} {n} {k} {m} {more} q {ring} {ring'} f x z w e =
      record {
        later = omega arith;
        inside = omega arith;
        few = let a = f.later in let b = x.further z w in let c = f.few in omega arith;
        read = prefix_item q ∷ f.read;
        holds = rw e (holds_more ring m f.read q f.holds);
        same = λ p st β. f.same p st β ∙ x.same p f.read st β ∙ told_ok n k _ z ∙ stretch p f.read st β k (prefix_item q) more w;
      }

  pub prefixed_atom : {i j d n k m l o : ℕ} {more : Bool} {it : Item} {ring : List Prefix} {α γ β : Tape} → Prefs i j ring o → Prefixes text j n k more it → n ≡ 0 → more ≡ false
      → AtomRead text k d α m l γ → β ≡ puts tapes γ (last_prefixes ring o) → UnaryRead text i d α m l β
  prefixed_atom {i} {j} {d} {n} {k} {m} {l} {o} {more} {it} {ring} {α} {γ} {β} f x z w a e =
      record {
        later = omega arith;
        inside = omega arith;
        same = λ p st q.
            f.same p st α ∙ x.same p f.read st α ∙ told_ok n k _ z ∙ stay p f.read st α k it more w
            ∙ a.same p f.read st q
            ∙ ap (λ (t : Tape). told m l (from text (unary_done tapes p st t) l)) (sym (holds_applied ring o f.read γ β f.holds e));
      }

  -- ---- a conjunction
  pub record Conjs (d i : ℕ) (α : Tape) (j : ℕ) (β : Tape) : Type 0 where
    pub later : i ≤ j
    pub inside : j ≤ max i (length text)
    pub same : (o : Option ℕ) (st : Stack ℕ) → depth st + d ≡ 32 → from text (cf (ChainRead o) First [] st α) i ≡ from text (cf (ChainRead o) First [] st β) j

  -- & and a unary
  and_read : (d i j s n k : ℕ) (α β γ : Tape) → Conjs d i α j β → Skipped text j s → s < length text → byte_at text s ≡ 38 → UnaryRead text (s + 1) d β n k γ → (o : Option ℕ) (st : Stack ℕ) → depth st + d ≡ 32
      → from text (cf (ChainRead o) First [] st α) i ≡ told n k (from text (cf (ChainRead o) First [] st (emitted γ (plain_item 5) (β.count - 1))) k)
  unfolding unary_done
  and_read d i j s n k α β γ f g h e u o st q =
      f.same o st q
      ∙ from_spaces text (cf (ChainRead o) First [] st β) j s (joined_space tapes 32 o st β) g
      ∙ on_byte text (cf (ChainRead o) First [] st β) (cf AwaitUnary (Chain o (some (β.count - 1))) [] st β) s 38 h e (joined_and tapes 32 st β o)
      ∙ u.same (Chain o (some (β.count - 1))) st q

  pub conjs_more : {d i j s n k : ℕ} {α β γ δ : Tape} → Conjs d i α j β → Skipped text j s → s < length text → byte_at text s ≡ 38 → UnaryRead text (s + 1) d β n k γ → n ≡ 0 → δ ≡ emitted γ (plain_item 5) (β.count - 1) → Conjs d i α k δ
  conjs_more {d} {i} {j} {s} {n} {k} {α} {β} {γ} {δ} f g h e u z t =
      record {
        later = omega arith;
        inside = omega arith;
        same = λ o st q. and_read d i j s n k α β γ f g h e u o st q ∙ told_ok n k _ z ∙ ap (λ (x : Tape). from text (cf (ChainRead o) First [] st x) k) (sym t);
      }

  pub conj_bad : {d i j s n k : ℕ} {α β γ : Tape} → Conjs d i α j β → Skipped text j s → s < length text → byte_at text s ≡ 38 → UnaryRead text (s + 1) d β n k γ → (n ≡ 0 → ⊥) → ConjRead text i d α n k γ
  conj_bad {d} {i} {j} {s} {n} {k} {α} {β} {γ} f g h e u z =
      record {
        later = omega arith;
        inside = omega arith;
        same = λ o st q. and_read d i j s n k α β γ f g h e u o st q ∙ told_not n k _ _ z;
        last = λ y. absurd (z y);
      }

  pub conj_done : {d i j s : ℕ} {α β : Tape} → Conjs d i α j β → Skipped text j s → (s < length text → byte_at text s ≡ 38 → ⊥) → ConjRead text i d α 0 s β
  conj_done {d} {i} {j} {s} {α} {β} f g a =
      record {
        later = omega arith;
        inside = omega arith;
        same = λ o st q. f.same o st q ∙ from_spaces text (cf (ChainRead o) First [] st β) j s (joined_space tapes 32 o st β) g;
        last = λ y h. (g.next h, a h);
      }

  -- ---- a disjunction
  pub record Disjs (d i : ℕ) (α : Tape) (j : ℕ) (β : Tape) (left : Maybe ℕ) : Type 0 where
    pub later : i ≤ j
    pub inside : j ≤ max i (length text)
    pub same : (st : Stack ℕ) → depth st + d ≡ 32 → from text (cf (ChainRead none) First [] st α) i ≡ from text (cf (ChainRead (left_of left)) First [] st β) j

  pub disj_done : {d i j n k : ℕ} {α β γ δ : Tape} {t : Maybe ℕ} → Disjs d i α j β t → ConjRead text j d β n k γ → n ≡ 0 → (k < length text → byte_at text k ≡ 124 → ⊥) → δ ≡ orred tapes (left_of t) γ → DisjRead text i d α 0 k δ
  disj_done {d} {i} {j} {n} {k} {α} {β} {γ} {δ} {t} f c z a e =
      record {
        later = omega arith;
        inside = omega arith;
        same = λ st q.
            f.same st q ∙ c.same (left_of t) st q ∙ told_ok n k _ z
            ∙ from_like text (cf (ChainRead (left_of t)) First [] st γ) (cf AllRead First [] st (orred tapes (left_of t) γ)) k
            (λ h. joined_closed tapes 32 st γ (left_of t) (byte_at text k) (c.last z h).0 (c.last z h).1 (a h))
            ∙ ap (λ (x : Tape). from text (cf AllRead First [] st x) k) (sym e);
      }

  -- | and a unary
  or_read : (d i j n k m e : ℕ) (α β γ δ ε : Tape) (t : Maybe ℕ) → Disjs d i α j β t → ConjRead text j d β n k γ → n ≡ 0 → k < length text → byte_at text k ≡ 124 → δ ≡ orred tapes (left_of t) γ
      → UnaryRead text (k + 1) d δ m e ε → (st : Stack ℕ) → depth st + d ≡ 32
      → from text (cf (ChainRead none) First [] st α) i ≡ told m e (from text (cf (ChainRead (some (δ.count - 1))) First [] st ε) e)
  unfolding unary_done
  or_read d i j n k m e α β γ δ ε t f c z h b g u st q =
      f.same st q ∙ c.same (left_of t) st q ∙ told_ok n k _ z
      ∙ on_byte text (cf (ChainRead (left_of t)) First [] st γ) (cf AwaitUnary (Chain (some ((orred tapes (left_of t) γ).count - 1)) none) [] st (orred tapes (left_of t) γ)) k 124 h b (joined_or tapes 32 st γ (left_of t))
      ∙ ap (λ (x : Tape). from text (cf AwaitUnary (Chain (some (x.count - 1)) none) [] st x) (k + 1)) (sym g)
      ∙ u.same (Chain (some (δ.count - 1)) none) st q

  pub disj_or_bad : {d i j n k m e : ℕ} {α β γ δ ε : Tape} {t : Maybe ℕ} → Disjs d i α j β t → ConjRead text j d β n k γ → n ≡ 0 → k < length text → byte_at text k ≡ 124 → δ ≡ orred tapes (left_of t) γ
      → UnaryRead text (k + 1) d δ m e ε → (m ≡ 0 → ⊥) → DisjRead text i d α m e ε
  disj_or_bad {d} {i} {j} {n} {k} {m} {e} {α} {β} {γ} {δ} {ε} {t} f c z h b g u y =
      record {
        later = omega arith;
        inside = omega arith;
        same = λ st q. or_read d i j n k m e α β γ δ ε t f c z h b g u st q ∙ told_not m e _ _ y;
      }

  pub disjs_more : {d i j n k m e : ℕ} {α β γ δ ε : Tape} {t : Maybe ℕ} {r : ℕ} → Disjs d i α j β t → ConjRead text j d β n k γ → n ≡ 0 → k < length text → byte_at text k ≡ 124 → δ ≡ orred tapes (left_of t) γ
      → UnaryRead text (k + 1) d δ m e ε → m ≡ 0 → r ≡ δ.count - 1 → Disjs d i α e ε (Some r)
  disjs_more {d} {i} {j} {n} {k} {m} {e} {α} {β} {γ} {δ} {ε} {t} {r} f c z h b g u y w =
      record {
        later = omega arith;
        inside = omega arith;
        same = λ st q. or_read d i j n k m e α β γ δ ε t f c z h b g u st q ∙ told_ok m e _ y ∙ ap (λ (x : ℕ). from text (cf (ChainRead (some x)) First [] st ε) e) (sym w);
      }

  -- ---- a formula
  pub formula_fault : {i d n j : ℕ} {α β γ : Tape} → FormulaRead text i d α n j β → (n ≡ 0 → ⊥) → FormulaRead text i d α n j γ
  formula_fault {n = n} {j = j} f z = record { later = f.later; inside = f.inside; same = λ st q. f.same st q ∙ told_not n j _ _ z }

  first_read : (i d n j s : ℕ) (α β : Tape) → UnaryRead text i d α n j β → n ≡ 0 → Skipped text j s → (st : Stack ℕ) → depth st + d ≡ 32 → from text (cf AwaitUnary First [] st α) i ≡ from text (cf FirstRead First [] st β) s
  unfolding unary_done
  first_read i d n j s α β u z g st q =
      u.same First st q ∙ told_ok n j _ z ∙ from_spaces text (cf FirstRead First [] st β) j s (alone_space tapes 32 st β) g

  -- an operator is a byte of the text
  between_inside : (s k : ℕ) → Between text s (Some k) → s < length text
  between_inside s k (until h b) = h
  between_inside s k (release h b) = h

  -- the operator k and its interval
  timed_read : (i d n j s k m e lo hi : ℕ) (α β : Tape) → UnaryRead text i d α n j β → n ≡ 0 → Skipped text j s → Between text s (Some k) → Spanned text (s + 1) m e lo hi → (st : Stack ℕ) → depth st + d ≡ 32
      → from text (cf AwaitUnary First [] st α) i ≡ told m e (from text (cf AwaitUnary (Right (item k 0 lo hi) (β.count - 1)) [] st β) e)
  timed_read i d n j s k m e lo hi α β u z g (until h b) v st q =
      first_read i d n j s α β u z g st q
      ∙ on_byte text (cf FirstRead First [] st β) (cf (AwaitByte (ToLo 9)) First [] st β) s 85 h b (alone_until tapes 32 st β)
      ∙ v.same 9 First [] st β
  timed_read i d n j s k m e lo hi α β u z g (release h b) v st q =
      first_read i d n j s α β u z g st q
      ∙ on_byte text (cf FirstRead First [] st β) (cf (AwaitByte (ToLo 10)) First [] st β) s 82 h b (alone_release tapes 32 st β)
      ∙ v.same 10 First [] st β

  pub formula_span : {i d n j s k m e lo hi : ℕ} {α β γ : Tape} → UnaryRead text i d α n j β → n ≡ 0 → Skipped text j s → Between text s (Some k) → Spanned text (s + 1) m e lo hi → (m ≡ 0 → ⊥) → FormulaRead text i d α m e γ
  formula_span {i} {d} {n} {j} {s} {k} {m} {e} {lo} {hi} {α} {β} {γ} u z g b v x =
      record {
        later = omega arith;
        inside = let h = between_inside s k b in omega arith;
        same = λ st q. timed_read i d n j s k m e lo hi α β u z g b v st q ∙ told_not m e _ _ x;
      }

  pub formula_right : {i d n j s k m e lo hi a f : ℕ} {α β γ δ : Tape} → UnaryRead text i d α n j β → n ≡ 0 → Skipped text j s → Between text s (Some k) → Spanned text (s + 1) m e lo hi → m ≡ 0 → UnaryRead text e d β a f γ
      → δ ≡ emitted γ (item k 0 lo hi) (β.count - 1) → FormulaRead text i d α a f δ
  unfolding unary_done
  formula_right {i} {d} {n} {j} {s} {k} {m} {e} {lo} {hi} {a} {f} {α} {β} {γ} {δ} u z g b v x w t =
      record {
        later = omega arith;
        inside = let h = between_inside s k b in omega arith;
        same = λ st q.
            timed_read i d n j s k m e lo hi α β u z g b v st q ∙ told_ok m e _ x ∙ w.same (Right (item k 0 lo hi) (β.count - 1)) st q
            ∙ ap (λ (t : Tape). told a f (from text (cf AllRead First [] st t) f)) (sym t);
      }

  between_none : (s : ℕ) → Between text s None → (s < length text → byte_at text s ≡ 85 → ⊥) × (s < length text → byte_at text s ≡ 82 → ⊥)
  between_none s (neither a b) = (a, b)

  pub formula_chain : {i d n j s m e : ℕ} {α β γ : Tape} → UnaryRead text i d α n j β → n ≡ 0 → Skipped text j s → Between text s None → DisjRead text s d β m e γ → FormulaRead text i d α m e γ
  formula_chain {i} {d} {n} {j} {s} {m} {e} {α} {β} {γ} u z g b r =
      let o = between_none s b in
      record {
        later = omega arith;
        inside = omega arith;
        same = λ st q.
            first_read i d n j s α β u z g st q
            ∙ from_like text (cf FirstRead First [] st β) (cf (ChainRead none) First [] st β) s (λ h. alone_joined tapes 32 st β (byte_at text s) (g.next h) (o.0 h) (o.1 h))
            ∙ r.same st q;
      }

  -- the cells at a loop's head are those at its start
  pub unary_from : {i d n k j : ℕ} {b c : List ℕ} {β : Tape} → b ≡ c → UnaryRead text i d (tape b n) k j β → UnaryRead text i d (tape c n) k j β
  unary_from e u = rw e at u
