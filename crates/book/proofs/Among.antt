-- Laws of numbers among others, of the records that a test picks, and of what is collected along a chain. Assumes nothing.
use mathlib.Core.Path.{◌≡◌, refl, sym, ap, ◌∙◌}
use mathlib.Core.Bool.{Bool, true, false, ◌&&◌, ◌||◌, true≢false, false≢true, or_assoc, or-false, and-false, or-true}
use mathlib.Core.List.Memᴰ
use mathlib.Core.List.{List, [], ◌∷◌, ◌++◌, map, append_assoc, append-nil, Memᴰ}
use mathlib.Core.Logic.{⊎_elim, ◌↔◌}
use Prim.Native.Nat.{ℕ, zero, suc, ◌<◌}
use native.Mathlib.Omega.{arith}
use borrow.Author.Tests.{eqb-true, eqb-false, eq-eqb, ne_eqb}
use lib.Dec.{eqb}
use lib.ListN.{length, get_or}
use Rattle.lists.specs.Choice.{pick}
use Rattle.lists.specs.Sequence.{among}
use Rattle.lists.proofs.Tests.{or_split, or_left, or_right, true_or_false}
use Rattle.book.proofs.Tests.{neither}
use Rattle.book.specs.Reading.{index, filter, collect}

-- ---- the test says that the number is in the list
pub among_iff : (k : ℕ) (xs : List ℕ) → (among k xs ≡ true) ↔ Memᴰ k xs
among_iff k [] = (λ h. absurd (false≢true h), λ m. absurd (Memᴰ.not-nil m))
among_iff k (x ∷ xs) = (
  λ h. ⊎_elim (λ e. Memᴰ.head (eqb-true k x e)) (λ e. Memᴰ.tail ((among_iff k xs).0 e)) (or_split (eqb k x) (among k xs) h),
  λ m. ⊎_elim (λ (e : k ≡ x). rw (eq-eqb k x e)) (λ n. rw ((among_iff k xs).1 n) (or-true (eqb k x))) (Memᴰ.cases_cons m),
)

pub not_among : (k : ℕ) (xs : List ℕ) → ¬ (Memᴰ k xs) → among k xs ≡ false
not_among k xs h = ⊎_elim (λ e. absurd (h ((among_iff k xs).0 e))) (λ e. e) (true_or_false (among k xs))

pub among_not : (k : ℕ) (xs : List ℕ) → among k xs ≡ false → ¬ (Memᴰ k xs)
among_not k xs h m = true≢false (sym ((among_iff k xs).1 m) ∙ h)

pub eqb_suc : (a b : ℕ) → eqb (suc a) (suc b) ≡ eqb a b
eqb_suc a b = go (eqb a b) refl
  where
    go : (t : Bool) → eqb a b ≡ t → eqb (suc a) (suc b) ≡ t
    go true i = eq-eqb (suc a) (suc b) (ap suc (eqb-true a b i))
    go false i = ne_eqb (suc a) (suc b) (λ p. eqb-false a b i (omega arith))

pub among_append : (k : ℕ) (xs ys : List ℕ) → among k (xs ++ ys) ≡ (among k xs || among k ys)
among_append k [] ys = refl
among_append k (x ∷ xs) ys = rw (among_append k xs ys, or_assoc)

pub among_snoc : (k : ℕ) (xs : List ℕ) (x : ℕ) → among k (xs ++ (x ∷ [])) ≡ (among k xs || eqb k x)
among_snoc k xs x = rw (among_append k xs (x ∷ []), or-false)

module _ (p : ℕ → Bool) where
  pub among_filter : (k : ℕ) (xs : List ℕ) → among k (filter p xs) ≡ (p k && among k xs)
  among_filter k [] = sym (and-false (p k))
  among_filter k (x ∷ xs) = go (p x) refl (eqb k x) refl (among_filter k xs)
    where
      go : (b : Bool) → p x ≡ b → (t : Bool) → eqb k x ≡ t → among k (filter p xs) ≡ (p k && among k xs)
          → among k (pick b (x ∷ filter p xs) (filter p xs)) ≡ (p k && (t || among k xs))
      go true i true j h = let m : p k ≡ true = ap p (eqb-true k x j) ∙ i in rw (j, m)
      go true i false j h = rw j h
      go false i true j h = let m : p k ≡ false = ap p (eqb-true k x j) ∙ i in rw m (rw m at h)
      go false i false j h = h

  filter_snoc : (xs : List ℕ) (x : ℕ) → filter p (xs ++ (x ∷ [])) ≡ filter p xs ++ pick (p x) (x ∷ []) []
  filter_snoc [] x = refl
  filter_snoc (y ∷ ys) x = go (p y) (filter_snoc ys x)
    where
      go : (b : Bool) → filter p (ys ++ (x ∷ [])) ≡ filter p ys ++ pick (p x) (x ∷ []) []
          → pick b (y ∷ filter p (ys ++ (x ∷ []))) (filter p (ys ++ (x ∷ []))) ≡ pick b (y ∷ filter p ys) (filter p ys) ++ pick (p x) (x ∷ []) []
      go true h = rw h
      go false h = h

  pub filter_in : (xs : List ℕ) (x : ℕ) → p x ≡ true → filter p (xs ++ (x ∷ [])) ≡ filter p xs ++ (x ∷ [])
  filter_in xs x h = filter_snoc xs x ∙ rw h

  pub filter_out : (xs : List ℕ) (x : ℕ) → p x ≡ false → filter p (xs ++ (x ∷ [])) ≡ filter p xs
  filter_out xs x h = filter_snoc xs x ∙ rw h (append-nil (filter p xs))

  module _ {A : Type 0} (f : List ℕ → ℕ → A) where
    collect_snoc : (b xs : List ℕ) (x : ℕ) → collect p f b (xs ++ (x ∷ [])) ≡ collect p f b xs ++ pick (p x) (f (b ++ xs) x ∷ []) []
    collect_snoc b [] x = rw append-nil
    collect_snoc b (y ∷ ys) x = go (p y) (collect_snoc (b ++ (y ∷ [])) ys x)
      where
        go : (t : Bool)
            → collect p f (b ++ (y ∷ [])) (ys ++ (x ∷ [])) ≡ collect p f (b ++ (y ∷ [])) ys ++ pick (p x) (f ((b ++ (y ∷ [])) ++ ys) x ∷ []) []
            → pick t (f b y ∷ collect p f (b ++ (y ∷ [])) (ys ++ (x ∷ []))) (collect p f (b ++ (y ∷ [])) (ys ++ (x ∷ [])))
            ≡ pick t (f b y ∷ collect p f (b ++ (y ∷ [])) ys) (collect p f (b ++ (y ∷ [])) ys) ++ pick (p x) (f (b ++ (y ∷ ys)) x ∷ []) []
        go true h = rw (h, append_assoc b (y ∷ []) ys)
        go false h = rw (h, append_assoc b (y ∷ []) ys)

    pub collect_in : (xs : List ℕ) (x : ℕ) → p x ≡ true → collect p f [] (xs ++ (x ∷ [])) ≡ collect p f [] xs ++ (f xs x ∷ [])
    collect_in xs x h = collect_snoc [] xs x ∙ rw h

    pub collect_out : (xs : List ℕ) (x : ℕ) → p x ≡ false → collect p f [] (xs ++ (x ∷ [])) ≡ collect p f [] xs
    collect_out xs x h = collect_snoc [] xs x ∙ rw h (append-nil (collect p f [] xs))

    -- g of what is collected, where it goes by the record alone
    pub collect_map : {B : Type 0} (g : A → B) (h : ℕ → B) → ((b : List ℕ) (x : ℕ) → g (f b x) ≡ h x) → (b xs : List ℕ) → map g (collect p f b xs) ≡ map h (filter p xs)
    collect_map g h e b [] = refl
    collect_map g h e b (y ∷ ys) = go (p y) (collect_map g h e (b ++ (y ∷ [])) ys)
      where
        go : (t : Bool) → map g (collect p f (b ++ (y ∷ [])) ys) ≡ map h (filter p ys)
            → map g (pick t (f b y ∷ collect p f (b ++ (y ∷ [])) ys) (collect p f (b ++ (y ∷ [])) ys)) ≡ map h (pick t (y ∷ filter p ys) (filter p ys))
        go true i = rw (i, e)
        go false i = i

    pub collect_length : (b xs : List ℕ) → length (collect p f b xs) ≡ length (filter p xs)
    collect_length b [] = refl
    collect_length b (y ∷ ys) = go (p y) (collect_length (b ++ (y ∷ [])) ys)
      where
        go : (t : Bool) → length (collect p f (b ++ (y ∷ [])) ys) ≡ length (filter p ys)
            → length (pick t (f b y ∷ collect p f (b ++ (y ∷ [])) ys) (collect p f (b ++ (y ∷ [])) ys)) ≡ length (pick t (y ∷ filter p ys) (filter p ys))
        go true i = ap suc i
        go false i = i

    -- what f makes of the records that p picks has a property, so each that is collected has it
    pub collect_each : (Q : A → Type 0) (d : A) (b xs : List ℕ) → ((c : List ℕ) (x : ℕ) → Memᴰ x xs → p x ≡ true → Q (f c x))
        → (i : ℕ) → i < length (collect p f b xs) → Q (get_or (collect p f b xs) i d)
    collect_each Q d b [] h i l = absurd (omega arith)
    collect_each Q d b (y ∷ ys) h i l =
        go (p y) refl i l (λ j m. collect_each Q d (b ++ (y ∷ [])) ys (λ c x n. h c x (Memᴰ.tail n)) j m)
      where
        go : (t : Bool) → p y ≡ t → (i : ℕ) → i < length (pick t (f b y ∷ collect p f (b ++ (y ∷ [])) ys) (collect p f (b ++ (y ∷ [])) ys))
            → ((j : ℕ) → j < length (collect p f (b ++ (y ∷ [])) ys) → Q (get_or (collect p f (b ++ (y ∷ [])) ys) j d))
            → Q (get_or (pick t (f b y ∷ collect p f (b ++ (y ∷ [])) ys) (collect p f (b ++ (y ∷ [])) ys)) i d)
        go true e zero l r = h b y (Memᴰ.head refl) e
        go true e (suc i) l r = r i (omega arith)
        go false e i l r = r i l

-- the index of one that is there already, and of one that comes last
pub index_old : (xs ys : List ℕ) (k : ℕ) → among k xs ≡ true → index (xs ++ ys) k ≡ index xs k
index_old [] ys k h = absurd (false≢true h)
index_old (x ∷ xs) ys k h = go (eqb k x) refl (λ i. index_old xs ys k i)
  where
    go : (t : Bool) → eqb k x ≡ t → (among k xs ≡ true → index (xs ++ ys) k ≡ index xs k) → pick t 0 (suc (index (xs ++ ys) k)) ≡ pick t 0 (suc (index xs k))
    go true e i = refl
    go false e i = ap suc (i (rw e at h))

pub index_new : (xs : List ℕ) (k : ℕ) → among k xs ≡ false → index (xs ++ (k ∷ [])) k ≡ length xs
index_new [] k h = rw (eq-eqb k k refl)
index_new (x ∷ xs) k h = go (eqb k x) refl (λ i. index_new xs k i)
  where
    go : (t : Bool) → eqb k x ≡ t → (among k xs ≡ false → index (xs ++ (k ∷ [])) k ≡ length xs) → pick t 0 (suc (index (xs ++ (k ∷ [])) k)) ≡ suc (length xs)
    go true e i = absurd (true≢false (rw e at h))
    go false e i = ap suc (i (rw e at h))

-- the index of one that is there is a place
pub index_lt : (xs : List ℕ) (k : ℕ) → among k xs ≡ true → index xs k < length xs
index_lt [] k h = absurd (false≢true h)
index_lt (x ∷ xs) k h = go (eqb k x) refl (λ i. index_lt xs k i)
  where
    go : (t : Bool) → eqb k x ≡ t → (among k xs ≡ true → index xs k < length xs) → pick t 0 (suc (index xs k)) < suc (length xs)
    go true e i = omega arith
    go false e i = omega (arith, i (rw e at h))

-- ---- a name among those of the rules
module _ (f : ℕ → ℕ) (v : ℕ) where
  pub none_named : (qs : List ℕ) → among v (map f qs) ≡ false → (q : ℕ) → among q qs ≡ true → ¬ (f q ≡ v)
  none_named [] h q m e = false≢true m
  none_named (x ∷ xs) h q m e =
      go (eqb q x) refl (λ i. none_named xs (or_right (eqb v (f x)) _ h) q i e)
    where
      go : (t : Bool) → eqb q x ≡ t → (among q xs ≡ true → ⊥) → ⊥
      go true j i = eqb-false v (f x) (or_left (eqb v (f x)) (among v (map f xs)) h) (sym e ∙ ap f (eqb-true q x j))
      go false j i = i (rw j at m)

  pub named_none : (qs : List ℕ) → ((q : ℕ) → among q qs ≡ true → ¬ (f q ≡ v)) → among v (map f qs) ≡ false
  named_none [] h = refl
  named_none (x ∷ xs) h =
      neither (ne_eqb v (f x) (λ p. h x (rw (eq-eqb x x refl)) (sym p))) (named_none xs (λ q m. h q (go (eqb q x) m)))
    where
      go : (t : Bool) → {b : Bool} → b ≡ true → (t || b) ≡ true
      go true m = refl
      go false m = m
