-- Every line of the grammar is accepted, and its formula is built, whatever building is. Assumes nothing.
use Prim.Native.Nat.{ℕ, suc, ◌+◌, ◌*◌, ◌-◌, ◌≤◌}
use native.Mathlib.Omega.{arith}
use mathlib.Core.Path.{◌≡◌, refl, ap, ap₂, ◌∙◌, subst}
use mathlib.Core.Bool.{true, false}
use mathlib.Core.List.{List, [], ◌∷◌}
use mathlib.Core.Option.{Option, none, some}
use lib.Dec.{ltb, leb, eqb}
use lib.ListN.{length}
use borrow.Author.Tests.{eqb-false, ne_eqb, leb-true, lt-ltb}
use Rattle.lists.proofs.Tests.{true_left}
use Rattle.mltl.specs.Mltl.{Formula, signal, const, neg, and, or, F, G, U, R}
use Rattle.grammar.specs.Grammar.{Spaces, is_digit, Digits, end, digit, Number, nought, digits, Interval, Sort, Atom, Unary, Conjunction, Disjunction, AnyFormula, Is, a_signal, a_true, a_false, a_brackets, u_atom, u_not, u_finally, u_globally, c_unary, c_and, d_conjunction, d_or, w_disjunction, w_until, w_release, Line}
use Rattle.grammar.specs.declared.Item.{Item}
use Rattle.grammar.specs.Machine.{Actions, plain_item, item, Purpose, Name, Sig, Lo, Hi, ToLo, ToOp, Awaited, First, Chain, Right, Stack, bottom, push, depth, AwaitNumber, InNumber, AwaitByte, AwaitUnary, FirstRead, ChainRead, AllRead, Config, cf, on, Finished, unary_done, atom_done, orred, formula_ended, go, puts, plain, step, fate, build, trees, begin}
use Rattle.grammar.proofs.Runs.{pick_true, Runs, still, moves, joins, Like, itself, Reach, after, unary_spaces, dig_like, dig_more, num_first, spaces_start, spaces_number, spaces_want, tells}

-- ---- numbers and intervals
not_nought : (x : ℕ) → is_digit x ≡ true → eqb x 48 ≡ false → eqb (x - 48) 0 ≡ false
not_nought x h e =
    let l = leb-true 48 x (true_left (leb 48 x) (leb x 57) h) in
    let n = eqb-false x 48 e in
    ne_eqb (x - 48) 0 (λ z. n (omega arith))

grown : (n d : ℕ) → eqb n 0 ≡ false → eqb (10 * n + d) 0 ≡ false
grown n d e = let h = eqb-false n 0 e in ne_eqb (10 * n + d) 0 (λ z. h (omega arith))

-- the digits are taken exactly
pub record Exact {B N : Type 0} (A : Actions B N) : Type 0 where
  pub more : (n d : ℕ) → A.more n d ≡ 10 * n + d

module _ {B N : Type 0} {A : Actions B N} (x : Exact A) {lim : ℕ} {q : Purpose} {p : Awaited N} {is : List Item} {st : Stack N} {b : B} where
  digits_run : {n m : ℕ} {bs r : List ℕ} → Digits n m bs r → eqb n 0 ≡ false → Runs A lim (cf (InNumber q n) p is st b) bs (cf (InNumber q m) p is st b) r
  digits_run end h = still
  digits_run (digit {n = n} {x = y} d ds) h =
      moves (dig_more A lim q n p is st b y d h ∙ ap (λ (k : ℕ). on (cf (InNumber q k) p is st b)) (x.more n (y - 48))) (digits_run ds (grown n (y - 48) h))

  number_run : {n : ℕ} {bs r : List ℕ} → Number n bs r → Runs A lim (cf (AwaitNumber q) p is st b) bs (cf (InNumber q n) p is st b) r
  number_run nought = moves (num_first A lim q p is st b 48 refl) still
  number_run (digits {x = y} d e ds) = moves (num_first A lim q p is st b y d) (digits_run ds (not_nought y d e))

module _ {B N : Type 0} {A : Actions B N} (ex : Exact A) where
  interval_run : {lim k lo hi : ℕ} {p : Awaited N} {is : List Item} {st : Stack N} {b : B} {bs r : List ℕ}
      → Interval lo hi bs r → Runs A lim (cf (AwaitByte (ToLo k)) p is st b) bs (go A (ToOp k lo hi) p is st b) r
  unfolding step plain
  interval_run {lim} {k} {lo} {hi} {p} {is} {st} {b} v =
      let x = after (dig_like A lim (Lo k) lo p is st b) v.comma in
      let y = after (dig_like A lim (Hi k lo) hi p is st b) v.close in
      joins (spaces_want v.opened)
      (moves refl
      (joins (spaces_number refl v.before_lo)
      (joins (number_run ex v.lo_is)
      (joins x.way
      (moves (x.like.at 44 refl)
      (joins (spaces_number refl v.before_hi)
      (joins (number_run ex v.hi_is)
      (joins y.way
      (moves (y.like.at 93 refl) still)))))))))

-- ---- the parts of a formula
-- the bytes that end a formula
pub data Closer : ℕ → Type 0 where
  bracket : Closer 41
  newline : Closer 10

module _ {B N : Type 0} {A : Actions B N} (ex : Exact A) (lim : ℕ) where
  -- after c, over spaces, a formula that built b can end
  record Shut (st : Stack N) (b : B) (c : Config B N) (bs r : List ℕ) : Type 0 where
    now : Config B N
    way : Runs A lim c bs now r
    shut : (x : ℕ) → Closer x → step A lim now x ≡ formula_ended A st b x

  record Shuts (st : Stack N) (b : B) (c : Config B N) : Type 0 where
    over : {bs r : List ℕ} → Spaces bs r → Shut st b c bs r

  shuts_like : {st : Stack N} {b : B} {c d : Config B N}
      → Like A lim c d → ((x : ℕ) → Closer x → step A lim d x ≡ formula_ended A st b x) → Shuts st b c
  shuts_like {st} {b} {c} {d} l f = record { over = λ s. made (after l s) }
    where
      same : {e : Config B N} → Like A lim e d → (x : ℕ) → Closer x → step A lim e x ≡ formula_ended A st b x
      same g x bracket = g.at 41 refl ∙ f 41 bracket
      same g x newline = g.at 10 refl ∙ f 10 newline

      made : {bs r : List ℕ} → Reach A lim c bs d r → Shut st b c bs r
      made q = record { now = q.now; way = q.way; shut = same q.like }

  -- a conjunction was read, in a disjunction with the left side o
  data Ends (st : Stack N) (b : B) : Option N → Config B N → Type 0 where
    joined : {o : Option N} {c : Config B N} → Like A lim c (cf (ChainRead o) First [] st b) → Ends st b o c
    alone : {c : Config B N} → Like A lim c (cf FirstRead First [] st b) → Ends st b none c

  data Opens : Option N → Awaited N → Type 0 where
    first : Opens none First
    chain : {o : Option N} → Opens o (Chain o none)

  amp : {st : Stack N} {b : B} {o : Option N} {c : Config B N} {bs r : List ℕ}
      → Ends st b o c → Spaces bs (38 ∷ r) → Runs A lim c bs (cf AwaitUnary (Chain o (some (A.last_node b))) [] st b) r
  unfolding step plain
  amp (joined l) s = let q = after l s in joins q.way (moves (q.like.at 38 refl) still)
  amp (alone l) s = let q = after l s in joins q.way (moves (q.like.at 38 refl) still)

  bar : {st : Stack N} {b : B} {o : Option N} {c : Config B N} {bs r : List ℕ}
      → Ends st b o c → Spaces bs (124 ∷ r) → Runs A lim c bs (cf AwaitUnary (Chain (some (A.last_node (orred A o b))) none) [] st (orred A o b)) r
  unfolding step plain
  bar (joined l) s = let q = after l s in joins q.way (moves (q.like.at 124 refl) still)
  bar (alone l) s = let q = after l s in joins q.way (moves (q.like.at 124 refl) still)

  joined_close : (o : Option N) (st : Stack N) (b : B) (x : ℕ) → Closer x → step A lim (cf (ChainRead o) First [] st b) x ≡ formula_ended A st (orred A o b) x
  unfolding step plain
  joined_close o st b x bracket = refl
  joined_close o st b x newline = refl

  alone_close : (st : Stack N) (b : B) (x : ℕ) → Closer x → step A lim (cf FirstRead First [] st b) x ≡ formula_ended A st b x
  unfolding step plain
  alone_close st b x bracket = refl
  alone_close st b x newline = refl

  closed_close : (st : Stack N) (b : B) (x : ℕ) → Closer x → step A lim (cf AllRead First [] st b) x ≡ formula_ended A st b x
  unfolding step plain
  closed_close st b x bracket = refl
  closed_close st b x newline = refl

  shuts_ends : {st : Stack N} {b : B} {o : Option N} {c : Config B N} → Ends st b o c → Shuts st (orred A o b) c
  shuts_ends {st} {b} (joined {o = o} l) = shuts_like l (joined_close o st b)
  shuts_ends {st} {b} (alone l) = shuts_like l (alone_close st b)

  closed_shuts : {st : Stack N} {b : B} {c : Config B N} → Like A lim c (cf AllRead First [] st b) → Shuts st b c
  closed_shuts {st} {b} l = shuts_like l (closed_close st b)

  -- what reading each sort comes to
  record Joint (o : Option N) (c : Config B N) (bs : List ℕ) (st : Stack N) (b : B) (r : List ℕ) : Type 0 where
    now : Config B N
    way : Runs A lim c bs now r
    ends : Ends st b o now

  record Either (c : Config B N) (bs : List ℕ) (st : Stack N) (b : B) (r : List ℕ) : Type 0 where
    o : Option N
    u : B
    joint : Joint o c bs st u r
    is : orred A o u ≡ b

  record Over (c : Config B N) (bs : List ℕ) (st : Stack N) (b : B) (r : List ℕ) : Type 0 where
    now : Config B N
    way : Runs A lim c bs now r
    shuts : Shuts st b now

  record UnaryClaim (d : ℕ) (t : Formula) (bs r : List ℕ) : Type 0 where
    at : (p : Awaited N) (is : List Item) (st : Stack N) (b : B) → depth st + d ≤ lim → Reach A lim (cf AwaitUnary p is st b) bs (atom_done A p is st (build A b t)) r

  record ConjClaim (d : ℕ) (t : Formula) (bs r : List ℕ) : Type 0 where
    at : (o : Option N) (p : Awaited N) (st : Stack N) (b : B) → Opens o p → depth st + d ≤ lim → Joint o (cf AwaitUnary p [] st b) bs st (build A b t) r

  record DisjClaim (d : ℕ) (t : Formula) (bs r : List ℕ) : Type 0 where
    at : (st : Stack N) (b : B) → depth st + d ≤ lim → Either (cf AwaitUnary First [] st b) bs st (build A b t) r

  record FormulaClaim (d : ℕ) (t : Formula) (bs r : List ℕ) : Type 0 where
    at : (st : Stack N) (b : B) → depth st + d ≤ lim → Over (cf AwaitUnary First [] st b) bs st (build A b t) r

  abbrev Claim : Sort → ℕ → Formula → List ℕ → List ℕ → Type 0
  Claim Atom d t bs r = UnaryClaim d t bs r
  Claim Unary d t bs r = UnaryClaim d t bs r
  Claim Conjunction d t bs r = ConjClaim d t bs r
  Claim Disjunction d t bs r = DisjClaim d t bs r
  Claim AnyFormula d t bs r = FormulaClaim d t bs r

  signal_claim : {d n : ℕ} {bs a r : List ℕ} → Spaces bs (115 ∷ a) → Number n a r → UnaryClaim d (signal n) bs r
  unfolding step plain build
  signal_claim {n = n} s v =
      record {
        at = λ p is st b h.
            record { now = cf (InNumber Sig n) p is st b; way = joins (spaces_start s) (moves refl (number_run ex v)); like = dig_like A lim Sig n p is st b };
      }

  true_claim : {d : ℕ} {bs r : List ℕ} → Spaces bs (116 ∷ 114 ∷ 117 ∷ 101 ∷ r) → UnaryClaim d (const true) bs r
  unfolding step plain build
  true_claim s =
      record {
        at = λ p is st b h.
            record { now = atom_done A p is st (build A b (const true)); way = joins (spaces_start s) (moves refl (moves refl (moves refl (moves refl still)))); like = itself A lim (unary_spaces A lim p st _) };
      }

  false_claim : {d : ℕ} {bs r : List ℕ} → Spaces bs (102 ∷ 97 ∷ 108 ∷ 115 ∷ 101 ∷ r) → UnaryClaim d (const false) bs r
  unfolding step plain build
  false_claim s =
      record {
        at = λ p is st b h.
            record { now = atom_done A p is st (build A b (const false)); way = joins (spaces_start s) (moves refl (moves refl (moves refl (moves refl (moves refl still))))); like = itself A lim (unary_spaces A lim p st _) };
      }

  brackets_claim : {d : ℕ} {t : Formula} {bs a c r : List ℕ} → Spaces bs (40 ∷ a) → FormulaClaim d t a c → Spaces c (41 ∷ r) → UnaryClaim (suc d) t bs r
  unfolding step plain depth
  brackets_claim {t = t} s w e =
      record {
        at = λ p is st b h.
            let q = w.at (push p is st) b (omega arith) in
            let z = q.shuts.over e in
            record {
              now = atom_done A p is st (build A b t);
              way =
                  joins (spaces_start s)
                  (moves (pick_true (ltb (depth st) lim) _ _ (lt-ltb (depth st) lim (omega arith)))
                  (joins q.way (joins z.way (moves (z.shut 41 bracket) still))));
              like = itself A lim (unary_spaces A lim p st _);
            };
      }

  not_claim : {d : ℕ} {t : Formula} {bs a r : List ℕ} → Spaces bs (33 ∷ a) → UnaryClaim d t a r → UnaryClaim d (neg t) bs r
  unfolding step plain puts build
  not_claim s u =
      record {
        at = λ p is st b h.
            let q = u.at p (plain_item 4 ∷ is) st b h in
            record { now = q.now; way = joins (spaces_start s) (moves refl q.way); like = q.like };
      }

  -- F and G: by the byte x of the operator k
  window_claim : {d lo hi : ℕ} {t : Formula} {bs a c r : List ℕ} (x k : ℕ)
      → ((p : Awaited N) (is : List Item) (st : Stack N) (b : B) → step A lim (cf AwaitUnary p is st b) x ≡ on (cf (AwaitByte (ToLo k)) p is st b))
      → ((p : Awaited N) (is : List Item) (st : Stack N) (b : B) → go A (ToOp k lo hi) p is st b ≡ cf AwaitUnary p (item k 0 lo hi ∷ is) st b)
      → Spaces bs (x ∷ a) → Interval lo hi a c → UnaryClaim d t c r
      → (p : Awaited N) (is : List Item) (st : Stack N) (b : B) → depth st + d ≤ lim → Reach A lim (cf AwaitUnary p is st b) bs (atom_done A p (item k 0 lo hi ∷ is) st (build A b t)) r
  window_claim {lo = lo} {hi = hi} {a = a} {c = c} x k steps lands s v u p is st b h =
      let q = u.at p (item k 0 lo hi ∷ is) st b h in
      let w : Runs A lim (cf (AwaitByte (ToLo k)) p is st b) a (cf AwaitUnary p (item k 0 lo hi ∷ is) st b) c =
      subst (λ (z : Config B N). Runs A lim (cf (AwaitByte (ToLo k)) p is st b) a z c) (lands p is st b) (interval_run ex v) in
      record { now = q.now; way = joins (spaces_start s) (moves (steps p is st b) (joins w q.way)); like = q.like }

  finally_claim : {d lo hi : ℕ} {t : Formula} {bs a c r : List ℕ} → Spaces bs (70 ∷ a) → Interval lo hi a c → UnaryClaim d t c r → UnaryClaim d (F lo hi t) bs r
  unfolding step plain puts build
  finally_claim s v u = record { at = window_claim 70 7 (λ p is st b. refl) (λ p is st b. refl) s v u }

  globally_claim : {d lo hi : ℕ} {t : Formula} {bs a c r : List ℕ} → Spaces bs (71 ∷ a) → Interval lo hi a c → UnaryClaim d t c r → UnaryClaim d (G lo hi t) bs r
  unfolding step plain puts build
  globally_claim s v u = record { at = window_claim 71 8 (λ p is st b. refl) (λ p is st b. refl) s v u }

  unary_claim : {d : ℕ} {t : Formula} {bs r : List ℕ} → UnaryClaim d t bs r → ConjClaim d t bs r
  unfolding unary_done puts
  unary_claim {d} {t} {bs} {r} u = record { at = λ o p st b k h. by o p st b k h }
    where
      by : (o : Option N) (p : Awaited N) (st : Stack N) (b : B) → Opens o p → depth st + d ≤ lim → Joint o (cf AwaitUnary p [] st b) bs st (build A b t) r
      by o p st b first h = let q = u.at First [] st b h in record { now = q.now; way = q.way; ends = alone q.like }
      by o p st b chain h = let q = u.at (Chain o none) [] st b h in record { now = q.now; way = q.way; ends = joined q.like }

  and_claim : {d : ℕ} {t u : Formula} {bs a c r : List ℕ} → ConjClaim d t bs a → Spaces a (38 ∷ c) → UnaryClaim d u c r → ConjClaim d (and t u) bs r
  unfolding unary_done puts build
  and_claim {t = t} f s g =
      record {
        at = λ o p st b k h.
            let x = f.at o p st b k h in
            let y = g.at (Chain o (some (A.last_node (build A b t)))) [] st (build A b t) h in
            record { now = y.now; way = joins x.way (joins (amp x.ends s) y.way); ends = joined y.like };
      }

  conjunction_claim : {d : ℕ} {t : Formula} {bs r : List ℕ} → ConjClaim d t bs r → DisjClaim d t bs r
  conjunction_claim {t = t} f =
      record {
        at = λ st b h.
            record { o = none; u = build A b t; joint = f.at none First st b first h; is = refl };
      }

  or_claim : {d : ℕ} {t u : Formula} {bs a c r : List ℕ} → DisjClaim d t bs a → Spaces a (124 ∷ c) → ConjClaim d u c r → DisjClaim d (or t u) bs r
  unfolding build
  or_claim {t = t} {u = u} {a = a} {c = c} f s g =
      record {
        at = λ st b h.
            let x = f.at st b h in
            let e = build A b t in
            let y = g.at (some (A.last_node e)) (Chain (some (A.last_node e)) none) st e chain h in
            let z : Runs A lim x.joint.now a (cf AwaitUnary (Chain (some (A.last_node e)) none) [] st e) c = rw x.is at (bar x.joint.ends s) in
            record { o = some (A.last_node e); u = build A e u; joint = record { now = y.now; way = joins x.joint.way (joins z y.way); ends = y.ends }; is = refl };
      }

  disjunction_claim : {d : ℕ} {t : Formula} {bs r : List ℕ} → DisjClaim d t bs r → FormulaClaim d t bs r
  disjunction_claim f =
      record {
        at = λ st b h.
            let x = f.at st b h in
            record { now = x.joint.now; way = x.joint.way; shuts = rw x.is at (shuts_ends x.joint.ends) };
      }

  -- U and R: by the byte x of the operator k
  between_claim : {d lo hi : ℕ} {t u : Formula} {bs a c e r : List ℕ} (x k : ℕ) → is_digit x ≡ false
      → ((st : Stack N) (b : B) → step A lim (cf FirstRead First [] st b) x ≡ on (cf (AwaitByte (ToLo k)) First [] st b))
      → ((st : Stack N) (b : B) → go A (ToOp k lo hi) First [] st b ≡ cf AwaitUnary (Right (item k 0 lo hi) (A.last_node b)) [] st b)
      → UnaryClaim d t bs a → Spaces a (x ∷ c) → Interval lo hi c e → UnaryClaim d u e r
      → (st : Stack N) (b : B) → depth st + d ≤ lim → Over (cf AwaitUnary First [] st b) bs st (A.emit (build A (build A b t) u) (item k 0 lo hi) (A.last_node (build A b t))) r
  unfolding unary_done puts
  between_claim {lo = lo} {hi = hi} {t = t} {c = c} {e = e} x k other steps lands f s v g st b h =
      let one = build A b t in
      let first = f.at First [] st b h in
      let m = after first.like s in
      let second = g.at (Right (item k 0 lo hi) (A.last_node one)) [] st one h in
      let w : Runs A lim (cf (AwaitByte (ToLo k)) First [] st one) c (cf AwaitUnary (Right (item k 0 lo hi) (A.last_node one)) [] st one) e =
      subst (λ (z : Config B N). Runs A lim (cf (AwaitByte (ToLo k)) First [] st one) c z e) (lands st one) (interval_run ex v) in
      record {
        now = second.now;
        way = joins first.way (joins m.way (moves (m.like.at x other ∙ steps st one) (joins w second.way)));
        shuts = closed_shuts second.like;
      }

  until_claim : {d lo hi : ℕ} {t u : Formula} {bs a c e r : List ℕ} → UnaryClaim d t bs a → Spaces a (85 ∷ c) → Interval lo hi c e → UnaryClaim d u e r → FormulaClaim d (U lo hi t u) bs r
  unfolding step plain build
  until_claim f s v g = record { at = between_claim 85 9 refl (λ st b. refl) (λ st b. refl) f s v g }

  release_claim : {d lo hi : ℕ} {t u : Formula} {bs a c e r : List ℕ} → UnaryClaim d t bs a → Spaces a (82 ∷ c) → Interval lo hi c e → UnaryClaim d u e r → FormulaClaim d (R lo hi t u) bs r
  unfolding step plain build
  release_claim f s v g = record { at = between_claim 82 10 refl (λ st b. refl) (λ st b. refl) f s v g }

  claims : {s : Sort} {d : ℕ} {t : Formula} {bs r : List ℕ} → Is s d t bs r → Claim s d t bs r
  claims (a_signal s v) = signal_claim s v
  claims (a_true s) = true_claim s
  claims (a_false s) = false_claim s
  claims (a_brackets s w e) = brackets_claim s (claims w) e
  claims (u_atom a) = claims a
  claims (u_not s u) = not_claim s (claims u)
  claims (u_finally s v u) = finally_claim s v (claims u)
  claims (u_globally s v u) = globally_claim s v (claims u)
  claims (c_unary u) = unary_claim (claims u)
  claims (c_and f s g) = and_claim (claims f) s (claims g)
  claims (d_conjunction f) = conjunction_claim (claims f)
  claims (d_or f s g) = or_claim (claims f) s (claims g)
  claims (w_disjunction f) = disjunction_claim (claims f)
  claims (w_until f s v g) = until_claim (claims f) s v (claims g)
  claims (w_release f s v g) = release_claim (claims f) s v (claims g)

  -- a line whose brackets nest at most lim deep is accepted, with its name, its formula is built, and what follows is left
  pub completes : {d name : ℕ} {t : Formula} {bs r : List ℕ} (i : ℕ) (b : B) → d ≤ lim → Line d name t bs r
      → (j : ℕ) × (fate A lim (begin A b) i bs ≡ Finished name (build A b t) j r) × (i + length bs ≡ j + length r)
  unfolding step plain depth
  completes {name = name} i b h l =
      let x = after (dig_like A lim Name name First [] (bottom 0) b) l.colon in
      let y = (claims l.formula).at (bottom name) b (omega arith) in
      let z = y.shuts.over l.ended in
      tells i
      (joins (spaces_number refl l.before_name) (joins (number_run ex l.name_is) (joins x.way (moves (x.like.at 58 refl) (joins y.way z.way)))))
      (z.shut 10 newline)

-- ---- formulas
trees_exact : Exact trees
trees_exact = record { more = λ n d. refl }

build_tree : (b t : Formula) → build trees b t ≡ t
unfolding build
build_tree b (signal n) = refl
build_tree b (const true) = refl
build_tree b (const false) = refl
build_tree b (neg t) = ap neg (build_tree b t)
build_tree b (and l r) = ap₂ and (build_tree b l) (build_tree (build trees b l) r)
build_tree b (or l r) = ap₂ or (build_tree b l) (build_tree (build trees b l) r)
build_tree b (F lo hi t) = ap (F lo hi) (build_tree b t)
build_tree b (G lo hi t) = ap (G lo hi) (build_tree b t)
build_tree b (U lo hi l r) = ap₂ (U lo hi) (build_tree b l) (build_tree (build trees b l) r)
build_tree b (R lo hi l r) = ap₂ (R lo hi) (build_tree b l) (build_tree (build trees b l) r)

pub complete : (lim : ℕ) {d name : ℕ} {t : Formula} {bs r : List ℕ} (i : ℕ) (b : Formula) → d ≤ lim → Line d name t bs r
    → (j : ℕ) × (fate trees lim (begin trees b) i bs ≡ Finished name t j r) × (i + length bs ≡ j + length r)
complete lim {name = name} {t = t} {r = r} i b h l =
    let c = completes trees_exact lim i b h l in
    (c.0, c.1 ∙ ap (λ (f : Formula). Finished name f c.0 r) (build_tree b t), c.2)
