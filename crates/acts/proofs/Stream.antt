-- What one act makes of the claim: the arithmetic of verdicts and history, for a feed and a change by one law. Assumes nothing.
use Prim.Native.Nat.{ℕ, ◌+◌, ◌-◌, ◌≤◌, ◌<◌, min, max}
use native.Mathlib.Omega.{arith}
use mathlib.Core.Path.{◌≡◌, refl, sym, ap, ◌∙◌}
use mathlib.Core.Logic.{◌⊎◌, inl, inr, ⊎_elim}
use mathlib.Core.Bool.{Bool, false}
use mathlib.Core.List.{List, [], ◌++◌, append_assoc, append-nil}
use borrow.Author.Tests.{le-leb, lt-leb}
use lib.ListN.{length, take, drop, length-append, length-drop}
use lib.Seq.{drop-append-le, drop-drop, take_at, drop_at}
use Rattle.lists.specs.Sequence.{ticks, last_of}
use Rattle.lists.proofs.Tests.{lt_or_le}
use Rattle.lists.proofs.Sequences.{length_ticks, ticks_add, ticks_ext}
use Rattle.acts.specs.World.{World, Width, Session, Effect, held_by, kept_of, fed, closed, changed}
use Rattle.acts.specs.Calls.{Rules, opened, then, first_tick_of, in_force, source_of, largest, judged, waits, kept, GoingUnder, EndedUnder}
use Rattle.acts.specs.Demand.{session_by}

drop_more : (m n : ℕ) (xs ys : List ℕ) → m ≤ n → drop m xs ≡ drop m ys → drop n xs ≡ drop n ys
drop_more m n xs ys h e =
    let s : n ≡ m + (n - m) = omega arith in
    rw (s, ← drop-drop (n - m) m xs, e, drop-drop)

-- ---- numbers: of L states fed the verdicts below n were given, and `count` more make all that are settled
-- how many states are kept, and from where on
module _ (f d n L : ℕ) (a : f ≤ n) (b : n ≤ L) where
  held_count : (n ≡ f) ⊎ (n + d ≤ L) → L - n - (L - n - d) ≡ min (L - f) d
  held_count = ⊎_elim (λ (c : n ≡ f). omega arith) (λ (c : n + d ≤ L). omega arith)

  held_from : (n ≡ f) ⊎ (n + d ≤ L) → n + (L - n - d) ≡ L - min (L - f) d
  held_from = ⊎_elim (λ (c : n ≡ f). omega arith) (λ (c : n + d ≤ L). omega arith)

module _ (f d n count L : ℕ) (a : f ≤ n) (b : n ≤ L) (e : n + count ≡ max f (L - d)) where
  at_first_or_late : (n ≡ f) ⊎ (n + d ≤ L)
  at_first_or_late = ⊎_elim (λ (c : L < n + d). inl (omega arith)) (λ (c : n + d ≤ L). inr c) (lt_or_le L (n + d))

  given_and_kept : L ≡ n + count + min (L - f) d
  given_and_kept = omega arith

-- the verdicts given so far are those of the ticks below the first tick and of the settled ones of the x states seen
so_far : (f d n x : ℕ) → f + x ≡ n + min x d → n ≡ f + (x - d)
so_far f d n x e = omega arith

-- a feed of k states more; a change to the delay d after x states kept
feed_count_lem : (f d n x k L : ℕ) → n ≡ f + (x - d) → L ≡ f + x + k → n + ((x + k - d) - (x - d)) ≡ max f (L - d)
feed_count_lem f d n x k L e l = omega arith

change_count : (d n x L : ℕ) → n + x ≡ L → n + ((0 + x - d) - (0 - d)) ≡ max n (L - d)
change_count d n x L e = omega arith

module _ (w : World) where
  -- from its first tick on the rule in force judges; its D is none above the largest
  in_force_lem : (p : Rules w) (xs : List ℕ) (t : ℕ) → first_tick_of w p ≤ t → judged w p xs t ≡ w.val (source_of w p) xs t
  in_force_lem (opened r b) xs t h = refl
  in_force_lem (then f r b older) xs t h = rw (le-leb f t h)

  under_largest : (p : Rules w) → waits w p ≤ largest w p
  under_largest (opened r b) = omega arith
  under_largest (then f r b older) = omega arith

  kept_under : (p : Rules w) (L : ℕ) → kept w p L ≤ min L (largest w p)
  kept_under p L = let u = under_largest p in omega arith

  module _ (p : Rules w) where
    abbrev first : ℕ
    first = first_tick_of w p

    abbrev wait : ℕ
    wait = waits w p

    abbrev val : List ℕ → ℕ → Bool
    val = w.val (source_of w p)

    abbrev run : List ℕ → ℕ → Bool
    run = w.run (in_force w p)

    -- the verdicts given, then those of a call
    grown : (xs trace : List ℕ) (given : List Bool) (n count : ℕ) → first ≤ n → given ≡ ticks (judged w p xs) n
        → ((i : ℕ) → i < count → val xs (n + i) ≡ run trace i)
        → given ++ ticks (run trace) count ≡ ticks (judged w p xs) (n + count)
    grown xs trace given n count a g s =
        rw (ticks_add, ← g) (ap (λ l. given ++ l) (ticks_ext (run trace) _ count λ i h. sym (in_force_lem p xs (n + i) (omega arith) ∙ s i h)))

    module _ (from : w.From (in_force w p) (source_of w p)) (start : List ℕ) where
      -- the ticks below n were given, those of this call are the next ones of all states fed
      stepped : (h h' all : List ℕ) (given more : List Bool) (n count : ℕ) → first ≤ n → n ≤ length all → n + count ≡ max first (length all - wait)
          → ((later : List ℕ) → given ≡ ticks (judged w p (all ++ later)) n)
          → more ≡ ticks (run (drop n all)) count
          → h' ≡ last_of wait (drop n all) ++ drop (kept w p (length all)) h
          → drop (min (length all) (largest w p)) h ≡ drop (min (length all) (largest w p)) start
          → GoingUnder w p start h' all (given ++ more)
      stepped h h' all given more n count a b e g m q o =
          let v : (later : List ℕ) → given ++ more ≡ ticks (judged w p (all ++ later)) (n + count) =
          λ later. rw m (grown (all ++ later) (drop n all) given n count a (g later) λ i l.
          sym (w.as_read (in_force w p) (source_of w p) from (all ++ later) (n + i) (simp length-append (omega arith)))
          ∙ w.stable (in_force w p) all later (n + i) (omega arith) ∙ sym (w.future (in_force w p) n all i)) in
          let l : length (given ++ more) ≡ n + count = ap length (v []) ∙ length_ticks _ _ in
          let k : length (last_of wait (drop n all)) ≡ kept w p (length all) = simp (length-drop, length-drop) (held_count first wait n (length all) a b (at_first_or_late first wait n count (length all) a b e)) in
          let j : n + (length (drop n all) - wait) ≡ length all - kept w p (length all) = simp length-drop (held_from first wait n (length all) a b (at_first_or_late first wait n count (length all) a b e)) in
          record {
            held = record {
              last = rw (q, take_at _ _ _ k, drop-drop, j);
              others = drop_more (kept w p (length all)) (min (length all) (largest w p)) h' h (kept_under p (length all)) (rw (q, drop_at _ _ _ k)) ∙ o;
            };
            sum = given_and_kept first wait n count (length all) a b e ∙ ap (λ (i : ℕ). i + kept w p (length all)) (sym l);
            settled = λ t. (
              λ h. ⊎_elim (λ (c : t < first). inl c) (λ (c : first ≤ t). inr (c, omega arith)) (lt_or_le t first),
              λ h. ⊎_elim (λ (c : t < first). omega arith) (λ c. let c₁ = c.1 in omega arith) h,
            );
            exact = λ later. rw l (v later);
          }

-- what a claim says of the numbers: the verdicts given reach the first tick, and the kept states are those behind them
module _ (w : World) (p : Rules w) (start h states : List ℕ) (given : List Bool) (g : GoingUnder w p start h states given)
    (from : w.From (in_force w p) (source_of w p)) where
  abbrev f : ℕ
  f = first_tick_of w p

  abbrev d : ℕ
  d = waits w p

  reached : f ≤ length given
  reached = ⊎_elim (λ (c : length given < f). absurd (let k : length given < length given = (g.settled (length given)).1 (inl c) in omega arith))
      (λ (c : f ≤ length given). c) (lt_or_le (length given) f)

  behind : take (kept w p (length states)) h ≡ drop (length given) states
  behind =
      let s = g.sum in
      let e : length states - kept w p (length states) ≡ length given = omega arith in
      g.held.last ∙ ap (λ (n : ℕ). drop n states) e

  length_reached : length states ≡ f + (length states - f)
  length_reached = let r = reached in let s = g.sum in omega arith

  -- places that no rule so far has reached
  others_more : (L m : ℕ) → length states ≤ L → largest w p ≤ m → drop (min L m) h ≡ drop (min L m) start
  others_more L m a b = drop_more (min (length states) (largest w p)) (min L m) h start (omega arith) g.held.others

  -- ---- the acts, each on the session that the list has come to
  module _ (width : Width) where
    abbrev session : Session w.Rule
    session = session_by w false width p (length states)

    module _ (block : List ℕ) where
      abbrev after_block : Effect w
      after_block = fed w session block h

      fed_length : length states - f + length block ≡ length (states ++ block) - f
      fed_length = let r = length_reached in simp length-append (omega arith)

      pub fed_session : after_block.session ≡ session_by w false width p (length (states ++ block))
      fed_session = ap (λ (n : ℕ). record { rule = in_force w p; seen = n; first_tick = f; width = width }) fed_length

      pub fed_claim : GoingUnder w p start after_block.history (states ++ block) (given ++ after_block.verdicts)
      fed_claim =
          let x : ℕ = length states - f in
          let n : ℕ = length given in
          let l = length-append states block in
          let r = length_reached in
          let t : kept_of w session h ++ block ≡ drop n (states ++ block) =
          rw behind (sym (drop-append-le n states block (let s = g.sum in omega arith))) in
          let c = feed_count_lem f d n x (length block) (length (states ++ block)) (so_far f d n x (sym r ∙ g.sum)) (l ∙ ap (λ (i : ℕ). i + length block) r) in
          stepped w p from start h after_block.history (states ++ block) given after_block.verdicts n _ reached (let s = g.sum in omega arith) c
          (λ later. rw append_assoc (g.exact (block ++ later)))
          (rw t)
          (rw (t, fed_length))
          (others_more (length (states ++ block)) (largest w p) (omega arith) (omega arith))

    module _ (r : w.Rule) (b : w.Source) (from' : w.From r b) where
      abbrev after_change : Effect w
      after_change = changed w session r h

      abbrev f' : ℕ
      f' = f + (length states - f) - held_by w session

      abbrev p' : Rules w
      p' = then f' r b p

      pub at_given : f' ≡ length given
      at_given = let a = length_reached in let b = g.sum in omega arith

      kept_length : f' + length (kept_of w session h) ≡ length states
      kept_length = let b = g.sum in rw (behind, at_given) (simp length-drop (omega arith))

      changed_seen : 0 + length (kept_of w session h) ≡ length states - f'
      changed_seen = let k = kept_length in omega arith

      pub changed_session : after_change.session ≡ session_by w false width p' (length states)
      changed_session = ap (λ (n : ℕ). record { rule = r; seen = n; first_tick = f'; width = width }) changed_seen

      -- below the new first tick the older rules judge
      below : (later : List ℕ) → given ≡ ticks (judged w p' (states ++ later)) f'
      below later = g.exact later ∙ ap (λ (n : ℕ). ticks (judged w p (states ++ later)) n) (sym at_given)
          ∙ ticks_ext (judged w p (states ++ later)) (judged w p' (states ++ later)) f' λ i l. rw (lt-leb f' i l)

      pub changed_claim : GoingUnder w p' start after_change.history states (given ++ after_change.verdicts)
      changed_claim =
          let z : min 0 (w.D r) ≡ 0 = omega arith in
          let t : take (min 0 (w.D r)) h ++ kept_of w session h ≡ drop f' states = rw (z, behind, at_given) in
          stepped w p' from' start h after_change.history states given after_change.verdicts f' _ (omega arith) (let k = kept_length in omega arith)
          (change_count (w.D r) f' (length (kept_of w session h)) (length states) kept_length)
          below
          (rw t)
          (rw (t, changed_seen))
          (others_more (length states) (max (w.D r) (largest w p)) (omega arith) (omega arith))

    abbrev after_close : Effect w
    after_close = closed w session h

    pub closed_claim : EndedUnder w p start h states (given ++ after_close.verdicts)
    closed_claim =
        let n : ℕ = length given in
        let e : given ≡ ticks (judged w p states) n = rw append-nil at (g.exact []) in
        let v : given ++ after_close.verdicts ≡ ticks (judged w p states) (length states) =
        rw behind (grown w p states (drop n states) given n (held_by w session) reached e (λ i l.
        sym (w.as_read (in_force w p) (source_of w p) from states (n + i) (let s = g.sum in omega arith)) ∙ sym (w.future (in_force w p) n states i)))
        ∙ ap (ticks (judged w p states)) (sym g.sum) in
        record { held = g.held; count = ap length v ∙ length_ticks _ _; exact = v }

-- ---- nothing fed yet
pub none_yet : (w : World) (r : w.Rule) (b : w.Source) (start : List ℕ) → GoingUnder w (opened r b) start start [] []
none_yet w r b start =
    let m : min (0 - 0) (w.D r) ≡ 0 = omega arith in
    record {
      held = record { last = simp m; others = refl };
      sum = omega arith;
      settled = λ t. (λ h. absurd (omega arith), λ h. ⊎_elim (λ (c : t < 0). omega arith) (λ c. absurd (let c₁ = c.1 in omega arith)) h);
      exact = λ later. refl;
    }
