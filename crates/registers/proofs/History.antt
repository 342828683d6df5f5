-- `by-history`: what the registers hold is what all events from the start on say. Assumes nothing.
use Prim.Native.Nat.{ℕ, suc}
use mathlib.Core.Path.{◌≡◌, refl, sym, ap, ◌∙◌}
use mathlib.Core.Bool.{Bool, true, false, ◌&&◌, ◌||◌, not, or-true, or-false, false≢true}
use mathlib.Core.Logic.{⊎_elim}
use mathlib.Core.List.{List, [], ◌∷◌, ◌++◌, foldl, append-nil, append_assoc, foldl-append}
use borrow.Author.Tests.{eqb-true}
use lib.Dec.{eqb}
use lib.ListN.{take}
use Rattle.lists.specs.Choice.{pick}
use Rattle.lists.specs.Sequence.{some, concat_map}
use Rattle.lists.specs.Bits.{bit}
use Rattle.lists.proofs.Sequences.{concat_map_snoc, snoc_ind}
use Rattle.lists.proofs.Tests.{or_other, true_or_false}
use Rattle.registers.specs.declared.Flags.{Flags}
use Rattle.registers.specs.declared.Registers.{Registers}
use Rattle.registers.specs.declared.Kind.{Kind}
use Rattle.registers.specs.declared.Kind.TheVariants.{Open, Widen, Feed, Close}
use Rattle.registers.specs.declared.Outcome.{Outcome}
use Rattle.registers.specs.Registers.{flags_from, share, eight_bytes, bytes_of, registers_from, zeros, running_after, first_after, noted, cleared, enabled, after_call, after_write}
use Rattle.registers.specs.History.{Event, call, write, last_or, first_or, is_accepted, gives_verdict, gives_no, is_refused, clears, opens_by, opens, refusals, writes_to, failures, since, status_by, enable_by, number_by, first_by, bytes_by, step, ByHistory}
use Rattle.registers.proofs.Lists.{last_append, after_snoc, since_snoc}
use Rattle.registers.proofs.Bytes.{digit_one, digit_zero, low_four, registers_back, eight_sum}

-- ---- the first no
-- it is among xs if one of these gives a no, and otherwise what follows begins with it
first_append : (xs : List Event) (ys : List ℕ)
    → first_or 0 (concat_map failures xs ++ ys) ≡ pick (some gives_no xs) (first_or 0 (concat_map failures xs)) (first_or 0 ys)
unfolding some
first_append [] ys = refl
first_append (call o ∷ xs) ys =
    ⊎_elim (λ (h : gives_no (call o) ≡ true). rw h) (λ (h : gives_no (call o) ≡ false). rw h (first_append xs ys)) (true_or_false (gives_no (call o)))
first_append (write place value ∷ xs) ys = first_append xs ys

none_first : (es : List Event) → (status_by es).failed ≡ false → first_by es ≡ 0
none_first es e =
    ap (λ (xs : List ℕ). first_or 0 xs) (sym (append-nil (concat_map failures (since 2 es)))) ∙ first_append (since 2 es) []
    ∙ ap (λ (b : Bool). pick b (first_by es) 0) e

first_snoc : (es : List Event) (e : Event)
    → first_by (es ++ (e ∷ [])) ≡ pick (clears 2 e) 0 (pick (status_by es).failed (first_by es) (first_or 0 (failures e)))
first_snoc es e =
    ⊎_elim (λ (h : clears 2 e ≡ true). rw (after_snoc (clears 2) e es, h))
    (λ (h : clears 2 e ≡ false). rw (after_snoc (clears 2) e es, h, concat_map_snoc failures (since 2 es) e) (first_append (since 2 es) (failures e)))
    (true_or_false (clears 2 e))

-- while bit 2 stays set it stays
first_stays : (es : List Event) (e : Event) → (status_by es).failed ≡ true → (status_by (es ++ (e ∷ []))).failed ≡ true
    → first_by (es ++ (e ∷ [])) ≡ first_by es
first_stays es e p q = first_snoc es e ∙ rw p (go (clears 2 e) ((status_by es).failed || gives_no e) (sym (since_snoc (clears 2) gives_no es e) ∙ q))
  where
    go : (b c : Bool) → pick b false c ≡ true → pick b 0 (first_by es) ≡ first_by es
    go true c h = absurd (false≢true h)
    go false c h = refl

all_stay : (es later : List Event) → ((j : ℕ) → (status_by (es ++ take j later)).failed ≡ true) → first_by (es ++ later) ≡ first_by es
all_stay es [] h = rw append-nil
all_stay es (e ∷ later) h =
    let m : (j : ℕ) → (status_by (es ++ (e ∷ []) ++ take j later)).failed ≡ true = λ j. rw (append_assoc es (e ∷ []) (take j later)) (h (suc j)) in
    rw (← (append_assoc es (e ∷ []) later))
    (all_stay (es ++ (e ∷ [])) later m ∙ first_stays es e (rw append-nil at (h 0)) (rw append-nil at (m 0)))

-- where the bit was clear before a call, and is set behind it, it is the call's
call_first : (es : List Event) (o : Outcome) → (status_by es).failed ≡ false → (status_by (es ++ (call o ∷ []))).failed ≡ true
    → first_by (es ++ (call o ∷ [])) ≡ o.tick
call_first es o p q =
    first_snoc es (call o)
    ∙ rw (p, or_other (status_by es).failed (gives_no (call o)) (sym (since_snoc (clears 2) gives_no es (call o)) ∙ q) p)

-- ---- the registers after one event more
-- the registers by status, the value last written to byte 1, number and tick
abbrev holding : Flags → ℕ → ℕ → ℕ → Registers
holding s v n x = record { status = s; enable = flags_from v; number = n; first = eight_bytes x }

abbrev value_by : List Event → ℕ
value_by es = last_or 0 (concat_map (writes_to 1) es)

-- what the history's definitions make of them at one event more
abbrev grown : Event → Flags → ℕ → ℕ → ℕ → Registers
grown e s v n x =
    holding
    (record {
      running = last_or s.running (opens e);
      ready = pick (clears 1 e) false (s.ready || gives_verdict e);
      failed = pick (clears 2 e) false (s.failed || gives_no e);
      refused = pick (clears 3 e) false (s.refused || is_refused e);
    })
    (last_or v (writes_to 1 e))
    (last_or n (refusals e))
    (pick (clears 2 e) 0 (pick s.failed x (first_or 0 (failures e))))

last_snoc : {A : Type 0} (d : A) (f : Event → List A) (es : List Event) (e : Event)
    → last_or d (concat_map f (es ++ (e ∷ []))) ≡ last_or (last_or d (concat_map f es)) (f e)
last_snoc d f es e = rw (concat_map_snoc f es e) (last_append d (concat_map f es) (f e))

grows : (es : List Event) (e : Event) → bytes_by (es ++ (e ∷ [])) ≡ bytes_of (grown e (status_by es) (value_by es) (number_by es) (first_by es))
unfolding bytes_by
grows es e =
    rw (
      last_snoc false opens es e,
      last_snoc 0 (writes_to 1) es e,
      last_snoc 0 refusals es e,
      first_snoc es e,
      since_snoc (clears 1) gives_verdict es e,
      since_snoc (clears 2) gives_no es e,
      since_snoc (clears 3) is_refused es e,
    )

-- the same of what a call and a write make of them, by the flags in question
opened : (k : Kind) (was : Bool) → running_after k was ≡ last_or was (opens_by k)
opened Open was = refl
opened Widen was = refl
opened Feed was = refl
opened Close was = refl

kept : (was by : Bool) → (was && not by) ≡ pick by false (was || false)
kept true true = refl
kept true false = refl
kept false true = refl
kept false false = refl

noted_first : (x tick : ℕ) (set fails : Bool)
    → first_after set (eight_bytes x) (pick fails tick 0) ≡ eight_bytes (pick set x (first_or 0 (pick fails (tick ∷ []) [])))
noted_first x tick true fails = refl
noted_first x tick false true = refl
noted_first x tick false false = refl

cleared_first : (x : ℕ) (was by : Bool) → first_after (was && not by) (eight_bytes x) 0 ≡ eight_bytes (pick by 0 (pick was x 0))
cleared_first x true true = refl
cleared_first x true false = refl
cleared_first x false true = refl
cleared_first x false false = refl

module _ (s : Flags) (v n x : ℕ) (none : s.failed ≡ false → x ≡ 0) where
  -- the tick stays where no no is noted
  stays : pick s.failed x 0 ≡ x
  stays = go s.failed none
    where
      go : (b : Bool) → (b ≡ false → x ≡ 0) → pick b x 0 ≡ x
      go true z = refl
      go false z = sym (z refl)

  noted_grown : (o : Outcome) → noted o (holding s v n x) ≡ grown (call o) s v n x
  noted_grown o =
      ⊎_elim
      (λ (h : is_accepted o ≡ true). rw (h, opened o.kind s.running, or-false, noted_first x o.tick s.failed o.fails))
      (λ (h : is_accepted o ≡ false). rw (h, or-false s.ready, or-false s.failed, or-true, stays))
      (true_or_false (is_accepted o))

  cleared_grown : (value : ℕ) → cleared (flags_from value) (holding s v n x) ≡ grown (write 0 value) s v n x
  cleared_grown value =
      rw (cleared_first x s.failed (bit value 2), kept s.ready (bit value 1), kept s.failed (bit value 2), kept s.refused (bit value 3))

  back : registers_from (bytes_of (holding s v n x)) ≡ holding s v n x
  back = registers_back s (flags_from v) n x

  after_call_lem : (o : Outcome) → after_call o (bytes_of (holding s v n x)) ≡ bytes_of (grown (call o) s v n x)
  unfolding after_call
  after_call_lem o = ap (λ (r : Registers). bytes_of (noted o r)) back ∙ ap bytes_of (noted_grown o)

  after_write_lem : (place value : ℕ) → after_write place value (bytes_of (holding s v n x)) ≡ bytes_of (grown (write place value) s v n x)
  unfolding after_write
  after_write_lem place value =
      ⊎_elim
      (λ (h : eqb place 0 ≡ true).
      rw (eqb-true place 0 h) (ap (λ (r : Registers). bytes_of (cleared (flags_from value) r)) back ∙ ap bytes_of (cleared_grown value)))
      (λ (h : eqb place 0 ≡ false). rw (h, or-false s.ready, or-false s.failed, or-false s.refused, stays) (go (eqb place 1)))
      (true_or_false (eqb place 0))
    where
      go : (b : Bool) → pick b (bytes_of (enabled (flags_from value) (registers_from (bytes_of (holding s v n x))))) (bytes_of (holding s v n x))
          ≡ bytes_of (holding s (last_or v (pick b (value ∷ []) [])) n x)
      go true = ap (λ (r : Registers). bytes_of (enabled (flags_from value) r)) back
      go false = refl

next_event : (es : List Event) (e : Event) → step (bytes_by es) e ≡ bytes_by (es ++ (e ∷ []))
unfolding bytes_by
next_event es (call o) = after_call_lem (status_by es) (value_by es) (number_by es) (first_by es) (none_first es) o ∙ sym (grows es (call o))
next_event es (write place value) =
    after_write_lem (status_by es) (value_by es) (number_by es) (first_by es) (none_first es) place value ∙ sym (grows es (write place value))

-- ---- all of it
from_zeros : bytes_by [] ≡ zeros
unfolding bytes_by bit some
from_zeros = refl

pub by_history : ByHistory
unfolding bytes_by
by_history = record {
  start = from_zeros;
  whole = snoc_ind (λ es. foldl step zeros es ≡ bytes_by es) (sym from_zeros)
      (λ es e h. foldl-append step zeros es (e ∷ []) ∙ ap (λ (b : List ℕ). step b e) h ∙ next_event es e);
  next = next_event;
  enable = λ es. low_four (value_by es);
  interrupt = λ es. digit_one (share (status_by es) (enable_by es));
  silent = λ es. digit_zero (share (status_by es) (enable_by es));
  none = none_first;
  first_no = λ before later o p h. all_stay (before ++ (call o ∷ [])) later h ∙ call_first before o p (rw append-nil at (h 0));
  first_bytes = λ es h. eight_sum (first_by es) h;
}
