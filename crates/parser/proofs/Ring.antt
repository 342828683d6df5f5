-- The ring of prefixes: what it holds after one more, and what it puts on the tape. Assumes nothing.
use Prim.Native.Nat.{ℕ, zero, suc, ◌+◌, ◌-◌, ◌%◌, ◌≤◌, ◌<◌, min}
use native.Mathlib.Omega.{arith}
use mathlib.Core.Path.{◌≡◌, sym, ap, ◌∙◌}
use mathlib.Core.List.{List, ◌∷◌}
use lib.ListN.{length, take, length-set}
use lib.Seq.{take-take, get_or-set_same, get_or-set_other}
use Rattle.lists.specs.Sequence.{ticks}
use Rattle.lists.proofs.Sequences.{ticks_ext, ticks_snoc}
use Rattle.grammar.specs.declared.Item.{Item}
use Rattle.grammar.specs.Machine.{puts}
use Rattle.grammar.specs.Tape.{Tape, tapes, emitted}
use Rattle.parser.specs.declared.tape.Prefix.{Prefix}
use Rattle.parser.specs.Code.{prefix_item, no_prefix, slot, held_in, prefix_at, last_prefixes}
use Rattle.parser.proofs.Tapes.{puts_first, puts_snoc}

-- ---- places
-- places of fewer than 65 steps apart are two
apart : (a b : ℕ) → a < b → b < a + 65 → a % 65 ≡ b % 65 → ⊥
apart a b l h e = omega arith

-- ---- one more prefix
module _ (ring : List Prefix) (n : ℕ) (p : Prefix) where
  pub held_same : 65 ≤ length ring → prefix_at (held_in ring n p) n ≡ prefix_item p
  held_same h = ap prefix_item (get_or-set_same ring (slot n) p no_prefix (omega arith))

  pub held_other : (m : ℕ) → (m % 65 ≡ n % 65 → ⊥) → prefix_at (held_in ring n p) m ≡ prefix_at ring m
  held_other m d = ap prefix_item (get_or-set_other ring (slot n) (slot m) p no_prefix d)

-- ---- the prefixes `is`, the last one first, of which the ring holds as many as it can
pub record Holds (ring : List Prefix) (n : ℕ) (is : List Item) : Type 0 where
  pub places : length ring ≡ 65
  pub held : last_prefixes ring n ≡ take 65 is

take_ticks : {A : Type 0} (f : ℕ → A) (m k : ℕ) → take m (ticks f k) ≡ ticks f (min k m)
take_ticks f zero k = let e : min k 0 ≡ 0 = omega arith in rw e
take_ticks f (suc m) zero = let e : min 0 (suc m) ≡ 0 = omega arith in rw e
take_ticks f (suc m) (suc k) =
    let e : min (suc k) (suc m) ≡ suc (min k m) = omega arith in
    rw e (ap (λ l. f 0 ∷ l) (take_ticks (λ i. f (suc i)) m k))

pub holds_more : (ring : List Prefix) (n : ℕ) (is : List Item) (p : Prefix) → Holds ring n is
    → Holds (held_in ring n p) (n + 1) (prefix_item p ∷ is)
holds_more ring n is p h = record { places = length-set ring (slot n) p ∙ h.places; held = all }
  where
    now : ℕ → Item
    now k = prefix_at (held_in ring n p) (n + 1 - 1 - k)

    front : now 0 ≡ prefix_item p
    front = let e : n + 1 - 1 - 0 ≡ n = omega arith in ap (prefix_at (held_in ring n p)) e ∙ held_same ring n p (let q = h.places in omega arith)

    behind : (k : ℕ) → k < min n 64 → now (suc k) ≡ prefix_at ring (n - 1 - k)
    behind k l =
        let e : n + 1 - 1 - suc k ≡ n - 1 - k = omega arith in
        ap (prefix_at (held_in ring n p)) e ∙ held_other ring n p (n - 1 - k) (apart (n - 1 - k) n (omega arith) (omega arith))

    all : last_prefixes (held_in ring n p) (n + 1) ≡ take 65 (prefix_item p ∷ is)
    all =
        let c : min (n + 1) 65 ≡ suc (min n 64) = omega arith in
        let d : min n 64 ≡ min (min n 65) 64 = omega arith in
        let g : ℕ → Item = λ (k : ℕ). prefix_at ring (n - 1 - k) in
        ap (ticks now) c
        ∙ ap (λ (l : List Item). now 0 ∷ l) (ticks_ext (λ k. now (suc k)) g (min n 64) behind ∙ ap (ticks g) d ∙ sym (take_ticks g 64 (min n 65)) ∙ ap (take 64) h.held ∙ take-take 64 65 is (omega arith))
        ∙ ap (λ (x : Item). x ∷ take 64 is) front

pub holds_applied : (ring : List Prefix) (n : ℕ) (is : List Item) (s t : Tape) → Holds ring n is → t ≡ puts tapes s (last_prefixes ring n) → t ≡ puts tapes s is
holds_applied ring n is s t o e = e ∙ ap (puts tapes s) o.held ∙ puts_first s is

-- ---- the loop that puts them on the tape, from the last one down to the kth
pub record Put (ring : List Prefix) (n : ℕ) (s : Tape) (k : ℕ) (t : Tape) : Type 0 where
  pub is : t ≡ puts tapes s (ticks (λ (j : ℕ). prefix_at ring (n - 1 - j)) (n - k))

pub put_none : {ring : List Prefix} {n : ℕ} {s : Tape} → Put ring n s n s
unfolding puts
put_none {ring} {n} {s} = record { is = let e : n - n ≡ 0 = omega arith in rw e }

pub put_more : {ring : List Prefix} {n k : ℕ} {s t u : Tape} {it : Item} → Put ring n s k t → k ≤ n → 0 < k → it ≡ prefix_at ring (k - 1) → u ≡ emitted t it (t.count - 1)
    → Put ring n s (k - 1) u
put_more {ring} {n} {k} {s} {t} {u} {it} p h l e f =
    let g : ℕ → Item = λ (j : ℕ). prefix_at ring (n - 1 - j) in
    let a : n - (k - 1) ≡ suc (n - k) = omega arith in
    let b : n - 1 - (n - k) ≡ k - 1 = omega arith in
    record {
      is =
          f ∙ ap (λ (x : Tape). emitted x it (x.count - 1)) p.is
          ∙ ap (λ (i : Item). emitted (puts tapes s (ticks g (n - k))) i ((puts tapes s (ticks g (n - k))).count - 1)) (e ∙ ap (prefix_at ring) (sym b))
          ∙ sym (puts_snoc s (ticks g (n - k)) (g (n - k)))
          ∙ ap (puts tapes s) (sym (ticks_snoc g (n - k)))
          ∙ ap (λ (m : ℕ). puts tapes s (ticks g m)) (sym a);
    }

pub put_all : {ring : List Prefix} {n k : ℕ} {s t : Tape} → Put ring n s k t → n - k ≡ min n 65 → t ≡ puts tapes s (last_prefixes ring n)
put_all {ring} {n} {k} {s} {t} p e = p.is ∙ ap (λ (m : ℕ). puts tapes s (ticks (λ (j : ℕ). prefix_at ring (n - 1 - j)) m)) e
