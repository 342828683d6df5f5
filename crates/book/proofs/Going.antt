-- The loop along the chain: what holds at each record of it. Assumes nothing.
use mathlib.Core.Path.{◌≡◌, refl, sym, ap, subst, ◌∙◌}
use mathlib.Core.Bool.{Bool, true, false}
use mathlib.Core.List.{List, [], ◌∷◌, ◌++◌}
use Prim.Native.Nat.{ℕ, zero, suc, ◌+◌, ◌*◌, ◌≤◌, ◌<◌}
use native.Mathlib.Nat.{le_of_suc-le-suc}
use native.Mathlib.Omega.{arith}
use borrow.Author.Tests.{ne_eqb, eq-eqb}
use lib.Dec.{eqb}
use lib.ListN.{length, get_or, set, length-set}
use lib.Seq.{get_or-set_same}
use Rattle.refusals.specs.Refusals.{number_of}
use Rattle.refusals.specs.declared.Refusal.{Refusal}
use Rattle.refusals.proofs.Positive.{refuses}
use Rattle.lists.specs.Choice.{pick}
use Rattle.lists.specs.Sequence.{among}
use Rattle.limits.specs.Limits.{max_name}
use Rattle.book.specs.declared.Entry.{Entry}
use Rattle.book.specs.declared.Walk.{Walk}
use Rattle.std.specs.Prelude.{Ok, Err}
use Rattle.book.specs.Entries.{TwoBytes, entry_of, is_node, name_of}
use Rattle.book.specs.Code.Steps.{seen_at, entered, node_added, rule_added, added, walk_fault, stepped, begun, walk_ended}
use Rattle.book.specs.Reading.{Reading, refused, rows, fault, fault_by, head_fault, along, reading, reading_by}
use Rattle.book.specs.Keeps.{Linked}
use Rattle.lists.proofs.Rows.{no_row}
use Rattle.book.proofs.Tests.{Sized, HeadClear, head_clear, head_kind}
use Rattle.book.proofs.Among.{not_among}
use Rattle.book.proofs.Kept.{next_is}
use Rattle.book.proofs.Along.{reading_begins, along_ends, along_stops, along_goes}
use Rattle.book.proofs.Steps.{err_answer, ok_answer}
use Rattle.book.proofs.Stands.{Stands, fault_same, added_stands, new_seen, begun_stands, ended_same}

-- how many records are not passed
unfoldable pub unseen : List ℕ → ℕ
unseen [] = 0
unseen (x ∷ xs) = pick (eqb x 0) 1 0 + unseen xs

mark : (l : List ℕ) (i v : ℕ) → i < length l → get_or l i 0 ≡ 0 → 0 < v → unseen (set l i v) + 1 ≡ unseen l
unfolding unseen
mark [] i v h z p = absurd (omega arith)
mark (x ∷ xs) zero v h z p = rw (eq-eqb x 0 z, ne_eqb v 0 (omega arith)) (omega arith)
mark (x ∷ xs) (suc i) v h z p = let t = mark xs i v (le_of_suc-le-suc h) z p in omega arith

mark_again : (l : List ℕ) (i v : ℕ) → i < length l → 0 < get_or l i 0 → 0 < v → unseen (set l i v) ≡ unseen l
unfolding unseen
mark_again [] i v h z p = absurd (omega arith)
mark_again (x ∷ xs) zero v h z p = rw (ne_eqb x 0 (omega arith), ne_eqb v 0 (omega arith))
mark_again (x ∷ xs) (suc i) v h z p = rw (mark_again xs i v (le_of_suc-le-suc h) z p)

-- a record that was not passed is entered and added
module _ (w : Walk) (r : ℕ) (e : Entry) (l : length w.seen ≡ 256) (b : r < 256) (z : seen_at w r ≡ 0) where
  in_seen : r < length w.seen
  in_seen = omega arith

  one : get_or (set w.seen r 1) r 0 ≡ 1
  one = get_or-set_same w.seen r 1 0 in_seen

  pub added_unseen : unseen (added (entered w r) r e).seen + 1 ≡ unseen w.seen
  added_unseen = go (is_node e.kind)
    where
      was : unseen (set w.seen r 1) + 1 ≡ unseen w.seen
      was = mark w.seen r 1 in_seen z (omega arith)

      go : (t : Bool) → unseen (pick t (node_added (entered w r) r e) (rule_added (entered w r) e)).seen + 1 ≡ unseen w.seen
      go true =
          rw (mark_again (set w.seen r 1) r (2 + w.table.node_count) (simp length-set in_seen) (rw one (omega arith)) (omega arith)) was
      go false = was

-- ---- at the record r of the chain, 0 at its end, with fuel f that is enough
pub record At (s : List ℕ) (f : ℕ) (before : List ℕ) (w : Walk) (r : ℕ) : Type 0 where
  pub stands : Stands s before w
  pub next : Linked s before r
  pub enough : unseen w.seen ≤ f
  pub size : Sized (length s)

module _ {s : List ℕ} {f : ℕ} {before : List ℕ} {w : Walk} {r : ℕ} (a : At s f before w r) (z : ¬ (r ≡ 0)) where
  pub byte : r < 256
  byte = omega (arith, a.next.inside z, a.size.few)

  pub inside : 12 * r + 12 ≤ length s
  inside = omega (arith, a.next.inside z, a.size.whole)

  new : among r before ≡ false
  new = not_among r before (a.next.new z)

  pub fault_is : name_of (entry_of s r) ≤ max_name → walk_fault (length s) (entered w r) (entry_of s r) ≡ fault s before r
  fault_is h = fault_same a.stands r byte new h

  one_less : unseen (added (entered w r) r (entry_of s r)).seen + 1 ≡ unseen w.seen
  one_less = added_unseen w r (entry_of s r) a.stands.sized byte (new_seen a.stands r byte new)

  -- there is a record that is not passed, so there is fuel
  pub fuelled : 0 < f
  fuelled = omega (arith, one_less, a.enough)

pub starts : (s : List ℕ) → HeadClear s → At s 255 (0 ∷ []) begun (entry_of s 0).next
unfolding unseen
starts s k = record {
  stands = begun_stands s (head_kind (entry_of s 0) k.head);
  next = next_is s (0 ∷ []) (entry_of s 0) k.link;
  enough = omega arith;
  size = k.size;
}

pub further : {s : List ℕ} {f : ℕ} {before : List ℕ} {w : Walk} {r : ℕ} → At s (suc f) before w r → ¬ (r ≡ 0) → fault s before r ≡ 0
    → At s f (before ++ (r ∷ [])) (added (entered w r) r (entry_of s r)) (entry_of s r).next
unfolding fault_by
further {s} {f} {before} {w} {r} a z n =
    record {
      stands = added_stands a.stands r (byte a z) (new a z) n;
      next = next_is s (before ++ (r ∷ [])) (entry_of s r) (no_row (rows s before r (entry_of s r)) refl n 0);
      enough = omega (arith, one_less a z, a.enough);
      size = a.size;
    }

-- in a book of bytes no name is too large
pub name_small : (s : List ℕ) (r : ℕ) {e : Entry} → e ≡ entry_of s r → ((i : ℕ) → get_or s i 0 < 256) → name_of e ≤ max_name
name_small s r i b = let h : name_of (entry_of s r) ≤ max_name = omega (arith, b (12 * r + 1), b (12 * r + 9)) in subst (λ (e : Entry). name_of e ≤ max_name) (sym i) h

-- ---- the loop's invariant
pub record Going (s : List ℕ) (w : Walk) (r : ℕ) : Type 0 where
  pub before : List ℕ
  pub fuel : ℕ
  pub at : At s fuel before w r
  pub same : along s fuel before r ≡ reading s

pub begins : (s : List ℕ) {w : Walk} {e : Entry} → head_fault s ≡ 0 → w ≡ begun → e ≡ entry_of s 0 → Going s w e.next
begins s h i j =
    rw (i, j) (record { before = 0 ∷ []; fuel = 255; at = starts s (head_clear s h); same = reading_begins TwoBytes s h })

pub head_stops : (s : List ℕ) (f : Refusal) → number_of f ≡ head_fault s → refused (number_of f) 0 ≡ reading s
unfolding reading_by
head_stops s f k = rw (← k, refuses f)

module _ {s : List ℕ} {w : Walk} {r : ℕ} (g : Going s w r) where
  pub ends : {x : Reading} → r ≡ 0 → x ≡ walk_ended w → x ≡ reading s
  ends z i = i ∙ ended_same g.at.stands ∙ sym (along_ends TwoBytes s g.before r g.fuel z) ∙ g.same

  -- the record r is tried; its name is small enough
  module _ (z : ¬ (r ≡ 0)) {v : Walk} {e : Entry} (i : v ≡ entered w r) (j : e ≡ entry_of s r) (b : name_of e ≤ max_name) where
    found : walk_fault (length s) v e ≡ fault s g.before r
    found = rw (i, j) (fault_is g.at z (subst (λ (y : Entry). name_of y ≤ max_name) j b))

    pub stops : {n : ℕ} → Err n ≡ stepped (length s) v r e → refused n r ≡ reading s
    stops k =
        let h = err_answer _ k in
        ap (λ (n : ℕ). refused n r) (h.0 ∙ found)
        ∙ sym (along_stops TwoBytes s g.before r g.fuel (fuelled g.at z) z (λ n. h.1 (found ∙ n))) ∙ g.same

    module _ {x : Walk} (k : Ok x ≡ stepped (length s) v r e) where
      next_state : x ≡ added (entered w r) r (entry_of s r)
      next_state =
          let b : added v r e ≡ added (entered w r) r (entry_of s r) = rw (i, j) in
          (ok_answer _ k).0 ∙ b

      pub less : unseen x.seen < unseen w.seen
      less = rw next_state (omega (arith, one_less g.at z))

      pub turns : Going s x e.next
      turns = rw (next_state, j) (go g.fuel g.at g.same)
        where
          go : (f : ℕ) → At s f g.before w r → along s f g.before r ≡ reading s → Going s (added (entered w r) r (entry_of s r)) (entry_of s r).next
          go zero a m = absurd (omega (arith, fuelled a z))
          go (suc f) a m =
              let c : fault s g.before r ≡ 0 = sym found ∙ (ok_answer _ k).1 in
              record { before = g.before ++ (r ∷ []); fuel = f; at = further a z c; same = sym (along_goes TwoBytes s g.before r f z c) ∙ m }
