-- The marks of what the rules watch. Assumes nothing.
use Prim.Native.Nat.{◌<◌, ℕ}
use native.Mathlib.Omega.{arith}
use mathlib.Core.Path.{◌∙◌, ◌≡◌, ap, refl, sym}
use mathlib.Core.Bool.{◌||◌, false≢true, true}
use mathlib.Core.Logic.{⊎_elim}
use mathlib.Core.List.{List, [], ◌++◌, ◌∷◌, foldl-append}
use borrow.Author.Tests.{eq-eqb, eqb-true}
use lib.Dec.{eqb}
use lib.ListN.{get_or, length}
use Rattle.lists.specs.Bits.{bit}
use Rattle.lists.proofs.Bits.{bit_none}
use Rattle.lists.proofs.Sequences.{at_last, at_old, each_place, length_snoc, snoc_ind}
use Rattle.lists.proofs.Tests.{or_split}
use Rattle.table.specs.declared.Rule.{Rule}
use Rattle.table.specs.Nodes.{no_rule}
use Rattle.needed.proofs.Bits.{mark_bit}
use Rattle.simplify.specs.Code.Passes.{mark_rule, mark_watched}
use Rattle.simplify.proofs.Cases.{left_true, right_true}

abbrev pub watched_in : List Rule → ℕ → ℕ
watched_in rs r = (get_or rs r no_rule).watched

-- the marks of the places that the rules watch
pub record Watched (rs : List Rule) (ms : ℕ) : Type 0 where
  pub hit : (r : ℕ) → r < length rs → watched_in rs r < 64 → bit ms (watched_in rs r) ≡ true
  pub from : (j : ℕ) → j < 64 → bit ms j ≡ true → (r : ℕ) × (r < length rs) × (watched_in rs r ≡ j)

module _ (rs : List Rule) (x : Rule) (ms : ℕ) (w : Watched rs ms) where
  rule_old : (r : ℕ) → r < length rs → watched_in (rs ++ (x ∷ [])) r ≡ watched_in rs r
  rule_old r h = ap (λ (y : Rule). y.watched) (at_old rs x no_rule r h)

  rule_last : watched_in (rs ++ (x ∷ [])) (length rs) ≡ x.watched
  rule_last = ap (λ (y : Rule). y.watched) (at_last rs x no_rule)

  now : (j : ℕ) → j < 64 → bit (mark_rule ms x) j ≡ (bit ms j || eqb x.watched j)
  now j h = mark_bit ms x.watched j h

  watched_more : Watched (rs ++ (x ∷ [])) (mark_rule ms x)
  watched_more = record {
    hit = each_place rs x (λ r. watched_in (rs ++ (x ∷ [])) r < 64 → bit (mark_rule ms x) (watched_in (rs ++ (x ∷ [])) r) ≡ true)
        (λ r l. rw (rule_old r l) (λ h. now _ h ∙ left_true (bit ms (watched_in rs r)) _ (w.hit r l h)))
        (rw rule_last (λ h. now _ h ∙ right_true (bit ms x.watched) _ (eq-eqb x.watched _ refl)));
    from = λ j h f. ⊎_elim
        (λ y. let z = w.from j h y in (z.0, omega (arith, length_snoc rs x x, z.1), rule_old z.0 z.1 ∙ z.2))
        (λ y. (length rs, omega (arith, length_snoc rs x x), rule_last ∙ eqb-true x.watched j y))
        (or_split (bit ms j) (eqb x.watched j) (sym (now j h) ∙ f));
  }

pub watched_marked : (rs : List Rule) → Watched rs (mark_watched rs)
watched_marked = snoc_ind (λ rs. Watched rs (mark_watched rs))
    (record {
      hit = λ r h. absurd (omega arith);
      from = λ j h f. absurd (false≢true (sym (bit_none j) ∙ f));
    })
    (λ rs x w. rw (foldl-append mark_rule 0 rs (x ∷ [])) (watched_more rs x (mark_watched rs) w))
