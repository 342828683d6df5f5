-- New places, one more than before: n is how many there were. Assumes nothing.
use Prim.Native.Nat.{◌<◌, ◌≤◌, suc, ℕ}
use native.Mathlib.Omega.{arith}
use mathlib.Core.Path.{◌∙◌, ◌≡◌, ap}
use mathlib.Core.Logic.{⊎_elim}
use mathlib.Core.List.{List, [], ◌++◌, ◌∷◌}
use lib.ListN.{get_or, length}
use Rattle.lists.proofs.Sequences.{at_last, at_old, length_snoc}
use Rattle.lists.proofs.Tests.{lt_or_le}

module _ (ps : List ℕ) (q n : ℕ) (many : length ps ≡ n) where
  pub place_count : length (ps ++ (q ∷ [])) ≡ suc n
  place_count = length_snoc ps q 0 ∙ ap suc many

  pub place_old : (i : ℕ) → i < n → get_or (ps ++ (q ∷ [])) i 0 ≡ get_or ps i 0
  place_old i h = at_old ps q 0 i (omega arith)

  pub place_last : get_or (ps ++ (q ∷ [])) n 0 ≡ q
  place_last = rw (← many) (at_last ps q 0)

  -- the first place stays 0
  pub place_first : get_or ps 0 0 ≡ 0 → q ≤ n → get_or (ps ++ (q ∷ [])) 0 0 ≡ 0
  place_first e h = ⊎_elim (λ l. place_old 0 l ∙ e)
      (λ (l : n ≤ 0). let z : n ≡ 0 = omega arith in (rw z at place_last) ∙ omega arith)
      (lt_or_le 0 n)
