-- An array that a closure's calls made of another, where each call keeps the closure as it was. Assumes nothing.
use Prim.Native.Nat.{ℕ, zero, suc, ◌+◌, ◌<◌}
use native.Mathlib.Omega.{arith}
use mathlib.Core.Path.{◌≡◌, sym, ap, ◌∙◌, subst}
use mathlib.Core.List.{List, map}
use lib.ListN.{length, get_or, length-map}
use lib.Seq.{ext_get_or}
use Rattle.std.proofs.lemmas.List.{get_or-map}
use Rattle.std.specs.Array.{MapsFrom, IsMapOf}
use Rattle.std.specs.Fn.{Called, Mut}

module _ {F A B : Type 0} (g : Mut F (A × Unit {0}) B) (f : F) (made : A → B) (same : (x : A) (y : B) (q : F) → Called g f (x, tt) y q → (q ≡ f) × (y ≡ made x))
    (xs : List A) (ys : List B) where
  maps_at : (i n : ℕ) → MapsFrom g f xs ys i n → (k : ℕ) → k < n → (d : A) (e : B) → get_or ys (i + k) e ≡ made (get_or xs (i + k) d)
  maps_at i zero m k h d e = absurd (omega arith)
  maps_at i (suc n) (q, x, y, a, b, c, m) zero h d e =
      let s : i + 0 ≡ i = omega arith in
      rw s (b.1 e ∙ (same x y q c).1 ∙ ap made (sym (a.1 d)))
  maps_at i (suc n) (q, x, y, a, b, c, m) (suc k) h d e =
      let s : i + suc k ≡ i + 1 + k = omega arith in
      rw s (maps_at (i + 1) n (subst (λ p. MapsFrom g p xs ys (i + 1) n) (same x y q c).0 m) k (omega arith) d e)

  pub map_same : (d : A) (e : B) {n : ℕ} → length xs ≡ n → IsMapOf g f xs ys n → ys ≡ map made xs
  map_same d e {n} l m =
      ext_get_or e ys (map made xs) (m.long ∙ sym l ∙ sym (length-map xs made)) λ i h.
      let z : 0 + i ≡ i = omega arith in
      (rw z at (maps_at 0 n m.each i (omega (arith, m.long)) d e)) ∙ sym (get_or-map made xs i d e (omega (arith, m.long)))
