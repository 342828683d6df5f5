-- The tape of nodes. Assumes nothing.
use Prim.Native.Nat.{ℕ, ◌+◌, ◌*◌, ◌-◌, ◌≤◌, ◌<◌, min}
use native.Mathlib.Omega.{arith}
use mathlib.Core.Path.{◌≡◌, refl, sym, ap, ap₂, ◌∙◌}
use mathlib.Core.List.{List, [], ◌∷◌, ◌++◌}
use lib.Dec.{ltb}
use lib.ListN.{length, take, drop, take-append-drop}
use lib.Seq.{take_all, length-take-le}
use borrow.Author.Tests.{lt-ltb, le-ltb}
use Rattle.lists.proofs.Tests.{lt_or_le}
use mathlib.Core.Logic.{⊎_elim}
use Rattle.grammar.specs.declared.Item.{Item}
use Rattle.grammar.specs.Machine.{puts}
use Rattle.grammar.proofs.Runs.{pick_true, pick_false}
use Rattle.grammar.specs.Tape.{Tape, tape, with_cells, emitted, tapes}

-- ---- one more node
pub emit_room : (c : List ℕ) (n : ℕ) (it : Item) (l : ℕ) → n < 65 → tape (with_cells c (5 * n) it l) (n + 1) ≡ emitted (tape c n) it l
unfolding emitted
emit_room c n it l h = sym (pick_true (ltb n 65) _ _ (lt-ltb n 65 h))

pub emit_full : (s : Tape) (it : Item) (l : ℕ) → 65 ≤ s.count → s ≡ emitted s it l
unfolding emitted
emit_full s it l h = sym (pick_false (ltb s.count 65) _ _ (le-ltb s.count 65 h))

pub emit_by : (x s : Tape) (it jt : Item) (m k : ℕ) → x ≡ emitted s it m → it ≡ jt → m ≡ k → x ≡ emitted s jt k
emit_by x s it jt m k e f g = e ∙ ap₂ (λ (i : Item) (l : ℕ). emitted s i l) f g

-- ---- several nodes
pub puts_append : (s : Tape) (xs ys : List Item) → puts tapes s (xs ++ ys) ≡ puts tapes (puts tapes s xs) ys
unfolding puts
puts_append s [] ys = refl
puts_append s (x ∷ xs) ys = puts_append (emitted s x (s.count - 1)) xs ys

pub puts_snoc : (s : Tape) (is : List Item) (i : Item) → puts tapes s (is ++ (i ∷ [])) ≡ emitted (puts tapes s is) i ((puts tapes s is).count - 1)
unfolding puts
puts_snoc s is i = puts_append s is (i ∷ [])

-- past 65 nodes the tape stays
puts_full : (s : Tape) (is : List Item) → 65 ≤ s.count → puts tapes s is ≡ s
unfolding puts
puts_full s [] h = refl
puts_full s (i ∷ is) h = ap (λ (x : Tape). puts tapes x is) (sym (emit_full s i (s.count - 1) h)) ∙ puts_full s is h

-- a node more counts, up to 65
pub emit_count : (s : Tape) (it : Item) (l : ℕ) → (emitted s it l).count ≡ min 65 (s.count + 1) + (s.count - 65)
emit_count s it l = ⊎_elim room full (lt_or_le s.count 65)
  where
    room : s.count < 65 → (emitted s it l).count ≡ min 65 (s.count + 1) + (s.count - 65)
    room h = let e = ap (λ (x : Tape). x.count) (emit_room s.cells s.count it l h) in omega arith

    full : 65 ≤ s.count → (emitted s it l).count ≡ min 65 (s.count + 1) + (s.count - 65)
    full h = let e = ap (λ (x : Tape). x.count) (emit_full s it l h) in omega arith

puts_count : (s : Tape) (is : List Item) → min 65 (s.count + length is) ≤ (puts tapes s is).count
unfolding puts
puts_count s [] = omega arith
puts_count s (i ∷ is) = let a = emit_count s i (s.count - 1) in let b = puts_count (emitted s i (s.count - 1)) is in omega arith

pub puts_first : (s : Tape) (is : List Item) → puts tapes s (take 65 is) ≡ puts tapes s is
puts_first s is = ⊎_elim long short (lt_or_le 64 (length is))
  where
    long : 64 < length is → puts tapes s (take 65 is) ≡ puts tapes s is
    long h =
        let n = puts_count s (take 65 is) in
        let l = length-take-le 65 is h in
        let f : 65 ≤ (puts tapes s (take 65 is)).count = omega arith in
        sym (puts_full (puts tapes s (take 65 is)) (drop 65 is) f)
        ∙ sym (puts_append s (take 65 is) (drop 65 is))
        ∙ ap (λ (l : List Item). puts tapes s l) (take-append-drop 65 is)

    short : length is ≤ 64 → puts tapes s (take 65 is) ≡ puts tapes s is
    short h = ap (λ (l : List Item). puts tapes s l) (take_all 65 is (omega arith))
