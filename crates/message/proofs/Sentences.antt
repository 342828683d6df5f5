-- Each number that a text is refused with has a sentence. Assumes nothing.
use Prim.Native.Nat.{ℕ, ◌<◌}
use native.Mathlib.Omega.{arith}
use mathlib.Core.Path.{◌≡◌, refl, ap}
use mathlib.Core.Bool.{Bool, true, false, ◌&&◌, ◌||◌, false≢true}
use mathlib.Core.List.{List, [], ◌∷◌, map}
use borrow.Author.Tests.{ltb-true}
use lib.Dec.{eqb, ltb}
use lib.ListN.{length}
use Rattle.refusals.specs.Numbers.{ARGUMENT, INTERVAL, FULL, LONG, NAME, RULELESS, SYNTAX, DEEP}
use Rattle.lists.specs.Ascii.{ascii}
use Rattle.lists.specs.Choice.{pick}
use Rattle.lists.specs.Sequence.{among}
use Rattle.lists.proofs.Tests.{true_left, true_right}
use Rattle.message.specs.Message.{Sentence, sentences, said}

-- no sentence is empty
abbrev spelled : List Sentence → Bool
spelled [] = true
spelled (s ∷ ss) = ltb 0 (length (ascii s.says)) && spelled ss

said_some : (ss : List Sentence) (n : ℕ) → spelled ss ≡ true → among n (map (λ s. s.number) ss) ≡ true → ¬ (said ss n ≡ [])
said_some [] n w h = absurd (false≢true h)
said_some (s ∷ ss) n w h =
    go (eqb n s.number) h (ltb-true 0 (length (ascii s.says)) (true_left (ltb 0 (length (ascii s.says))) (spelled ss) w))
    (said_some ss n (true_right (ltb 0 (length (ascii s.says))) (spelled ss) w))
  where
    go : (b : Bool) → (b || among n (map (λ s. s.number) ss)) ≡ true → 0 < length (ascii s.says) → (among n (map (λ s. s.number) ss) ≡ true → ¬ (said ss n ≡ []))
        → ¬ (pick b (ascii s.says) (said ss n) ≡ [])
    go true h l rest e = let z : ◌≡◌ {A = ℕ} (length (ascii s.says)) 0 = ap length e in omega arith
    go false h l rest e = rest h e

-- THE LAW
pub sentence_some : (n : ℕ) → among n (ARGUMENT ∷ INTERVAL ∷ FULL ∷ LONG ∷ NAME ∷ RULELESS ∷ SYNTAX ∷ DEEP ∷ []) ≡ true → ¬ (said sentences n ≡ [])
sentence_some n h = said_some sentences n refl h
