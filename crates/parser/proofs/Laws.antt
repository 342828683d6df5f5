-- What a byte, or the end of the text, does to the fate of a line. Assumes nothing.
use Prim.Native.Nat.{ℕ, ◌+◌, ◌≤◌, ◌<◌}
use native.Mathlib.Numerals.{add-one}
use native.Mathlib.Omega.{arith}
use mathlib.Core.Path.{◌≡◌, sym, ap, ◌∙◌}
use mathlib.Core.Logic.{⊎_elim}
use mathlib.Core.List.{List, ◌∷◌}
use lib.ListN.{length, drop, length-drop, drop_of_length-le}
use lib.Seq.{drop-cons}
use Rattle.lists.proofs.Tests.{lt_or_le}
use Rattle.grammar.specs.Grammar.{Spaces, none as no-space, one}
use Rattle.grammar.specs.Machine.{Config, Next, on, stop, Fault, step, follow, fate}
use Rattle.grammar.proofs.Runs.{Runs, still, moves, fated}
use Rattle.grammar.specs.Tape.{Tape, tapes}
use Rattle.parser.specs.Reads.{from, byte_at}
use Rattle.parser.specs.Code.{Skipped}

module _ (text : List ℕ) where
  pub whole : (i : ℕ) → i < length text → drop i text ≡ byte_at text i ∷ drop (i + 1) text
  whole i h = rw (add-one, drop-cons text i 0)

  pub from_on : (c d : Config Tape ℕ) (i : ℕ) → i < length text → step tapes 32 c (byte_at text i) ≡ on d → from text c i ≡ from text d (i + 1)
  unfolding fate
  from_on c d i h s =
      ap (λ (l : List ℕ). fate tapes 32 c i l) (whole i h)
      ∙ ap (λ (n : Next Tape ℕ). follow tapes n (λ (k : Config Tape ℕ). fate tapes 32 k (i + 1) (drop (i + 1) text)) i (drop (i + 1) text)) s

  pub from_stop : (c : Config Tape ℕ) (i n : ℕ) → i < length text → step tapes 32 c (byte_at text i) ≡ stop n → from text c i ≡ Fault n i
  unfolding fate
  from_stop c i n h s =
      ap (λ (l : List ℕ). fate tapes 32 c i l) (whole i h)
      ∙ ap (λ (n : Next Tape ℕ). follow tapes n (λ (k : Config Tape ℕ). fate tapes 32 k (i + 1) (drop (i + 1) text)) i (drop (i + 1) text)) s

  pub from_end : (c : Config Tape ℕ) (i : ℕ) → length text ≤ i → from text c i ≡ Fault 32 i
  unfolding fate
  from_end c i h = ap (λ (l : List ℕ). fate tapes 32 c i l) (drop_of_length-le text h)

  -- a stop with 32 at a byte, or the end
  pub from_bad : (c : Config Tape ℕ) (i : ℕ) → (i < length text → step tapes 32 c (byte_at text i) ≡ stop 32) → from text c i ≡ Fault 32 i
  from_bad c i f = ⊎_elim (λ h. from_stop c i 32 h (f h)) (λ h. from_end c i h) (lt_or_le i (length text))

  -- two configurations that do the same with the next byte
  pub from_like : (c d : Config Tape ℕ) (i : ℕ) → (i < length text → step tapes 32 c (byte_at text i) ≡ step tapes 32 d (byte_at text i)) → from text c i ≡ from text d i
  unfolding fate
  from_like c d i f = ⊎_elim by (λ h. from_end c i h ∙ sym (from_end d i h)) (lt_or_le i (length text))
    where
      by : i < length text → from text c i ≡ from text d i
      by h =
          ap (λ (l : List ℕ). fate tapes 32 c i l) (whole i h)
          ∙ ap (λ (n : Next Tape ℕ). follow tapes n (λ (k : Config Tape ℕ). fate tapes 32 k (i + 1) (drop (i + 1) text)) i (drop (i + 1) text)) (f h)
          ∙ sym (ap (λ (l : List ℕ). fate tapes 32 d i l) (whole i h))

  -- spaces
  spaces_run : {c : Config Tape ℕ} {bs r : List ℕ} → step tapes 32 c 32 ≡ on c → Spaces bs r → Runs tapes 32 c bs c r
  spaces_run h no-space = still
  spaces_run h (one s) = moves h (spaces_run h s)

  pub from_spaces : (c : Config Tape ℕ) (i j : ℕ) → step tapes 32 c 32 ≡ on c → Skipped text i j → from text c i ≡ from text c j
  from_spaces c i j h s =
      let f = fated i (spaces_run h s.spaces) in
      let l = s.later in
      let n = s.inside in
      let a = length-drop i text in
      let b = length-drop j text in
      let k = f.counted in
      let e : f.place ≡ j = omega arith in
      f.same ∙ ap (λ (m : ℕ). fate tapes 32 c m (drop j text)) e

  -- ---- skip
  spaces_snoc : {bs m r : List ℕ} → Spaces bs m → m ≡ 32 ∷ r → Spaces bs r
  spaces_snoc no-space e = rw e (one no-space)
  spaces_snoc (one s) e = one (spaces_snoc s e)

  pub skip_more : (i j : ℕ) → Spaces (drop i text) (drop j text) → j < length text → byte_at text j ≡ 32 → Spaces (drop i text) (drop (j + 1) text)
  skip_more i j s l e =
      spaces_snoc s (whole j l ∙ ap (λ (x : ℕ). x ∷ drop (j + 1) text) e)
