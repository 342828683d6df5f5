-- The place that is told of a fault of syntax is in the line at fault by the grammar. Assumes nothing.
use Prim.Native.Nat.{ℕ, suc, ◌+◌}
use native.Mathlib.Omega.{arith}
use native.Mathlib.Nat.{zero-add}
use mathlib.Core.Path.{◌≡◌, refl, ap, ◌∙◌}
use mathlib.Core.List.{List, ◌∷◌, ◌++◌}
use lib.Dec.{eqb}
use lib.ListN.{length, drop, length-append}
use Rattle.lists.proofs.Sequences.{drop_first, drop_next, drop_behind}
use Rattle.table.specs.declared.Table.{Table}
use Rattle.grammar.specs.Grammar.{Fault32, Fault33}
use Rattle.grammar.proofs.Ends.{Free, none, more, Ended, line_ends, read_free_32, read_free_33}
use Rattle.text.specs.Outcome.{Reached, begins, goes_on}
use Rattle.message.specs.Message.{lines_before, line_start}
use Rattle.message.proofs.Lines.{SameLine, stays, next_line, first_line}
use Rattle.rules.specs.Output.{InLine}

-- ---- bytes of which none is 10
over : {xs : List ℕ} (text : List ℕ) (i j : ℕ) (r : List ℕ) → Free xs → drop i text ≡ xs ++ r → j ≡ i + length xs → SameLine text i j
over text i j r none e h = let g : j ≡ i = omega arith in rw g (record { lines = refl; start = refl })
over text i j r (more {x = x} {xs = xs} n f) e h =
    let a = stays text i (ap (λ (k : ℕ). eqb k 10) (drop_first text i x 0 (xs ++ r) e) ∙ n) in
    let b = over text (suc i) j r f (drop_next text i x (xs ++ r) e) (omega arith) in
    record { lines = b.lines ∙ a.lines; start = b.start ∙ a.start }

-- ---- lines
-- what is left of the text from the place i on is bs, and a line begins there, with the number `line`
record Begins (text : List ℕ) (i line : ℕ) (bs : List ℕ) : Type 0 where
  left : drop i text ≡ bs
  counted : i + length bs ≡ length text
  number : lines_before text i + 1 ≡ line
  start : line_start text i ≡ i

line_after : {text bs r : List ℕ} {i j line : ℕ} → Begins text i line bs → Ended bs r → i + length bs ≡ j + length r → Begins text j (line + 1) r
line_after {text} {r = r} {i} {j} b e h =
    let q = i + length e.front in
    let l = length-append e.front (10 ∷ r) in
    let k = ap length e.bytes in
    let g : j ≡ suc q = omega arith in
    let d = drop_behind text e.front (10 ∷ r) i (b.left ∙ e.bytes) in
    let s = over text i q (10 ∷ r) e.free (b.left ∙ e.bytes) refl in
    let w = next_line text q (drop_first text q 10 0 r d) in
    let m = b.number in
    let c = b.counted in
    rw g
    (record {
      left = drop_next text q 10 r d;
      counted = omega arith;
      number = rw (w.0, s.lines) (omega arith);
      start = w.1;
    })

reached : {text bs : List ℕ} {t : Table} {i line : ℕ} → Reached text t i line bs → Begins text i line bs
reached {text} begins = let f = first_line text in record { left = refl; counted = zero-add (length text); number = rw f.0 refl; start = f.1 }
reached (goes_on r l h e) = line_after (reached r) (line_ends l) h

-- ---- the place of a fault
in_line : {text bs read : List ℕ} {i line p : ℕ} (left : List ℕ) → Begins text i line bs → Free read → bs ≡ read ++ left → p ≡ i + length read → InLine text p i line
in_line {text} {read = read} {i} {p = p} left b f e h =
    let s = over text i p left f (b.left ∙ e) h in
    let l = length-append read left in
    let k = ap length e in
    let c = b.counted in
    record { counted = ap (λ (n : ℕ). n + 1) s.lines ∙ b.number; start = s.start ∙ b.start; inside = omega arith }

-- THE LAWS: it is in the line that is at fault
pub in_line_32 : {text bs : List ℕ} {t : Table} {i line p : ℕ} → Reached text t i line bs → Fault32 i bs p → InLine text p i line
in_line_32 r f = in_line f.left (reached r) (read_free_32 f) f.bytes f.place

pub in_line_33 : {text bs : List ℕ} {t : Table} {i line p : ℕ} → Reached text t i line bs → Fault33 i bs p → InLine text p i line
in_line_33 r f = in_line (40 ∷ f.left) (reached r) (read_free_33 f) f.bytes f.place
