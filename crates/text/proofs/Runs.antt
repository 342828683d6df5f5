-- Whole lines, taken one after the other, are what the answer comes to. Assumes nothing.
use Prim.Native.Nat.{ℕ, zero, suc, ◌+◌, ◌≤◌, ◌<◌}
use native.Mathlib.Omega.{arith}
use mathlib.Core.Path.{◌≡◌, refl, sym, ap, ◌∙◌}
use mathlib.Core.List.{List, [], ◌∷◌}
use lib.Dec.{eqb}
use lib.ListN.{length, length-append}
use borrow.Author.Tests.{ne_eqb}
use Rattle.limits.specs.Limits.{max_depth}
use Rattle.lists.specs.Choice.{pick}
use Rattle.mltl.specs.Mltl.{Formula}
use Rattle.table.specs.Nodes.{no_table}
use Rattle.table.specs.declared.Table.{Table}
use Rattle.builder.specs.Adding.{Added}
use Rattle.grammar.specs.Grammar.{Line}
use Rattle.grammar.specs.declared.Made.{Made}
use Rattle.grammar.specs.Machine.{Fate, Finished, fate, begin}
use Rattle.grammar.specs.Made.{lists, nodes_of}
use Rattle.grammar.proofs.Runs.{pick_false, front, accepted as ran}
use Rattle.grammar.proofs.Complete.{completes}
use Rattle.parser.proofs.Promise.{lists_exact}
use Rattle.text.specs.Typing.{Typed, added, line_added, refused, accepted, after_line, typed_from, typed}
use Rattle.text.specs.Outcome.{Reached, begins, goes_on}

-- what becomes of the line at the place i
abbrev pub line_fate : ℕ → List ℕ → Fate (List Made)
line_fate i bs = fate lists max_depth (begin lists []) i bs

-- the lines behind the one with the number `line`
abbrev pub onward : ℕ → ℕ → Table → ℕ → List ℕ → Typed
onward fuel line t i bs = typed_from fuel (line + 1) t i bs

-- what a line that is added, or not, comes to
abbrev pub added_then : ℕ → ℕ → ℕ → List ℕ → Added → Typed
added_then fuel line j r a = pick (eqb a.number 0) (onward fuel line a.table j r) (refused a.number line)

-- an accepted line has a byte at least
pub shorter : (i j n : ℕ) (bs r : List ℕ) (ms : List Made) → line_fate i bs ≡ Finished n ms j r → length r < length bs
shorter i j n bs r ms e =
    let a = ran lists max_depth bs (begin lists []) i n ms j r e in
    let q = front a.way in
    let k = ap (λ (l : List ℕ). length l) q.bytes in
    let m = length-append q.read (a.x ∷ r) in
    omega arith

-- the place behind a line
pub record Behind (i : ℕ) (bs : List ℕ) (n : ℕ) (f : Formula) (r : List ℕ) : Type 0 where
  pub place : ℕ
  pub counted : i + length bs ≡ place + length r
  pub told : line_fate i bs ≡ Finished n (nodes_of f) place r

pub behind : {n : ℕ} {f : Formula} {bs r : List ℕ} (i : ℕ) → Line max_depth n f bs r → Behind i bs n f r
behind i l = let k = completes lists_exact 32 i [] (omega arith) l in record { place = k.0; counted = k.2; told = k.1 }

pub line_shorter : {n : ℕ} {f : Formula} {bs r : List ℕ} → Line max_depth n f bs r → length r < length bs
line_shorter {n} {f} {bs} {r} l = let k = behind 0 l in shorter 0 k.place n bs r (nodes_of f) k.told

fate_line : {n : ℕ} {f : Formula} {bs r : List ℕ} (i j : ℕ) → Line max_depth n f bs r → i + length bs ≡ j + length r → line_fate i bs ≡ Finished n (nodes_of f) j r
fate_line {n} {f} {bs} {r} i j l c =
    let k = behind i l in
    let e : k.place ≡ j = (let h = k.counted in omega arith) in
    k.told ∙ ap (λ (x : ℕ). Finished n (nodes_of f) x r) e

-- ---- what is left to read from a place on
pub record Run (text : List ℕ) (t : Table) (i line : ℕ) (bs : List ℕ) : Type 0 where
  pub fuel : ℕ
  pub enough : length bs ≤ fuel
  pub same : typed text ≡ typed_from fuel line t i bs

pub run_start : (text : List ℕ) {t : Table} → ¬ (length text ≡ 0) → t ≡ no_table → Run text t 0 1 text
unfolding typed
run_start text z e = record {
  fuel = length text;
  enough = omega arith;
  same = pick_false (eqb (length text) 0) _ _ (ne_eqb (length text) 0 z) ∙ ap (λ (u : Table). typed_from (length text) 1 u 0 text) (sym e);
}

pub run_end : {text : List ℕ} {t : Table} {i line : ℕ} {bs : List ℕ} → Run text t i line bs → bs ≡ [] → typed text ≡ accepted t
unfolding typed_from
run_end {text} {t} {i} {line} m e = by m.fuel (m.same ∙ ap (λ (x : List ℕ). typed_from m.fuel line t i x) e)
  where
    by : (k : ℕ) → typed text ≡ typed_from k line t i [] → typed text ≡ accepted t
    by zero s = s
    by (suc k) s = s

-- a line more is to be read: its fate decides
pub record Turn (text : List ℕ) (t : Table) (i line : ℕ) (bs : List ℕ) : Type 0 where
  pub left : ℕ
  pub enough : length bs ≤ suc left
  pub same : typed text ≡ after_line line t (line_fate i bs) (onward left line)

pub turn : {text : List ℕ} (t : Table) (i line : ℕ) (bs : List ℕ) → Run text t i line bs → ¬ (length bs ≡ 0) → Turn text t i line bs
unfolding typed_from
turn t i line [] m z = absurd (z refl)
turn {text} t i line (x ∷ xs) m z = by m.fuel m.enough m.same
  where
    by : (k : ℕ) → length (x ∷ xs) ≤ k → typed text ≡ typed_from k line t i (x ∷ xs) → Turn text t i line (x ∷ xs)
    by zero h s = absurd (omega arith)
    by (suc k) h s = record { left = k; enough = h; same = s }

pub fated : {text : List ℕ} {t : Table} {i line : ℕ} {bs : List ℕ} (m : Turn text t i line bs) {x : Fate (List Made)} → line_fate i bs ≡ x
    → typed text ≡ after_line line t x (onward m.left line)
fated {t = t} {line = line} m e = m.same ∙ ap (λ (x : Fate (List Made)). after_line line t x (onward m.left line)) e

-- ---- a whole line
module _ {text : List ℕ} {t : Table} {i line n : ℕ} {f : Formula} {bs r : List ℕ} (j : ℕ) (m : Run text t i line bs) (l : Line max_depth n f bs r)
    (c : i + length bs ≡ j + length r) where
  line_turn : Turn text t i line bs
  line_turn = turn t i line bs m (λ e. let h = line_shorter l in omega arith)

  line_same : typed text ≡ added_then line_turn.left line j r (line_added t n (nodes_of f))
  line_same = fated line_turn (fate_line i j l c)

  pub line_refused : ¬ ((line_added t n (nodes_of f)).number ≡ 0) → typed text ≡ refused (line_added t n (nodes_of f)).number line
  line_refused z = line_same ∙ pick_false (eqb (line_added t n (nodes_of f)).number 0) _ _ (ne_eqb (line_added t n (nodes_of f)).number 0 z)

  line_more : {u : Table} → line_added t n (nodes_of f) ≡ added 0 u → Run text u j (line + 1) r
  line_more a = record {
    fuel = line_turn.left;
    enough = let h = line_shorter l in let e = line_turn.enough in omega arith;
    same = line_same ∙ ap (added_then line_turn.left line j r) a;
  }

pub runs : {text : List ℕ} {t : Table} {i line : ℕ} {bs : List ℕ} → ¬ (length text ≡ 0) → Reached text t i line bs → Run text t i line bs
runs {text} z begins = run_start text z refl
runs z (goes_on {j = j} x l c e) = line_more j (runs z x) l c e
