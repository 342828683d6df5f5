-- The nodes of a line have the form of nodes. Assumes nothing.
use Prim.Native.Nat.{ℕ, zero, suc, ◌≤◌}
use native.Mathlib.Omega.{arith}
use mathlib.Core.Path.{◌≡◌, refl}
use mathlib.Core.Bool.{Bool, true, false, true≢false}
use mathlib.Core.List.{List, [], ◌∷◌, ◌++◌}
use lib.ListN.{take}
use Rattle.mltl.specs.Mltl.{Formula, signal, const, neg, and, or, F, G, U, R}
use Rattle.table.specs.Nodes.{op_of, uses_of}
use Rattle.builder.specs.Built.{NodeForm}
use Rattle.grammar.specs.declared.Item.{Item}
use Rattle.grammar.specs.declared.Made.{Made}
use Rattle.grammar.specs.Machine.{item, plain_item, build}
use Rattle.grammar.specs.Made.{made, lists, nodes_of}
use Rattle.text.specs.Typing.{node_of}

-- a kind of a node, and no number that it does not use
pub record Formed (i : Item) : Type 0 where
  pub known : 1 ≤ i.kind
  pub node : i.kind ≤ 10
  pub arg : (uses_of (op_of i.kind)).arg ≡ false → i.arg ≡ 0
  pub hi : (uses_of (op_of i.kind)).interval ≡ false → i.hi ≡ 0

pub data Forms : List Made → Type 0 where
  none : Forms []
  more : {m : Made} {ms : List Made} → Formed m.it → Forms ms → Forms (m ∷ ms)

snoc : {ms : List Made} (i : Item) (l : ℕ) → Forms ms → Formed i → Forms (ms ++ (made i l ∷ []))
snoc i l none f = more f none
snoc i l (more g k) f = more g (snoc i l k f)

plain : (k : ℕ) → 1 ≤ k → k ≤ 10 → Formed (plain_item k)
plain k l h = record { known = l; node = h; arg = λ e. refl; hi = λ e. refl }

timed : (k lo hi : ℕ) → 1 ≤ k → k ≤ 10 → (uses_of (op_of k)).interval ≡ true → Formed (item k 0 lo hi)
timed k lo hi l h u = record { known = l; node = h; arg = λ e. refl; hi = λ e. absurd (let z : ◌≡◌ {A = Bool} true false = cc in true≢false z) }

build_forms : (f : Formula) (b : List Made) → Forms b → Forms (build lists b f)
unfolding build
build_forms (signal n) b k = snoc _ _ k (record { known = omega arith; node = omega arith; arg = λ e. absurd (true≢false e); hi = λ e. refl })
build_forms (const true) b k = snoc _ _ k (plain 2 (omega arith) (omega arith))
build_forms (const false) b k = snoc _ _ k (plain 3 (omega arith) (omega arith))
build_forms (neg f) b k = snoc _ _ (build_forms f b k) (plain 4 (omega arith) (omega arith))
build_forms (and f g) b k = snoc _ _ (build_forms g (build lists b f) (build_forms f b k)) (plain 5 (omega arith) (omega arith))
build_forms (or f g) b k = snoc _ _ (build_forms g (build lists b f) (build_forms f b k)) (plain 6 (omega arith) (omega arith))
build_forms (F lo hi f) b k = snoc _ _ (build_forms f b k) (timed 7 lo hi (omega arith) (omega arith) refl)
build_forms (G lo hi f) b k = snoc _ _ (build_forms f b k) (timed 8 lo hi (omega arith) (omega arith) refl)
build_forms (U lo hi f g) b k = snoc _ _ (build_forms g (build lists b f) (build_forms f b k)) (timed 9 lo hi (omega arith) (omega arith) refl)
build_forms (R lo hi f g) b k = snoc _ _ (build_forms g (build lists b f) (build_forms f b k)) (timed 10 lo hi (omega arith) (omega arith) refl)

pub formula_forms : (f : Formula) → Forms (nodes_of f)
formula_forms f = build_forms f [] none

pub take_forms : {ms : List Made} (n : ℕ) → Forms ms → Forms (take n ms)
take_forms zero k = none
take_forms (suc n) none = none
take_forms (suc n) (more h k) = more h (take_forms n k)

-- such a node as the table has it
pub node_form : (base count : ℕ) (m : Made) → Formed m.it → NodeForm (node_of base count m)
node_form base count m f = record {
  known = f.known;
  node = f.node;
  arg = λ e. let z = f.arg e in omega arith;
  hi = λ e. let z = f.hi e in omega arith;
  left = λ e. rw e;
  right = λ e. rw e;
}
