-- The bits of marks after each function. Assumes nothing.
use Prim.Native.Nat.{ℕ, zero, suc, ◌+◌, ◌-◌, ◌*◌, ◌/◌, ◌%◌, ◌^◌, ◌≤◌, ◌<◌}
use native.Mathlib.Nat.{mod-lt}
use native.Mathlib.Omega.{arith}
use mathlib.Core.Path.{◌≡◌, refl, sym, ap, ◌∙◌}
use mathlib.Core.Logic.{⊎_elim}
use mathlib.Core.Bool.{Bool, true, false, ◌&&◌, ◌||◌, or-false}
use borrow.Author.Tests.{eq-eqb, eqb-true, ne_eqb}
use lib.Bits.{bit_or, or_lt}
use lib.Dec.{eqb, ltb}
use lib.Pow.{pow_pos}
use Rattle.lists.specs.Bits.{bit}
use Rattle.lists.specs.Choice.{pick}
use Rattle.lists.proofs.Bits.{bit_high, bit_mod, bit_or_lem, bit_shl_high, bit_shl_low, bit_zero, number_bit, number_is}
use Rattle.lists.proofs.Tests.{lt_or_le}
use Rattle.table.specs.Nodes.{op_of, uses_of}
use Rattle.table.specs.declared.Node.{Node}
use Rattle.needed.specs.Marks.{has_operand, mark}
use Rattle.needed.specs.Code.Steps.{mark_node, mark_operand, mark_operands}

-- ---- one mark
pub bit_is : (ms k : ℕ) → eqb (ms / 2 ^ k % 2) 1 ≡ bit ms k
unfolding bit
bit_is ms k = refl

-- of a power of 2 one bit is set, of 1 the first
one_bit : (d : ℕ) → bit 1 d ≡ eqb 0 d
one_bit zero = bit_zero 1
one_bit (suc d) = bit_high 1 1 (suc d) (omega arith) (omega arith) ∙ sym (ne_eqb 0 (suc d) (λ e. omega arith))

power_bit : (k j : ℕ) → bit (1 * 2 ^ k) j ≡ eqb k j
power_bit k j = ⊎_elim
    (λ (l : j < k). bit_shl_low k 1 j l ∙ sym (ne_eqb k j (λ e. omega arith)))
    (λ (l : k ≤ j).
    let e : j ≡ k + (j - k) = omega arith in
    ap (bit (1 * 2 ^ k)) e ∙ bit_shl_high k 1 (j - k) ∙ one_bit (j - k) ∙ moved l)
    (lt_or_le j k)
  where
    moved : k ≤ j → eqb 0 (j - k) ≡ eqb k j
    moved l = ⊎_elim
        (λ (m : k < j). ne_eqb 0 (j - k) (λ e. omega arith) ∙ sym (ne_eqb k j (λ e. omega arith)))
        (λ (m : j ≤ k). eq-eqb 0 (j - k) (omega arith) ∙ sym (eq-eqb k j (omega arith)))
        (lt_or_le k j)

pub mark_bit : (ms k j : ℕ) → j < 64 → bit (mark ms k) j ≡ (bit ms j || eqb k j)
mark_bit ms k j h = number_bit 64 (λ i. bit ms i || eqb k i) j h

pub mark_is : (ms k : ℕ) → ms < 2 ^ 64 → bit_or ms (1 * 2 ^ k % 2 ^ 64) ≡ mark ms k
mark_is ms k h =
    number_is 64 (bit_or ms (1 * 2 ^ k % 2 ^ 64)) (λ j. bit ms j || eqb k j)
    (or_lt 64 ms (1 * 2 ^ k % 2 ^ 64) h (mod-lt (1 * 2 ^ k) (pow_pos 64)))
    λ j l. bit_or_lem ms (1 * 2 ^ k % 2 ^ 64) j ∙ ap (λ (b : Bool). bit ms j || b) (bit_mod 64 (1 * 2 ^ k) j l ∙ power_bit k j)

pub mark_past : (ms k : ℕ) → ms < 2 ^ 64 → 64 ≤ k → ms ≡ mark ms k
mark_past ms k h a =
    number_is 64 ms (λ j. bit ms j || eqb k j) h
    λ j l. sym (ap (λ (b : Bool). bit ms j || b) (ne_eqb k j (λ e. omega arith)) ∙ or-false (bit ms j))

-- ---- operands
pick_bit : (on : Bool) (ms k j : ℕ) → j < 64 → bit (pick on (mark ms k) ms) j ≡ (bit ms j || (on && eqb k j))
pick_bit true ms k j h = mark_bit ms k j h
pick_bit false ms k j h = sym (or-false (bit ms j))

-- the test of the operand's place, and of j
at_place : (u : Bool) (k i j : ℕ) → ((u && ltb k i) && eqb k j) ≡ (ltb j i && (u && eqb k j))
at_place u k i j = go (eqb k j) refl
  where
    yes : (u a : Bool) → ((u && a) && true) ≡ (a && (u && true))
    yes true true = refl
    yes true false = refl
    yes false true = refl
    yes false false = refl

    no : (u a b : Bool) → ((u && a) && false) ≡ (b && (u && false))
    no true true true = refl
    no true true false = refl
    no true false true = refl
    no true false false = refl
    no false a true = refl
    no false a false = refl

    go : (b : Bool) → eqb k j ≡ b → ((u && ltb k i) && b) ≡ (ltb j i && (u && b))
    go true e = ap (λ (m : ℕ). (u && ltb m i) && true) (eqb-true k j e) ∙ yes u (ltb j i)
    go false e = no u (ltb k i) (ltb j i)

operand_bit : (ms i : ℕ) (u : Bool) (k j : ℕ) → j < 64 → bit (mark_operand ms i u k) j ≡ (bit ms j || (ltb j i && (u && eqb k j)))
operand_bit ms i u k j h = pick_bit (u && ltb k i) ms k j h ∙ ap (λ (b : Bool). bit ms j || b) (at_place u k i j)

join : (a l p q : Bool) → ((a || (l && p)) || (l && q)) ≡ (a || (l && (p || q)))
join true l p q = refl
join false true p q = refl
join false false p q = refl

operands_bit : (ms i : ℕ) (n : Node) (j : ℕ) → j < 64 → bit (mark_operands ms i n) j ≡ (bit ms j || (ltb j i && has_operand n j))
operands_bit ms i n j h =
    operand_bit (mark_operand ms i (uses_of (op_of n.kind)).left n.left) i (uses_of (op_of n.kind)).right n.right j h
    ∙ ap (λ (b : Bool). b || (ltb j i && ((uses_of (op_of n.kind)).right && eqb n.right j)))
    (operand_bit ms i (uses_of (op_of n.kind)).left n.left j h)
    ∙ join (bit ms j) (ltb j i) ((uses_of (op_of n.kind)).left && eqb n.left j) ((uses_of (op_of n.kind)).right && eqb n.right j)

pub node_bit : (ms i : ℕ) (n : Node) (j : ℕ) → j < 64 → bit (mark_node ms i n) j ≡ (bit ms j || (bit ms i && (ltb j i && has_operand n j)))
node_bit ms i n j h = go (bit ms i)
  where
    go : (on : Bool) → bit (pick on (mark_operands ms i n) ms) j ≡ (bit ms j || (on && (ltb j i && has_operand n j)))
    go true = operands_bit ms i n j h
    go false = sym (or-false (bit ms j))
