-- Flags and numbers as bytes and back. Assumes nothing.
use Prim.Native.Nat.{ℕ, ◌+◌, ◌*◌, ◌/◌, ◌%◌, ◌^◌, ◌<◌}
use native.Mathlib.Nat.{add_assoc, mul_assoc, mul-add, mod-add-div, div-div-eq-div-mul}
use native.Mathlib.Omega.{arith}
use mathlib.Core.Path.{◌≡◌, refl, sym, ap, ◌∙◌}
use mathlib.Core.Bool.{Bool, true, false}
use mathlib.Core.Logic.{◌↔◌}
use mathlib.Core.List.{List}
use lib.Dec.{eqb}
use lib.ListN.{length, get_or}
use lib.Seq.{ext_get_or}
use Rattle.lists.specs.Sequence.{ticks}
use Rattle.lists.proofs.Sequences.{get_or_ticks}
use Rattle.lists.specs.Bits.{bit, digit}
use Rattle.lists.proofs.Bits.{digit_lt, digit_flag}
use Rattle.registers.specs.declared.Flags.{Flags}
use Rattle.registers.specs.declared.Registers.{Registers}
use Rattle.registers.specs.Registers.{flags_from, byte_of, bytes_of, registers_from, eight_bytes}

-- ---- flags
pub digit_one : (b : Bool) → (digit b ≡ 1) ↔ (b ≡ true)
digit_one true = (λ e. refl, λ e. refl)
digit_one false = (λ e. absurd (omega arith), λ e. ap digit e)

pub digit_zero : (b : Bool) → (digit b ≡ 0) ↔ (b ≡ false)
digit_zero true = (λ e. absurd (omega arith), λ e. ap digit e)
digit_zero false = (λ e. refl, λ e. refl)

bit_digit : (x i : ℕ) (b : Bool) → x / 2 ^ i % 2 ≡ digit b → bit x i ≡ b
unfolding bit
bit_digit x i b e = ap (λ (n : ℕ). eqb n 1) e ∙ go b
  where
    go : (c : Bool) → eqb (digit c) 1 ≡ c
    go true = refl
    go false = refl

flags_back : (f : Flags) → flags_from (byte_of f) ≡ f
flags_back f =
    let a = digit_lt f.running in
    let b = digit_lt f.ready in
    let c = digit_lt f.failed in
    let d = digit_lt f.refused in
    let p = bit_digit (byte_of f) 0 f.running (omega arith) in
    let q = bit_digit (byte_of f) 1 f.ready (omega arith) in
    let r = bit_digit (byte_of f) 2 f.failed (omega arith) in
    let s = bit_digit (byte_of f) 3 f.refused (omega arith) in
    λ i. record { running = p i; ready = q i; failed = r i; refused = s i }

pub low_four : (v : ℕ) → byte_of (flags_from v) ≡ v % 16
unfolding bit
low_four v =
    rw (
      digit_flag (v / 2 ^ 0 % 2) (omega arith),
      digit_flag (v / 2 ^ 1 % 2) (omega arith),
      digit_flag (v / 2 ^ 2 % 2) (omega arith),
      digit_flag (v / 2 ^ 3 % 2) (omega arith),
    )
    (sum (div-div-eq-div-mul v 2 2) (div-div-eq-div-mul v 4 2))
  where
    sum : {a b : ℕ} → v / 2 / 2 ≡ a → a / 2 ≡ b → v / 1 % 2 + 2 * (v / 2 % 2) + 4 * (a % 2) + 8 * (b % 2) ≡ v % 16
    sum p q = omega arith

-- ---- the registers
pub registers_back : (s f : Flags) (n x : ℕ)
    → ◌≡◌ {A = Registers} (registers_from (bytes_of (record { status = s; enable = f; number = n; first = eight_bytes x })))
    (record { status = s; enable = f; number = n; first = eight_bytes x })
registers_back s f n x i = record { status = flags_back s i; enable = flags_back f i; number = n; first = eight_bytes x }

-- eight bytes, one by one
pub eight_listed : (xs : List ℕ) → length xs ≡ 8 → xs ≡ ticks (λ k. get_or xs k 0) 8
eight_listed xs l =
    ext_get_or 0 xs (ticks (λ k. get_or xs k 0) 8) l (λ i h. sym (get_or_ticks (λ k. get_or xs k 0) 8 i 0 (omega arith)))

-- ---- a number from its 8 bytes
-- the sum s up to a, and one byte more
byte_more : (x a s : ℕ) → s + a * (x / a) ≡ x → s + a * (x / a % 256) + a * 256 * (x / (a * 256)) ≡ x
byte_more x a s e = rw (← (div-div-eq-div-mul x a 256), mul_assoc, add_assoc, ← (mul-add a (x / a % 256) (256 * (x / a / 256))), mod-add-div) e

pub eight_sum : (x : ℕ) → x < 18446744073709551616
    → x % 256 + 256 * (x / 256 % 256) + 65536 * (x / 65536 % 256) + 16777216 * (x / 16777216 % 256) + 4294967296 * (x / 4294967296 % 256)
    + 1099511627776 * (x / 1099511627776 % 256) + 281474976710656 * (x / 281474976710656 % 256) + 72057594037927936 * (x / 72057594037927936 % 256) ≡ x
eight_sum x h =
    let e : x / 72057594037927936 % 256 ≡ x / 72057594037927936 = omega arith in
    rw e
    (byte_more x 281474976710656 _ (byte_more x 1099511627776 _ (byte_more x 4294967296 _
    (byte_more x 16777216 _ (byte_more x 65536 _ (byte_more x 256 (x % 256) (omega arith)))))))
