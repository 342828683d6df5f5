-- The bits of a byte as the code takes them, and a flag as a byte. Assumes nothing.
use Prim.Native.Nat.{ℕ, ◌/◌, ◌%◌}
use native.Mathlib.Nat.{div-one}
use mathlib.Core.Path.{◌≡◌, refl, sym, ap}
use mathlib.Core.Bool.{Bool, true, false}
use lib.Dec.{eqb}
use mir.Val.{bool_byte}
use Rattle.registers.specs.declared.Flags.{Flags}
use Rattle.registers.specs.Registers.{flags_from}
use Rattle.lists.specs.Bits.{bit, digit}

pub flag_digit : (b : Bool) → bool_byte b ≡ digit b
flag_digit true = refl
flag_digit false = refl

pub from_byte : (x : ℕ)
    → ◌≡◌ {A = Flags} (record { running = eqb (x % 2) 1; ready = eqb (x / 2 % 2) 1; failed = eqb (x / 4 % 2) 1; refused = eqb (x / 8 % 2) 1 }) (flags_from x)
unfolding bit
from_byte x =
    ap (λ (y : ℕ). record { running = eqb (y % 2) 1; ready = eqb (x / 2 % 2) 1; failed = eqb (x / 4 % 2) 1; refused = eqb (x / 8 % 2) 1 }) (sym (div-one x))
