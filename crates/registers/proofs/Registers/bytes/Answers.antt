-- The bytes of status and enable, the interrupt, and the other bytes as they are. Assumes nothing.
use mathlib.Core.Path.{ap}
use mathlib.Core.List.{List, [], ◌∷◌, ◌++◌}
use Prim.Native.Nat.{ℕ}
use borrow.Author.Rules.{rules}
use Rattle.lists.specs.Bits.{digit}
use Rattle.registers.specs.Registers.{byte_of, share}
use Rattle.registers.proofs.Bits.{flag_digit}
use Rattle.registers.proofs.Bytes.{eight_listed}
use Rattle.registers.proofs.Registers.bytes.Goals as goal

pub returns : goal.returns
returns c =
    let r = c.args.self in
    rw (c.byte.ensures, c.byte-2.ensures, flag_digit c.shares.result, c.shares.ensures, c.copy_from_slice.ensures.after)
    (ap (λ (xs : List ℕ). byte_of r.status ∷ byte_of r.enable ∷ digit (share r.status r.enable) ∷ r.number ∷ xs ++ (0 ∷ 0 ∷ 0 ∷ 0 ∷ [])) (eight_listed r.first (search rules)))
