-- How many bits of a constant's column are set. Assumes nothing.
use mathlib.Core.Path.{◌≡◌, refl, sym, ap, ◌∙◌}
use mathlib.Core.Bool.{Bool, true, false}
use Prim.Native.Nat.{ℕ, zero, suc}
use native.Mathlib.Omega.{arith}
use borrow.Author.Tests.{ne_eqb}
use lib.Dec.{eqb}
use Rattle.lists.specs.Choice.{pick}
use Rattle.table.specs.Nodes.{Op, Unknown, Signal, Top, Bottom, Not, And, Or, Finally, Globally, Until, Release, op_of}

abbrev pub is_top : Op → Bool
is_top Top = true
is_top Unknown = false
is_top Signal = false
is_top Bottom = false
is_top Not = false
is_top And = false
is_top Or = false
is_top Finally = false
is_top Globally = false
is_top Until = false
is_top Release = false

top_kind : (k : ℕ) → is_top (op_of k) ≡ eqb k 2
top_kind zero = refl
top_kind (suc zero) = refl
top_kind (suc (suc zero)) = refl
top_kind (suc (suc (suc zero))) = refl
top_kind (suc (suc (suc (suc zero)))) = refl
top_kind (suc (suc (suc (suc (suc zero))))) = refl
top_kind (suc (suc (suc (suc (suc (suc zero)))))) = refl
top_kind (suc (suc (suc (suc (suc (suc (suc zero))))))) = refl
top_kind (suc (suc (suc (suc (suc (suc (suc (suc zero)))))))) = refl
top_kind (suc (suc (suc (suc (suc (suc (suc (suc (suc zero))))))))) = refl
top_kind (suc (suc (suc (suc (suc (suc (suc (suc (suc (suc zero)))))))))) = refl
top_kind (suc (suc (suc (suc (suc (suc (suc (suc (suc (suc (suc k))))))))))) = sym (ne_eqb (suc (suc (suc (suc (suc (suc (suc (suc (suc (suc (suc k))))))))))) 2 (λ z. omega arith))

-- all for true, and none for any other operator
bits_by : (n k : ℕ) (b : Bool) → is_top (op_of k) ≡ b → pick (eqb k 2) n 0 ≡ pick b n 0
bits_by n k b e = ap (λ (c : Bool). pick c n 0) (sym (top_kind k) ∙ e)

pub top_bits : (n k : ℕ) → Top ≡ op_of k → pick (eqb k 2) n 0 ≡ n
top_bits n k e = bits_by n k true (ap is_top (sym e))

pub no_bits : (n k : ℕ) {o : Op} → o ≡ op_of k → is_top o ≡ false → pick (eqb k 2) n 0 ≡ 0
no_bits n k e t = bits_by n k false (ap is_top (sym e) ∙ t)
