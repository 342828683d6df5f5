-- Columns laid in registers that are lent as parts of a list. Assumes nothing.
use mathlib.Core.Path.{◌≡◌, ap, ap₂, ◌∙◌, subst}
use mathlib.Core.Logic.{inl}
use mathlib.Core.Bool.{Bool}
use mathlib.Core.List.{List}
use Prim.Native.Nat.{ℕ, ◌+◌, ◌-◌, ◌≤◌, min}
use native.Mathlib.Nat.{add-zero}
use native.Mathlib.Omega.{arith}
use borrow.Rule.Slice.PartMut.{put_mid, mid_of}
use lib.ListN.{length}
use Rattle.operators.specs.Operators.{Operand}
use Rattle.lists.specs.Bits.{bit_at}
use Rattle.lists.proofs.Columns.{bit_at_past}
use Rattle.column.specs.Column.{register, lay, Laid, Turned}
use Rattle.column.proofs.Registers.{length_register, register_lay, register_apart, lay_lay}
use Rattle.column.proofs.Parts.{part_laid, part_turned, laid_length}
use Rattle.pair.specs.Pair.{both, IntoFirst, IntoSecond}
use Rattle.pair.proofs.Pairs.{first, second, part_pair}
use Rattle.windows.proofs.Lays.{held}

-- the part from the register at a to the end of that at b
pub lent : (op : List ℕ → List ℕ → ℕ → Bool) {a b m : ℕ} {xs : List ℕ} (ys : List ℕ) → Operand a b m xs
    → IntoSecond op (b - a) (mid_of a (b + m - a) xs) ys → Laid b m (op (register b m xs) (register a m xs)) xs (put_mid a (b + m - a) xs ys)
lent op {a} {b} {m} {xs} ys h r =
    let i = h.before in let k = h.enough in
    part_pair op second a (b + m - a) m xs {i = b} {j = a} (omega (arith, length_register a (b + m - a) xs (omega arith))) (omega arith) (omega arith) (omega arith) (omega arith) r

-- the part from the register at b, which is written, to the end of that at a
pub lent_back : (op : List ℕ → List ℕ → ℕ → Bool) {a b m : ℕ} {xs : List ℕ} (ys : List ℕ) → Operand b a m xs
    → IntoFirst op (a - b) (mid_of b (a + m - b) xs) ys → Laid b m (op (register b m xs) (register a m xs)) xs (put_mid b (a + m - b) xs ys)
lent_back op {a} {b} {m} {xs} ys h r =
    let i = h.before in let k = h.enough in
    part_pair op first b (a + m - b) m xs {i = b} {j = a} (omega (arith, length_register b (a + m - b) xs (omega arith))) (omega arith) (omega arith) (omega arith) (omega arith) r

-- the part that is the register at b, turned
pub part_whole : {b m : ℕ} {f : ℕ → Bool} {xs : List ℕ} (ys : List ℕ) → b + m ≤ length xs → Turned f (mid_of b (b + m - b) xs) ys
    → Laid b m f xs (put_mid b (b + m - b) xs ys)
part_whole {b} {m} {f} {xs} ys h r =
    let e : b + m - b ≡ m = omega arith in
    subst (λ (n : ℕ). Laid b n f xs (put_mid b (b + m - b) xs ys)) e (part_turned b (b + m - b) xs (omega arith) r)

-- the part that is the register at b, in which the first words were laid
pub part_first : {b : ℕ} (m : ℕ) {f : ℕ → Bool} {xs : List ℕ} (ys : List ℕ) → b + m ≤ length xs
    → Laid 0 (min 80 (length (mid_of b (b + m - b) xs))) f (mid_of b (b + m - b) xs) ys → Laid b (min 80 m) f xs (put_mid b (b + m - b) xs ys)
part_first {b} m {f} {xs} ys h r =
    let l : length (mid_of b (b + m - b) xs) ≡ b + m - b = length_register b (b + m - b) xs (omega arith) in
    let e : length (mid_of b (b + m - b) xs) ≡ m = omega arith in
    let p : Laid 0 (min 80 m) f (mid_of b (b + m - b) xs) ys = subst (λ (n : ℕ). Laid 0 (min 80 n) f (mid_of b (b + m - b) xs) ys) e r in
    subst (λ (at : ℕ). Laid at (min 80 m) f xs (put_mid b (b + m - b) xs ys)) (add-zero b) (part_laid b (b + m - b) xs (omega arith) (omega arith) p)

-- a column that was laid stands in the register as the same bits
pub laid_bits : {b m : ℕ} (c : List ℕ) {xs ys : List ℕ} → b + m ≤ length xs → length c ≡ m → Laid b m (bit_at c) xs ys → bit_at (register b m ys) ≡ bit_at c
laid_bits {b} {m} c {xs} l n p = held m (bit_at c) (ap (register b m) p.is ∙ register_lay b m (bit_at c) xs l) (λ t k. bit_at_past c t (omega arith))

-- of two columns laid in one register the last one stands there
laid_over : {b m : ℕ} {f g : ℕ → Bool} {xs ys zs : List ℕ} → b + m ≤ length xs → Laid b m f xs ys → Laid b m g ys zs → Laid b m g xs zs
laid_over {b} {m} {f} {g} {xs} l p q = record { is = q.is ∙ ap (lay b m g) p.is ∙ lay_lay b m f xs l g }

-- the register at a loaded into that at b, and turned there
pub loaded : (F : ℕ → (ℕ → Bool) → ℕ → Bool) {a b m : ℕ} {xs ys : List ℕ} (zs : List ℕ) → Operand a b m xs → Laid b m (bit_at (register a m xs)) xs ys
    → Turned (F (length (mid_of b (b + m - b) ys)) (bit_at (mid_of b (b + m - b) ys))) (mid_of b (b + m - b) ys) zs
    → Laid b m (F m (bit_at (register a m xs))) xs (put_mid b (b + m - b) ys zs)
loaded F {a} {b} {m} {xs} {ys} zs h p q =
    let i = h.before in let k = h.enough in
    let e : b + m - b ≡ m = omega arith in
    let long : length ys ≡ length xs = laid_length k p in
    let wide : length (mid_of b (b + m - b) ys) ≡ m = ap (λ (w : ℕ). length (register b w ys)) e ∙ length_register b m ys (omega arith) in
    let bits : bit_at (mid_of b (b + m - b) ys) ≡ bit_at (register a m xs) = ap (λ (w : ℕ). bit_at (register b w ys)) e ∙ laid_bits (register a m xs) k (length_register a m xs (omega arith)) p in
    laid_over k p (part_whole zs (omega arith) (subst (λ (f : ℕ → Bool). Turned f (mid_of b (b + m - b) ys) zs) (ap₂ F wide bits) q))

-- the register at a loaded into that at b, and there joined with that at c
pub paired : (g : Bool → Bool → Bool) {a c b m : ℕ} {xs ys zs : List ℕ} → Operand a b m xs → Operand c b m xs → Laid b m (bit_at (register a m xs)) xs ys
    → Laid b m (both g (register b m ys) (register c m ys)) ys zs → Laid b m (both g (register a m xs) (register c m xs)) xs zs
paired g {a} {c} {b} {m} {xs} {ys} {zs} h o p q =
    let i = h.before in let j = o.before in let k = h.enough in
    let left : bit_at (register b m ys) ≡ bit_at (register a m xs) = laid_bits (register a m xs) k (length_register a m xs (omega arith)) p in
    let right : register c m ys ≡ register c m xs =
    ap (register c m) p.is ∙ register_apart b m (bit_at (register a m xs)) xs k c m (omega arith) (inl j)
    in
    laid_over k p (subst (λ (f : ℕ → Bool). Laid b m f ys zs) (ap₂ {C = ℕ → Bool} (λ f d t. g (f t) (d t)) left (ap bit_at right)) q)

pub operand_after : {a b m : ℕ} {f : ℕ → Bool} {xs ys : List ℕ} → Operand a b m xs → Laid b m f xs ys → Operand a b m ys
operand_after h p = record { before = h.before; enough = let e = laid_length h.enough p in let k = h.enough in omega arith }
