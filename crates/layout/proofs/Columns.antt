-- Columns of n bits, and F and U on them. Assumes nothing.
use mathlib.Core.Path.{◌≡◌, refl, sym, ap, ◌∙◌}
use mathlib.Core.Logic.{⊎_elim}
use mathlib.Core.Bool.{Bool, true, false, ◌&&◌, false≢true}
use Prim.Native.Nat.{ℕ, ◌≤◌, ◌<◌}
use native.Mathlib.Omega.{arith}
use borrow.Author.Tests.{lt-ltb, le-ltb}
use lib.Dec.{ltb}
use Rattle.lists.specs.Bits.{bit_at, words, packed, below}
use Rattle.lists.proofs.Tests.{lt_or_le}
use Rattle.mltl.specs.Mltl.{eventually, until}
use Rattle.mltl.proofs.Operators.{ever, eventually_at, until_past}
use Rattle.column.proofs.Registers.{bit_at_pack_all}
use Rattle.windows.proofs.Windows.{until_same}

pub below_past : (n : ℕ) (f : ℕ → Bool) (t : ℕ) → n ≤ t → below n f t ≡ false
below_past n f t h = rw (le-ltb t n h)

pub below_in : (n : ℕ) (f : ℕ → Bool) (t : ℕ) → t < n → below n f t ≡ f t
below_in n f t h = rw (lt-ltb t n h)

pub bit_at_packed : (n : ℕ) (f : ℕ → Bool) (t : ℕ) → bit_at (packed n f) t ≡ below n f t
unfolding packed
bit_at_packed n f = bit_at_pack_all (words n) (below n f) (λ t h. below_past n f t (omega arith))

-- ---- the operators on columns that end at n
pub until_below : (n N lo hi : ℕ) (a b A B : ℕ → Bool) → n ≤ N → ((i : ℕ) → i < n → a i ≡ A i) → ((i : ℕ) → i < n → b i ≡ B i)
    → ((i : ℕ) → n ≤ i → b i ≡ false) → (t : ℕ) → until N lo hi a b t ≡ below n (until n lo hi A B) t
until_below n N lo hi a b A B h e f z t =
    until_same n N lo hi a b A B h (λ i l r. ⊎_elim (λ (k : i < n). k) (λ (k : n ≤ i). absurd (false≢true (sym (z i k) ∙ r))) (lt_or_le i n)) e f t
    ∙ ⊎_elim (λ (l : t < n). sym (below_in n (until n lo hi A B) t l))
    (λ (l : n ≤ t). until_past n lo hi A B t (omega arith) ∙ sym (below_past n (until n lo hi A B) t l)) (lt_or_le t n)

pub eventually_below : (n N lo hi : ℕ) (b B : ℕ → Bool) → n ≤ N → ((i : ℕ) → i < n → b i ≡ B i) → ((i : ℕ) → n ≤ i → b i ≡ false)
    → (t : ℕ) → eventually N lo hi b t ≡ below n (eventually n lo hi B) t
eventually_below n N lo hi b B h f z t =
    eventually_at N lo hi b t ∙ until_below n N lo hi (ever true) b (ever true) B h (λ i l. refl) f z t
    ∙ ap (λ (x : Bool). ltb t n && x) (sym (eventually_at n lo hi B t))
