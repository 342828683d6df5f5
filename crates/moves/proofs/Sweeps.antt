-- Sweeps over a register with its column moved down. Assumes nothing.
use mathlib.Core.Path.{◌≡◌, refl, sym, ap, ap₂, ◌∙◌}
use mathlib.Core.Logic.{inr}
use mathlib.Core.Bool.{Bool, false, ◌||◌}
use mathlib.Core.List.{List}
use Prim.Native.Nat.{ℕ, ◌+◌, ◌-◌, ◌*◌, ◌/◌, ◌%◌, ◌^◌, ◌≤◌, ◌<◌}
use native.Mathlib.Omega.{arith}
use lib.Bits.{bit_or}
use lib.ListN.{length, get_or, set}
use Rattle.lists.specs.Bits.{bit, bit_at}
use Rattle.lists.proofs.Columns.{pack_is}
use Rattle.column.specs.Column.{WordOf, Swept, Turned, register}
use Rattle.column.proofs.Words.{no_word, own_word, word_by, or_words}
use Rattle.column.proofs.Registers.{register_in}
use Rattle.column.proofs.Sweeps.{swept_right, swept_next, swept_whole, own_next, own_ahead, ahead, word_first, register_past}
use Rattle.moves.specs.Moves.{moved, joined, with_moved}
use Rattle.moves.proofs.Words.{or_none, moved_last}

-- the last word that is left of a register moved down
pub last_of : (m by w : ℕ) (xs : List ℕ) → w + by / 64 + 1 ≡ m → get_or xs (w + by / 64) 0 < 2 ^ 64
    → WordOf (moved by (register 0 m xs)) w (get_or xs (w + by / 64) 0 / 2 ^ (by % 64))
last_of m by w xs h a = moved_last by (word_first m xs (w + by / 64) (omega arith) a) (λ t l. register_past m xs t (omega arith))

-- what is read ahead of a sweep is as it was
pub moved_next : {w : ℕ} {f : ℕ → Bool} {xs ys : List ℕ} → Swept 0 f w xs ys → (m by : ℕ) {x : ℕ} → WordOf (moved by (register 0 m ys)) w x
    → WordOf (moved by (register 0 m xs)) w x
moved_next {w} r m by q = word_by q (λ i h. ahead r 0 m (inr (omega arith)) (64 * w + i + by) (omega arith))

-- a word more, made of that of each register and of the first one moved down
module _ (op : Bool → Bool → Bool → Bool) (d by m : ℕ) {w y z : ℕ} {xs ys : List ℕ} (h : w < m) (l : m ≤ length xs - d) (fits : (i : ℕ) → get_or ys i 0 < 2 ^ 64)
    (b : z < 2 ^ 64) (bits : (i : ℕ) → i < 64 → bit z i ≡ op (bit (get_or ys w 0) i) (bit (get_or ys (d + w) 0) i) (bit y i)) where
  pub made_more : WordOf (moved by (register 0 m xs)) w y → Swept 0 (with_moved op by (register 0 m xs) (register d m xs)) w xs ys
      → Swept 0 (with_moved op by (register 0 m xs) (register d m xs)) (w + 1) xs (set ys w z)
  made_more next r =
      let own = own_next r m h (fits w) in
      let other = own_ahead r d m (inr (omega arith)) h (fits (d + w)) refl in
      swept_next r (omega arith)
      (record { fits = b; bits = λ i k. bits i k ∙ ap₂ (λ (f : Bool → Bool) (v : Bool). f v) (ap₂ op (own.bits i k) (other.bits i k)) (next.bits i k) })

  pub moved_more : WordOf (moved by (register 0 m ys)) w y → Swept 0 (with_moved op by (register 0 m xs) (register d m xs)) w xs ys
      → Swept 0 (with_moved op by (register 0 m xs) (register d m xs)) (w + 1) xs (set ys w z)
  moved_more q r = made_more (moved_next r m by q) r

-- past the words that are left the column moved down is clear
pub clear_word : (by m : ℕ) {w : ℕ} (xs : List ℕ) → m ≤ w + by / 64 → WordOf (moved by (register 0 m xs)) w 0
clear_word by m {w} xs p = no_word (λ i l. register_past m xs (64 * w + i + by) (omega arith))

-- the same of a column joined with itself moved down
pub joined_next : (by m : ℕ) {w y : ℕ} {xs ys : List ℕ} → w < m → m ≤ length xs → get_or ys w 0 < 2 ^ 64 → WordOf (moved by (register 0 m ys)) w y
    → Swept 0 (joined by (register 0 m xs)) w xs ys → Swept 0 (joined by (register 0 m xs)) (w + 1) xs (set ys w (bit_or (get_or ys w 0) y))
joined_next by m h l a q r = swept_next r (omega arith) (or_words (own_next r m h a) (moved_next r m by q))

-- ---- where nothing of the column moved down is left, the words joined with it stay
pub stays : (g : ℕ → Bool) {m k : ℕ} {xs ys : List ℕ} → ((w : ℕ) → get_or xs w 0 < 2 ^ 64) → k ≤ m → ((t : ℕ) → 64 * k ≤ t → g t ≡ false)
    → Swept 0 (λ t. bit_at (register 0 m xs) t || g t) k xs ys → Swept 0 (λ t. bit_at (register 0 m xs) t || g t) m xs ys
stays g {m} {xs = xs} fits h z r =
    swept_right r h λ v a b. or_none g (own_word (register 0 m xs) v (fits (0 + v)) (sym (register_in 0 m xs v b))) (λ i l. z (64 * v + i) (omega arith))

pub joined_done : (by : ℕ) {m k : ℕ} {xs ys : List ℕ} → m ≡ length xs → ((w : ℕ) → get_or xs w 0 < 2 ^ 64) → k ≡ m - by / 64
    → Swept 0 (joined by (register 0 m xs)) k xs ys → Turned (joined by xs) xs ys
joined_done by {m} {xs = xs} e fits g r =
    swept_whole (joined by) {w = m} e (stays (moved by (register 0 m xs)) fits (omega arith) (λ t h. register_past m xs (t + by) (omega arith)) r) (omega arith) (omega arith)

-- moved by nothing
pub moved_none : (by : ℕ) (xs : List ℕ) → by ≡ 0 → ((i : ℕ) → get_or xs i 0 < 2 ^ 64) → Turned (moved by xs) xs xs
moved_none by xs e fits = record { is = pack_is xs (length xs) (moved by xs) refl fits (λ t h. ap (bit_at xs) (omega arith)) }
