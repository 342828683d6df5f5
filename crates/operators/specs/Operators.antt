-- What each operator leaves in a list of words: the registers of its operands at a and c, its result's at b, m words of each.
use Rattle.std.specs.Prelude.{◌≡◌, Bool, false, ◌&&◌, ◌||◌, List, ℕ, ◌+◌, ◌-◌, ◌*◌, ◌≤◌, min, leb, length}
use Rattle.limits.specs.Limits.{register_words}
use Rattle.lists.specs.Bits.{bit_at, pack, below}
use Rattle.mltl.specs.Mltl.{eventually, opposite}
use Rattle.mltl.specs.Known.{whole, whole_release}
use Rattle.interval.specs.Parts.{parts}
use Rattle.column.specs.Column.{register, lay, filled, flipped, Turned}
use Rattle.pair.specs.Pair.{both}
use Rattle.moves.specs.Moves.{moved}
use Rattle.signal.specs.Signal.{signal_column}
use Rattle.windows.specs.Windows.{until_of, release_of, third, Three, all, any, used}

-- ---- which places fit: each register ends before the result's begins, and that one within the n words of the list
abbrev pub one_fits : ℕ → ℕ → ℕ → ℕ → Bool
one_fits a b m n = leb (a + m) b && leb (b + m) n

-- the same as a statement
pub record Operand (a b m : ℕ) (xs : List ℕ) : Type 0 where
  pub before : a + m ≤ b
  pub enough : b + m ≤ length xs

abbrev pub two_fit : ℕ → ℕ → ℕ → ℕ → ℕ → Bool
two_fit a c b m n = one_fits a b m n && leb (c + m) b

-- for U and R two more follow: at l the copy of the left operand, at w the one to work in
abbrev pub four_fit : ℕ → ℕ → ℕ → ℕ → ℕ → ℕ → ℕ → Bool
four_fit a c b l w m n = two_fit a c b m l && leb (l + m) w && leb (w + m) n

-- for a copy the operand may lie on either side of the result
abbrev pub copy_fits : ℕ → ℕ → ℕ → ℕ → Bool
copy_fits a b m n = one_fits a b m n || one_fits b a m n

-- ---- no operand, or registers bit by bit
-- signal i of the states; no more words than a register has are written
abbrev pub signal_laid : ℕ → ℕ → List ℕ → ℕ → List ℕ → List ℕ
signal_laid b m states i xs = lay b (min register_words m) (signal_column i states) xs

abbrev pub fill_laid : ℕ → ℕ → ℕ → List ℕ → List ℕ
fill_laid b m n xs = lay b m (filled n) xs

abbrev pub copy_laid : ℕ → ℕ → ℕ → List ℕ → List ℕ
copy_laid a b m xs = lay b m (bit_at (register a m xs)) xs

abbrev pub not_laid : ℕ → ℕ → ℕ → ℕ → List ℕ → List ℕ
not_laid a b m n xs = lay b m (flipped n (register a m xs)) xs

abbrev pub and_laid : ℕ → ℕ → ℕ → ℕ → List ℕ → List ℕ
and_laid a c b m xs = lay b m (both ◌&&◌ (register a m xs) (register c m xs)) xs

abbrev pub or_laid : ℕ → ℕ → ℕ → ℕ → List ℕ → List ℕ
or_laid a c b m xs = lay b m (both ◌||◌ (register a m xs) (register c m xs)) xs

-- ---- F and G
-- unless the interval is refused, each list that is made of xs is that of the column op of its bits
abbrev pub Turns : (List ℕ → List ℕ → Type 0) → Bool → (ℕ → (ℕ → Bool) → ℕ → Bool) → Type 0
Turns Makes refused op = refused ≡ false → (xs ys : List ℕ) → Makes xs ys → Turned (op (length xs) (bit_at xs)) xs ys

abbrev pub some_laid : ℕ → ℕ → ℕ → ℕ → ℕ → List ℕ → List ℕ
some_laid a b m lo hi xs = lay b m (eventually (64 * m) lo hi (bit_at (register a m xs))) xs

abbrev pub all_laid : ℕ → ℕ → ℕ → ℕ → ℕ → ℕ → List ℕ → List ℕ
all_laid a b m lo hi n xs = lay b m (below n (opposite (eventually (64 * m) lo hi (flipped n (register a m xs))))) xs

-- every bit of an interval, those past the words included, which are clear
abbrev pub whole_laid : ℕ → ℕ → ℕ → ℕ → ℕ → List ℕ → List ℕ
whole_laid a b m lo hi xs = lay b m (whole lo hi (bit_at (register a m xs))) xs

-- ---- U and R
-- the column f in the register at b, g in that at l, and that at w used for the parts ks of a window, by Q, all or any of its bits
unfoldable pub worked : (ℕ → (ℕ → Bool) → ℕ → Bool) → ℕ → ℕ → ℕ → ℕ → List ℕ → (ℕ → Bool) → (ℕ → Bool) → List ℕ → List ℕ
worked Q b l w m ks f g xs = lay b m f (lay l m g (used Q w m ks g xs))

-- unless the interval is refused, such registers at 0, d and e of a list become the columns op of both operands' bits and `moves` of the left one's, and the last
-- is used
abbrev pub Reaches : Bool → (ℕ → (ℕ → Bool) → ℕ → Bool) → (ℕ → (ℕ → Bool) → (ℕ → Bool) → ℕ → Bool) → (ℕ → (ℕ → Bool) → ℕ → Bool) → List ℕ → ℕ → ℕ → List ℕ → List ℕ → Type 0
Reaches refused Q op moves ks d e xs ys =
    refused ≡ false → Three d e xs
    → ys ≡ worked Q 0 d e (third e xs) ks (op (third e xs) (bit_at (register d (third e xs) xs)) (bit_at (register 0 (third e xs) xs)))
    (moves (third e xs) (bit_at (register d (third e xs) xs))) xs

-- the copy of the left operand ends as moved down by lo
abbrev pub until_laid : ℕ → ℕ → ℕ → ℕ → ℕ → ℕ → ℕ → ℕ → List ℕ → List ℕ
until_laid a c b l w m lo hi xs =
    worked all b l w m (parts (hi - lo)) (until_of lo hi m (register a m xs) (register c m xs)) (moved lo (register a m xs)) xs

-- and for R as flipped below n, and moved down
abbrev pub release_laid : ℕ → ℕ → ℕ → ℕ → ℕ → ℕ → ℕ → ℕ → ℕ → List ℕ → List ℕ
release_laid a c b l w m lo hi n xs =
    worked all b l w m (parts (hi - lo)) (release_of n lo hi m (register a m xs) (register c m xs)) (moved lo (pack m (flipped n (register a m xs)))) xs

-- R over the whole interval, bits past the words included, which are clear
abbrev pub whole_release_laid : ℕ → ℕ → ℕ → ℕ → ℕ → ℕ → ℕ → ℕ → List ℕ → List ℕ
whole_release_laid a c b l w m lo hi xs =
    worked any b l w m (parts (hi - lo)) (whole_release lo hi (bit_at (register a m xs)) (bit_at (register c m xs))) (moved lo (register a m xs)) xs
