-- F, G, U and R on registers: what each leaves in the words of its slice.
use Rattle.std.specs.Prelude.{Bool, ◌||◌, List, ℕ, ◌+◌, ◌-◌, ◌*◌, ◌^◌, ◌≤◌, ltb, eqb, length, get_or}
use Rattle.lists.specs.Bits.{bit_at, pack, below}
use Rattle.lists.specs.Choice.{pick}
use Rattle.mltl.specs.Mltl.{some_tick, every_tick, eventually, until, opposite}
use Rattle.mltl.specs.Known.{whole, whole_release}
use Rattle.interval.specs.Parts.{parts}
use Rattle.column.specs.Column.{register, lay, flipped}
use Rattle.moves.specs.Moves.{moved}

-- ---- F and G: one register, the whole list
-- how many bits a list of words has
abbrev pub span : List ℕ → ℕ
span xs = 64 * length xs

-- bit t is whether one of the bits from t + lo to t + hi is set
unfoldable pub some_later : ℕ → ℕ → List ℕ → List ℕ
some_later lo hi xs = pack (length xs) (eventually (span xs) lo hi (bit_at xs))

-- bit t is whether all of those that lie below n are set; from n on every bit is clear
unfoldable pub all_later : ℕ → ℕ → ℕ → List ℕ → List ℕ
all_later lo hi n xs = pack (length xs) (below n (opposite (eventually (span xs) lo hi (flipped n xs))))

-- bit t is whether all of the bits from t + lo to t + hi are set, those past the words included, which are clear
unfoldable pub whole_later : ℕ → ℕ → List ℕ → List ℕ
whole_later lo hi xs = pack (length xs) (whole lo hi (bit_at xs))

-- ---- U and R: three registers, at 0 the right operand, at d the left one, and at e one to work in
-- each has as many words as there are from e on
abbrev pub third : ℕ → List ℕ → ℕ
third e xs = length xs - e

-- in a list of n words one of them does not end before the next begins, or the list ends before e
abbrev pub misplaced : ℕ → ℕ → ℕ → Bool
misplaced d e n = ltb e d || ltb n e || ltb d (n - e) || ltb (e - d) (n - e)

-- as a statement: none of them overlaps the next
pub record Three (d e : ℕ) (xs : List ℕ) : Type 0 where
  pub low : e ≤ length xs
  pub high : length xs ≤ e + d
  pub apart : d + length xs ≤ e + e

-- the columns of U and R by the words of their operands a and b, m of each
abbrev pub until_of : ℕ → ℕ → ℕ → List ℕ → List ℕ → ℕ → Bool
until_of lo hi m a b = until (64 * m) lo hi (bit_at a) (bit_at b)

abbrev pub release_of : ℕ → ℕ → ℕ → ℕ → List ℕ → List ℕ → ℕ → Bool
release_of n lo hi m a b = below n (opposite (until (64 * m) lo hi (flipped n a) (flipped n b)))

-- whether all of the m bits of f from t on are set; whether one of them is
unfoldable pub all : ℕ → (ℕ → Bool) → ℕ → Bool
all m f t = every_tick t (t + m) f

unfoldable pub any : ℕ → (ℕ → Bool) → ℕ → Bool
any m f t = some_tick t (t + m) f

-- the third register after the parts ks of a window, where the second holds f: as it was if there is no part; otherwise, k the last part, its bit t is
-- whether Q, all or any, of the 2 ^ k bits of f from t on are set
abbrev pub used : (ℕ → (ℕ → Bool) → ℕ → Bool) → ℕ → ℕ → List ℕ → (ℕ → Bool) → List ℕ → List ℕ
used Q e m ks f xs = pick (eqb (length ks) 0) xs (lay e m (Q (2 ^ get_or ks (length ks - 1) 0) f) xs)

-- the first register holds W of the left and the right operand, the second the left operand moved down by lo, and the third was used
abbrev pub later : (ℕ → ℕ → ℕ → (ℕ → Bool) → (ℕ → Bool) → ℕ → Bool) → (ℕ → (ℕ → Bool) → ℕ → Bool) → ℕ → ℕ → ℕ → ℕ → List ℕ → List ℕ
later W Q d e lo hi xs =
    let m : ℕ = third e xs in
    let a : List ℕ = register d m xs in
    let b : List ℕ = register 0 m xs in
    lay 0 m (W (64 * m) lo hi (bit_at a) (bit_at b)) (lay d m (moved lo a) (used Q e m (parts (hi - lo)) (moved lo a) xs))

-- U's column; and that of R over the whole interval, ticks past the words included
unfoldable pub until_later : ℕ → ℕ → ℕ → ℕ → List ℕ → List ℕ
until_later d e lo hi xs = later until all d e lo hi xs

unfoldable pub whole_release_later : ℕ → ℕ → ℕ → ℕ → List ℕ → List ℕ
whole_release_later d e lo hi xs = later (λ n. whole_release) any d e lo hi xs

-- R, whose operands are flipped below n first
unfoldable pub release_later : ℕ → ℕ → ℕ → ℕ → ℕ → List ℕ → List ℕ
release_later d e lo hi n xs =
    let m : ℕ = third e xs in
    let a : List ℕ = register d m xs in
    let b : List ℕ = register 0 m xs in
    let c : List ℕ = pack m (flipped n a) in
    lay 0 m (release_of n lo hi m a b) (lay d m (moved lo c) (used all e m (parts (hi - lo)) (moved lo c) xs))
