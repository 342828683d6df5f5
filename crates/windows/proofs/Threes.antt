-- U, R and `wholeRelease` on words: three registers, of which the second is copied to the third for each part. Assumes nothing.
use mathlib.Core.Path.{◌≡◌, sym, ap, ap₂, ◌∙◌, subst}
use mathlib.Core.Logic.{inl, inr}
use mathlib.Core.Bool.{Bool, not, ◌&&◌, false}
use mathlib.Core.List.{List}
use Prim.Native.Nat.{ℕ, ◌+◌, ◌-◌, ◌*◌, ◌^◌, ◌≤◌, ◌<◌}
use native.Mathlib.Omega.{arith}
use borrow.Rule.Slice.PartMut.{mid_of, put_mid}
use lib.Dec.{ltb}
use lib.ListN.{length, get_or, take}
use Rattle.lists.specs.Bits.{bit_at, pack}
use Rattle.lists.proofs.Columns.{bit_at_past, bit_at_pack, pack_is}
use Rattle.mltl.specs.Mltl.{opposite}
use Rattle.interval.specs.Parts.{parts}
use Rattle.column.specs.Column.{register, lay, Laid, Turned, flipped}
use Rattle.pair.specs.Pair.{room, IntoSecond}
use Rattle.moves.specs.Moves.{moved}
use Rattle.column.proofs.Registers.{length_register, register_lt, register_lay, register_apart, length_lay, lay_ext, lay_lay}
use Rattle.column.proofs.Parts.{part_op, laid_length}
use Rattle.pair.proofs.Pairs.{second, part_pair}
use Rattle.windows.specs.Windows.{third, all, used, later, until_of, release_of, until_later, release_later, Three}
use Rattle.windows.specs.Code.Steps.{Two, width_of, by_parts}
use Rattle.windows.proofs.Lays.{held, lay_held, lay_swap, first_over, two_over, used_length, used_below, used_swap, used_over, used_more}
use Rattle.windows.proofs.Windows.{until_ext, width_more}
use Rattle.windows.proofs.Laws.{Ends, Binary}
use Rattle.windows.proofs.Untils.{two_length, two_at_first, two_at_second}

-- ---- the parts of a window
module _ {W : ℕ → ℕ → ℕ → (ℕ → Bool) → (ℕ → Bool) → ℕ → Bool} {Q : ℕ → (ℕ → Bool) → ℕ → Bool} {step : Bool → Bool → Bool → Bool} {join : Bool → Bool → Bool}
    (laws : Binary W Q step join) where
  -- none yet
  pub parts_none : (d e : ℕ) (ks xs : List ℕ) → Three d e xs → ((w : ℕ) → get_or xs w 0 < 2 ^ 64) → xs ≡ by_parts W Q d e 0 ks xs
  parts_none d e ks xs h k =
      let m : ℕ = third e xs in
      let i = h.low in
      let g : ℕ → Bool = bit_at (register 0 m xs) in
      let f : ℕ → Bool = bit_at (register d m xs) in
      lay_held 0 m (W (64 * m) 0 (width_of 0 ks) f g) xs
      (pack_is (register 0 m xs) m _ (length_register 0 m xs (omega arith)) (register_lt 0 m xs k) (λ t l. sym (laws.now (64 * m) f g t l)))

  -- one more
  pub parts_more : (d e : ℕ) (ks : List ℕ) (i : ℕ) (xs : List ℕ) {ys : List ℕ} → i < length ks
      → ys ≡ lay 0 (third e xs) (W (64 * third e xs) 0 ((2 ^ get_or ks i 0 - 1) + width_of i ks) (bit_at (register d (third e xs) xs)) (bit_at (register 0 (third e xs) xs)))
      (lay e (third e xs) (Q (2 ^ get_or ks i 0) (bit_at (register d (third e xs) xs))) xs)
      → ys ≡ by_parts W Q d e (i + 1) ks xs
  parts_more d e ks i xs h q =
      let m : ℕ = third e xs in
      q
      ∙ ap₂ (λ (w : ℕ) (z : List ℕ). lay 0 m (W (64 * m) 0 w (bit_at (register d m xs)) (bit_at (register 0 m xs))) z)
      (sym (width_more ks i h)) (sym (used_more Q e m ks i (bit_at (register d m xs)) xs h))

  -- what a turn does to s, of which it lends the part from d on
  module _ {d e : ℕ} {s₀ : List ℕ} (h : Three d e s₀) {s ys : List ℕ} (v : ℕ) (ks : List ℕ)
      (inv : s ≡ lay 0 (third e s₀) (W (64 * third e s₀) 0 v (bit_at (register d (third e s₀) s₀)) (bit_at (register 0 (third e s₀) s₀)))
      (used Q e (third e s₀) ks (bit_at (register d (third e s₀) s₀)) s₀))
      (p : IntoSecond (λ x y. bit_at y) (e - d) (mid_of d (length s - d) s) ys) where
    abbrev m : ℕ
    m = third e s₀

    abbrev f : ℕ → Bool
    f = bit_at (register d m s₀)

    abbrev g : ℕ → Bool
    g = bit_at (register 0 m s₀)

    abbrev U : ℕ → Bool
    U = W (64 * m) 0 v f g

    abbrev t : List ℕ
    t = put_mid d (length s - d) s ys

    fits : e + m ≤ length s₀
    fits = let i = h.low in omega arith

    ends : Ends (64 * m) g
    ends i k = bit_at_past (register 0 m s₀) i (omega (arith, length_register 0 m s₀ (omega (arith, fits))))

    base : length (used Q e m ks f s₀) ≡ length s₀
    base = used_length Q e m ks f s₀ fits

    long : length s ≡ length s₀
    long = ap length inv ∙ length_lay 0 m U (used Q e m ks f s₀) (omega (arith, base, fits)) ∙ base

    own_first : bit_at (register 0 m s) ≡ U
    own_first =
        held m U (ap (register 0 m) inv ∙ register_lay 0 m U (used Q e m ks f s₀) (omega (arith, base, fits))) (laws.ends (64 * m) v f g ends)

    own_second : register d m s ≡ register d m s₀
    own_second =
        let i = h.low in let j = h.high in let k = h.apart in
        ap (register d m) inv ∙ register_apart 0 m U (used Q e m ks f s₀) (omega (arith, base, fits)) d m (omega (arith, base)) (inr (omega arith))
        ∙ used_below Q e m ks f s₀ fits d m (omega arith)

    fit : room (e - d) (mid_of d (length s - d) s) ≡ m
    fit = let i = h.low in let j = h.high in let k = h.apart in omega (arith, long, length_register d (length s - d) s (omega (arith, long)))

    copied : Laid e m (bit_at (register d m s)) s t
    copied =
        let i = h.low in
        let j = h.high in
        let k = h.apart in
        part_pair (λ x y. bit_at y) second d (length s - d) m s {i = e} {j = d} fit (omega (arith, long)) (omega (arith, long)) (omega arith) (omega arith) p

    pub turn_length : length t ≡ length s₀
    turn_length = laid_length (omega (arith, long, fits)) copied ∙ long

    left : bit_at (register e m t) ≡ f
    left =
        let i = h.low in
        let k = h.apart in
        held m (bit_at (register d m s)) (ap (register e m) copied.is ∙ register_lay e m (bit_at (register d m s)) s (omega (arith, long, fits)))
        (λ j l. bit_at_past (register d m s) j (omega (arith, length_register d m s (omega (arith, long))))) ∙ ap bit_at own_second

    right : bit_at (register 0 m t) ≡ U
    right =
        let i = h.low in let j = h.high in let k = h.apart in
        ap bit_at (ap (register 0 m) copied.is ∙ register_apart e m (bit_at (register d m s)) s (omega (arith, long, fits)) 0 m (omega (arith, long)) (inl (omega arith))) ∙ own_first

    pub turn_is : (u k : ℕ) {us : List ℕ}
        → Two e (third e t) (W (64 * third e t) 0 u (bit_at (register e (third e t) t)) (bit_at (register 0 (third e t) t))) (Q (2 ^ k) (bit_at (register e (third e t) t))) t us
        → us ≡ lay 0 m (W (64 * m) 0 (u + v) f g) (lay e m (Q (2 ^ k) f) s₀)
    turn_is u k {us} q =
        let i = h.low in
        let j = h.high in
        let o = h.apart in
        let Z : ℕ → Bool = W (64 * m) 0 (u + v) f g in
        let A : ℕ → Bool = Q (2 ^ k) f in
        let r : Two e m (W (64 * m) 0 u (bit_at (register e m t)) (bit_at (register 0 m t))) (Q (2 ^ k) (bit_at (register e m t))) t us =
        subst (λ (n : ℕ). Two e n (W (64 * n) 0 u (bit_at (register e n t)) (bit_at (register 0 n t))) (Q (2 ^ k) (bit_at (register e n t))) t us) (ap (λ (n : ℕ). n - e) turn_length) q
        in
        r.is
        ∙ ap₂ (λ (x y : ℕ → Bool). lay 0 m (W (64 * m) 0 u x y) (lay e m (Q (2 ^ k) x) t)) left right
        ∙ ap (λ (c : ℕ → Bool). lay 0 m c (lay e m A t)) (laws.split (64 * m) u v f g)
        ∙ ap (λ (z : List ℕ). lay 0 m Z (lay e m A z)) copied.is
        ∙ ap (lay 0 m Z) (lay_lay e m (bit_at (register d m s)) s (omega (arith, long, fits)) A)
        ∙ ap (λ (z : List ℕ). lay 0 m Z (lay e m A z)) inv
        ∙ first_over e m (used Q e m ks f s₀) (omega arith) (omega (arith, base, fits)) Z A U
        ∙ ap (lay 0 m Z) (used_over Q e m ks f s₀ fits A)

-- ---- both of two registers turned, each as a part that is lent
pub pair_parts : (op : List ℕ → ℕ → Bool) (d e : ℕ) (s : List ℕ) {ys zs : List ℕ} → Three d e s
    → Turned (op (mid_of 0 (third e s - 0) s)) (mid_of 0 (third e s - 0) s) ys
    → Turned (op (mid_of d (d + third e s - d) (put_mid 0 (third e s - 0) s ys))) (mid_of d (d + third e s - d) (put_mid 0 (third e s - 0) s ys)) zs
    → Two d (third e s) (op (register 0 (third e s) s)) (op (register d (third e s) s)) s (put_mid d (d + third e s - d) (put_mid 0 (third e s - 0) s ys) zs)
pair_parts op d e s {ys} h p q =
    let i = h.low in
    let j = h.high in
    let k = h.apart in
    let m : ℕ = third e s in
    let t : List ℕ = put_mid 0 (m - 0) s ys in
    let f : ℕ → Bool = op (register 0 m s) in
    let r : Laid 0 m f s t = part_op op 0 (m - 0) m s (omega arith) (omega arith) p in
    let long : length t ≡ length s = laid_length (omega arith) r in
    let o = part_op op d (d + m - d) m t (omega arith) (omega arith) q in
    let apart : register d m t ≡ register d m s = ap (register d m) r.is ∙ register_apart 0 m f s (omega arith) d m (omega arith) (inr (omega arith)) in
    record {
      is =
          o.is ∙ ap (λ (c : List ℕ). lay d m (op c) t) apart ∙ ap (lay d m (op (register d m s))) r.is
          ∙ lay_swap 0 m f d m (op (register d m s)) s (omega arith) (omega arith);
    }

-- ---- both moved down, and then by parts
pub later_is : {W : ℕ → ℕ → ℕ → (ℕ → Bool) → (ℕ → Bool) → ℕ → Bool} {Q : ℕ → (ℕ → Bool) → ℕ → Bool} {step : Bool → Bool → Bool → Bool} {join : Bool → Bool → Bool}
    → Binary W Q step join → (d e lo hi count : ℕ) (ks : List ℕ) {xs ys zs : List ℕ} → Three d e xs → lo ≤ hi → width_of count ks ≡ hi - lo → take count ks ≡ parts (hi - lo)
    → Two d (third e xs) (moved lo (register 0 (third e xs) xs)) (moved lo (register d (third e xs) xs)) xs ys → zs ≡ by_parts W Q d e count ks ys
    → zs ≡ later W Q d e lo hi xs
later_is {W} {Q} laws d e lo hi count ks {xs} {ys} h le wide same r q =
    let i = h.low in
    let j = h.high in
    let o = h.apart in
    let m : ℕ = third e xs in
    let v : ℕ = width_of count ks in
    let a : List ℕ = register d m xs in
    let b : List ℕ = register 0 m xs in
    let A : ℕ → Bool = moved lo a in
    let B : ℕ → Bool = moved lo b in
    let Z : ℕ → Bool = W (64 * m) lo hi (bit_at a) (bit_at b) in
    let P : List ℕ = parts (hi - lo) in
    let low : m ≤ d = omega arith in
    let fit : d + m ≤ length xs = omega arith in
    let last : e + m ≤ length xs = omega arith in
    let ends : (at : ℕ) → at + m ≤ length xs → (t : ℕ) → 64 * m ≤ t → bit_at (register at m xs) t ≡ false =
    λ at j t k. bit_at_past (register at m xs) t (omega (arith, length_register at m xs j))
    in
    let left : bit_at (register d m ys) ≡ A = held m A (two_at_second r low fit) (λ t k. ends d fit (t + lo) (omega arith)) in
    let right : bit_at (register 0 m ys) ≡ B = held m B (two_at_first r low fit) (λ t k. ends 0 (omega arith) (t + lo) (omega arith)) in
    let inner : length (lay d m A xs) ≡ length xs = length_lay d m A xs fit in
    let under : length (used Q e m P A xs) ≡ length xs = used_length Q e m P A xs last in
    q
    ∙ ap (λ (n : ℕ). lay 0 n (W (64 * n) 0 v (bit_at (register d n ys)) (bit_at (register 0 n ys))) (used Q e n (take count ks) (bit_at (register d n ys)) ys))
    (ap (λ (n : ℕ). n - e) (two_length r low fit))
    ∙ ap₂ (λ (x y : ℕ → Bool). lay 0 m (W (64 * m) 0 v x y) (used Q e m (take count ks) x ys)) left right
    ∙ lay_ext 0 m (W (64 * m) 0 v A B) Z (used Q e m (take count ks) A ys) (λ t k.
    laws.moved (64 * m) lo v (bit_at a) (bit_at b) (ends 0 (omega arith)) t ∙ ap (λ (w : ℕ). W (64 * m) lo w (bit_at a) (bit_at b) t) (omega (arith, wide)))
    ∙ ap (λ (l : List ℕ). lay 0 m Z (used Q e m l A ys)) same
    ∙ ap (λ (z : List ℕ). lay 0 m Z (used Q e m P A z)) r.is
    ∙ ap (lay 0 m Z) (used_swap Q e m P A (lay d m A xs) (omega (arith, inner)) 0 m B (omega arith) ∙ ap (lay 0 m B) (used_swap Q e m P A xs last d m A (omega arith)))
    ∙ lay_lay 0 m B (lay d m A (used Q e m P A xs)) (omega (arith, under, length_lay d m A (used Q e m P A xs) (omega (arith, under)))) Z

-- ---- both flipped, then until, then flipped
pub release_later_is : (d e lo hi n : ℕ) {xs ys zs us : List ℕ} → Three d e xs
    → Two d (third e xs) (flipped n (register 0 (third e xs) xs)) (flipped n (register d (third e xs) xs)) xs ys → zs ≡ until_later d e lo hi ys
    → Laid 0 (third e xs) (flipped n (register 0 (third e xs) zs)) zs us → us ≡ release_later d e lo hi n xs
unfolding until_later release_later opposite
release_later_is d e lo hi n {xs} {ys} {zs} h r q o =
    let i = h.low in
    let j = h.high in
    let k = h.apart in
    let m : ℕ = third e xs in
    let a : List ℕ = register d m xs in
    let b : List ℕ = register 0 m xs in
    let A : ℕ → Bool = flipped n a in
    let B : ℕ → Bool = flipped n b in
    let c : List ℕ = pack m A in
    let M : ℕ → Bool = moved lo c in
    let U : ℕ → Bool = until_of lo hi m c (pack m B) in
    let R : ℕ → Bool = release_of n lo hi m a b in
    let P : List ℕ = parts (hi - lo) in
    let low : m ≤ d = omega arith in
    let fit : d + m ≤ length xs = omega arith in
    let last : e + m ≤ length xs = omega arith in
    let long : length ys ≡ length xs = two_length r low fit in
    let inner : length (lay d m A xs) ≡ length xs = length_lay d m A xs fit in
    let under : length (used all e m P M xs) ≡ length xs = used_length all e m P M xs last in
    let below : length (used all e m P M ys) ≡ length ys = used_length all e m P M ys (omega (arith, long)) in
    let rest : length (lay d m M (used all e m P M ys)) ≡ length ys = length_lay d m M (used all e m P M ys) (omega (arith, below, long)) ∙ below in
    let whole : zs ≡ lay 0 m U (lay d m M (used all e m P M ys)) =
    q
    ∙ ap (λ (w : ℕ). lay 0 w (until_of lo hi w (register d w ys) (register 0 w ys)) (lay d w (moved lo (register d w ys)) (used all e w P (moved lo (register d w ys)) ys)))
    (ap (λ (w : ℕ). w - e) long)
    ∙ ap₂ (λ (x y : List ℕ). lay 0 m (until_of lo hi m x y) (lay d m (moved lo x) (used all e m P (moved lo x) ys))) (two_at_second r low fit) (two_at_first r low fit)
    in
    let first : register 0 m zs ≡ pack m U = ap (register 0 m) whole ∙ register_lay 0 m U (lay d m M (used all e m P M ys)) (omega (arith, rest, long)) in
    o.is
    ∙ lay_ext 0 m (flipped n (register 0 m zs)) R zs (λ t l.
    ap (λ (x : Bool). ltb t n && not x)
    (ap (λ (w : List ℕ). bit_at w t) first ∙ bit_at_pack m U t l
    ∙ until_ext (64 * m) lo hi (bit_at c) (bit_at (pack m B)) A B (λ u z. bit_at_pack m A u z) (λ u z. bit_at_pack m B u z) t))
    ∙ ap (lay 0 m R) whole
    ∙ lay_lay 0 m U (lay d m M (used all e m P M ys)) (omega (arith, rest, long)) R
    ∙ ap (λ (z : List ℕ). lay 0 m R (lay d m M (used all e m P M z))) r.is
    ∙ ap (λ (z : List ℕ). lay 0 m R (lay d m M z))
    (used_swap all e m P M (lay d m A xs) (omega (arith, inner)) 0 m B (omega arith) ∙ ap (lay 0 m B) (used_swap all e m P M xs last d m A (omega arith)))
    ∙ two_over d m (used all e m P M xs) low (omega (arith, under)) R M B A
