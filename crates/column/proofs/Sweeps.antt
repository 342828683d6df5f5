-- Sweeps: a register's words are written one by one, from the first on. Assumes nothing.
use mathlib.Core.Path.{◌≡◌, refl, sym, ap, ◌∙◌, subst}
use mathlib.Core.Logic.{◌⊎◌, inr, ⊎_elim}
use mathlib.Core.Bool.{Bool, false}
use mathlib.Core.List.{List}
use Prim.Native.Nat.{ℕ, zero, suc, ◌+◌, ◌-◌, ◌*◌, ◌/◌, ◌^◌, ◌≤◌, ◌<◌}
use native.Mathlib.Nat.{zero-add, le_antisymm}
use native.Mathlib.Omega.{arith}
use lib.ListN.{length, get_or, set, drop, replicate, length-set, length-take, length-replicate}
use lib.Seq.{take_all, ext_get_or, get_or-set_same, get_or-set_other, length-paste, paste-zero}
use Rattle.lists.specs.Bits.{bit, bit_at, word_at, pack}
use Rattle.lists.proofs.Tests.{lt_or_le}
use Rattle.lists.proofs.Bits.{bit_none}
use Rattle.lists.proofs.Sequences.{get_or_free}
use Rattle.lists.proofs.Columns.{length_pack, get_or_pack, word_bit, word_lt, word_is, bit_at_same, bit_at_past}
use Rattle.column.specs.Column.{filled, masked, WordOf, Swept, Laid, Turned, lay, register}
use Rattle.column.proofs.Registers.{paste_low, paste_in, paste_high, register_in, register_out}
use Rattle.column.proofs.Words.{own_word, op_words}

pub swept_none : {at : ℕ} {f : ℕ → Bool} {xs : List ℕ} → Swept at f 0 xs xs
swept_none = record { long = refl; laid = λ w a. absurd (omega arith); low = λ i h. refl; high = λ i h. refl }

module _ {at w : ℕ} {f : ℕ → Bool} {xs ys : List ℕ} (r : Swept at f w xs ys) where
  -- a word more
  pub swept_more : {x : ℕ} {zs : List ℕ} → at + w < length xs → zs ≡ set ys (at + w) x → WordOf f w x → Swept at f (w + 1) xs zs
  swept_more {x} h e q =
      let kept : (i : ℕ) → (i ≡ at + w → ⊥) → get_or (set ys (at + w) x) i 0 ≡ get_or ys i 0 = λ i d. get_or-set_other ys (at + w) i x 0 d in
      rw e
      (record {
        long = length-set ys (at + w) x ∙ r.long;
        laid = λ v c.
            ⊎_elim
            (λ (l : v < w). kept (at + v) (λ z. omega arith) ∙ r.laid v l)
            (λ (l : w ≤ v).
            let s : v ≡ w = omega arith in
            rw s (get_or-set_same ys (at + w) x 0 (omega (arith, r.long)) ∙ word_is x w f q.fits q.bits))
            (lt_or_le v w);
        low = λ i b. kept i (λ z. omega arith) ∙ r.low i b;
        high = λ i b. kept i (λ z. omega arith) ∙ r.high i (omega arith);
      })

  pub swept_to : {m : ℕ} → w ≡ m → Swept at f m xs ys
  swept_to e = subst (λ (n : ℕ). Swept at f n xs ys) e r

  -- the words up to m were right before
  pub swept_right : {m : ℕ} → w ≤ m → ((v : ℕ) → w ≤ v → v < m → WordOf f v (get_or xs (at + v) 0)) → Swept at f m xs ys
  swept_right a p =
      record {
        long = r.long;
        laid = λ v c.
            ⊎_elim (λ (l : v < w). r.laid v l)
            (λ (l : w ≤ v). r.high (at + v) (omega arith) ∙ word_is _ v f (p v l c).fits (p v l c).bits) (lt_or_le v w);
        low = r.low;
        high = λ i b. r.high i (omega arith);
      }

  -- a word was written
  pub set_long : (i x : ℕ) → length (set ys i x) ≡ length xs
  set_long i x = length-set ys i x ∙ r.long

-- the register goes on with words that were written from word a of it on
pub swept_on : {at a b k : ℕ} {f g : ℕ → Bool} {xs ys zs : List ℕ} → Swept at f a xs ys → b ≡ at + a → Swept b g k ys zs
    → ((t : ℕ) → t < 64 * k → g t ≡ f (64 * a + t)) → Swept at f (a + k) xs zs
swept_on {at} {a} {b} {k} {f} {g} {zs = zs} r p s e =
    record {
      long = s.long ∙ r.long;
      laid = λ w h.
          ⊎_elim
          (λ (l : w < a). s.low (at + w) (omega arith) ∙ r.laid w l)
          (λ (l : a ≤ w).
          let v : at + w ≡ b + (w - a) = omega arith in
          ap (λ (i : ℕ). get_or zs i 0) v ∙ s.laid (w - a) (omega arith)
          ∙ word_is (word_at g (w - a)) w f (word_lt g (w - a)) (λ i l. word_bit g (w - a) i l ∙ e (64 * (w - a) + i) (omega arith) ∙ ap f (omega arith)))
          (lt_or_le w a);
      low = λ i h. s.low i (omega arith) ∙ r.low i h;
      high = λ i h. s.high i (omega arith) ∙ r.high i (omega arith);
    }

-- a sweep from the first word to the last
module _ {at m : ℕ} {f : ℕ → Bool} {xs ys : List ℕ} (r : Swept at f m xs ys) where
  some_laid_lem : at + m ≤ length xs → Laid at m f xs ys
  some_laid_lem h =
      let whole : m ≤ length (pack m f) = omega (arith, length_pack m f) in
      let long : length (lay at m f xs) ≡ length xs = length-paste xs at (pack m f) m h whole in
      record {
        is = ext_get_or 0 ys (lay at m f xs) (r.long ∙ sym long) λ i l.
            ⊎_elim
            (λ (a : i < at). r.low i (omega arith) ∙ sym (paste_low xs at (pack m f) m (omega arith) whole i a))
            (λ (a : at ≤ i).
            ⊎_elim
            (λ (b : i < at + m).
            let e : i ≡ at + (i - at) = omega arith in
            rw e (r.laid (i - at) (omega arith) ∙ sym (paste_in xs at (pack m f) m (omega arith) whole (i - at) (omega arith) ∙ get_or_pack m f (i - at) (omega arith))))
            (λ (b : at + m ≤ i). r.high i b ∙ sym (paste_high xs at (pack m f) m (omega arith) whole i b))
            (lt_or_le i (at + m)))
            (lt_or_le i at);
      }

laid_by : (at m : ℕ) {f : ℕ → Bool} {xs ys : List ℕ} → Swept at f m xs ys → (0 < m → at + m ≤ length xs) → Laid at m f xs ys
laid_by at zero {f} {xs} {ys} r h =
    record {
      is =
          ext_get_or 0 ys xs r.long (λ i l. ⊎_elim (λ (a : i < at). r.low i (omega arith)) (λ (a : at ≤ i). r.high i (omega arith)) (lt_or_le i at))
          ∙ paste-zero xs at (pack 0 f);
    }
laid_by at (suc m) r h = some_laid_lem r (h (omega arith))

pub swept_laid : {at m : ℕ} {f : ℕ → Bool} {xs ys : List ℕ} → Swept at f m xs ys → (0 < m → at + m ≤ length xs) → Laid at m f xs ys
swept_laid {at} {m} = laid_by at m

pub swept_turned : {m : ℕ} {f : ℕ → Bool} {xs ys : List ℕ} → Swept 0 f m xs ys → m ≡ length xs → Turned f xs ys
swept_turned {m} {f} {xs} {ys} r e =
    record {
      is = ext_get_or 0 ys (pack (length xs) f) (r.long ∙ sym (length_pack (length xs) f)) λ i l.
          let h : i < length xs = omega (arith, r.long) in
          ap (λ (k : ℕ). get_or ys k 0) (sym (zero-add i)) ∙ r.laid i (omega arith) ∙ sym (get_or_pack (length xs) f i h);
    }

-- what lies ahead of a sweep, in its register or in another that it does not reach first, is as it was
module _ {at w : ℕ} {f : ℕ → Bool} {xs ys : List ℕ} (r : Swept at f w xs ys) (bt m : ℕ) (apart : (bt + m ≤ at) ⊎ (at ≤ bt)) where
  kept : (i : ℕ) → w ≤ i → i < m → get_or ys (bt + i) 0 ≡ get_or xs (bt + i) 0
  kept i a b = ⊎_elim (λ (l : bt + m ≤ at). r.low (bt + i) (omega arith)) (λ (l : at ≤ bt). r.high (bt + i) (omega arith)) apart

  pub ahead : (t : ℕ) → 64 * w ≤ t → bit_at (register bt m ys) t ≡ bit_at (register bt m xs) t
  ahead t h =
      bit_at_same (register bt m ys) (register bt m xs) t
      (⊎_elim
      (λ (l : t / 64 < m). register_in bt m ys (t / 64) l ∙ kept (t / 64) (omega arith) l ∙ sym (register_in bt m xs (t / 64) l))
      (λ (l : m ≤ t / 64). register_out bt m ys (t / 64) l ∙ sym (register_out bt m xs (t / 64) l))
      (lt_or_le (t / 64) m))

  pub own_ahead : {x : ℕ} → w < m → x < 2 ^ 64 → x ≡ get_or ys (bt + w) 0 → WordOf (bit_at (register bt m xs)) w x
  own_ahead h a e = own_word (register bt m xs) w a (e ∙ kept w (omega arith) h ∙ sym (register_in bt m xs w h))

-- ---- a sweep of the list's first words
pub swept_next : {w x : ℕ} {f : ℕ → Bool} {xs ys : List ℕ} → Swept 0 f w xs ys → w < length xs → WordOf f w x → Swept 0 f (w + 1) xs (set ys w x)
swept_next {w = w} {x = x} {ys = ys} r h q = swept_more r (omega arith) (ap (λ (i : ℕ). set ys i x) (sym (zero-add w))) q

-- what is read of the first register ahead of a sweep
pub own_next : {w : ℕ} {f : ℕ → Bool} {xs ys : List ℕ} → Swept 0 f w xs ys → (m : ℕ) → w < m → get_or ys w 0 < 2 ^ 64
    → WordOf (bit_at (register 0 m xs)) w (get_or ys w 0)
own_next {w} {ys = ys} r m h a = own_ahead r 0 m (inr (omega arith)) h a (ap (λ (i : ℕ). get_or ys i 0) (sym (zero-add w)))

-- a word of the list itself, and a column past its end
module _ (m : ℕ) (xs : List ℕ) where
  pub word_first : (v : ℕ) → v < m → get_or xs v 0 < 2 ^ 64 → WordOf (bit_at (register 0 m xs)) v (get_or xs v 0)
  word_first v h a = own_word (register 0 m xs) v a (sym (register_in 0 m xs v h ∙ ap (λ (i : ℕ). get_or xs i 0) (zero-add v)))

  pub register_past : (t : ℕ) → 64 * m ≤ t → bit_at (register 0 m xs) t ≡ false
  register_past t h = bit_at_past (register 0 m xs) t (omega (arith, length-take m (drop 0 xs)))

  pub register_whole : m ≡ length xs → register 0 m xs ≡ xs
  register_whole e = take_all m xs (omega arith)

-- a word more, made of a mask and of the register's own word
pub masked_next : (op : Bool → Bool → Bool) (m n : ℕ) {w x z : ℕ} {xs ys : List ℕ} → w < m → m ≤ length xs → get_or ys w 0 < 2 ^ 64 → WordOf (filled n) w x → z < 2 ^ 64
    → ((i : ℕ) → i < 64 → bit z i ≡ op (bit x i) (bit (get_or ys w 0) i)) → Swept 0 (masked op n (register 0 m xs)) w xs ys
    → Swept 0 (masked op n (register 0 m xs)) (w + 1) xs (set ys w z)
masked_next op m n h l a p fits bits r = swept_next r (omega arith) (op_words op p (own_next r m h a) fits bits)

-- the sweep of a whole list that is done
pub swept_whole : (op : List ℕ → ℕ → Bool) {m w : ℕ} {xs ys : List ℕ} → m ≡ length xs → Swept 0 (op (register 0 m xs)) w xs ys → w ≤ m → m ≤ w
    → Turned (op xs) xs ys
swept_whole op {m} {w} {xs} {ys} e r a b = subst (λ (c : List ℕ). Turned (op c) xs ys) (register_whole m xs e) (swept_turned (swept_to r (le_antisymm a b)) e)

-- ---- words of zeros
pub pack_none : (m : ℕ) → pack m (λ t. false) ≡ replicate m 0
pack_none m =
    ext_get_or 0 (pack m (λ t. false)) (replicate m 0) (length_pack m (λ t. false) ∙ sym (length-replicate m 0)) λ i l.
    get_or_pack m (λ t. false) i (omega (arith, length_pack m (λ t. false))) ∙ sym (word_is 0 i (λ t. false) (omega arith) (λ j h. bit_none j)) ∙ sym (get_or_free 0 m i)
